mod Seconds
