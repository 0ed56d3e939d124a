pub mod Counting
pub mod Ends
pub mod Marks
pub mod OnePrint
