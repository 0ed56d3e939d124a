pub mod Calendars
pub mod Instants
pub mod Ranges
pub mod Reading
pub mod Shown
pub mod Spelled
