pub mod Stored
pub mod Timetable
pub mod History
