pub mod Answers
pub mod Draft
pub mod Meaning
pub mod Means
pub mod Printing
pub mod Reading
pub mod Table
pub mod Taking
