pub mod Answers
pub mod Attached
pub mod Bodies
pub mod Causes
pub mod FirstFault
pub mod Grammar
pub mod Reading
