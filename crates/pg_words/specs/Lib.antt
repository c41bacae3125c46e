pub mod Jobs
pub mod Names
pub mod Options
pub mod Parts
pub mod Reading
pub mod Programs
pub mod Workers
