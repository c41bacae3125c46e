pub mod Courses
pub mod Cut
pub mod Entries
pub mod Journals
pub mod Reading
pub mod Rights
pub mod TailLemmas
