pub mod Course
pub mod Outcomes
pub mod Reports
pub mod Right
pub mod Verdicts
