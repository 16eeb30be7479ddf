-- The theorems of joined sheets.
pub mod Answers
pub mod Worked
pub mod Fields
pub mod Flown
