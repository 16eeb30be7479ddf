-- The theorems of mirror images. The worked one comes first: a false statement fails there, by its numbers.
pub mod Worked
pub mod Passes
pub mod Courses
pub mod Sheets
