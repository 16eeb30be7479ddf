-- Worked courses (group W).
pub mod Sheets
pub mod Starred
pub mod Theorems
