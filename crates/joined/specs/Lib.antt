-- What is proved of joined sheets.
pub mod Theorems
pub mod Worked
