-- What is proved of written sheets.
pub mod Theorems
pub mod Worked
