-- The worked sheets, then the theorems.
pub mod Worked
pub mod Theorems
