-- A line of the stand's output.
pub mod Ascii
pub mod Grown
pub mod Lines
pub mod Theorems
