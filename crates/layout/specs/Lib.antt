-- The course that a sheet describes on each axis, and the bend numbers laid out for it.
pub mod Course
pub mod Layout
pub mod Theorems
pub mod Inside
