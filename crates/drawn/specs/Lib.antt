-- Strokes between places as they are given out; what is proved of them; worked strokes.
pub mod Given
pub mod Theorems
pub mod Worked
