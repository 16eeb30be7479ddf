-- The theorems of strokes.
pub mod PlacesGiven
pub mod Drawn
pub mod Near
pub mod Worked
