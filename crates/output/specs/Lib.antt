-- The stand's output and its pieces.
pub mod Output
pub mod Pieces
pub mod Theorems
