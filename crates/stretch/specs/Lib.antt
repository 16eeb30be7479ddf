-- The strokes of one leg; what the functions inside ask for; then what is proved of the cuts.
pub mod Stretches
pub mod Asked
pub mod Chains
pub mod Theorems
