-- The places by tick and by runner; what the functions inside ask for; then what is proved of places.
pub mod Places
pub mod Asked
pub mod Theorems
