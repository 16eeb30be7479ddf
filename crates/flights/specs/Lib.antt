-- Rounds in a row; what is proved of them; worked rounds.
pub mod Calls
pub mod Theorems
pub mod Worked
