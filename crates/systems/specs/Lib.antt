-- Row systems: what they are, what passes over them do, and what is proved of both.
pub mod Rows
pub mod Passes
pub mod Theorems
