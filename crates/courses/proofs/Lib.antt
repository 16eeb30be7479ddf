-- Why the worked courses come out right.
pub mod Starred
pub mod Longest
pub mod Theorems
