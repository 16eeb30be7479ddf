-- The theorems of rounds in a row.
pub mod Admitted
pub mod Worked
pub mod Once
pub mod Apart
pub mod Flown
