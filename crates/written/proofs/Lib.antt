-- The theorems of written sheets.
pub mod Worked
pub mod Accepted
pub mod Again
