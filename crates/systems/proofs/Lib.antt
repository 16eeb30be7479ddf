-- Why the theorems about row systems hold. The worked system comes first: a false statement fails there, by its numbers.
pub mod Below
pub mod Example
pub mod Size
pub mod Elimination
pub mod Existence
pub mod Lists
pub mod Invariant
pub mod Distance
