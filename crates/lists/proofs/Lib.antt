-- The worked lists; questions of a list and named kinds; the chain of tests both ways and the lists of an accepted sheet. For the proofs of this crate and of those that make sheets.
pub mod Worked
pub mod Questions
pub mod Named
pub mod Tests
pub mod Fields
