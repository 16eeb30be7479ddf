-- The worked joins; the joined course, its bytes and the chain of tests, for the proofs of this crate and of crate joined.
pub mod Worked
pub mod Both
pub mod Differ
pub mod Course
pub mod Sections
pub mod Chain
