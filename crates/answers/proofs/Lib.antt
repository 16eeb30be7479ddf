-- Tests in a call's chain, and what a call leaves.
pub mod Guards
