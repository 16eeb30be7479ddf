-- The worked sheet; laws of bytes and sections, for the proofs of this crate and of those that make sheets.
pub mod Worked
pub mod Bytes
pub mod Sections
pub mod Over
pub mod Parts
pub mod Left
