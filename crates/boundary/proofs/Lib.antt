-- What is written of an answer; a runner that is lent as a slice.
pub mod Told
pub mod Lent
