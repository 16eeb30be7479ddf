-- What is claimed.
pub mod Refused
pub mod Claims
