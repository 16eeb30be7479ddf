-- The one proof of every claim.
pub mod Refused
pub mod Claims
