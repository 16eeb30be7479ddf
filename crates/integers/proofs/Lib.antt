-- Arithmetic on whole numbers, for the proofs of every other crate.
pub mod Laws
pub mod Horner
pub mod Ring
pub mod Order
pub mod Linear
pub mod Omega
pub mod Sums
pub mod Extremes
pub mod Products
pub mod Rounds
pub mod Machine
pub mod Made
pub mod Tried
pub mod Uses
