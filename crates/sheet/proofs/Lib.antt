-- Laws of sheets, for the proofs of this crate and of the later ones.
pub mod Below
pub mod Ranges
pub mod Reach
mod Four
pub mod Carried
pub mod Numbers
pub mod ByKind
pub mod Lowest
pub mod Told
pub mod Laws
