-- Why demand 3 holds. A worked sheet comes first.
pub mod Tried
pub mod Own
pub mod Alike
pub mod Claim
