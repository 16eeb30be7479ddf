-- Demand 3; and readers with two limits.
pub mod Claim
pub mod Alike
