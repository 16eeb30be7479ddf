-- Why a leg's strokes hold: worked stretches, one test, a stretch, chains of ends, the cuts, tables; last the theorems.
pub mod Worked
pub mod Off
pub mod Tests
pub mod Chains
pub mod Ends
pub mod Stretches
pub mod Tables
pub mod Theorems
