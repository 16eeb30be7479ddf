-- Why a line is put as it is defined.
pub mod Decimal
pub mod Grow
pub mod Room
pub mod Worked
