-- Why laying out holds: rows as the code makes them, then passes and parts; last the theorems.
pub mod Given
pub mod Neighbours
mod RowMade
mod Rows
mod Passes
mod Sweep
pub mod Parts
pub mod Outcomes
pub mod Near
