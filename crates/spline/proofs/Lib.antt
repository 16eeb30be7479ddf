-- Why the theorems about one axis of a course hold. Worked courses come first.
pub mod Examples
pub mod Tried
pub mod Waypoints
pub mod Seats
pub mod RowKinds
pub mod RowBounds
pub mod Legs
pub mod RowsFollow
pub mod Existence
pub mod OneCurve
pub mod Distance
pub mod Bends
