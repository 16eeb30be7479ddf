-- The exact spline of one axis of a course. To be read against groups R and E and against 004: Spline, then Position; what is proved of them: Theorems.
pub mod Spline
pub mod Position
pub mod Theorems
