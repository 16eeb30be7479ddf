-- Why places hold: the numerator, indices and sizes, the entry points; last the waypoints.
pub mod Numerator
pub mod Fitting
pub mod Entry
pub mod Ends
pub mod Waypoints
