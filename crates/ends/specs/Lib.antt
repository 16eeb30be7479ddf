-- What the kind of ends decides.
pub mod Ends
