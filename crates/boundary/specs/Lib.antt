-- What the functions over slices leave behind.
pub mod Written
