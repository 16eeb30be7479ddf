-- One seat's turn; what the functions inside ask for.
pub mod Serving
