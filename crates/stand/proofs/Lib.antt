-- Why everything is handed over.
pub mod Turns
