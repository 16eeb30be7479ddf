-- A refusal's line.
pub mod Words
