-- The stroke ends of a course and what the call answers; what the functions inside ask for.
pub mod Strokes
pub mod Asked
