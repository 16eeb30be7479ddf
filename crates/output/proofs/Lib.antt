-- Why the pieces make up the output.
pub mod Answered
pub mod Begun
pub mod Lines
pub mod Short
pub mod Worked
