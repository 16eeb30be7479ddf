-- Writing a sheet: its bytes, what the call leaves in the slice, a worked one; then what functions inside ask of each other.
pub mod Sheets
pub mod Writing
pub mod Worked
pub mod Inside
