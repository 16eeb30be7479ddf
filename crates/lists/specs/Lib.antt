-- Lists to write a sheet from: what they hold, what writing them answers, worked ones; then what functions inside ask of each other.
pub mod Lists
pub mod Lent
pub mod Answer
pub mod Worked
pub mod Inside
