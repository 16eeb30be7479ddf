-- Joining two sheets: the joined course, what the call answers and leaves in the slice, worked ones.
pub mod Joining
pub mod Worked
