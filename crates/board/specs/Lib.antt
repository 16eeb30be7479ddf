-- The board's limit, its worked sheets and its theorems.
pub mod Board
pub mod Worked
pub mod Theorems
