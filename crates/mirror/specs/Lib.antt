-- Mirror images, and what is proved of them.
pub mod Images
pub mod Theorems
pub mod Worked
