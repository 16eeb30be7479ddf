-- Ticks and runners, the step and back; what is proved of any count of them; then worked moves.
pub mod Ticks
pub mod Steps
pub mod Backs
pub mod Theorems
pub mod Restored
pub mod Worked
