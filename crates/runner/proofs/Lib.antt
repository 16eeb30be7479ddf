-- The worked moves; the walk along the legs; where a runner stands; the step, and any count of steps; then what the code rests on, a call's first step and what a call's
-- number tells; back, and both together.
pub mod Worked
pub mod Walk
pub mod Standing
pub mod Onward
pub mod Room
pub mod Entry
pub mod Kept
pub mod Backward
pub mod Restored
