-- Why strokes hold: tests tried on their own, sizes of places, the table, the course leg by leg, the answers.
pub mod Worked
pub mod Places
pub mod Tables
pub mod LegByLeg
pub mod Answer
