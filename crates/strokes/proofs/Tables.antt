-- The strokes of a leg by a table of its places are those by the places: crate stretch has the proof.
pub use Rattle.stretch.proofs.Tables.{ends_same}
