-- Two sheets as join hands them on, once 16 is asked (src/pair.rt): what their type says of their bytes. For the proofs of this crate and of joined.
use mathlib.Core.Path.{◌≡◌, sym, ◌∙◌}
use mathlib.Core.List.{List}
use Prim.Native.Nat.{ℕ}
use Rattle.ends.specs.declared.EndKind.TheVariants.{Free}
use Rattle.sheet.specs.Fields.{kind, points}
use Rattle.sheet.specs.Reading.{Accepted}
use Rattle.join.specs.declared.pair.FreePair.{FreePair}

-- both are accepted and free, and have n and m waypoints
pub record BothFree (s : List ℕ) (n : ℕ) (t : List ℕ) (m : ℕ) : Type 0 where
  pub first : Accepted s
  pub second : Accepted t
  pub first_free : kind s ≡ Free
  pub second_free : kind t ≡ Free
  pub first_points : n ≡ points s
  pub second_points : m ≡ points t

pub both_in : (p : FreePair) → BothFree p.first.bytes.now p.first.points p.second.bytes.now p.second.points
both_in p = record {
  first = p.first.accepted;
  second = p.second.accepted;
  first_free = sym p.first.is_kind ∙ p.first_free;
  second_free = sym p.second.is_kind ∙ p.second_free;
  first_points = p.first.is_points;
  second_points = p.second.is_points;
}
