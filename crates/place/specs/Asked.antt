-- What a leg's numbers on an axis keep.
use Rattle.std.specs.Prelude.{ℕ, ◌^◌, ◌≤◌, ℤ, nat_abs}

-- a leg and an offset on it, waypoint numbers within reach and bend numbers within 12's limits: with these nothing overflows 64 bits
pub record OnLeg (h u : ℕ) (v w z y : ℤ) : Type 0 where
  pub leg_low : 1 ≤ h
  pub leg_high : h ≤ 256
  pub offset : u ≤ h
  pub start : nat_abs v ≤ 1_000_000
  pub end : nat_abs w ≤ 1_000_000
  pub start_bend : nat_abs z ≤ 2 ^ 37
  pub end_bend : nat_abs y ≤ 2 ^ 37
