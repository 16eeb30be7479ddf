-- A leg's ends are met exactly: at the offsets 0 and h the numerator is 65,536 × h times the waypoint's number, and a multiple rounds to itself.
use mathlib.Core.Path.{◌≡◌, ap, ◌∙◌}
use mathlib.Core.List.{List}
use Prim.Native.Nat.{ℕ, ◌*◌, ◌≤◌, ◌<◌}
use native.Mathlib.Omega.{arith}
use lib.IntN.{ℤ, pos, ◌*ℤ◌}
use Rattle.integers.proofs.Ring.{solve, ◌≋◌, ◌⊕◌, ◌⊖◌, ◌⊗◌, #◌}
use Rattle.rounding.specs.Rounded.{rounded}
use Rattle.rounding.proofs.Laws.{rounded_exact}
use Rattle.sheet.specs.Fields.{legs, leg, waypoint}
use Rattle.sheet.specs.Reading.{Accepted}
use Rattle.sheet.proofs.Laws.{accepted_bounds}
use Rattle.spline.specs.Position.{numerator, position}
use Rattle.runner.specs.Ticks.{runner}
use Rattle.place.specs.Places.{end_of, bend_of, place_on}

module _ (h : ℕ) (v w Z Y : ℤ) where
  numerator_start : numerator h 0 v w Z Y ≡ pos (65536 * h) *ℤ v
  unfolding numerator
  numerator_start =
      solve 5 (λ h v w Z Y. # 65536 ⊗ (# 0 ⊗ w ⊕ (h ⊖ # 0) ⊗ v) ⊖ # 0 ⊗ (h ⊖ # 0) ⊗ ((h ⊕ # 0) ⊗ Y ⊕ (# 2 ⊗ h ⊖ # 0) ⊗ Z) ≋ # 65536 ⊗ h ⊗ v) tt
      (pos h) v w Z Y

  numerator_end : numerator h h v w Z Y ≡ pos (65536 * h) *ℤ w
  unfolding numerator
  numerator_end =
      solve 5 (λ h v w Z Y. # 65536 ⊗ (h ⊗ w ⊕ (h ⊖ h) ⊗ v) ⊖ h ⊗ (h ⊖ h) ⊗ ((h ⊕ h) ⊗ Y ⊕ (# 2 ⊗ h ⊖ h) ⊗ Z) ≋ # 65536 ⊗ h ⊗ w) tt
      (pos h) v w Z Y

  position_start : 1 ≤ h → position h 0 v w Z Y ≡ v
  unfolding position
  position_start some = ap (λ n. rounded n (65536 * h)) numerator_start ∙ rounded_exact v (65536 * h) (omega arith)

  position_end : 1 ≤ h → position h h v w Z Y ≡ w
  unfolding position
  position_end some = ap (λ n. rounded n (65536 * h)) numerator_end ∙ rounded_exact w (65536 * h) (omega arith)

module _ (s : List ℕ) (a : Accepted s) (list : List ℤ) (i : ℕ) (fits : i < legs s) (axis : ℕ) where
  pub start_met : place_on s list (runner i 0) axis ≡ waypoint s axis i
  unfolding place_on
  start_met =
      position_start (leg s i) (waypoint s axis i) (waypoint s axis (end_of s i)) (bend_of s list axis i) (bend_of s list axis (end_of s i)) ((accepted_bounds s a).leg_low i fits)

  pub end_met : place_on s list (runner i (leg s i)) axis ≡ waypoint s axis (end_of s i)
  unfolding place_on
  end_met =
      position_end (leg s i) (waypoint s axis i) (waypoint s axis (end_of s i)) (bend_of s list axis i) (bend_of s list axis (end_of s i)) ((accepted_bounds s a).leg_low i fits)
