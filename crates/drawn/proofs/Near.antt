-- With own bend numbers (H7): neither 9 nor 12 applies, by demand 3; and a stroke is as near to the exact spline as its places, and the tolerance.
use mathlib.Core.Path.{◌≡◌, refl, ap}
use mathlib.Core.Bool.{false}
use mathlib.Core.List.{List}
use Prim.Native.Nat.{ℕ, ◌-◌, ◌*◌, ◌≤◌, ◌<◌}
use native.Mathlib.Nat.{mul-le-mul, le_refl}
use native.Mathlib.Omega.{arith}
use lib.IntN.{ℤ, pos, nat_abs, ◌+ℤ◌, ◌-ℤ◌, ◌*ℤ◌}
use lib.ListN.{length}
use Rattle.ends.specs.declared.EndKind.{EndKind}
use Rattle.ends.specs.declared.EndKind.TheVariants.{Free, Held, Closed}
use Rattle.integers.proofs.Order.{abs_sub, abs_mul, abs_mul_le}
use Rattle.integers.proofs.Ring.{solve, ◌≋◌, ◌⊕◌, ◌⊖◌, ◌⊗◌}
use Rattle.sheet.specs.Answers.{Told}
use Rattle.sheet.specs.Fields.{kind, legs, ticks}
use Rattle.sheet.specs.Reading.{Accepted}
use Rattle.sheet.specs.declared.Refusal.TheVariants.{Shelf, Adrift, Bend}
use Rattle.sheet.proofs.Below.{none_any}
use Rattle.sheet.proofs.Laws.{accepted_bounds}
use Rattle.answers.proofs.Guards.{not_refused, not_passed_on}
use Rattle.spline.specs.Spline.{value_at}
use Rattle.spline.specs.Position.{Near}
use Rattle.layout.specs.Layout.{short}
use Rattle.runner.specs.Ticks.{runner, spot_at}
use Rattle.runner.specs.Steps.{adrift}
use Rattle.runner.proofs.Standing.{on_leg, not_adrift, has_legs}
use Rattle.place.specs.Places.{bend_outside, place_of_runner_by}
use Rattle.station.specs.Claim.{Own, Answers}
use Rattle.station.proofs.Claim.{claim}
use Rattle.stretch.specs.Theorems.{Within}
use Rattle.stretch.proofs.Chains.{chain_map}
use Rattle.strokes.specs.Strokes.{any_bend}
use Rattle.drawn.specs.Given.{given, Stroke, StrokeNear, NearSpline}
use Rattle.drawn.specs.Theorems.{OwnDrawn, StrokesNear}
use Rattle.drawn.proofs.Drawn.{done_is, room_for_all}
use Rattle.drawn.proofs.PlacesGiven.{given_placed}

module _ (s : List ℕ) (a : Accepted s) (list : List ℤ) (own : Own s list) where
  -- a leg's first runner gets its place, so that neither 9 nor 12 applies there
  leg_answered : (i : ℕ) → i < legs s → (short s (length list) ≡ false) × (bend_outside s list i ≡ false)
  unfolding place_of_runner_by
  leg_answered i h =
      let r = runner i 0 in
      let z = ap (λ (x : Told). x.number) ((claim s a).by_runner list own r (not_adrift s r (on_leg h ((accepted_bounds s a).leg_low i h) (λ _. refl)))).place in
      let p = not_passed_on s _ z in
      let q = not_refused (short s (length list)) Shelf _ p.1 in
      let d = not_refused (adrift s r) Adrift _ q.1 in
      (q.0, (not_refused (bend_outside s list i) Bend _ d.1).0)

  shelf : short s (length list) ≡ false
  shelf = (leg_answered 0 (has_legs s a)).0

  no_bend : any_bend s list ≡ false
  unfolding any_bend
  no_bend = none_any (bend_outside s list) (legs s) (λ i h. (leg_answered i h).1)

pub own_drawn : OwnDrawn
own_drawn s a list own tolerance grain room h = room_for_all s a list (shelf s a list own) tolerance grain (no_bend s a list own) room h

-- ---- the two distances added, both times m and the denominator
module _ (t m u D : ℕ) (E x y z : ℤ) where
  apart : pos D *ℤ (pos m *ℤ x +ℤ pos u *ℤ (z -ℤ x)) -ℤ pos m *ℤ E ≡ pos m *ℤ (pos D *ℤ y -ℤ E) -ℤ pos D *ℤ (pos m *ℤ (y -ℤ x) -ℤ pos u *ℤ (z -ℤ x))
  apart =
      solve 7 (λ m u D E x y z. D ⊗ (m ⊗ x ⊕ u ⊗ (z ⊖ x)) ⊖ m ⊗ E ≋ m ⊗ (D ⊗ y ⊖ E) ⊖ D ⊗ (m ⊗ (y ⊖ x) ⊖ u ⊗ (z ⊖ x))) tt
      (pos m) (pos u) (pos D) E x y z

  added : Within t m u x y z → Near D E y → StrokeNear t m u D E x z
  unfolding Near
  added h k =
      let A = pos D *ℤ y -ℤ E in let W = pos m *ℤ (y -ℤ x) -ℤ pos u *ℤ (z -ℤ x) in
      let first = abs_mul (pos m) A in
      let second : nat_abs (pos D *ℤ W) ≤ D * (t * m) = abs_mul_le (pos D) W (omega arith) h in
      let scaled : m * (2 * nat_abs A) ≤ m * (3 * D) = mul-le-mul (le_refl m) k in
      rw apart (omega (arith, abs_sub (pos m *ℤ A) (pos D *ℤ W), first, second, scaled))

answers_of : (k : EndKind) (p t : ℕ) → t ≤ p → p ≤ 131_072 → Answers k p t
answers_of Free p t h few = h
answers_of Held p t h few = h
answers_of Closed p t h few = omega arith

pub strokes_near : StrokesNear
strokes_near s list own tolerance out d =
    let t = nat_abs tolerance in
    let a = (done_is s list tolerance (length out) (ap (λ (r : Told). r.number) d.counted)).accepted in
    chain_map (Stroke s list t) (λ p q h. h.rises) (NearSpline s list t) 0 (ticks s) d.rest d.strokes
    (λ p q fits h axis x k low high f exact.
    let there = (claim s a).by_tick list own x (answers_of (kind s) (ticks s) x (omega arith) (accepted_bounds s a).few_ticks) in
    let e = given_placed s list x (spot_at s x) there.place axis k in
    added t (q - p) (x - p) f.denominator (value_at (f.cubic (spot_at s x).leg) (spot_at s x).offset) (given s list axis p) (given s list axis x) (given s list axis q)
    (h.near axis x k low high)
    (rw e (there.near axis k f exact)))
