-- A leg's places are those that its ticks are given (H1): before its end a tick names the leg itself, and at its end the waypoint there is met from both legs.
use mathlib.Core.Path.{◌≡◌, refl, sym, ap, ◌∙◌}
use mathlib.Core.Bool.{false, and-false}
use mathlib.Core.List.{List, [], ◌∷◌}
use Prim.Native.Nat.{ℕ, zero, suc, ◌+◌, ◌-◌, ◌%◌, ◌≤◌, ◌<◌}
use native.Mathlib.Nat.{mod_self, mod-eq_of_lt}
use native.Mathlib.Omega.{arith}
use borrow.Author.Tests.{eq-eqb, ne_eqb, le-ltb}
use lib.IntN.{ℤ}
use lib.ListN.{length}
use Rattle.ends.specs.Ends.{leg_count}
use Rattle.ends.specs.declared.EndKind.{EndKind}
use Rattle.ends.specs.declared.EndKind.TheVariants.{Free, Held, Closed}
use Rattle.integers.proofs.Order.{le_or_lt}
use Rattle.sheet.specs.Answers.{Told}
use Rattle.sheet.specs.Bytes.{sum_below}
use Rattle.sheet.specs.Fields.{kind, points, legs, leg, ticks}
use Rattle.sheet.specs.Reading.{Accepted}
use Rattle.sheet.proofs.Below.{sum_monotone}
use Rattle.sheet.proofs.ByKind.{legs_at_most}
use Rattle.sheet.proofs.Laws.{accepted_read, accepted_bounds}
use Rattle.systems.specs.Passes.{at}
use Rattle.spline.specs.Spline.{next}
use Rattle.layout.specs.Course.{course}
use Rattle.layout.specs.Layout.{short}
use Rattle.runner.specs.Ticks.{runner, reduced, past, spot_at, tick_of}
use Rattle.runner.specs.declared.Runner.{Runner}
use Rattle.runner.proofs.Standing.{on_leg, standing, not_adrift, leg_below, tick_before, no_lap_flown, spot_of, tick_stands}
use Rattle.place.specs.Places.{end_of, bend_outside, place_on, placed, place_at_tick, place_of_runner, place_of_runner_by}
use Rattle.place.proofs.Ends.{end_met}
use Rattle.place.proofs.Waypoints.{tick_is_runner, waypoint_met_at_tick}
use Rattle.strokes.specs.Strokes.{places_on}
use Rattle.strokes.proofs.LegByLeg.{end_inside}
use Rattle.drawn.specs.Given.{given}
use Rattle.drawn.specs.Theorems.{PlacesGiven}

-- ---- the tick at a leg's end, taken round, is that of the waypoint there
module _ (s : List ℕ) (a : Accepted s) (i : ℕ) (h : i < legs s) where
  end_next : suc i < points s → end_of s i ≡ suc i
  unfolding next course
  end_next k = rw (ne_eqb (suc i) (points s) (λ e. omega arith))

  end_first : suc i ≡ points s → end_of s i ≡ 0
  unfolding next course
  end_first e = rw (eq-eqb (suc i) (points s) e)

  round : legs s ≡ points s → sum_below (leg s) (suc i) % ticks s ≡ sum_below (leg s) (end_of s i)
  unfolding sum_below
  round f =
      le_or_lt (points s) (suc i) (sum_below (leg s) (suc i) % ticks s ≡ sum_below (leg s) (end_of s i))
      (λ k.
      let e : suc i ≡ points s = omega arith in
      let p : sum_below (leg s) (suc i) ≡ ticks s = ap (sum_below (leg s)) (e ∙ sym f) in
      ap (λ t. t % ticks s) p ∙ mod_self (ticks s) ∙ ap (sum_below (leg s)) (sym (end_first e)))
      (λ k.
      let low = (accepted_bounds s a).leg_low (suc i) (omega arith) in
      mod-eq_of_lt (omega (arith, sum_monotone (leg s) (suc (suc i)) (legs s) (omega arith))) ∙ ap (sum_below (leg s)) (sym (end_next k)))

  tick_of_end : reduced (kind s) (ticks s) (sum_below (leg s) (suc i)) ≡ sum_below (leg s) (end_of s i)
  tick_of_end = by_kind (kind s) refl
    where
      inner : suc i < points s → sum_below (leg s) (suc i) ≡ sum_below (leg s) (end_of s i)
      inner k = ap (sum_below (leg s)) (sym (end_next k))

      by_kind : (k : EndKind) → kind s ≡ k → reduced k (ticks s) (sum_below (leg s) (suc i)) ≡ sum_below (leg s) (end_of s i)
      by_kind Free e = let f : legs s ≡ points s - 1 = ap (λ k. leg_count k (points s)) e in inner (omega arith)
      by_kind Held e = let f : legs s ≡ points s - 1 = ap (λ k. leg_count k (points s)) e in inner (omega arith)
      by_kind Closed e = round (ap (λ k. leg_count k (points s)) e)

module _ (s : List ℕ) (a : Accepted s) (list : List ℤ) (room : short s (length list) ≡ false) (bends : (j : ℕ) → j < legs s → bend_outside s list j ≡ false) where
  not_past : (t : ℕ) → t ≤ ticks s → past s t ≡ false
  not_past t h = rw (le-ltb (ticks s) t h, and-false)

  before_end : (i u : ℕ) → i < legs s → u < leg s i → place_at_tick s list (sum_below (leg s) i + u) ≡ placed s list (runner i u)
  unfolding tick_of place_of_runner_by
  before_end i u h k =
      let r = runner i u in let stands = on_leg h k (λ _. refl) in
      tick_is_runner s list (tick_of s r) (not_past (tick_of s r) (omega (arith, tick_before s r h k)))
      ∙ ap (place_of_runner s list) (ap (spot_at s) (sym (no_lap_flown s r refl)) ∙ spot_of s r stands)
      ∙ simp (accepted_read s a, room, not_adrift s r stands, bends i h)

  at_end : (i : ℕ) → i < legs s → place_at_tick s list (sum_below (leg s) i + leg s i) ≡ placed s list (runner i (leg s i))
  unfolding sum_below
  at_end i h =
      let t = sum_below (leg s) (suc i) in
      let free = not_past t (sum_monotone (leg s) (suc i) (legs s) h) in
      let spot = leg_below s (spot_at s t) (standing s (spot_at s t) (tick_stands s a t free).fits) in
      waypoint_met_at_tick s a list room (end_of s i) (end_inside s i (omega (arith, legs_at_most (kind s) (points s)))) t (tick_of_end s a i h) (bends (spot_at s t).leg spot)
      ∙ sym (λ j. record { number = 0; values = end_met s a list i h 0 j ∷ end_met s a list i h 1 j ∷ end_met s a list i h 2 j ∷ [] })

  by_offset : (i u : ℕ) → i < legs s → u ≤ leg s i → place_at_tick s list (sum_below (leg s) i + u) ≡ placed s list (runner i u)
  by_offset i u h on =
      le_or_lt (leg s i) u (place_at_tick s list (sum_below (leg s) i + u) ≡ placed s list (runner i u))
      (λ k. let e : u ≡ leg s i = omega arith in rw e (at_end i h))
      (λ k. before_end i u h k)

pub places_given : PlacesGiven
places_given s a list room bends i u h on = by_offset s a list room bends i u h on

-- ---- axis by axis
pub given_placed : (s : List ℕ) (list : List ℤ) (t : ℕ) (r : Runner) → place_at_tick s list t ≡ placed s list r → (axis : ℕ) → axis < 3
    → given s list axis t ≡ place_on s list r axis
given_placed s list t r e zero k = ap (λ (x : Told). at x.values 0) e
given_placed s list t r e (suc zero) k = ap (λ (x : Told). at x.values 1) e
given_placed s list t r e (suc (suc zero)) k = ap (λ (x : Told). at x.values 2) e
given_placed s list t r e (suc (suc (suc n))) k = absurd (omega arith)

pub given_is : (s : List ℕ) → Accepted s → (list : List ℤ) → short s (length list) ≡ false → ((j : ℕ) → j < legs s → bend_outside s list j ≡ false)
    → (i u : ℕ) → i < legs s → u ≤ leg s i → (axis : ℕ) → axis < 3 → given s list axis (sum_below (leg s) i + u) ≡ places_on s list i axis u
given_is s a list room bends i u h on = given_placed s list (sum_below (leg s) i + u) (runner i u) (places_given s a list room bends i u h on)
