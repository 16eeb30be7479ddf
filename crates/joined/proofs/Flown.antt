-- The joined course flown (J4, J5): its waypoints are met as every accepted sheet's are, and demand 3 speaks of every accepted sheet.
-- (The worked ticks are named so that they are checked first, by `pub use`: an import that nothing uses is tidied away.)
use mathlib.Core.Path.{◌≡◌, sym, ap, ◌∙◌}
use mathlib.Core.List.{List, [], ◌∷◌}
use Prim.Native.Nat.{ℕ, ◌+◌, ◌*◌, ◌-◌, ◌≤◌, ◌<◌}
use native.Mathlib.Omega.{arith}
use borrow.Author.Tests.{le-ltb}
use lib.IntN.{ℤ}
use lib.ListN.{length}
use Rattle.ends.specs.Ends.{leg_count}
use Rattle.ends.specs.declared.EndKind.TheVariants.{Free}
use Rattle.sheet.specs.Fields.{kind, points, legs, leg, ticks, waypoint}
use Rattle.sheet.specs.Reading.{Accepted}
use Rattle.sheet.proofs.Below.{sum_monotone}
use Rattle.runner.specs.Ticks.{is_open, reduced, spot_at}
use Rattle.runner.proofs.Standing.{leg_below, standing, tick_stands}
use Rattle.place.specs.Places.{place_at_tick}
use Rattle.place.specs.Theorems.{met, tick_of_waypoint}
use Rattle.place.proofs.Waypoints.{waypoint_met_at_tick}
use Rattle.station.specs.Claim.{Own}
use Rattle.station.proofs.Claim.{claim, bends_inside}
use Rattle.station.proofs.Own.{own_long}
use Rattle.joined.specs.Theorems.{later_tick, JoinedMet, JoinedNear}
pub use Rattle.joined.proofs.Worked as worked
use Rattle.joined.proofs.Fields.{j, n_counts, m_counts, all_points, first_waypoint, second_waypoint, first_tick, second_tick, joined_accepted}

-- with own bend numbers a free course meets every waypoint at its tick
own_met : (s : List ℕ) → Accepted s → kind s ≡ Free → (list : List ℤ) → Own s list → (i t : ℕ) → i < points s → t ≡ tick_of_waypoint s i → place_at_tick s list t ≡ met s i
own_met s a free list own i t h e =
    let last : i ≤ legs s = omega (arith, ap (λ k. leg_count k (points s)) free) in
    let before = le-ltb (ticks s) t (omega (arith, sum_monotone (leg s) i (legs s) last)) in
    let stands = (tick_stands s a t (rw (ap is_open free, before))).fits in
    waypoint_met_at_tick s a list (le-ltb (length list) (3 * points s) (own_long s list own)) i h t
    (ap (λ k. reduced k (ticks s) t) free ∙ e)
    (bends_inside s a list own (spot_at s t).leg (leg_below s (spot_at s t) (standing s (spot_at s t) stands)))

-- waypoints that are the same are met alike
same_met : (s t : List ℕ) (i k : ℕ) → ((axis : ℕ) → axis < 3 → waypoint s axis i ≡ waypoint t axis k) → met s i ≡ met t k
same_met s t i k h =
    let a = h 0 (omega arith) in let b = h 1 (omega arith) in let c = h 2 (omega arith) in (λ z. record { number = 0; values = a z ∷ b z ∷ c z ∷ [] })

pub joined_met : JoinedMet
joined_met s t out done list own =
    let w = joined_accepted s t out done in let n = n_counts s t out done in let m = m_counts s t out done in let all = all_points s t out done in
    let meets = own_met (j s t out done) w.accepted w.fields.free list own in (
      (λ i h.
          meets i (tick_of_waypoint s i) (omega (arith, all, m.some)) (sym (first_tick s t out done i (omega (arith, n.legs_are, n.some))))
          ∙ same_met (j s t out done) s i i (λ axis k. first_waypoint s t out done axis i k h)),
      (λ i h.
          let e : legs s + i ≡ points s - 1 + i = omega (arith, n.legs_are) in
          meets (points s - 1 + i) (later_tick s t i) (omega (arith, all, n.some))
          (sym (second_tick s t out done i (omega (arith, m.legs_are, m.some))) ∙ ap (tick_of_waypoint (j s t out done)) e)
          ∙ same_met (j s t out done) t (points s - 1 + i) i (λ axis k. second_waypoint s t out done axis i k h)),
    )

pub joined_near : JoinedNear
joined_near s t out done = claim (j s t out done) (joined_accepted s t out done).accepted
