-- Demand 3 (group C), proved. One axis is the spline crate's; here it meets the sheet, the list and the tests.
use mathlib.Core.Path.{◌≡◌, refl, ◌∙◌, ap, subst⁻¹, sym}
use mathlib.Core.Bool.{Bool, false}
use mathlib.Core.List.{List}
use Prim.Native.Nat.{ℕ, suc, ◌*◌, ◌^◌, ◌≤◌, ◌<◌}
use native.Mathlib.Omega.{arith}
use lib.IntN.{ℤ, pos, negsuc, nat_abs}
use lib.ListN.{length, take}
use borrow.Author.Tests.{le-ltb}
use Rattle.ends.specs.declared.EndKind.{EndKind}
use Rattle.ends.specs.declared.EndKind.TheVariants.{Free, Held, Closed}
use Rattle.sheet.specs.Answers.{Told}
use Rattle.sheet.specs.Bytes.{any_below}
use Rattle.sheet.specs.Fields.{kind, points, legs, leg, ticks, waypoint}
use Rattle.sheet.specs.Reading.{outside, read_sheet, Accepted, most_points}
use Rattle.sheet.specs.declared.Refusal.TheVariants.{Shelf, Past, Adrift, Bend}
use Rattle.sheet.proofs.ByKind.{legs_at_most}
use Rattle.sheet.proofs.Laws.{accepted_read, accepted_bounds}
use Rattle.answers.specs.Answers.{pass_on, guard}
use Rattle.systems.specs.Passes.{at, sweep}
use Rattle.spline.specs.Spline as spline
use Rattle.spline.specs.Spline.{Curve, Exact, next, value_at, bends}
use Rattle.spline.specs.Position.{position, Near}
use Rattle.spline.proofs.Existence.{spline_exists}
use Rattle.spline.proofs.OneCurve.{one_curve}
use Rattle.spline.proofs.Bends.{bends_bounded, position_near}
use Rattle.spline.proofs.Waypoints.{next_lt}
use Rattle.layout.specs.Course.{course}
use Rattle.layout.specs.Layout.{short}
use Rattle.layout.proofs.Near.{course_in_bounds}
use Rattle.layout.proofs.Outcomes.{done_answer, done_list}
use Rattle.runner.specs.Ticks.{runner, is_open, past, spot_at}
use Rattle.runner.specs.Steps.{adrift}
use Rattle.runner.proofs.Standing.{Standing, on_leg, at_end, standing, tick_stands}
use Rattle.runner.specs.declared.Runner.{Runner}
use Rattle.place.specs.Places.{bend_of, bend_outside, end_of, placed, place_on, place_at_tick, place_of_runner, place_of_runner_by, place_at_tick_by}
use Rattle.station.specs.Claim.{Own, OwnBy, Answers, Answered, Claim, ClaimBy}
use Rattle.station.proofs.Own.{own_long, own_bend}
use Rattle.station.proofs.Alike.{within_both}
use Rattle.station.specs.Alike.{Alike}

-- a number of at most a in size is not outside -a to a
within_limits : (a : ℕ) (z : ℤ) → nat_abs z ≤ suc a → outside (suc a) (suc a) z ≡ false
within_limits a (pos n) h = le-ltb (suc a) n h
within_limits a (negsuc n) h = rw (le-ltb a n (omega arith))

-- a runner that is not adrift stands on a leg, at an offset up to its length
fits_leg : (s : List ℕ) (r : Runner) → adrift s r ≡ false → (r.leg < legs s) × (r.offset ≤ leg s r.leg)
fits_leg s r fits = go (standing s r fits)
  where
    go : Standing s r → (r.leg < legs s) × (r.offset ≤ leg s r.leg)
    go (on_leg l u w) = (l, omega arith)
    go (at_end o l u z) = (omega arith, omega arith)

-- the first part, as `omega` takes it
leg_fits : (s : List ℕ) (r : Runner) → adrift s r ≡ false → r.leg < legs s
leg_fits s r fits = (fits_leg s r fits).0

module _ (s : List ℕ) (accepted : Accepted s) where
  -- past the reader's tests and number 9
  past_shelf : (list : List ℤ) → 3 * points s ≤ length list → (rest : Told) → pass_on (read_sheet s) (guard (short s (length list)) Shelf rest) ≡ rest
  past_shelf list long rest = rw (accepted_read s accepted, le-ltb (length list) (3 * points s) long)

  -- ---- with the station's own bend numbers, at a leg i of the course
  module _ (list : List ℤ) (own : Own s list) where
    -- number 12 applies to none of them
    bend_small : (i : ℕ) → i < points s → (axis : ℕ) → axis < 3 → outside (2 ^ 37) (2 ^ 37) (bend_of s list axis i) ≡ false
    unfolding sweep course
    bend_small i h axis k = within_limits 137_438_953_471 (bend_of s list axis i)
        (rw (own_bend s list own i h axis k) (omega (arith, bends_bounded (course s axis) (course_in_bounds s accepted axis k) 40 0 i (omega arith) h)))

    module _ (i : ℕ) (l : i < legs s) where
      starts : i < points s
      starts = omega (arith, legs_at_most (kind s) (points s))

      ends : end_of s i < points s
      unfolding course
      ends = next_lt (course s 0) i starts

      pub bends_inside : bend_outside s list i ≡ false
      unfolding bend_outside any_below
      bends_inside = rw (
        bend_small i starts 0 (omega arith),
        bend_small i starts 1 (omega arith),
        bend_small i starts 2 (omega arith),
        bend_small (end_of s i) ends 0 (omega arith),
        bend_small (end_of s i) ends 1 (omega arith),
        bend_small (end_of s i) ends 2 (omega arith),
      )

      -- the place on one axis is the position from the course's own bend numbers
      place_is : (u axis : ℕ) (k : axis < 3) → place_on s list (runner i u) axis
          ≡ position (leg s i) u (waypoint s axis i) (waypoint s axis (end_of s i)) (at (bends (course s axis)) i) (at (bends (course s axis)) (end_of s i))
      unfolding place_on
      place_is u axis k = λ j. position (leg s i) u (waypoint s axis i) (waypoint s axis (end_of s i)) (own_bend s list own i starts axis k j) (own_bend s list own (end_of s i) ends axis k j)

      near : (u : ℕ) → u ≤ leg s i → (axis : ℕ) → axis < 3 → (f : Curve) → Exact (course s axis) f → Near f.denominator (value_at (f.cubic i) u) (place_on s list (runner i u) axis)
      unfolding course spline.legs next
      near u h axis k f exact = subst⁻¹ (λ (x : ℤ). Near f.denominator (value_at (f.cubic i) u) x) (place_is u axis k)
          (position_near (course s axis) (course_in_bounds s accepted axis k) f exact i u l h)

    answered : (r : Runner) → r.leg < legs s → adrift s r ≡ false → (answer : Told)
        → answer ≡ guard (bend_outside s list r.leg) Bend (placed s list r) → Answered s list r answer
    unfolding place_on
    answered r l fits answer e = record {
      place = e ∙ ap (λ (b : Bool). guard b Bend (placed s list r)) (bends_inside r.leg l);
      near = near r.leg l r.offset (fits_leg s r fits).1;
    }

    by_runner : (r : Runner) → r.leg < legs s → adrift s r ≡ false → Answered s list r (place_of_runner s list r)
    unfolding place_of_runner_by
    by_runner r l fits = answered r l fits (place_of_runner s list r)
        (past_shelf list (own_long s list own) _ ∙ ap (λ (b : Bool). guard b Adrift (guard (bend_outside s list r.leg) Bend (placed s list r))) fits)

    -- a tick that the course answers is not past its end, and stands at a runner that fits
    by_tick : (t : ℕ) → past s t ≡ false → adrift s (spot_at s t) ≡ false → Answered s list (spot_at s t) (place_at_tick s list t)
    unfolding place_at_tick_by
    by_tick t now fits = answered (spot_at s t) (leg_fits s (spot_at s t) fits) fits (place_at_tick s list t)
        (past_shelf list (own_long s list own) _ ∙ ap (λ (b : Bool). guard b Past (guard (bend_outside s list (spot_at s t).leg) Bend (placed s list (spot_at s t)))) now)

  -- the course's ticks (C6), by the kind of ends, are not past it
  not_past : (k : EndKind) → kind s ≡ k → (t : ℕ) → Answers k (ticks s) t → past s t ≡ false
  not_past Free e t h = rw (ap is_open e, le-ltb (ticks s) t (omega arith))
  not_past Held e t h = rw (ap is_open e, le-ltb (ticks s) t (omega arith))
  not_past Closed e t h = rw (ap is_open e)

  pub answerable : (t : ℕ) → Answers (kind s) (ticks s) t → (past s t ≡ false) × (adrift s (spot_at s t) ≡ false)
  answerable t h = let now = not_past (kind s) refl t h in (now, (tick_stands s accepted t now).fits)

pub claim : Claim
claim s accepted = record {
  exists = λ axis h. spline_exists (course s axis) (course_in_bounds s accepted axis h);
  same = λ axis h. one_curve (course s axis) (course_in_bounds s accepted axis h);
  laying = λ list long. let e = done_answer most_points s (length list) accepted (accepted_bounds s accepted).few (omega arith) in (e, done_list most_points s list e);
  by_tick = λ list own t h. let (now, fits) = answerable s accepted t h in by_tick s accepted list own t now fits;
  by_runner = λ list own r fits. by_runner s accepted list own r (omega (arith, leg_fits)) fits;
}

-- ---- within its limit a reader answers as the station does, so the claim is the station's
module _ (limit : ℕ) (s : List ℕ) (a : Alike limit most_points s) where
  stations_own : (list : List ℤ) → OwnBy limit s list → Own s list
  stations_own list own = record {
    lent = own.lent;
    not_refused = sym (a.laying (length own.lent)) ∙ own.not_refused;
    holds = own.holds ∙ ap (take (3 * points s)) (a.list own.lent);
  }

pub claim_by : ClaimBy
claim_by limit s accepted within =
    let a = within_both limit most_points s within (accepted_bounds s accepted).few in let d = claim s accepted in
    record {
      exists = d.exists;
      same = d.same;
      laying = λ list long. let l = d.laying list long in (a.laying (length list) ∙ l.0, a.list list ∙ l.1);
      by_tick = λ list own t h. subst⁻¹ (Answered s list (spot_at s t)) (a.by_tick list t) (d.by_tick list (stations_own limit s a list own) t h);
      by_runner = λ list own r fits. subst⁻¹ (Answered s list r) (a.by_runner list r) (d.by_runner list (stations_own limit s a list own) r fits);
    }
