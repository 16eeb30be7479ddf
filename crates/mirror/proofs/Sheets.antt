-- Sheets that mirror each other on an axis (L7, P6). One axis is Courses; here are the two sheets, the lists and the tests: what a tick or a runner names
-- depends on kind, N and legs alone.
use mathlib.Core.Path.{◌≡◌, refl, sym, ◌∙◌, ap, subst⁻¹}
use mathlib.Core.Bool.{false, cond, not, ◌&&◌, ◌||◌}
use mathlib.Core.List.{List}
use Prim.Native.Nat.{ℕ, zero, suc, ◌+◌, ◌-◌, ◌<◌}
use native.Mathlib.Omega.{arith}
use lib.Dec.{eqb, ltb}
use lib.IntN.{ℤ, neg_ℤ}
use Rattle.ends.specs.Ends.{leg_count}
use Rattle.ends.specs.declared.EndKind.{EndKind}
use Rattle.sheet.specs.Answers.{Told}
use Rattle.sheet.specs.Bytes.{sum_below}
use Rattle.sheet.specs.Fields.{kind, points, legs, leg, ticks, waypoint}
use Rattle.sheet.specs.Reading.{Accepted}
use Rattle.sheet.proofs.Below.{sum_same}
use Rattle.sheet.proofs.ByKind.{legs_at_most}
use Rattle.systems.specs.Passes.{at}
use Rattle.systems.proofs.Below.{below}
use Rattle.spline.specs.Spline as spline
use Rattle.spline.specs.Spline.{next, bends}
use Rattle.spline.specs.Position.{position}
use Rattle.spline.proofs.Waypoints.{next_lt}
use Rattle.layout.specs.Course.{course}
use Rattle.layout.proofs.Near.{course_in_bounds}
use Rattle.runner.specs.Ticks.{runner, at_lap, is_open, reduced, laps_in, walk, spot_at}
use Rattle.runner.specs.Steps.{off_legs, adrift}
use Rattle.runner.specs.declared.Runner.{Runner}
use Rattle.runner.proofs.Standing.{leg_below, standing}
use Rattle.place.specs.Places.{bend_of, end_of, placed, place_on, place_at_tick, place_of_runner}
use Rattle.station.specs.Claim.{Own, Answers}
use Rattle.station.proofs.Own.{own_bend}
use Rattle.station.proofs.Claim.{answerable, claim}
use Rattle.mirror.specs.Images.{MirrorCourse, MirrorSheet}
use Rattle.mirror.specs.Theorems.{PlaceNegated, BendsNegated, SheetMirrored}
use Rattle.mirror.proofs.Passes.{at_negated}
use Rattle.mirror.proofs.Courses.{bends_mirrored, position_mirrored}

-- a walk along legs that are the same ends at the same spot
walk_same : (f g : ℕ → ℕ) (k i t : ℕ) → ((j : ℕ) → j < i + k → f j ≡ g j) → walk f k i t ≡ walk g k i t
unfolding walk
walk_same f g zero i t e = refl
walk_same f g (suc k) i t e =
    (λ j. cond (ltb t (e i (omega arith) j)) (runner i t) (walk f k (suc i) (t - e i (omega arith) j)))
    ∙ ap (cond (ltb t (g i)) (runner i t)) (walk_same f g k (suc i) (t - g i) (λ j h. e j (omega arith)))

-- the number that a place has on an axis
number_on : (s : List ℕ) (zs : List ℤ) (r : Runner) (axis : ℕ) → axis < 3 → at (placed s zs r).values axis ≡ place_on s zs r axis
number_on s zs r = below 3 (λ axis. at (placed s zs r).values axis ≡ place_on s zs r axis) (((tt, refl), refl), refl)

module _ (s t : List ℕ) (axis : ℕ) (k : axis < 3) (m : MirrorSheet s t axis) where
  -- ---- what does not depend on the numbers that are negated
  same_legs : legs t ≡ legs s
  same_legs = λ j. leg_count (m.same_kind j) (m.same_points j)

  same_ticks : ticks t ≡ ticks s
  same_ticks = ap (sum_below (leg t)) same_legs ∙ sum_same (leg t) (leg s) (legs s) m.same_leg

  same_spot : (tick : ℕ) → spot_at t tick ≡ spot_at s tick
  unfolding spot_at
  same_spot tick =
      (λ j. at_lap (laps_in (m.same_kind j) (same_ticks j) tick) (walk (leg t) (same_legs j - 1) 0 (reduced (m.same_kind j) (same_ticks j) tick)))
      ∙ ap (at_lap (laps_in (kind s) (ticks s) tick)) (walk_same (leg t) (leg s) (legs s - 1) 0 (reduced (kind s) (ticks s) tick) (λ j h. m.same_leg j (omega arith)))

  same_adrift : (r : Runner) → r.leg < legs s → adrift t r ≡ adrift s r
  unfolding adrift off_legs
  same_adrift r l =
      let e = m.same_leg r.leg l in
      λ j. not (ltb r.leg (same_legs j)) || not (ltb r.offset (e j) || (is_open (m.same_kind j) && eqb (suc r.leg) (same_legs j) && eqb r.offset (e j)))
      || (is_open (m.same_kind j) && ltb 0 r.laps)

  same_end : (i : ℕ) → end_of t i ≡ end_of s i
  unfolding course next
  same_end i = λ j. cond (eqb (suc i) (m.same_points j)) 0 (suc i)

  same_answers : (tick : ℕ) → Answers (kind s) (ticks s) tick → Answers (kind t) (ticks t) tick
  same_answers tick h = subst⁻¹ (λ (e : EndKind). Answers e (ticks t) tick) m.same_kind (subst⁻¹ (λ (n : ℕ). Answers (kind s) n tick) same_ticks h)

  -- ---- bend numbers and places
  mirror_course : MirrorCourse (course s axis) (course t axis)
  unfolding course spline.legs
  mirror_course = record { ends = m.same_kind; points = m.same_points; leg = m.same_leg; value = m.waypoints; slopes = m.slopes }

  module _ (accepted : Accepted s) (image_accepted : Accepted t) (zs ys : List ℤ) (own : Own s zs) (image_own : Own t ys) where
    bends_negated : BendsNegated s t axis zs ys
    bends_negated i h =
        own_bend t ys image_own i (subst⁻¹ (λ (n : ℕ). i < n) m.same_points h) axis k
        ∙ ap (λ (l : List ℤ). at l i)
        (bends_mirrored (course s axis) (course t axis) (course_in_bounds s accepted axis k) (course_in_bounds t image_accepted axis k) mirror_course)
        ∙ at_negated (bends (course s axis)) i
        ∙ ap neg_ℤ (sym (own_bend s zs own i h axis k))

    module _ (r : Runner) (l : r.leg < legs s) where
      abbrev i : ℕ
      i = r.leg

      starts : i < points s
      starts = omega (arith, l, legs_at_most (kind s) (points s))

      ends : end_of s i < points s
      unfolding course
      ends = next_lt (course s 0) i starts

      number_negated : place_on t ys r axis ≡ neg_ℤ (place_on s zs r axis)
      unfolding place_on
      number_negated =
          (λ j.
          position (m.same_leg i l j) r.offset
          (m.waypoints i starts j) ((ap (waypoint t axis) (same_end i) ∙ m.waypoints (end_of s i) ends) j)
          (bends_negated i starts j) ((ap (bend_of t ys axis) (same_end i) ∙ bends_negated (end_of s i) ends) j))
          ∙ position_mirrored (leg s i) r.offset (waypoint s axis i) (waypoint s axis (end_of s i)) (bend_of s zs axis i) (bend_of s zs axis (end_of s i))

      place_negated : (a b : Told) → a ≡ placed s zs r → b ≡ placed t ys r → PlaceNegated axis a b
      place_negated a b e f = record {
        answered = (ap (λ (x : Told). x.number) e, ap (λ (x : Told). x.number) f);
        number =
            ap (λ (x : Told). at x.values axis) f
            ∙ number_on t ys r axis k
            ∙ number_negated
            ∙ ap neg_ℤ (sym (number_on s zs r axis k) ∙ sym (ap (λ (x : Told). at x.values axis) e));
      }

    by_tick : (tick : ℕ) → Answers (kind s) (ticks s) tick → PlaceNegated axis (place_at_tick s zs tick) (place_at_tick t ys tick)
    by_tick tick h =
        let r = spot_at s tick in
        place_negated r (leg_below s r (standing s r (answerable s accepted tick h).1)) (place_at_tick s zs tick) (place_at_tick t ys tick)
        ((claim s accepted).by_tick zs own tick h).place
        (((claim t image_accepted).by_tick ys image_own tick (same_answers tick h)).place ∙ ap (placed t ys) (same_spot tick))

    by_runner : (r : Runner) → adrift s r ≡ false → PlaceNegated axis (place_of_runner s zs r) (place_of_runner t ys r)
    by_runner r fits =
        let l = leg_below s r (standing s r fits) in
        place_negated r l (place_of_runner s zs r) (place_of_runner t ys r)
        ((claim s accepted).by_runner zs own r fits).place
        ((claim t image_accepted).by_runner ys image_own r (same_adrift r l ∙ fits)).place

pub sheet_mirrored : SheetMirrored
sheet_mirrored s t accepted image_accepted axis k m zs ys own image_own = record {
  all_bends = bends_negated s t axis k m accepted image_accepted zs ys own image_own;
  by_tick = by_tick s t axis k m accepted image_accepted zs ys own image_own;
  by_runner = by_runner s t axis k m accepted image_accepted zs ys own image_own;
}
