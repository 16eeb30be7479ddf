-- What a call that is not refused has written (H4 to H6): a stretch that is kept is a stroke between places as they are given out, and every other end was needed.
use mathlib.Core.Path.{◌≡◌, refl, ap, ◌∙◌}
use mathlib.Core.Bool.{true, false}
use mathlib.Core.List.{List, [], ◌∷◌, ◌++◌}
use mathlib.Core.Logic.{inl, inr}
use Prim.Native.Nat.{ℕ, zero, suc, ◌+◌, ◌-◌, ◌/◌, ◌≤◌, ◌<◌}
use native.Mathlib.Omega.{arith}
use borrow.Author.Tests.{ltb-false, le-ltb}
use lib.Dec.{ltb}
use lib.IntN.{ℤ, pos, nat_abs}
use lib.ListN.{length, drop}
use Rattle.integers.proofs.Order.{le_or_lt}
use Rattle.sheet.specs.Answers.{Told}
use Rattle.sheet.specs.Bytes.{sum_below}
use Rattle.sheet.specs.Fields.{legs, leg}
use Rattle.sheet.specs.Reading.{Accepted}
use Rattle.sheet.specs.declared.Refusal.TheVariants.{Shelf, Bend, Grain, Ink}
use Rattle.sheet.proofs.Below.{any_none}
use Rattle.sheet.proofs.Laws.{accepted_read, accepted_bounds}
use Rattle.answers.proofs.Guards.{not_refused, not_passed_on, done_changes}
use Rattle.layout.specs.Layout.{short}
use Rattle.place.specs.Places.{bend_outside, place_at_tick}
use Rattle.place.specs.Theorems.{tick_of_waypoint}
use Rattle.stretch.specs.Chains.{Among, Each}
use Rattle.stretch.specs.Stretches.{kept}
use Rattle.stretch.specs.Theorems.{Within, Outside}
use Rattle.stretch.proofs.Chains.{last_among, among_left, among_right, each_join}
use Rattle.stretch.proofs.Ends.{each_end, long}
use Rattle.stretch.proofs.Stretches.{short_kept}
use Rattle.stretch.proofs.Theorems.{all_within, outside}
use Rattle.strokes.specs.Strokes.{places_on, leg_ends, ends_below, stroke_ends, grain_outside, any_bend, strokes_answer, drawn_into}
use Rattle.strokes.proofs.LegByLeg.{leg_chain, ends_below_lem, few_below}
use Rattle.drawn.specs.Given.{given, Stroke, EndNeeded}
use Rattle.drawn.specs.Theorems.{StrokesDrawn, RoomForAll}
use Rattle.drawn.proofs.PlacesGiven.{places_given, given_is}

-- the same of other names of the same numbers
within_by : (t : ℕ) {m n u v : ℕ} {x x' y y' z z' : ℤ} → n ≡ m → v ≡ u → x' ≡ x → y' ≡ y → z' ≡ z → Within t m u x y z → Within t n v x' y' z'
within_by t a b c d e h = rw (a, b, c, d, e) h

outside_by : (t : ℕ) (x y : ℕ → ℕ → ℤ) (a m : ℕ) → ((axis u : ℕ) → axis < 3 → u ≤ a + m → y axis u ≡ x axis u) → Outside t x a m → Outside t y a m
outside_by t x y a m same o =
    let axis = o.axis in let k = o.axis_fits in record {
      axis = axis;
      u = o.u;
      axis_fits = k;
      inside = o.inside;
      far = rw (same axis a k (omega arith), same axis (a + o.u) k (omega (arith, o.inside)), same axis (a + m) k (omega arith)) o.far;
    }

-- ---- a course to which none of 1 to 9 and 12 applies
module _ (s : List ℕ) (a : Accepted s) (list : List ℤ) (room : short s (length list) ≡ false) (bends : (j : ℕ) → j < legs s → bend_outside s list j ≡ false) (t : ℕ) where
  -- H5: a stretch that is kept is a stroke
  stroke_of : (i : ℕ) → i < legs s → (b m : ℕ) → 1 ≤ m → b + m ≤ leg s i → kept t (places_on s list i) b m ≡ true
      → Stroke s list t (sum_below (leg s) i + b) (sum_below (leg s) i + (b + m))
  stroke_of i h b m some fits keeps =
      let from = sum_below (leg s) i in
      let at_tick = given_is s a list room bends i in
      record {
        rises = omega arith;
        answered = λ x low high.
            let e : x ≡ from + (x - from) = omega arith in
            ap (λ n. (place_at_tick s list n).number) e ∙ ap (λ (r : Told). r.number) (places_given s a list room bends i (x - from) h (omega arith));
        near = λ axis x k low high.
            let u = x - (from + b) in
            let e : x ≡ from + (b + u) = omega arith in
            within_by t (omega arith) refl
            (at_tick b h (omega arith) axis k)
            (ap (given s list axis) e ∙ at_tick (b + u) h (omega arith) axis k)
            (at_tick (b + m) h fits axis k)
            (all_within t (places_on s list i) b m some keeps axis u k (omega arith));
      }

  -- H6: one that is cut has a place outside
  middle_of : (i : ℕ) → i < legs s → (b m : ℕ) → b + m ≤ leg s i → kept t (places_on s list i) b m ≡ false
      → EndNeeded s list t (sum_below (leg s) i + (b + m / 2))
  middle_of i h b m fits cuts =
      inr (record {
        index = i;
        start = b;
        ticks = m;
        leg_fits = h;
        on_leg = fits;
        long = long (kept t (places_on s list i)) (sum_below (leg s) i) (short_kept t (places_on s list i)) b m cuts;
        middle = refl;
        outside =
            outside_by t (places_on s list i) (λ axis u. given s list axis (sum_below (leg s) i + u)) b m
            (λ axis u k on. given_is s a list room bends i u h (omega arith) axis k)
            (outside t (places_on s list i) b m cuts);
      })

  -- leg by leg
  needed_below : (k : ℕ) → k ≤ legs s → Each (EndNeeded s list t) (ends_below s list t k)
  unfolding ends_below sum_below
  needed_below zero h = (inl (0, omega arith, refl), tt)
  needed_below (suc k) h =
      let from = sum_below (leg s) k in
      each_join (EndNeeded s list t) (ends_below s list t k) (leg_ends s list t k)
      (needed_below k (omega arith))
      (each_end (kept t (places_on s list k)) from (short_kept t (places_on s list k)) (EndNeeded s list t) (leg s k) (middle_of k h) (leg s k) 0 (leg s k)
      (omega arith) (inl (suc k, h, omega arith)))

-- H5: a leg's end is among its ends
waypoints_below : (s : List ℕ) → Accepted s → (list : List ℤ) (t k : ℕ) → k ≤ legs s → (i : ℕ) → i ≤ k → Among (tick_of_waypoint s i) (ends_below s list t k)
unfolding ends_below sum_below
waypoints_below s a list t zero h i on = let e : i ≡ 0 = omega arith in inl (ap (tick_of_waypoint s) e)
waypoints_below s a list t (suc k) h i on =
    let l = ends_below s list t k in let r = leg_ends s list t k in
    le_or_lt (suc k) i (Among (tick_of_waypoint s i) (l ++ r))
    (λ q.
    let e : i ≡ suc k = omega arith in
    among_right (tick_of_waypoint s i) l r
    (rw e (last_among ◌<◌ (sum_below (leg s) k) (sum_below (leg s) (suc k)) r (omega (arith, (accepted_bounds s a).leg_low k h))
    (leg_chain s a list t ◌<◌ (λ j p b m some fits q. omega arith) k h))))
    (λ q. among_left (tick_of_waypoint s i) l r (waypoints_below s a list t k (omega arith) i (omega arith)))

-- ---- what number 0 tells
pub record Done (s : List ℕ) (list : List ℤ) (tolerance : ℤ) (room : ℕ) : Type 0 where
  pub accepted : Accepted s
  pub shelf : short s (length list) ≡ false
  pub grain : grain_outside tolerance ≡ false
  pub bends : any_bend s list ≡ false
  pub ink : length (stroke_ends s list (nat_abs tolerance)) ≤ room

pub done_is : (s : List ℕ) (list : List ℤ) (tolerance : ℤ) (room : ℕ) → (strokes_answer s list tolerance room).number ≡ 0 → Done s list tolerance room
unfolding strokes_answer
done_is s list tolerance room z =
    let p = not_passed_on s _ z in
    let q = not_refused (short s (length list)) Shelf _ p.1 in
    let g = not_refused (grain_outside tolerance) Grain _ q.1 in
    let b = not_refused (any_bend s list) Bend _ g.1 in
    let i = not_refused (ltb room (length (stroke_ends s list (nat_abs tolerance)))) Ink _ b.1 in
    record { accepted = p.0; shelf = q.0; grain = g.0; bends = b.0; ink = ltb-false room _ i.0 }

-- and back
pub answer_is : (s : List ℕ) (list : List ℤ) (tolerance : ℤ) (room : ℕ) → Done s list tolerance room
    → strokes_answer s list tolerance room ≡ record { number = 0; values = pos (length (stroke_ends s list (nat_abs tolerance))) ∷ [] }
unfolding strokes_answer
answer_is s list tolerance room d =
    simp (accepted_read s d.accepted, d.shelf, d.grain, d.bends, le-ltb room (length (stroke_ends s list (nat_abs tolerance))) d.ink)

no_bend : (s : List ℕ) (list : List ℤ) → any_bend s list ≡ false → (j : ℕ) → j < legs s → bend_outside s list j ≡ false
unfolding any_bend
no_bend s list e j h = any_none (bend_outside s list) (legs s) e j h

pub strokes_drawn : StrokesDrawn
unfolding drawn_into
strokes_drawn s list tolerance out z =
    let d = done_is s list tolerance (length out) z in
    let t = nat_abs tolerance in let a = d.accepted in
    let bends = no_bend s list d.bends in
    let e = ends_below_lem s a list t (Stroke s list t) (stroke_of s a list d.shelf bends t) (legs s) (omega arith) in
    let same = e.is_ends in record {
      rest = e.rest;
      counted = answer_is s list tolerance (length out) d ∙ ap (λ l. record { number = 0; values = pos (length l) ∷ [] }) same;
      written =
          done_changes (strokes_answer s list tolerance (length out)) (stroke_ends s list t ++ drop (length (stroke_ends s list t)) out) out z
          ∙ ap (λ l. l ++ drop (length l) out) same;
      room = rw same at d.ink;
      strokes = e.chained;
      at_most = rw same at (few_below s a list t (legs s) (omega arith));
      waypoints = λ i h. rw same at (waypoints_below s a list t (legs s) (omega arith) i h);
      needed = rw same at (needed_below s a list d.shelf bends t (legs s) (omega arith));
    }

pub room_for_all : RoomForAll
room_for_all s a list shelf tolerance grain bends room h =
    ap (λ (r : Told). r.number)
    (answer_is s list tolerance room (record {
      accepted = a;
      shelf = shelf;
      grain = grain;
      bends = bends;
      ink = omega (arith, few_below s a list (nat_abs tolerance) (legs s) (omega arith));
    }))
