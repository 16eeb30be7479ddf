-- The waypoints are met exactly, by runner and by tick, and the place by tick is the place by the tick's runner.
-- A waypoint's tick names the runner at the start of the leg there, or at the end of an open course; that runner's place is a leg's end (Ends).
use mathlib.Core.Path.{◌≡◌, refl, sym, ap, ◌∙◌}
use mathlib.Core.Bool.{true, false, ◌&&◌, false≢true}
use mathlib.Core.List.{List, [], ◌∷◌}
use mathlib.Core.Logic.{◌⊎◌, inl, inr, ⊎_elim}
use Prim.Native.Nat.{ℕ, suc, ◌-◌, ◌≤◌, ◌<◌}
use native.Mathlib.Omega.{arith}
use borrow.Author.Tests.{le-ltb, ne_eqb}
use lib.Dec.{ltb}
use lib.IntN.{ℤ}
use lib.ListN.{length}
use Rattle.integers.proofs.Order.{le_or_lt}
use Rattle.ends.specs.Ends.{leg_count}
use Rattle.ends.specs.declared.EndKind.{EndKind}
use Rattle.ends.specs.declared.EndKind.TheVariants.{Free, Held, Closed}
use Rattle.sheet.specs.Bytes.{sum_below}
use Rattle.sheet.specs.Fields.{kind, points, legs, leg, ticks}
use Rattle.sheet.specs.Reading.{Accepted, most_points}
use Rattle.sheet.proofs.Laws.{read_or_refused, accepted_read, accepted_bounds}
use Rattle.spline.specs.Spline.{next}
use Rattle.layout.specs.Course.{course}
use Rattle.layout.specs.Layout.{short}
use Rattle.runner.specs.Ticks.{runner, at_lap, is_open, reduced, spot_at, tick_of}
use Rattle.runner.specs.Steps.{adrift}
use Rattle.runner.specs.declared.Runner.{Runner}
use Rattle.runner.proofs.Standing.{Standing, on_leg, at_end, standing, not_adrift, leg_below, tick_at_end, has_tick, spot_of_tick, has_legs, tick_stands}
use Rattle.place.specs.Places.{end_of, bend_outside, place_on, placed, place_at_tick, place_of_runner, place_at_tick_by, place_of_runner_by}
use Rattle.place.specs.Theorems.{LegEndsMet, met, tick_of_waypoint, WaypointMetAtTick, WaypointMetByRunner, TickIsRunner}
use Rattle.place.proofs.Ends.{start_met, end_met}

-- ---- kinds of ends: an open course has a leg less than waypoints, and is past no tick up to P; a closed one is past none
open_legs : (k : EndKind) (n : ℕ) → is_open k ≡ true → leg_count k n ≡ n - 1
open_legs Free n o = refl
open_legs Held n o = refl
open_legs Closed n o = absurd (false≢true o)

not_past : (k : EndKind) (p t : ℕ) → reduced k p t ≤ p → (is_open k && ltb p t) ≡ false
not_past Free p t h = le-ltb p t h
not_past Held p t h = le-ltb p t h
not_past Closed p t h = refl

-- every waypoint is at a leg's start, or an open course's last
start_or_last : (k : EndKind) (n i : ℕ) → 1 ≤ n → i < n → (i < leg_count k n) ⊎ ((is_open k ≡ true) × (i ≡ n - 1))
start_or_last Free n i some fits = le_or_lt (n - 1) i _ (λ h. inr (refl, omega arith)) inl
start_or_last Held n i some fits = le_or_lt (n - 1) i _ (λ h. inr (refl, omega arith)) inl
start_or_last Closed n i some fits = inl fits

last_end : (s : List ℕ) → Accepted s → is_open (kind s) ≡ true → end_of s (legs s - 1) ≡ points s - 1
unfolding next course
last_end s a o =
    let e = open_legs (kind s) (points s) o in let some = has_legs s a in
    simp (ne_eqb (suc (legs s - 1)) (points s) (λ q. omega arith)) (omega arith)

-- ---- the place by tick is the place by the tick's runner: that runner is not adrift
pub tick_is_runner : TickIsRunner
unfolding place_at_tick_by place_of_runner_by
tick_is_runner s list t h =
    ⊎_elim (λ w. simp (w.1, h, (tick_stands s w.0 t h).fits)) (λ w. let e = w.1.answer in simp e) (read_or_refused most_points s)

-- ---- an accepted sheet whose list is long enough
module _ (s : List ℕ) (a : Accepted s) (list : List ℤ) (room : short s (length list) ≡ false) where
  -- a runner to which neither 11 nor 12 applies gets its place
  answered : (r : Runner) → adrift s r ≡ false → bend_outside s list r.leg ≡ false → place_of_runner s list r ≡ placed s list r
  unfolding place_of_runner_by
  answered r fits bends = simp (accepted_read s a, room, fits, bends)

  -- every leg's start, and the end of an open course; places know no laps
  at_start : (i l : ℕ) → adrift s (at_lap l (runner i 0)) ≡ false → bend_outside s list i ≡ false → place_of_runner s list (at_lap l (runner i 0)) ≡ met s i
  unfolding place_on
  at_start i l fits bends =
      let r = at_lap l (runner i 0) in let on = leg_below s r (standing s r fits) in
      answered r fits bends
      ∙ (λ j. record { number = 0; values = start_met s a list i on 0 j ∷ start_met s a list i on 1 j ∷ start_met s a list i on 2 j ∷ [] })

  abbrev last_runner : Runner
  last_runner = runner (legs s - 1) (leg s (legs s - 1))

  at_last : (l : ℕ) → is_open (kind s) ≡ true → adrift s (at_lap l last_runner) ≡ false → bend_outside s list (legs s - 1) ≡ false
      → place_of_runner s list (at_lap l last_runner) ≡ met s (points s - 1)
  unfolding place_on
  at_last l o fits bends =
      let r = at_lap l last_runner in let i = legs s - 1 in let on = leg_below s r (standing s r fits) in
      answered r fits bends
      ∙ (λ j. record { number = 0; values = end_met s a list i on 0 j ∷ end_met s a list i on 1 j ∷ end_met s a list i on 2 j ∷ [] })
      ∙ ap (met s) (last_end s a o)

  last_standing : is_open (kind s) ≡ true → Standing s last_runner
  last_standing o = at_end o (omega (arith, has_legs s a)) refl refl

  -- a waypoint's tick names its runner, at the laps of the tick
  named : (t : ℕ) (r : Runner) → Standing s r → reduced (kind s) (ticks s) t ≡ tick_of s r → spot_at s t ≡ at_lap (spot_at s t).laps r
  named t r stands e = ap (at_lap (spot_at s t).laps) (spot_of_tick s t r stands e)

  before_last : (r : Runner) → Standing s r → tick_of s r ≤ ticks s
  before_last r stands = ⊎_elim (λ h. omega arith) (λ h. omega arith) (has_tick s r stands)

  met_at : (t i : ℕ) (r : Runner) → Standing s r → reduced (kind s) (ticks s) t ≡ tick_of s r
      → ((l : ℕ) → adrift s (at_lap l r) ≡ false → bend_outside s list r.leg ≡ false → place_of_runner s list (at_lap l r) ≡ met s i)
      → bend_outside s list (spot_at s t).leg ≡ false → place_at_tick s list t ≡ met s i
  met_at t i r stands q place bends =
      let spot = named t r stands q in
      let free = not_past (kind s) (ticks s) t (omega (arith, q, before_last r stands)) in
      tick_is_runner s list t free
      ∙ ap (place_of_runner s list) spot
      ∙ place (spot_at s t).laps (sym (ap (adrift s) spot) ∙ (tick_stands s a t free).fits) (sym (ap (λ x. bend_outside s list x.leg) spot) ∙ bends)

  at_tick : (i : ℕ) → i < points s → (t : ℕ) → reduced (kind s) (ticks s) t ≡ tick_of_waypoint s i
      → bend_outside s list (spot_at s t).leg ≡ false → place_at_tick s list t ≡ met s i
  unfolding tick_of
  at_tick i fits t q = ⊎_elim (start) (last) (start_or_last (kind s) (points s) i (omega arith) fits)
    where
      start : i < legs s → bend_outside s list (spot_at s t).leg ≡ false → place_at_tick s list t ≡ met s i
      start h = met_at t i (runner i 0) (on_leg h ((accepted_bounds s a).leg_low i h) (λ _. refl)) (q ∙ omega arith) (at_start i)

      last : (is_open (kind s) ≡ true) × (i ≡ points s - 1) → bend_outside s list (spot_at s t).leg ≡ false → place_at_tick s list t ≡ met s i
      last w =
          let some = has_legs s a in
          let e = open_legs (kind s) (points s) w.0 in
          let full : suc (legs s - 1) ≡ legs s = omega arith in
          met_at t i last_runner (last_standing w.0) (q ∙ ap (sum_below (leg s)) (w.1 ∙ sym e) ∙ sym (tick_at_end s last_runner full refl))
          (λ l fit bends. at_last l w.0 fit bends ∙ ap (met s) (sym w.1))

pub leg_ends_met : LegEndsMet
leg_ends_met s a list i fits axis = (start_met s a list i fits axis, end_met s a list i fits axis)

pub waypoint_met_at_tick : WaypointMetAtTick
waypoint_met_at_tick s a list room = at_tick s a list room

pub waypoint_met_by_runner : WaypointMetByRunner
waypoint_met_by_runner s a list room = (at_start s a list room, λ o. at_last s a list room 0 o (not_adrift s (last_runner s a list room) (last_standing s a list room o)))
