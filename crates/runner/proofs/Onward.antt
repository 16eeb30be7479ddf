-- A step leads one tick on, or round to the first waypoint with a lap more, as far as a record holds laps, or from an open course's end nowhere; any count of steps
-- follows by induction.
use mathlib.Core.Path.{◌≡◌, refl, sym, ap, ◌∙◌, subst}
use mathlib.Core.Bool.{true, false, cond, true≢false, false≢true}
use mathlib.Core.List.{List}
use mathlib.Core.Logic.{◌⊎◌, inl, inr, ⊎_elim}
use Prim.Native.Nat.{ℕ, zero, suc, ◌+◌, ◌*◌, ◌/◌, ◌%◌, ◌≤◌, ◌<◌, min}
use native.Mathlib.Nat.{mod-lt, suc-mul}
use native.Mathlib.Omega.{arith}
use lib.Dec.{ltb}
use Rattle.integers.proofs.Order.{le_or_lt}
use Rattle.ends.specs.declared.EndKind.{EndKind}
use Rattle.ends.specs.declared.EndKind.TheVariants.{Free, Held, Closed}
use Rattle.sheet.proofs.Laws.{accepted_bounds, accepted_read}
use Rattle.sheet.specs.Answers.{refused}
use Rattle.sheet.specs.Bytes.{sum_below}
use Rattle.sheet.specs.Fields.{kind, legs, leg, ticks}
use Rattle.sheet.specs.Reading.{Accepted}
use Rattle.sheet.specs.declared.Refusal.TheVariants.{Landed}
use Rattle.runner.specs.Ticks.{runner, at_lap, found, is_open, reduced, laps_in, spot_at, tick_of, ticks_flown}
use Rattle.runner.specs.Steps.{adrift, most_laps, next_lap, landed, last_step, moved, stepped, onward, repeated, after, flown_to, stepped_by, onward_by}
use Rattle.runner.specs.Theorems.{Stands, ClosedSteps, ClosedStepsOn, OpenSteps, StepBefore}
use Rattle.runner.specs.Restored.{KeepsLap}
use Rattle.runner.specs.declared.Runner.{Runner}
use Rattle.integers.proofs.Rounds.{same_round, next_round}
use Rattle.runner.proofs.Walk.{by_order}
use Rattle.runner.proofs.Standing.{LapsFit, Standing, on_leg, at_end, standing, not_adrift, landed_at_end, not_landed, leg_below, laps_fit, closed_laps_fit, has_legs, tick_before, tick_at_end, has_tick, no_lap_flown, spot_standing, spot_of_tick, parts_flown, spot_only}

pub open_or_closed : (k : EndKind) → (is_open k ≡ true) ⊎ (k ≡ Closed)
open_or_closed Free = inl refl
open_or_closed Held = inl refl
open_or_closed Closed = inr refl

last_open : (k : EndKind) (r : Runner) → is_open k ≡ true → last_step k r ≡ at_lap r.laps (runner r.leg (suc r.offset))
last_open Free r o = refl
last_open Held r o = refl
last_open Closed r o = absurd (false≢true o)

-- where a step leads from r: one tick on, the laps as they were, or from a closed course's last tick to the first waypoint, a lap more
pub data Onto (s : List ℕ) (r x : Runner) : Type 0 where
  next_tick : Standing s x → tick_of s x ≡ suc (tick_of s r) → x.laps ≡ r.laps → Onto s r x
  first_waypoint : kind s ≡ Closed → suc (tick_of s r) ≡ ticks s → x ≡ at_lap (next_lap r.laps) (runner 0 0) → Onto s r x

module _ (s : List ℕ) (a : Accepted s) where
  leg_low : (i : ℕ) → i < legs s → 1 ≤ leg s i
  leg_low = (accepted_bounds s a).leg_low

  some_ticks : 1 ≤ ticks s
  some_ticks = (accepted_bounds s a).some_ticks

  -- at the first waypoint
  pub first_standing : (l : ℕ) → LapsFit s (at_lap l (runner 0 0)) → Standing s (at_lap l (runner 0 0))
  first_standing l w = on_leg (has_legs s a) (leg_low 0 (has_legs s a)) w

  pub first_tick : (l : ℕ) → tick_of s (at_lap l (runner 0 0)) ≡ 0
  unfolding tick_of sum_below
  first_tick l = refl

  -- from the last tick of the last leg
  last_onto : (r : Runner) → LapsFit s r → suc r.leg ≡ legs s → suc r.offset ≡ leg s r.leg → Onto s r (last_step (kind s) r)
  unfolding tick_of sum_below
  last_onto r w p q = ⊎_elim to_end round (open_or_closed (kind s))
    where
      to_end : is_open (kind s) ≡ true → Onto s r (last_step (kind s) r)
      to_end o = subst (Onto s r) (sym (last_open (kind s) r o)) (next_tick (at_end o p q (w o)) (omega arith) refl)

      round : kind s ≡ Closed → Onto s r (last_step (kind s) r)
      round e = first_waypoint e (omega (arith, ap (sum_below (leg s)) p)) (ap (λ k. last_step k r) e)

  -- the one lemma: a runner that has not landed
  pub moved_onto : (r : Runner) → LapsFit s r → r.leg < legs s → r.offset < leg s r.leg → Onto s r (moved s r)
  unfolding moved tick_of sum_below
  moved_onto r w p q =
      let on = at_lap r.laps (runner r.leg (suc r.offset)) in
      let next = at_lap r.laps (runner (suc r.leg) 0) in
      let last = last_step (kind s) r in
      by_order (suc r.offset) (leg s r.leg) on (cond (ltb (suc r.leg) (legs s)) next last) (Onto s r)
      (λ more. next_tick (on_leg p more w) (omega arith) refl)
      (λ full. by_order (suc r.leg) (legs s) next last (Onto s r)
      (λ more. next_tick (on_leg more (leg_low (suc r.leg) more) w) (omega arith) refl)
      (λ none. last_onto r w (omega arith) (omega arith)))

  pub onto_standing : (r x : Runner) → Onto s r x → Standing s x
  onto_standing r x (next_tick st t l) = st
  onto_standing r x (first_waypoint e f at) = subst (Standing s) (sym at) (first_standing (next_lap r.laps) (closed_laps_fit s (at_lap (next_lap r.laps) (runner 0 0)) e))

  -- a tick more is flown, unless the lap is not counted any more
  pub onto_flown : (r x : Runner) → Onto s r x → ¬ KeepsLap s r → ticks_flown s x ≡ suc (ticks_flown s r)
  unfolding ticks_flown
  onto_flown r x (next_tick st t l) counted = (λ i. l i * ticks s + t i) ∙ omega arith
  onto_flown r x (first_waypoint e f at) counted =
      let fewer = le_or_lt most_laps r.laps (r.laps < most_laps) (λ h. absurd (counted (e, f, h))) (λ h. h) in
      let one_more : next_lap r.laps ≡ suc r.laps = omega arith in
      ap (λ (y : Runner). y.laps * ticks s + tick_of s y) at
      ∙ (λ i. one_more i * ticks s + first_tick (next_lap r.laps) i)
      ∙ omega (arith, suc-mul r.laps (ticks s))

  -- before the end a step answers where the runner has moved on to ..
  pub step_done : (r : Runner) → Standing s r → r.offset < leg s r.leg → stepped s r ≡ found (moved s r)
  unfolding stepped_by
  step_done r st q = simp (accepted_read s a, not_adrift s r st, not_landed s r q)

  pub onward_done : (r : Runner) → Standing s r → r.offset < leg s r.leg → onward s r ≡ moved s r
  unfolding onward_by
  onward_done r st q = rw (step_done r st q)

  pub onward_onto : (r : Runner) → Standing s r → r.offset < leg s r.leg → Onto s r (onward s r)
  onward_onto r st q = subst (Onto s r) (sym (onward_done r st q)) (moved_onto r (laps_fit s r st) (leg_below s r st) q)

  -- .. and at the end landed
  step_landed : (r : Runner) → Standing s r → is_open (kind s) ≡ true → suc r.leg ≡ legs s → r.offset ≡ leg s r.leg → stepped s r ≡ refused Landed
  unfolding stepped_by
  step_landed r st o p q = simp (accepted_read s a, not_adrift s r st, landed_at_end s r o p q)

  onward_landed : (r : Runner) → Standing s r → is_open (kind s) ≡ true → suc r.leg ≡ legs s → r.offset ≡ leg s r.leg → onward s r ≡ r
  unfolding onward_by
  onward_landed r st o p q = rw (step_landed r st o p q)

  -- a runner that is moved on still fits the sheet
  pub moved_fits : (r : Runner) → adrift s r ≡ false → landed s r ≡ false → adrift s (moved s r) ≡ false
  moved_fits r e l = by_place (standing s r e)
    where
      by_place : Standing s r → adrift s (moved s r) ≡ false
      by_place (on_leg p q w) = not_adrift s (moved s r) (onto_standing r (moved s r) (moved_onto r w p q))
      by_place (at_end o p q z) = absurd (true≢false (sym (landed_at_end s r o p q) ∙ l))

  -- ---- an open course
  module _ (o : is_open (kind s) ≡ true) where
    -- its runners have no laps, so that they have flown their ticks
    pub open_flown : (r : Runner) → Standing s r → ticks_flown s r ≡ tick_of s r
    open_flown r st = no_lap_flown s r (laps_fit s r st o)

    pub counts_all : (r : Runner) → ¬ KeepsLap s r
    counts_all r k = false≢true (sym (ap is_open k.0) ∙ o)

    open_onward : (r : Runner) → Standing s r → Stands s (min (suc (ticks_flown s r)) (ticks s)) (onward s r)
    open_onward r (on_leg p q w) =
        let st = on_leg p q w in
        let on = onward_onto r st q in
        let few : ticks_flown s r < ticks s = omega (arith, open_flown r st, tick_before s r p q) in
        record { fits = not_adrift s (onward s r) (onto_standing r (onward s r) on); flown = onto_flown r (onward s r) on (counts_all r) ∙ omega arith }
    open_onward r (at_end x p q z) =
        let st = at_end x p q z in
        let here : ticks_flown s r ≡ min (suc (ticks_flown s r)) (ticks s) = omega (arith, open_flown r st, tick_at_end s r p q) in
        subst (Stands s _) (sym (onward_landed r st o p q)) (record { fits = not_adrift s r st; flown = here })

    pub open_steps_stand : (r : Runner) → Standing s r → (n : ℕ) → Stands s (min (ticks_flown s r + n) (ticks s)) (repeated (onward s) n r)
    unfolding repeated
    open_steps_stand r st zero = record { fits = not_adrift s r st; flown = ⊎_elim (λ q. omega (arith, open_flown r st)) (λ w. omega (arith, open_flown r st)) (has_tick s r st) }
    open_steps_stand r st (suc n) =
        let m = repeated (onward s) n r in
        let w = open_steps_stand r st n in
        subst (λ k. Stands s k (onward s m)) (omega (arith, w.flown)) (open_onward m (standing s m w.fits))

  -- ---- a closed course
  module _ (e : kind s ≡ Closed) where
    pub closed_below : (r : Runner) → Standing s r → r.offset < leg s r.leg
    closed_below r (on_leg p q w) = q
    closed_below r (at_end o p q z) = absurd (false≢true (sym (ap is_open e) ∙ o))

    pub closed_tick : (r : Runner) → Standing s r → tick_of s r < ticks s
    closed_tick r st = tick_before s r (leg_below s r st) (closed_below r st)

    reduced_is : (n : ℕ) → reduced (kind s) (ticks s) n ≡ n % ticks s
    reduced_is n = ap (λ k. reduced k (ticks s) n) e

    -- the runner from tick n, at any laps
    pub at_laps : (r : Runner) (l : ℕ) → Standing s r → Standing s (at_lap l r)
    at_laps r l st = on_leg (leg_below s r st) (closed_below r st) (closed_laps_fit s (at_lap l r) e)

    at_tick : (n l : ℕ) → Standing s (at_lap l (spot_at s n)) × (tick_of s (at_lap l (spot_at s n)) ≡ n % ticks s)
    unfolding tick_of
    at_tick n l =
        let w = spot_standing s n (has_legs s a) (inl (subst (λ t. t < ticks s) (sym (reduced_is n)) (mod-lt n some_ticks))) in
        let tick = sym (parts_flown s (spot_at s n) w.0).0 ∙ ap (reduced (kind s) (ticks s)) w.1 ∙ reduced_is n in
        (at_laps (spot_at s n) l w.0, tick)

    -- a step from where n ticks lead
    onward_flown : (n : ℕ) → onward s (flown_to s n) ≡ flown_to s (suc n)
    onward_flown n = by_case (onward_onto m here.0 (closed_below m here.0))
      where
        m : Runner
        m = flown_to s n

        here : Standing s m × (tick_of s m ≡ n % ticks s)
        here = at_tick n (min (n / ticks s) most_laps)

        by_case : Onto s m (onward s m) → onward s m ≡ flown_to s (suc n)
        by_case (next_tick st t l) =
            let x = onward s m in
            let round = same_round n (ticks s) some_ticks (omega (arith, closed_tick x st, t, here.1)) in
            sym (spot_of_tick s (suc n) x st (reduced_is (suc n) ∙ round.0 ∙ omega (arith, t, here.1)))
            ∙ ap (λ k. at_lap k (spot_at s (suc n))) (l ∙ ap (λ q. min q most_laps) (sym round.1))
        by_case (first_waypoint _ f at) =
            let first = at_lap (next_lap m.laps) (runner 0 0) in
            let round = next_round n (ticks s) some_ticks (omega (arith, f, here.1)) in
            at
            ∙ sym (spot_of_tick s (suc n) first (first_standing (next_lap m.laps) (closed_laps_fit s first e)) (reduced_is (suc n) ∙ round.0 ∙ sym (first_tick (next_lap m.laps))))
            ∙ ap (λ k. at_lap k (spot_at s (suc n))) (omega (arith, round.1))

    -- a runner of laps that a record can hold is where its ticks lead, and steps count on from there
    pub flown_here : (r : Runner) → Standing s r → r.laps ≤ most_laps → flown_to s (ticks_flown s r) ≡ r
    flown_here r st few =
        let n = ticks_flown s r in let w = parts_flown s r st in
        let laps : n / ticks s ≡ r.laps = ap (λ k. laps_in k (ticks s) n) (sym e) ∙ w.1 in
        ap (λ l. at_lap l (spot_at s n)) (omega (arith, laps)) ∙ spot_of_tick s n r st w.0

    pub flown_steps : (r : Runner) → Standing s r → r.laps ≤ most_laps → (n : ℕ) → repeated (onward s) n r ≡ flown_to s (ticks_flown s r + n)
    unfolding repeated
    flown_steps r st few zero = sym (flown_here r st few) ∙ ap (flown_to s) (omega arith)
    flown_steps r st few (suc n) = ap (onward s) (flown_steps r st few n) ∙ onward_flown (ticks_flown s r + n) ∙ ap (flown_to s) (omega arith)

  -- ---- from the first waypoint
  pub first_flown : ticks_flown s (runner 0 0) ≡ 0
  first_flown = no_lap_flown s (runner 0 0) refl ∙ first_tick 0

  after_stands : is_open (kind s) ≡ true → (n : ℕ) → Stands s (min n (ticks s)) (after s n)
  after_stands o n = subst (λ k. Stands s (min k (ticks s)) (after s n)) (omega (arith, first_flown)) (open_steps_stand o (runner 0 0) (first_standing 0 (λ _. refl)) n)

pub closed_steps_on : ClosedStepsOn
closed_steps_on s a e r fits few n = flown_steps s a e r (standing s r fits) few n

pub closed_steps : ClosedSteps
closed_steps s a e n = flown_steps s a e (runner 0 0) (first_standing s a 0 (λ _. refl)) (omega arith) n ∙ ap (flown_to s) (omega (arith, first_flown s a))

pub open_steps : OpenSteps
open_steps s a o n = (spot_only s _ (after s n) stands, λ q. at_last q (standing s (after s n) stands.fits))
  where
    stands : Stands s (min n (ticks s)) (after s n)
    stands = after_stands s a o n

    at_last : ticks s ≤ n → Standing s (after s n) → stepped s (after s n) ≡ refused Landed
    at_last q (on_leg p u w) = absurd (omega (arith, tick_before s (after s n) p u, stands.flown, open_flown s a o (after s n) (on_leg p u w)))
    at_last q (at_end x p u z) = step_landed s a (after s n) (at_end x p u z) x p u

pub step_before : StepBefore
step_before s a r e = by_place (standing s r e)
  where
    by_place : Standing s r → (landed s r ≡ true → tick_of s r ≡ ticks s) × (landed s r ≡ false → (stepped s r).number ≡ 0)
    by_place (on_leg p q w) = (λ l. absurd (true≢false (sym l ∙ not_landed s r q)), λ l. ap (λ t. t.number) (step_done s a r (on_leg p q w) q))
    by_place (at_end o p q z) = (λ l. tick_at_end s r p q, λ l. absurd (true≢false (sym (landed_at_end s r o p q) ∙ l)))
