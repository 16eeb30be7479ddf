-- Step and back restore each other (M8): the one adds a tick to those flown, the other takes it off, and no two runners have flown the same ticks. Any count of them
-- follows (M9). The exception, a step that counts no lap any more, is told apart by the laps that its ticks would have.
use mathlib.Core.Path.{◌≡◌, refl, sym, ap, ◌∙◌, subst}
use mathlib.Core.Bool.{true, false}
use mathlib.Core.List.{List}
use mathlib.Core.Logic.{⊎_elim}
use Prim.Native.Nat.{ℕ, zero, suc, ◌+◌, ◌-◌, ◌*◌, ◌/◌, ◌%◌, ◌≤◌, ◌<◌}
use native.Mathlib.Nat.{div_self}
use native.Mathlib.Omega.{arith}
use Rattle.ends.specs.declared.EndKind.TheVariants.{Closed}
use Rattle.sheet.proofs.Laws.{accepted_bounds}
use Rattle.sheet.specs.Fields.{kind, leg, ticks}
use Rattle.sheet.specs.Reading.{Accepted, most_points}
use Rattle.sheet.specs.declared.Refusal.TheVariants.{Landed, Start}
use Rattle.runner.specs.Ticks.{runner, at_lap, found, is_open, reduced, laps_in, tick_of, ticks_flown}
use Rattle.runner.specs.Steps.{adrift, most_laps, landed, moved, stepped, onward, repeated, stepped_by}
use Rattle.runner.specs.Backs.{at_start, moved_back, backed, backward}
use Rattle.runner.specs.Theorems.{Stands}
use Rattle.runner.specs.Restored.{KeepsLap, RoomFor, BackAfterStep, BackAfterKept, StepAfterBack, BacksAfterSteps, StepsAfterBacks}
use Rattle.runner.specs.declared.Runner.{Runner}
use Rattle.runner.proofs.Kept.{has_passed}
use Rattle.integers.proofs.Rounds.{next_round, rounds_monotone}
use Rattle.runner.proofs.Standing.{Standing, on_leg, at_end, standing, not_adrift, offset_below, laps_fit, closed_laps_fit, has_tick, tick_at_end, parts_flown, spot_only}
use Rattle.runner.proofs.Onward.{Onto, next_tick, first_waypoint, open_or_closed, onto_standing, onto_flown, step_done, onward_done, onward_onto, open_flown, counts_all, closed_below, closed_tick, at_laps, first_standing, first_tick}
use Rattle.runner.proofs.Backward.{behind_start, back_done, backward_done, backward_off, backward_from, backs_stand}

-- two runners that have flown the same ticks are the same
one_place : (s : List ℕ) (n : ℕ) (m r : Runner) → Stands s n m → Stands s n r → m ≡ r
one_place s n m r u v = spot_only s n m u ∙ sym (spot_only s n r v)

-- a count of moves is undone by as many of those that undo each of them
inner : (f : Runner → Runner) (n : ℕ) (r : Runner) → repeated f (suc n) r ≡ repeated f n (f r)
unfolding repeated
inner f zero r = refl
inner f (suc n) r = ap f (inner f n r)

undone : (f g : Runner → Runner) (n : ℕ) (r : Runner) → ((k : ℕ) → k < n → g (f (repeated f k r)) ≡ repeated f k r) → repeated g n (repeated f n r) ≡ r
unfolding repeated
undone f g zero r each = refl
undone f g (suc n) r each = inner g n (f (repeated f n r)) ∙ ap (repeated g n) (each n (omega arith)) ∙ undone f g n r (λ k q. each k (omega arith))

module _ (s : List ℕ) (a : Accepted s) where
  some_ticks : 1 ≤ ticks s
  some_ticks = (accepted_bounds s a).some_ticks

  -- the laps are the whole rounds in the ticks flown
  rounds : (r : Runner) → Standing s r → kind s ≡ Closed → (ticks_flown s r / ticks s ≡ r.laps) × (ticks_flown s r % ticks s ≡ tick_of s r)
  rounds r st e =
      let n = ticks_flown s r in let w = parts_flown s r st in
      (ap (λ k. laps_in k (ticks s) n) (sym e) ∙ w.1, ap (λ k. reduced k (ticks s) n) (sym e) ∙ w.0)

  -- a step counts its lap where the ticks, one more, have no more rounds than a record can hold
  counts : (r : Runner) → Standing s r → suc (ticks_flown s r) / ticks s ≤ most_laps → ¬ KeepsLap s r
  counts r st few (e, f, full) =
      let w = rounds r st e in
      let one_more = (next_round (ticks_flown s r) (ticks s) some_ticks (ap suc w.1 ∙ f)).1 in
      omega (arith, w.0)

  module _ (r : Runner) (st : Standing s r) where
    here : Stands s (ticks_flown s r) r
    here = record { fits = not_adrift s r st; flown = refl }

    -- ---- back after a step from a runner that has not come to the end
    module _ (below : r.offset < leg s r.leg) where
      on : Onto s r (onward s r)
      on = onward_onto s a r st below

      moved_on : Standing s (onward s r)
      moved_on = onto_standing s a r (onward s r) on

      back_home : ¬ KeepsLap s r → (backed s (onward s r) ≡ found r) × (backward s (onward s r) ≡ r)
      back_home counted =
          let more = onto_flown s a r (onward s r) on counted in
          let away = behind_start s a (onward s r) (omega (arith, more)) in
          let off = subst (λ n. Stands s n (backward s (onward s r))) {y = ticks_flown s r} (omega (arith, more)) (backward_from s a (onward s r) moved_on) in
          let home = one_place s (ticks_flown s r) (backward s (onward s r)) r off here in
          (back_done s a (onward s r) moved_on away ∙ ap found (sym (backward_done s a (onward s r) moved_on away) ∙ home), home)

    -- ---- a step after a back from a runner that is not at the start
    module _ (away : at_start r ≡ false) (few : r.laps ≤ most_laps) where
      abbrev m : Runner
      m = backward s r

      moved_off : Standing s m
      moved_off = (backward_off s a r st away).stands

      one_less : suc (ticks_flown s m) ≡ ticks_flown s r
      one_less = (backward_off s a r st away).flown

      before_end : Standing s m → m.offset < leg s m.leg
      before_end (on_leg p q w) = q
      before_end (at_end o p q z) =
          let late = open_flown s a o m (at_end o p q z) ∙ tick_at_end s m p q in
          let last = open_flown s a o r st in
          absurd (⊎_elim (λ t. omega (arith, late, last, one_less)) (λ w. omega (arith, late, last, one_less)) (has_tick s r st))

      counted : ¬ KeepsLap s m
      counted k =
          let lap : suc (ticks_flown s m) / ticks s ≤ most_laps = subst (λ l. l ≤ most_laps) (sym (ap (λ n. n / ticks s) one_less ∙ (rounds r st k.0).0)) few in
          counts m moved_off lap k

      step_home : (stepped s m ≡ found r) × (onward s m ≡ r)
      step_home =
          let low = before_end moved_off in
          let on = onward_onto s a m moved_off low in
          let there : Stands s (ticks_flown s r) (onward s m) = record { fits = not_adrift s (onward s m) (onto_standing s a m (onward s m) on); flown = onto_flown s a m (onward s m) on counted ∙ one_less } in
          let home = one_place s (ticks_flown s r) (onward s m) r there here in
          (step_done s a m moved_off low ∙ ap found (sym (onward_done s a m moved_off low) ∙ home), home)

pub back_after_step : BackAfterStep
unfolding stepped_by
back_after_step s r e counted =
    let p = has_passed most_points s r (landed s r) Landed (moved s r) e in
    let st = standing s r p.fits in
    back_home s p.accepted r st (offset_below s r st p.free) counted

pub step_after_back : StepAfterBack
unfolding backed
step_after_back s r few e =
    let p = has_passed most_points s r (at_start r) Start (moved_back s r) e in
    step_home s p.accepted r (standing s r p.fits) p.free few

-- the step that keeps its lap leads to the largest count at the first waypoint, and one tick before that is a lap short
pub back_after_kept : BackAfterKept
unfolding ticks_flown tick_of
back_after_kept s a r fits (e, f, full) = by_case (onward_onto s a r st (closed_below s a e r st))
  where
    st : Standing s r
    st = standing s r fits

    first : Runner
    first = at_lap most_laps (runner 0 0)

    short : Stands s (most_laps * ticks s - 1) (at_lap (most_laps - 1) r)
    short = record { fits = not_adrift s (at_lap (most_laps - 1) r) (at_laps s a e r (most_laps - 1) st); flown = omega (arith, f) }

    by_case : Onto s r (onward s r) → backward s (onward s r) ≡ at_lap (most_laps - 1) r
    by_case (next_tick sx t l) = absurd (omega (arith, closed_tick s a e (onward s r) sx, t, f))
    by_case (first_waypoint _ _ at) =
        let there : onward s r ≡ first = at ∙ ap (λ l. at_lap l (runner 0 0)) (omega arith) in
        let off = backward_from s a first (first_standing s a most_laps (closed_laps_fit s first e)) in
        ap (backward s) there ∙ one_place s (most_laps * ticks s - 1) (backward s first) (at_lap (most_laps - 1) r) (subst (λ n. Stands s n (backward s first)) {y = most_laps * ticks s - 1} (omega (arith, first_tick s a most_laps)) off) short

-- ---- any count
module _ (s : List ℕ) (a : Accepted s) (r : Runner) (fits : adrift s r ≡ false) where
  -- M9's room for n steps: each that is made within it moves and counts its tick
  abbrev Goes : ℕ → Type 0
  Goes n = (m : Runner) → Standing s m → ticks_flown s m < ticks_flown s r + n → (m.offset < leg s m.leg) × (¬ KeepsLap s m)

  closed_goes : (n : ℕ) → kind s ≡ Closed → (ticks_flown s r + n) / ticks s ≤ most_laps → Goes n
  closed_goes n e room m sm q =
      let less = rounds_monotone (suc (ticks_flown s m)) (ticks_flown s r + n) (ticks s) (some_ticks s a) q in
      (closed_below s a e m sm, counts s a m sm (omega (arith, less, room)))

  open_goes : (n : ℕ) → is_open (kind s) ≡ true → ticks_flown s r + n ≤ ticks s → Goes n
  open_goes n o room m sm q = (below sm, counts_all s a o m)
    where
      below : Standing s m → m.offset < leg s m.leg
      below (on_leg p low w) = low
      below (at_end x p full z) = absurd (omega (arith, open_flown s a o m (at_end x p full z), tick_at_end s m p full))

  goes : (n : ℕ) → RoomFor s r n → Goes n
  goes n = ⊎_elim (λ w. closed_goes n w.0 w.1) (λ left. short (omega (arith, left)))
    where
      -- at most one round, which is no more than the largest count
      short : ticks_flown s r + n ≤ ticks s → Goes n
      short left =
          let one = rounds_monotone (ticks_flown s r + n) (ticks s) (ticks s) (some_ticks s a) left in
          ⊎_elim (λ o. open_goes n o left) (λ e. closed_goes n e (omega (arith, one, div_self (some_ticks s a)))) (open_or_closed (kind s))

  steps_stand : (n : ℕ) → Goes n → (k : ℕ) → k ≤ n → Stands s (ticks_flown s r + k) (repeated (onward s) k r)
  unfolding repeated
  steps_stand n each zero q = record { fits = fits; flown = omega arith }
  steps_stand n each (suc k) q =
      let m = repeated (onward s) k r in
      let w = steps_stand n each k (omega arith) in let sm = standing s m w.fits in
      let go = each m sm (omega (arith, w.flown)) in
      let on = onward_onto s a m sm go.0 in
      record { fits = not_adrift s (onward s m) (onto_standing s a m (onward s m) on); flown = omega (arith, onto_flown s a m (onward s m) on go.1, w.flown) }

  all_undone : (n : ℕ) → Goes n → repeated (backward s) n (repeated (onward s) n r) ≡ r
  all_undone n each = undone (onward s) (backward s) n r back
    where
      back : (k : ℕ) → k < n → backward s (onward s (repeated (onward s) k r)) ≡ repeated (onward s) k r
      back k q =
          let m = repeated (onward s) k r in
          let w = steps_stand n each k (omega arith) in let sm = standing s m w.fits in
          let go = each m sm (omega (arith, w.flown)) in
          (back_home s a m sm go.0 go.1).1

pub backs_after_steps : BacksAfterSteps
backs_after_steps s a r fits n room = all_undone s a r fits n (goes s a r fits n room)

pub steps_after_backs : StepsAfterBacks
steps_after_backs s a r fits few n room = undone (backward s) (onward s) n r each
  where
    st : Standing s r
    st = standing s r fits

    each : (k : ℕ) → k < n → onward s (backward s (repeated (backward s) k r)) ≡ repeated (backward s) k r
    each k q = (step_home s a m sm (behind_start s a m (omega (arith, there.flown))) (⊎_elim none fewer (open_or_closed (kind s)))).1
      where
        m : Runner
        m = repeated (backward s) k r

        there : Stands s (ticks_flown s r - k) m
        there = backs_stand s a r st k

        sm : Standing s m
        sm = standing s m there.fits

        none : is_open (kind s) ≡ true → m.laps ≤ most_laps
        none o = omega (arith, laps_fit s m sm o)

        fewer : kind s ≡ Closed → m.laps ≤ most_laps
        fewer e =
            let less = rounds_monotone (ticks_flown s m) (ticks_flown s r) (ticks s) (some_ticks s a) (omega (arith, there.flown)) in
            omega (arith, less, (rounds s a m sm e).0, (rounds s a r st e).0, few)
