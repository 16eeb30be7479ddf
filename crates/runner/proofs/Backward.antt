-- Back takes one off the ticks flown, over a waypoint and over the start of a lap alike, and is refused with 15 where none is flown; any count of backs follows by
-- induction.
use mathlib.Core.Path.{◌≡◌, refl, sym, ap, ◌∙◌, subst}
use mathlib.Core.Bool.{Bool, true, false, cond, ◌&&◌, true≢false, and-eq-true_iff}
use mathlib.Core.List.{List}
use mathlib.Core.Logic.{⊎_elim}
use Prim.Native.Nat.{ℕ, zero, suc, ◌+◌, ◌-◌, ◌*◌, ◌≤◌, ◌<◌}
use native.Mathlib.Nat.{suc-mul}
use native.Mathlib.Omega.{arith}
use lib.Dec.{ltb, eqb}
use borrow.Author.Tests.{eqb-true, eq-eqb}
use Rattle.ends.specs.declared.EndKind.TheVariants.{Closed}
use Rattle.sheet.proofs.Below.{sum_monotone}
use Rattle.sheet.proofs.Laws.{accepted_bounds, accepted_read}
use Rattle.sheet.specs.Answers.{Told, refused}
use Rattle.sheet.specs.Bytes.{sum_below}
use Rattle.sheet.specs.Fields.{kind, legs, leg, ticks}
use Rattle.sheet.specs.Reading.{Accepted}
use Rattle.sheet.specs.declared.Refusal.TheVariants.{Start}
use Rattle.integers.proofs.Order.{le_or_lt}
use Rattle.runner.specs.Ticks.{runner, at_lap, found, tick_of, ticks_flown}
use Rattle.runner.specs.Steps.{repeated}
use Rattle.runner.specs.Backs.{at_start, last_tick, moved_back, backed, backward}
use Rattle.runner.specs.Theorems.{Stands}
use Rattle.runner.specs.Restored.{BackBehind, BackTick, BackTicks}
use Rattle.runner.specs.declared.Runner.{Runner}
use Rattle.runner.proofs.Walk.{by_order}
use Rattle.runner.proofs.Standing.{Standing, on_leg, at_end, standing, not_adrift, leg_below, laps_fit, closed_laps_fit, has_legs}
use Rattle.runner.proofs.Onward.{open_or_closed, first_standing, first_flown}

-- ---- the start
at_first : (r : Runner) → at_start r ≡ true → r ≡ runner 0 0
at_first r e =
    let q = (and-eq-true_iff (eqb r.leg 0 && eqb r.offset 0) (eqb r.laps 0)).0 e in
    let o = (and-eq-true_iff (eqb r.leg 0) (eqb r.offset 0)).0 q.0 in
    λ i. at_lap (eqb-true r.laps 0 q.1 i) (runner (eqb-true r.leg 0 o.0 i) (eqb-true r.offset 0 o.1 i))

pub some_laps : (r : Runner) → at_start r ≡ false → r.leg ≡ 0 → r.offset ≡ 0 → 1 ≤ r.laps
some_laps r away p q =
    le_or_lt r.laps 0 (1 ≤ r.laps) (λ z. absurd (true≢false (sym (simp (eq-eqb _ _ p, eq-eqb _ _ q, eq-eqb r.laps 0 (omega arith))) ∙ away))) (λ z. z)

-- the last of n legs, taken off their sum, and a lap of p ticks off all laps
last_off : (h : ℕ → ℕ) (n : ℕ) → 0 < n → sum_below h n ≡ sum_below h (n - 1) + h (n - 1)
unfolding sum_below
last_off h zero some = absurd (omega arith)
last_off h (suc n) some = let same : n ≡ suc n - 1 = omega arith in ap (λ k. sum_below h k + h k) same

lap_off : (l p : ℕ) → 1 ≤ l → l * p ≡ (l - 1) * p + p
lap_off zero p some = absurd (omega arith)
lap_off (suc l) p some = suc-mul l p ∙ ap (λ k. k * p + p) {y = suc l - 1} (omega arith)

module _ (s : List ℕ) (a : Accepted s) where
  leg_low : (i : ℕ) → i < legs s → 1 ≤ leg s i
  leg_low = (accepted_bounds s a).leg_low

  first_stands : (r : Runner) → at_start r ≡ true → Stands s 0 r
  first_stands r e = subst (Stands s 0) (sym (at_first r e)) (record { fits = not_adrift s (runner 0 0) (first_standing s a 0 (λ _. refl)); flown = first_flown s a })

  -- a runner that has flown no tick is at the start: every leg has a tick, and so has every lap
  start_at_zero : (r : Runner) → ticks_flown s r ≡ 0 → at_start r ≡ true
  unfolding ticks_flown tick_of sum_below
  start_at_zero r e = simp (eq-eqb _ _ no_leg, eq-eqb _ _ no_offset, eq-eqb _ _ no_laps)
    where
      no_leg : r.leg ≡ 0
      no_leg = le_or_lt r.leg 0 (r.leg ≡ 0) (λ q. omega arith) (λ q. absurd (omega (arith, leg_low 0 (has_legs s a), sum_monotone (leg s) 1 r.leg q)))

      no_offset : r.offset ≡ 0
      no_offset = omega arith

      no_laps : r.laps ≡ 0
      no_laps = le_or_lt r.laps 0 (r.laps ≡ 0) (λ q. omega arith) (λ q. absurd (omega (arith, lap_off r.laps (ticks s) q, (accepted_bounds s a).some_ticks)))

  -- back is done where a tick has been flown
  pub behind_start : (r : Runner) → 1 ≤ ticks_flown s r → at_start r ≡ false
  behind_start r some = by (at_start r) refl
    where
      by : (b : Bool) → at_start r ≡ b → b ≡ false
      by true e = absurd (omega (arith, (first_stands r e).flown))
      by false e = refl

  -- ---- one back: m has flown one tick less than r
  pub record OneOff (r m : Runner) : Type 0 where
    pub stands : Standing s m
    pub flown : suc (ticks_flown s m) ≡ ticks_flown s r

  on_leg_back : (r : Runner) → Standing s r → 0 < r.offset → OneOff r (at_lap r.laps (runner r.leg (r.offset - 1)))
  unfolding ticks_flown tick_of
  on_leg_back r st low = record { stands = on_leg (leg_below s r st) (below st) (laps_fit s r st); flown = omega arith }
    where
      below : Standing s r → r.offset - 1 < leg s r.leg
      below (on_leg p q w) = omega arith
      below (at_end o p q z) = omega arith

  over_waypoint : (r : Runner) → Standing s r → r.offset ≡ 0 → 0 < r.leg → OneOff r (at_lap r.laps (last_tick s (r.leg - 1)))
  unfolding ticks_flown tick_of
  over_waypoint r st e low =
      let below = leg_below s r st in
      let some = leg_low (r.leg - 1) (omega arith) in
      record { stands = on_leg (omega arith) (omega arith) (laps_fit s r st); flown = omega (arith, last_off (leg s) r.leg low) }

  -- from the first waypoint, a lap behind
  round : (r : Runner) → Standing s r → r.offset ≡ 0 → r.leg ≡ 0 → 1 ≤ r.laps → OneOff r (at_lap (r.laps - 1) (last_tick s (legs s - 1)))
  unfolding ticks_flown tick_of sum_below
  round r st e f some =
      let on : legs s - 1 < legs s = omega (arith, has_legs s a) in
      let low = leg_low (legs s - 1) on in
      let m = at_lap (r.laps - 1) (last_tick s (legs s - 1)) in
      record {
        stands = on_leg on (omega arith) (closed_laps_fit s m closed);
        flown = omega (arith, last_off (leg s) (legs s) (has_legs s a), lap_off r.laps (ticks s) some, ap (sum_below (leg s)) f);
      }
    where
      closed : kind s ≡ Closed
      closed = ⊎_elim (λ o. absurd (omega (arith, laps_fit s r st o))) (λ k. k) (open_or_closed (kind s))

  moved_back_off : (r : Runner) → Standing s r → at_start r ≡ false → OneOff r (moved_back s r)
  unfolding moved_back
  moved_back_off r st away =
      let over = at_lap r.laps (last_tick s (r.leg - 1)) in let about = at_lap (r.laps - 1) (last_tick s (legs s - 1)) in
      by_order 0 r.offset (at_lap r.laps (runner r.leg (r.offset - 1))) (cond (ltb 0 r.leg) over about) (OneOff r) (on_leg_back r st)
      (λ none. by_order 0 r.leg over about (OneOff r) (over_waypoint r st (omega arith)) (λ first. round r st (omega arith) (omega arith) (some_laps r away (omega arith) (omega arith))))

  -- what back answers and leaves, behind the start and at it
  pub back_done : (r : Runner) → Standing s r → at_start r ≡ false → backed s r ≡ found (moved_back s r)
  unfolding backed
  back_done r st away = simp (accepted_read s a, not_adrift s r st, away)

  back_start : (r : Runner) → Standing s r → at_start r ≡ true → backed s r ≡ refused Start
  unfolding backed
  back_start r st e = simp (accepted_read s a, not_adrift s r st, e)

  pub backward_done : (r : Runner) → Standing s r → at_start r ≡ false → backward s r ≡ moved_back s r
  unfolding backward
  backward_done r st away = rw (back_done r st away)

  pub backward_off : (r : Runner) → Standing s r → at_start r ≡ false → OneOff r (backward s r)
  backward_off r st away = subst (OneOff r) (sym (backward_done r st away)) (moved_back_off r st away)

  -- a back from any runner that fits the sheet
  pub backward_from : (r : Runner) → Standing s r → Stands s (ticks_flown s r - 1) (backward s r)
  unfolding backward
  backward_from r st = by (at_start r) refl
    where
      by : (b : Bool) → at_start r ≡ b → Stands s (ticks_flown s r - 1) (backward s r)
      by false e = let off = backward_off r st e in record { fits = not_adrift s (backward s r) off.stands; flown = omega (arith, off.flown) }
      by true e = rw (back_start r st e) (record { fits = not_adrift s r st; flown = omega (arith, (first_stands r e).flown) })

  pub backs_stand : (r : Runner) → Standing s r → (n : ℕ) → Stands s (ticks_flown s r - n) (repeated (backward s) n r)
  unfolding repeated
  backs_stand r st zero = record { fits = not_adrift s r st; flown = omega arith }
  backs_stand r st (suc n) =
      let m = repeated (backward s) n r in
      let w = backs_stand r st n in
      subst (λ k. Stands s k (backward s m)) (omega (arith, w.flown)) (backward_from m (standing s m w.fits))

pub back_behind : BackBehind
back_behind s a r = (first_stands s a r, λ fits away. ap (λ (t : Told). t.number) (back_done s a r (standing s r fits) away))

pub back_tick : BackTick
back_tick s a r e = let st = standing s r e in (backward_from s a r st, λ z. back_start s a r st (start_at_zero s a r z))

pub back_ticks : BackTicks
back_ticks s a r e n = backs_stand s a r (standing s r e) n
