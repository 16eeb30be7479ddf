-- `leg_from`: where the walk stops the sums tell the leg.
use Rattle.std.proofs.Common.{◌≡◌, ◌+◌, ◌-◌, ◌≤◌, ◌<◌, ◌∙◌, ℕ, sym, ap, arith}
use mathlib.Core.Logic.{◌⊎◌, inl, inr}
use Rattle.sheet.proofs.Below.{sum_step, sum_monotone}
use Rattle.sheet.proofs.Laws.{accepted_bounds}
use Rattle.sheet.specs.Bytes.{sum_below}
use Rattle.sheet.specs.Fields.{legs, leg}
use Rattle.runner.specs.Ticks.{runner, at_lap, walk}
use Rattle.runner.proofs.Walk.{walk_by_sums}
use Rattle.runner.proofs.ticks.leg_from.Goals as goal

-- the sum with leg i, of a leg before the last
end_is : (h : ℕ → ℕ) (i start length : ℕ) → start ≡ sum_below h i → length ≡ h i → start + length ≡ sum_below h (i + 1)
end_is h i start length e f = (λ j. e j + f j) ∙ sym (sum_step h i)

-- where the walk stops
stopped : (h : ℕ → ℕ) (legs i start tick laps : ℕ) → i < legs → start ≡ sum_below h i → start ≤ tick → (tick < sum_below h (i + 1)) ⊎ (i + 1 ≡ legs)
    → at_lap laps (runner i (tick - start)) ≡ at_lap laps (walk h (legs - 1) 0 tick)
stopped h legs i start tick laps p e q till = ap (at_lap laps) ((λ j. runner i (tick - e j)) ∙ walk_by_sums h legs i tick p (omega arith) till)

pub overflow_add-end : goal.overflow_add-end
overflow_add-end c =
    let s = c.args.sheet.now.bytes.now in let l = c.loop-i in
    let e = end_is (leg s) l.i l.start c.leg_length.result l.invariant.is_sum c.leg_length.ensures in
    omega (arith, e, sum_monotone (leg s) (l.i + 1) (legs s) (omega arith), (accepted_bounds s c.args.sheet.now.accepted).few_ticks)

pub returns-then-tick-end : goal.returns-then-tick-end
returns-then-tick-end c =
    let h = leg c.args.sheet.now.bytes.now in let l = c.loop-i in
    let e = end_is h l.i l.start c.leg_length.result l.invariant.is_sum c.leg_length.ensures in
    stopped h _ l.i l.start _ _ (omega arith) l.invariant.is_sum l.invariant.from (inl (omega (arith, e)))

pub loop-i-preserved : goal.loop-i-preserved
loop-i-preserved c =
    let l = c.loop-i in
    record {
      is_sum = end_is (leg c.args.sheet.now.bytes.now) l.i l.start c.leg_length.result l.invariant.is_sum c.leg_length.ensures;
      from = omega arith;
    }

pub returns : goal.returns
returns c =
    let s = c.args.sheet.now.bytes.now in let l = c.loop-i in
    let last : l.i ≡ c.legs-last.result - 1 = omega arith in
    stopped (leg s) (legs s) (c.legs-last.result - 1) l.start _ _ (omega arith) (l.invariant.is_sum ∙ ap (sum_below (leg s)) last) l.invariant.from (inr (omega arith))
