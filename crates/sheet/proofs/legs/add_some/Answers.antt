-- `add_some`: one leg more in the sum and in the flag.
use Rattle.std.proofs.Common.{◌+◌, ◌||◌, ◌∙◌, ℕ, ap, refl, sym, arith}
use Rattle.sheet.specs.Bytes.{any_below, sum_below}
use Rattle.sheet.specs.Fields.{leg}
use Rattle.sheet.specs.Reading.{leg_outside}
use Rattle.sheet.proofs.Below.{any_step, sum_step}
use Rattle.sheet.proofs.legs.add_some.Goals as goal

pub loop-i-init : goal.loop-i-init
unfolding any_below sum_below
loop-i-init c = record { small = omega arith; sum = refl; flag = refl }

pub loop-i-preserved : goal.loop-i-preserved
loop-i-preserved c =
    let l = c.loop-i in let g : ℕ → ℕ = λ k. leg c.args.s.now (c.args.from + k) in let is = c.read_u16-h.ensures in
    record {
      small = omega (arith, l.invariant.small);
      sum = omega (arith, is, sum_step g l.i, l.invariant.sum);
      flag = (λ j. l.invariant.flag j || (c.leg_outside-outside.ensures ∙ ap leg_outside (c.from.ensures ∙ is)) j) ∙ sym (any_step (λ k. leg_outside (g k)) l.i);
    }
