-- `position`: all numbers fit, so that the quotient rounded is P1's.
use Rattle.std.proofs.Common.{◌∙◌, nat_abs}
use Rattle.rounding.specs.Rounded.{rounded}
use Rattle.spline.specs.Position.{position}
use Rattle.integers.proofs.Made.{fits, read_back, passed, times, minus}
use Rattle.place.proofs.Numerator.{along, scale, whole, ends, bends, bend, numerator_is}
use Rattle.place.proofs.numbers.LegNumbers.position.Goals as goal

pub overflow_add-chord : goal.overflow_add-chord
overflow_add-chord c = fits (ends (along c.args.self.now.within c.requires))

pub overflow_mul-chord-3 : goal.overflow_mul-chord-3
overflow_mul-chord-3 c = fits (times scale (ends (along c.args.self.now.within c.requires)) tt)

pub overflow_add-bend-2 : goal.overflow_add-bend-2
overflow_add-bend-2 c = fits (bends (along c.args.self.now.within c.requires))

pub overflow_mul-bend-5 : goal.overflow_mul-bend-5
overflow_mul-bend-5 c = fits (bend (along c.args.self.now.within c.requires))

pub overflow_sub-chord : goal.overflow_sub-chord
overflow_sub-chord c = let o = along c.args.self.now.within c.requires in fits (minus (times scale (ends o) tt) (bend o) tt)

pub returns : goal.returns
unfolding position
returns c =
    let o = along c.args.self.now.within c.requires in
    let above = read_back (minus (times scale (ends o) tt) (bend o) tt) ∙ numerator_is o in let below = read_back (times scale (whole o) tt) in
    passed c.rounded.ensures c.rounded.type_inv ∙ (λ i. rounded (above i) (nat_abs (below i)))
