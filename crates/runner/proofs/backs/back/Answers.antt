-- `back`: what `backed` tells decides answer and record together.
use Rattle.std.proofs.Common.{◌≡◌, rules, sym, subst}
use Rattle.std.specs.Prelude.{Err}
use Rattle.sheet.specs.declared.Refusal.TheVariants.{Start}
use Rattle.sheet.specs.Reading.{most_points}
use Rattle.answers.specs.Answers.{told_outcome, bare}
use Rattle.runner.specs.Backs.{at_start, moved_back, backed, backward}
use Rattle.runner.proofs.Kept.{lent_done, lent_refused}
use Rattle.runner.proofs.backs.back.Goals as goal

pub returns-in_err-r : goal.returns-in_err-r
unfolding backed backward
returns-in_err-r c =
    let s = c.args.s.now in let r = c.args.r.now in
    let e : c.from_residual.result ≡ Err c.in_err-r.field-0.0 = search rules in
    subst (λ x. (told_outcome x ≡ bare (backed s r)) × (r ≡ backward s r)) (sym e)
    (lent_refused most_points s r (at_start r) Start (moved_back s r) _ c.in_err-r.ensures)

pub returns : goal.returns
unfolding backed backward
returns c =
    let s = c.args.s.now in let r = c.args.r.now in lent_done most_points s r (at_start r) Start (moved_back s r) _ c.in_ok-r.ensures
