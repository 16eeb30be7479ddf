-- `step_by`: what `stepped_by` tells decides answer and record together.
use Rattle.std.proofs.Common.{◌≡◌, rules, sym, subst}
use Rattle.std.specs.Prelude.{Err}
use Rattle.sheet.specs.declared.Refusal.TheVariants.{Landed}
use Rattle.answers.specs.Answers.{told_outcome, bare}
use Rattle.runner.specs.Steps.{landed, moved, stepped_by, onward_by}
use Rattle.runner.proofs.Kept.{lent_done, lent_refused}
use Rattle.runner.proofs.steps.step_by.Goals as goal

pub returns-in_err-r : goal.returns-in_err-r
unfolding stepped_by onward_by
returns-in_err-r c =
    let l = c.args.limit in let s = c.args.s.now in let r = c.args.r.now in
    let e : c.from_residual.result ≡ Err c.in_err-r.field-0.0 = search rules in
    subst (λ x. (told_outcome x ≡ bare (stepped_by l s r)) × (r ≡ onward_by l s r)) (sym e)
    (lent_refused l s r (landed s r) Landed (moved s r) _ c.in_err-r.ensures)

pub returns : goal.returns
unfolding stepped_by onward_by
returns c =
    let l = c.args.limit in let s = c.args.s.now in let r = c.args.r.now in lent_done l s r (landed s r) Landed (moved s r) _ c.in_ok-r.ensures
