-- `turn`: without a row nothing is set; the number set is the row's with the numbers as they are, all of which are small.
use Rattle.std.proofs.Common.{◌∙◌, set, sym, ap}
use borrow.Author.Tests.{eqb-true, not-false}
use Rattle.integers.proofs.Made.{passed}
use Rattle.systems.specs.Passes.{at}
use Rattle.layout.proofs.Given.{end_fits}
use Rattle.layout.proofs.Sweep.{kept, unmoved, turn_renews, turn_present, turn_absent}
use Rattle.layout.proofs.axis.Axis.turn.Goals as goal

pub returns-in_default-clause-number : goal.returns-in_default-clause-number
returns-in_default-clause-number c = sym (turn_absent c.args.self.now c.args.z.now c.args.i c.in_default.ensures)

-- where there is a row
pub returns-clause-number : goal.returns-clause-number
returns-clause-number c =
    let a = c.args.self.now in let z = c.args.z.now in let i = c.args.i in let small = c.requires.1 in
    let told = c.in-Some.ensures in
    let left = kept small c.before-2.result c.before-2.ensures.0 ∙ ap (at z) c.before-2.ensures.1 in
    let right = kept small c.after.result c.after.ensures.0 ∙ ap (at z) c.after.ensures.1 in
    let new = turn_renews a z i c.in-Some.row _ _ told.1 left right in
    ap (set z i) (passed c.renewed-x.ensures c.renewed-x.type_inv ∙ new) ∙ sym (turn_present a z i told.0)

pub returns-clause-settled : goal.returns-clause-settled
returns-clause-settled c =
    let i = c.args.i in
    λ e. unmoved c.requires.1 c.renewed-x.result i (end_fits c.args.self.now i c.requires.0) (eqb-true _ _ (not-false _ e))
