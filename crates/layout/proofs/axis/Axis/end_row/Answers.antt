-- `end_row`: free ends have no row; a held course's have their own, a closed course's are inner ones.
use Rattle.std.proofs.Common.{sym, subst}
use Rattle.ends.specs.declared.EndKind.{EndKind}
use Rattle.layout.specs.Inside.{Inner}
use Rattle.layout.proofs.Given.{end_fits}
use Rattle.layout.proofs.Rows.{free_absent, held_present, inner_present}
use Rattle.layout.proofs.axis.Axis.end_row.Goals as goal

pub returns-in-Free : goal.returns-in-Free
returns-in-Free c = free_absent c.args.self.now c.in-Free.is c.args.i c.requires

pub returns-in-Held : goal.returns-in-Held
returns-in-Held c = (held_present c.args.self.now c.in-Held.is c.args.i c.requires, c.held_at.ensures.0, c.held_at.ensures.1)

pub inner_at-requires : goal.inner_at-requires
inner_at-requires c =
    let a = c.args.self.now in
    subst (λ (k : EndKind). Inner k a.sheet.points c.args.i) (sym c.in-Closed.is) (end_fits a c.args.i c.requires)

pub returns-in-Closed : goal.returns-in-Closed
returns-in-Closed c =
    let a = c.args.self.now in
    let i = subst (λ (k : EndKind). Inner k a.sheet.points c.args.i) (sym c.in-Closed.is) (end_fits a c.args.i c.requires) in
    (inner_present a c.args.i i, c.inner_at.ensures.0, c.inner_at.ensures.1)
