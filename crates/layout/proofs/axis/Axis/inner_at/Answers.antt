-- `inner_at`: the legs and value steps are those of the course, round its end where the course is closed.
use Rattle.std.proofs.Common.{◌-ℤ◌, ◌∙◌, ℕ, pos, nat_abs, sym, ap}
use Rattle.sheet.specs.Fields.{leg, waypoint}
use Rattle.spline.specs.Spline.{step_after, step_before, inner_row}
use Rattle.layout.specs.Course.{course}
use Rattle.layout.specs.Inside.{code_row}
use Rattle.integers.proofs.Made.{passed}
use Rattle.layout.proofs.Rows.{shared_legs, inner_row_lem}
use Rattle.layout.proofs.axis.Axis.inner_at.Goals as goal

pub leg_at-requires : goal.leg_at-requires
leg_at-requires c = rw c.before-p.ensures.1 (shared_legs c.args.self.now c.args.i c.requires).0

pub returns : goal.returns
unfolding course step_after step_before
returns c =
    let a = c.args.self.now in let s = a.sheet.bytes.now in let i = c.args.i in let v = waypoint s a.axis in
    let p = c.before-p.ensures.1 in
    let q = c.after.ensures.1 in
    let gs = passed c.leg_at.ensures.0 c.leg_at.type_inv ∙ ap (λ (j : ℕ). pos (leg s j)) p in
    let hs = passed c.leg_at-2.ensures.0 c.leg_at-2.type_inv in
    let ds = passed c.value_step-d.ensures.0 c.value_step-d.type_inv ∙ ap (λ (j : ℕ). v j -ℤ v i) q in
    let es = passed c.value_step-e.ensures.0 c.value_step-e.type_inv ∙ ap (λ (j : ℕ). v i -ℤ v j) p in (
      c.inner.ensures.0
          ∙ (λ j. code_row (inner_row 2 1 (nat_abs (gs j)) (nat_abs (hs j)) (ds j) (es j)))
          ∙ sym (ap code_row (inner_row_lem a i c.requires)),
      c.inner.ensures.1,
    )
