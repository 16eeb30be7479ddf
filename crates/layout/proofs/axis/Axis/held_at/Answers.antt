-- `held_at`: the first waypoint has the held start's row, the last the held end's.
use Rattle.std.proofs.Common.{◌≡◌, ◌+◌, ◌-ℤ◌, ◌∙◌, ℕ, pos, nat_abs, sym, ap, arith}
use Rattle.sheet.specs.Fields.{leg, waypoint}
use Rattle.spline.specs.Spline.{step_after, step_before, held_start_row, held_end_row, row_of}
use Rattle.layout.specs.Course.{course}
use Rattle.layout.specs.Inside.{along, code_row}
use Rattle.integers.proofs.Made.{passed}
use Rattle.layout.proofs.Given.{two_points}
use Rattle.layout.proofs.Neighbours.{prev_later, next_inner}
use Rattle.layout.proofs.Rows.{held_start_row_lem, held_end_row_lem}
use Rattle.layout.proofs.axis.Axis.held_at.Goals as goal

pub returns-then-i-eq0 : goal.returns-then-i-eq0
unfolding course step_after
returns-then-i-eq0 c =
    let a = c.args.self.now in let k = along a in let v = waypoint a.sheet.bytes.now a.axis in
    let h = passed c.leg_at.ensures.0 c.leg_at.type_inv in
    let one = next_inner k 0 (omega (arith, a.sheet.is_points, two_points a)) in
    let d = passed c.value_step-d.ensures.0 c.value_step-d.type_inv ∙ ap (λ (j : ℕ). v j -ℤ v 0) one in
    let p = passed c.slope_at.ensures.0 c.slope_at.type_inv in (
      c.held_start.ensures.0
          ∙ (λ j. code_row (held_start_row 2 1 (nat_abs (h j)) (d j) (p j)))
          ∙ sym (ap code_row (ap (row_of 2 1 a.sheet.kind k) c.if-i-eq0.true ∙ held_start_row_lem a c.requires.0)),
      c.held_start.ensures.1,
    )

pub returns : goal.returns
unfolding course step_before
returns c =
    let a = c.args.self.now in let i = c.args.i in
    let k = along a in let v = waypoint a.sheet.bytes.now a.axis in
    let last : i + 1 ≡ a.sheet.points = c.requires.1 (omega arith) in
    let q = prev_later k i (omega arith) in
    let g = passed c.leg_at-2.ensures.0 c.leg_at-2.type_inv ∙ ap (λ (j : ℕ). pos (leg a.sheet.bytes.now j)) q in
    let e = passed c.value_step-e.ensures.0 c.value_step-e.type_inv ∙ ap (λ (j : ℕ). v i -ℤ v j) q in
    let p = passed c.slope_at-2.ensures.0 c.slope_at-2.type_inv in (
      c.held_end.ensures.0
          ∙ (λ j. code_row (held_end_row 2 1 (nat_abs (g j)) (e j) (p j)))
          ∙ sym (ap code_row (held_end_row_lem a c.requires.0 i last)),
      c.held_end.ensures.1,
    )
