-- `lay_axes`: three parts of N numbers, one to an axis, come back as that axis's bend numbers.
use Rattle.std.proofs.Common.{◌≡◌, ◌*◌, ◌∙◌, ◌++◌, ℕ, length, drop, refl, sym, ap}
use Rattle.sheet.proofs.Laws.{accepted_bounds}
use Rattle.spline.specs.Spline.{bends}
use Rattle.layout.specs.Course.{course}
use Rattle.layout.specs.Layout.{all_bends}
use Rattle.layout.proofs.Parts.{three_parts}
use Rattle.layout.proofs.Passes.{passes_length, forty}
use Rattle.layout.proofs.lay_axes.Goals as goal

pub invariant_of-lay-clause-bounds : goal.invariant_of-lay-clause-bounds
invariant_of-lay-clause-bounds c = accepted_bounds c.args.sheet.now.bytes.now c.args.sheet.now.accepted

pub returns : goal.returns
unfolding all_bends
returns c =
    let sheet = c.args.sheet.now in let s = sheet.bytes.now in
    let size : (axis : ℕ) → length (bends (course s axis)) ≡ sheet.points =
    λ axis. sym (ap length (forty s axis 40 _ refl refl)) ∙ passes_length s axis 40 ∙ sym sheet.is_points in
    three_parts c.args.list.now sheet.points c.lay.new.z c.lay-2.new.z c.lay-3.new.z (ap length c.lay.ensures ∙ size 0) (ap length c.lay-2.ensures ∙ size 1)
    ∙ (λ i. (c.lay.ensures i ++ c.lay-2.ensures i ++ c.lay-3.ensures i) ++ drop (3 * sheet.points) c.args.list.now)
