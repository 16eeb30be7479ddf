-- `course_ends`: one leg more adds its ends behind those so far.
use Rattle.std.proofs.Common.{◌≡◌, ◌+◌, ◌∙◌, length, refl, sym, ap, arith, length-append}
use Rattle.std.proofs.lemmas.List.Edits.{sets}
use Rattle.sheet.specs.Bytes.{sum_below}
use Rattle.sheet.specs.Fields.{legs as legs_of, leg}
use Rattle.sheet.proofs.Below.{any_none, sum_step}
use Rattle.place.specs.Places.{bend_outside}
use Rattle.strokes.specs.Strokes.{any_bend, leg_ends, ends_below}
use Rattle.strokes.proofs.LegByLeg.{leg_ends_by, few_below, ends_step, sets_more}
use Rattle.strokes.proofs.drawing.Drawing.course_ends.Goals as goal

pub loop-i-init : goal.loop-i-init
unfolding sum_below ends_below
loop-i-init c = record {
  starts = refl;
  counted = c.put_end-n.ensures.count;
  stored = c.put_end-n.ensures.ends;
}

pub leg-leg-requires-clause-inside : goal.leg-leg-requires-clause-inside
unfolding any_bend
leg-leg-requires-clause-inside c =
    let d = c.args.self.now in let s = d.laid.sheet.bytes.now in
    any_none (bend_outside s d.laid.list.now) (legs_of s) d.bends c.loop-i.i (omega (arith, c.legs-i-end.ensures))

pub leg_ends-n-requires : goal.leg_ends-n-requires
leg_ends-n-requires c =
    let d = c.args.self.now in let s = d.laid.sheet.bytes.now in let l = c.loop-i in let e = c.leg-leg.ensures in (
      d.fine,
      record {
        leg_fits = c.leg-leg.result.fits;
        starts = l.invariant.starts ∙ sym (λ j. sum_below (leg (e.0 j).sheet.bytes.now) (e.1 j));
        counted = omega (arith, l.invariant.starts, l.invariant.counted, few_below s d.laid.sheet.accepted d.laid.list.now d.tolerance l.i (omega (arith, c.legs-i-end.ensures)));
      },
    )

pub overflow_add-from : goal.overflow_add-from
overflow_add-from c =
    let d = c.args.self.now in let s = d.laid.sheet.bytes.now in let l = c.loop-i in
    omega (arith, l.invariant.starts, c.leg-leg.ensures.2, leg_ends_by s d.laid.sheet.accepted l.i (omega (arith, c.legs-i-end.ensures)))

pub loop-i-preserved : goal.loop-i-preserved
loop-i-preserved c =
    let d = c.args.self.now in let s = d.laid.sheet.bytes.now in let list = d.laid.list.now in let t = d.tolerance in
    let l = c.loop-i in let k = c.leg_ends-n in let e = c.leg-leg.ensures in
    let x = ends_below s list t l.i in let y = leg_ends s list t l.i in
    let here : leg_ends c.leg-leg.result.laid.sheet.bytes.now c.leg-leg.result.laid.list.now t c.leg-leg.result.start ≡ y = λ j. leg_ends (e.0 j).sheet.bytes.now (e.0 j).list.now t (e.1 j) in
    let step = ends_step s list t l.i in record {
      starts = (λ j. l.invariant.starts j + e.2 j) ∙ sym (sum_step (leg s) l.i);
      counted = omega (arith, k.ensures.count, l.invariant.counted, ap length here, length-append x y, ap length step);
      stored = k.ensures.ends ∙ (λ j. sets (l.invariant.stored j) (l.invariant.counted j) (here j)) ∙ sets_more x y c.args.ends.now ∙ ap (sets c.args.ends.now 0) (sym step);
    }
