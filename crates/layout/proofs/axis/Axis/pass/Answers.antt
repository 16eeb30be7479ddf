-- `pass`: each turn, at an end or between, is the definition's (`Through` of proofs/Sweep), and all numbers stay small because they are those of some
-- count of passes from zeros.
use Rattle.std.proofs.Common.{◌≡◌, ◌+◌, ◌-◌, ◌≤◌, ◌<◌, ◌||◌, ◌∙◌, ℕ, ℤ, Bool, List, false, set, refl, sym, ap, subst, arith, to_z, w64}
use mathlib.Core.Bool.{false≢true}
use Rattle.sheet.proofs.Below.{or_left, or_right}
use Rattle.systems.specs.Passes.{at, renewed, turn, pass}
use Rattle.spline.specs.Spline.{prev, rows}
use Rattle.layout.specs.Course.{course}
use Rattle.layout.specs.declared.axis.Axis.{Axis}
use Rattle.layout.specs.Inside.{along, Inner, Small}
use Rattle.integers.proofs.Made.{read, passed}
use Rattle.layout.proofs.Given.{two_points, prev_fits}
use Rattle.layout.proofs.Neighbours.{prev_later, next_inner}
use Rattle.layout.proofs.Rows.{inner_present}
use Rattle.layout.proofs.Sweep.{Through, between, kept, unmoved, at_set, turn_renews, turn_present}
use Rattle.layout.proofs.Sweep.{through_start, through_small, through_turn, through_end}
use Rattle.layout.proofs.axis.Axis.pass.Goals as goal
use Rattle.layout.proofs.axis.Axis.pass.Goals.{then-x-old, else-x-old}

pub turn-changed-requires : goal.turn-changed-requires
turn-changed-requires c =
    let a = c.args.self.now in ((λ h. omega (arith, two_points a)), through_small a c.requires (through_start c.args.z.now) (omega arith))

-- the first waypoint is passed
begun : {x : Axis} (z₀ z : List ℤ) (changed : Bool) → z ≡ turn (rows (along x)) 65536 z₀ 0 → (changed ≡ false → z ≡ z₀) → Through x z₀ z changed 1
begun z₀ z changed e f = through_turn (through_start z₀) z e changed (λ g. (refl, f g))

pub slice_copy_out-left : goal.slice_copy_out-left
slice_copy_out-left c =
    let a = c.args.self.now in let t = c.turn-changed in
    let come = begun c.args.z.now t.new.z t.result t.ensures.number t.ensures.settled in
    omega (arith, (through_small a c.requires come (omega (arith, two_points a))).size, two_points a)

pub loop-i-init : goal.loop-i-init
loop-i-init c =
    let a = c.args.self.now in let t = c.turn-changed in let two = two_points a in
    let come = begun c.args.z.now t.new.z t.result t.ensures.number t.ensures.settled in
    let small = through_small a c.requires come (omega arith) in record {
      come = come;
      small = small;
      left = kept small 0 (omega arith) ∙ ap (at t.new.z) (prev_later (along a) 1 (omega arith));
    }

-- between the ends
module _ (c : goal.Joined-x-old) where
  fits : c.loop-i.i + 1 < c.args.self.now.sheet.points
  fits = omega (arith, c.loop-i-test.true)

  inner : Inner c.args.self.now.sheet.kind c.args.self.now.sheet.points c.loop-i.i
  inner = between c.args.self.now.sheet.kind c.args.self.now.sheet.points c.loop-i.i c.loop-i.auto.i fits

pub inner_at-requires : goal.inner_at-requires
inner_at-requires c =
    let a = c.args.self.now in between a.sheet.kind a.sheet.points c.loop-i.i c.loop-i.auto.i (omega (arith, c.loop-i-test.true))

pub renewed-x-requires : goal.renewed-x-requires
renewed-x-requires c =
    let a = c.args.self.now in let l = c.loop-i in let small = l.invariant.small in
    let h : l.i + 1 < a.sheet.points = omega (arith, c.loop-i-test.true) in
    let p = prev_fits a l.i (omega arith) in (
      c.inner_at.ensures.1,
      subst Small (sym l.invariant.left) (small.small (prev (along a) l.i) p),
      subst Small (sym (kept small (l.i + 1) h)) (small.small (l.i + 1) h),
    )

-- the number worked out is the definition's
new_is : (c : goal.Joined-x-old)
    → read c.renewed-x.result ≡ renewed (rows (along c.args.self.now)) 65536 c.loop-i.z c.loop-i.i
unfolding course
new_is c =
    let a = c.args.self.now in let l = c.loop-i in
    let right = kept l.invariant.small (l.i + 1) (fits c) ∙ ap (at l.z) (next_inner (along a) l.i (omega (arith, a.sheet.is_points, fits c))) in
    passed c.renewed-x.ensures c.renewed-x.type_inv ∙ turn_renews a l.z l.i c.inner_at.result _ _ c.inner_at.ensures.0 l.invariant.left right

-- it is set, or is there already
turned : (c : goal.Joined-x-old) → let z = c.loop-i.z in
    (c.if-x-old.z ≡ set z c.loop-i.i (renewed (rows (along c.args.self.now)) 65536 z c.loop-i.i))
    × (c.if-x-old.changed ≡ false → (c.loop-i.changed ≡ false) × (c.if-x-old.z ≡ z))
    × (to_z w64 c.if-x-old.left-bits ≡ at c.if-x-old.z c.loop-i.i)
turned c =
    let l = c.loop-i in let i = l.i in let x = c.renewed-x.result in let new = new_is c in let small = l.invariant.small in
    let h : i < c.args.self.now.sheet.points = omega (arith, fits c) in
    elim c.if-x-old.branch [
      | then-x-old w ↦ (
        w.z-is ∙ sym (unmoved small x i h w.if-x-old.true) ∙ ap (set l.z i) new,
        λ e. (sym w.changed-is ∙ e, w.z-is),
        w.left-is ∙ kept small i h ∙ sym (ap (λ (m : List ℤ). at m i) w.z-is),
      )
      | else-x-old w ↦ (
        w.z-is ∙ ap (set l.z i) new,
        λ e. absurd (false≢true (sym e ∙ w.changed-is)),
        w.left-is ∙ sym (ap (λ (m : List ℤ). at m i) w.z-is ∙ at_set small (read x) i h),
      )
    ]

pub loop-i-preserved : goal.loop-i-preserved
loop-i-preserved c =
    let a = c.args.self.now in let l = c.loop-i in let i = l.i in let (set_to, same, left) = turned c in
    let come = through_turn l.invariant.come c.if-x-old.z (set_to ∙ sym (turn_present a l.z i (inner_present a i (inner c)))) c.if-x-old.changed same in record {
      come = come;
      small = through_small a c.requires come (omega (arith, fits c));
      left = left ∙ ap (at c.if-x-old.z) (omega (arith, prev_later (along a) (i + 1) (omega arith)));
    }

-- after the loop: the last waypoint
pub turn-requires : goal.turn-requires
turn-requires c = (λ h. omega arith, c.loop-i.invariant.small)

-- the whole pass
module _ (x : Axis) {i : ℕ} {z₀ z z' : List ℤ} {changed r : Bool} (come : Through x z₀ z changed i) where
  whole : x.sheet.points - 1 ≤ i → (1 ≤ x.sheet.points - 1 → i ≤ x.sheet.points - 1)
      → z' ≡ turn (rows (along x)) 65536 z (x.sheet.points - 1) → (r ≡ false → z' ≡ z)
      → (z' ≡ pass (rows (along x)) 65536 z₀) × (r || changed ≡ false → z' ≡ z₀)
  whole beyond within number settled =
      let e : x.sheet.points - 1 ≡ i = omega (arith, two_points x) in
      let last = number ∙ ap (turn (rows (along x)) 65536 z) e in
      through_end x (through_turn come z' last (r || changed) (λ g. (or_right r changed g, settled (or_left r changed g)))) (omega (arith, two_points x))

pub returns-clause-numbers : goal.returns-clause-numbers
returns-clause-numbers c =
    let l = c.loop-i in (whole c.args.self.now l.invariant.come c.loop-i-test.false l.auto.i-end c.turn.ensures.number c.turn.ensures.settled).0

pub returns-clause-settled : goal.returns-clause-settled
returns-clause-settled c =
    let l = c.loop-i in (whole c.args.self.now l.invariant.come c.loop-i-test.false l.auto.i-end c.turn.ensures.number c.turn.ensures.settled).1
