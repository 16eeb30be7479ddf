-- A pass of the code (src/pass.rt) against `sweep` of crate systems: what holds before it, after each turn and at its end, and how large its numbers are.
use mathlib.Core.Path.{◌≡◌, refl, sym, ◌∙◌, ap}
use mathlib.Core.Bool.{Bool, true, false}
use mathlib.Core.List.{List}
use Prim.Native.Nat.{ℕ, ◌+◌, ◌≤◌, ◌<◌}
use native.Mathlib.Numerals.{add-one}
use native.Mathlib.Omega.{arith}
use lib.IntN.{ℤ, pos, nat_abs, ◌-ℤ◌, ◌*ℤ◌}
use lib.ListN.{length, set}
use lib.Seq.{get_or-set_same, set-get_or}
use mir.Syntax.{w64}
use mir.Val.{to_z, of_z}
use Rattle.integers.proofs.Machine.{fits_abs, back}
use Rattle.ends.specs.declared.EndKind.{EndKind}
use Rattle.ends.specs.declared.EndKind.TheVariants.{Free, Held, Closed}
use Rattle.rounding.specs.Rounded.{rounded}
use Rattle.systems.specs.Rows.{Row, Rows}
use Rattle.systems.specs.Passes.{at, target, renewed, turn, sweep, pass}
use Rattle.systems.proofs.Lists as systems
use Rattle.systems.proofs.Lists.{sweep_next, length_sweep}
use Rattle.spline.specs.Spline.{Course, next, prev, row_of, rows_by, rows}
use Rattle.spline.proofs.Bends.{bends_bounded}
use Rattle.layout.specs.Course.{course}
use Rattle.layout.specs.Inside.{along, Inner, Reached, Small, AllSmall, code_row}
use Rattle.layout.specs.declared.axis.Axis.{Axis}
use Rattle.layout.specs.declared.row.Row as code
use Rattle.integers.proofs.Made.{read}
use Rattle.layout.proofs.Given.{in_bounds}
use Rattle.layout.proofs.Passes.{passes_length}
use Rattle.layout.proofs.Rows.{told_kind}

-- a bend number that is read back
pub small_kept : (z : ℤ) → Small z → read z ≡ z
small_kept z h = back refl (fits_abs z (omega arith))

module _ {n : ℕ} {z : List ℤ} (a : AllSmall n z) where
  pub kept : (j : ℕ) → j < n → read (at z j) ≡ at z j
  kept j h = small_kept (at z j) (a.small j h)

  -- a number that the machine holds as x, set where the same one was
  pub unmoved : (x : ℤ) (i : ℕ) → i < n → of_z w64 x ≡ of_z w64 (at z i) → set z i (read x) ≡ z
  unmoved x i h e = ap (set z i) (ap (to_z w64) e ∙ kept i h) ∙ set-get_or z i (pos 0)

  pub at_set : (v : ℤ) (i : ℕ) → i < n → at (set z i v) i ≡ v
  at_set v i h = get_or-set_same z i v (pos 0) (omega (arith, a.size))

-- between the ends every kind has inner rows
pub between : (k : EndKind) (n i : ℕ) → 1 ≤ i → i + 1 < n → Inner k n i
between Free n i a b = (a, b)
between Held n i a b = (a, b)
between Closed n i a b = omega arith

-- before the turn at i, of a pass over z₀: it has made z of z₀, and where `changed` is false z is still z₀
pub record Through (x : Axis) (z₀ z : List ℤ) (changed : Bool) (i : ℕ) : Type 0 where
  pub swept : z ≡ sweep (rows (along x)) 65536 i z₀
  pub same : changed ≡ false → z ≡ z₀

module _ {x : Axis} where
  pub through_start : (z₀ : List ℤ) → Through x z₀ z₀ false 0
  unfolding sweep
  through_start z₀ = record { swept = refl; same = λ e. refl }

  pub through_turn : {z₀ z : List ℤ} {changed : Bool} {i : ℕ} → Through x z₀ z changed i
      → (z' : List ℤ) → z' ≡ turn (rows (along x)) 65536 z i
      → (now : Bool) → (now ≡ false → (changed ≡ false) × (z' ≡ z)) → Through x z₀ z' now (i + 1)
  through_turn {z₀} {i = i} t z' e now f =
      let R = rows (along x) in record {
        swept = e ∙ ap (λ (l : List ℤ). turn R 65536 l i) t.swept ∙ sym (ap (λ (m : ℕ). sweep R 65536 m z₀) (add-one i) ∙ sweep_next R 65536 i z₀);
        same = λ g. (f g).1 ∙ t.same (f g).0;
      }

module _ (x : Axis) where
  abbrev c : Course
  c = along x

  abbrev R : Rows
  R = rows c

  row_is : (i : ℕ) → R.row i ≡ row_of 2 1 x.sheet.kind c i
  unfolding rows_by
  row_is i = sym (told_kind x i)

  -- what a turn works out is the definition's number
  pub turn_renews : (zs : List ℤ) (i : ℕ) (r : code.Row) (left right : ℤ)
      → r ≡ code_row (row_of 2 1 x.sheet.kind c i) → left ≡ at zs (prev c i) → right ≡ at zs (next c i)
      → rounded (pos 65536 *ℤ r.right -ℤ r.before *ℤ left -ℤ r.after *ℤ right) (nat_abs r.middle) ≡ renewed R 65536 zs i
  unfolding target renewed rows_by
  turn_renews zs i r left right e l q =
      let f = e ∙ ap code_row (sym (row_is i)) in
      λ j. rounded (pos 65536 *ℤ (f j).right -ℤ (f j).before *ℤ l j -ℤ (f j).after *ℤ q j) (nat_abs (f j).middle)

  -- the turn where there is a row, and where there is none
  pub turn_present : (zs : List ℤ) (i : ℕ) → (row_of 2 1 x.sheet.kind c i).present ≡ true → turn R 65536 zs i ≡ set zs i (renewed R 65536 zs i)
  turn_present zs i e = systems.turn_present R 65536 zs i (ap (λ (r : Row). r.present) (row_is i) ∙ e)

  pub turn_absent : (zs : List ℤ) (i : ℕ) → (row_of 2 1 x.sheet.kind c i).present ≡ false → turn R 65536 zs i ≡ zs
  turn_absent zs i e = systems.turn_absent R 65536 zs i (ap (λ (r : Row). r.present) (row_is i) ∙ e)

  pub through_end : {z₀ z : List ℤ} {changed : Bool} {i : ℕ} → Through x z₀ z changed i → i ≡ x.sheet.points → (z ≡ pass R 65536 z₀) × (changed ≡ false → z ≡ z₀)
  unfolding pass rows_by course
  through_end {z₀} t e = (t.swept ∙ ap (λ (j : ℕ). sweep R 65536 j z₀) (e ∙ x.sheet.is_points), t.same)

  pub start_length : (z₀ : List ℤ) → Reached x z₀ → length z₀ ≡ x.sheet.points
  start_length z₀ reached = ap length reached.numbers ∙ passes_length x.sheet.bytes.now x.axis reached.count ∙ sym x.sheet.is_points

  pub through_small : {z₀ z : List ℤ} {changed : Bool} {i : ℕ} → Reached x z₀ → Through x z₀ z changed i → i ≤ x.sheet.points → AllSmall x.sheet.points z
  unfolding course
  through_small {z₀} {i = i} reached t h = record {
    size = ap length t.swept ∙ length_sweep R 65536 i z₀ ∙ start_length z₀ reached;
    small = λ j l.
        rw (t.swept, reached.numbers)
        (bends_bounded c (in_bounds x) reached.count i j (omega (arith, x.sheet.is_points)) (omega (arith, x.sheet.is_points)));
  }
