-- What follows from which rows there are, for every course, in bounds or not: the gap (R6), and that a free course of two waypoints has no row (W9).
use mathlib.Core.Path.{◌≡◌, refl, sym, ◌∙◌, ap, subst}
use mathlib.Core.Bool.{true, false}
use Prim.Native.Nat.{ℕ, ◌+◌, ◌*◌, ◌<◌}
use native.Mathlib.Omega.{arith}
use lib.Dec.{T}
use lib.ListN.{replicate}
use lib.IntN.{ℤ, pos}
use Rattle.ends.specs.declared.EndKind.{EndKind}
use Rattle.ends.specs.declared.EndKind.TheVariants.{Free, Held, Closed}
use Rattle.systems.specs.Rows.{Row, gap}
use Rattle.systems.specs.Passes.{passes}
use Rattle.systems.proofs.Lists.{pass_none, early_end}
use Rattle.spline.specs.Spline.{Course, inner_row, free_row, held_start_row, held_end_row, row_of, rows_by, rows}
use Rattle.spline.specs.Theorems.{RowGap, FreePairZeros}
use Rattle.spline.proofs.Seats.{along_cases}

-- what R6 says of a row
abbrev Gapped : Row → Type 0
Gapped r = r.present ≡ true → (r.before + r.after ≡ gap r) × (2 * gap r ≡ r.middle)

-- where the middle factor is twice the outer ones
twice_outer : (r : Row) → r.middle ≡ 2 * (r.before + r.after) → Gapped r
twice_outer r e present = omega arith

inner_gapped : (g h : ℕ) (d e : ℤ) → Gapped (inner_row 2 1 g h d e)
unfolding inner_row
inner_gapped g h d e = twice_outer (inner_row 2 1 g h d e) (omega arith)

free_gapped : Gapped free_row
unfolding free_row
free_gapped present = absurd (subst T (sym present) tt)

held_start_gapped : (h : ℕ) (d p : ℤ) → Gapped (held_start_row 2 1 h d p)
unfolding held_start_row
held_start_gapped h d p = twice_outer (held_start_row 2 1 h d p) (omega arith)

held_end_gapped : (g : ℕ) (e p : ℤ) → Gapped (held_end_row 2 1 g e p)
unfolding held_end_row
held_end_gapped g e p = twice_outer (held_end_row 2 1 g e p) (omega arith)

pub row_gap : RowGap
unfolding row_of
row_gap Free c i = along_cases c.points i _ _ _ Gapped (λ e. free_gapped) (λ s e. inner_gapped _ _ _ _) (λ s e. free_gapped)
row_gap Held c i = along_cases c.points i _ _ _ Gapped (λ e. held_start_gapped _ _ _) (λ s e. inner_gapped _ _ _ _) (λ s e. held_end_gapped _ _ _)
row_gap Closed c i = inner_gapped _ _ _ _

-- the two waypoints of a free course are its ends, which have no row
pair_absent : (c : Course) → c.points ≡ 2 → (i : ℕ) → i < c.points → (row_of 2 1 Free c i).present ≡ false
unfolding row_of free_row
pair_absent c e i h = along_cases c.points i _ _ _ (λ (r : Row). r.present ≡ false) (λ q. refl) (λ s q. absurd (omega arith)) (λ s q. refl)

-- so a pass changes nothing, and the zeros stay
pub free_pair_zeros : FreePairZeros
unfolding rows_by passes
free_pair_zeros c free two =
    early_end (rows c) 65536 (replicate c.points (pos 0)) 0 40 (omega arith)
    (pass_none (rows c) 65536 (λ i h. ap (λ (e : EndKind). (row_of 2 1 e c i).present) free ∙ pair_absent c two i h) (replicate c.points (pos 0)))
    ∙ ap (λ (n : ℕ). replicate n (pos 0)) two
