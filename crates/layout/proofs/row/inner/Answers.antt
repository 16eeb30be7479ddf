-- `inner`: with legs up to 256 and value steps up to 2,000,000 no product leaves 64 bits, so each number is R2's.
use Rattle.std.proofs.Common.{◌≡◌, ◌≤◌, ◌+ℤ◌, ◌*ℤ◌, ℤ, pos, nat_abs, refl, arith}
use native.Mathlib.Nat.{mul-pos}
use Rattle.integers.proofs.Ring.{solve, ◌≋◌, ◌⊕◌, ◌⊗◌, #◌}
use Rattle.integers.proofs.Made.{Made, read, given, fits, times, plus, minus}
use Rattle.spline.specs.Spline.{inner_row}
use Rattle.layout.specs.Inside.{Leg}
use Rattle.layout.proofs.RowMade.{leg_some, leg_made, two, once, row_made}
use Rattle.layout.proofs.row.inner.Goals as goal

-- the products of two legs g and h, and of each with a value step
module _ {g h : ℤ} (lg : Leg g) (lh : Leg h) where
  first : Made (read (read g *ℤ read g) *ℤ read h) (pos (nat_abs g) *ℤ pos (nat_abs g) *ℤ pos (nat_abs h)) 16_777_216
  first = times (times (leg_made lg) (leg_made lg) tt) (leg_made lh) tt

  last : Made (read (read g *ℤ read h) *ℤ read h) (pos (nat_abs g) *ℤ pos (nat_abs h) *ℤ pos (nat_abs h)) 16_777_216
  last = times (times (leg_made lg) (leg_made lh) tt) (leg_made lh) tt

-- a leg times a value step
rise : {g : ℤ} (d : ℤ) → Leg g → nat_abs d ≤ 2_000_000 → Made (read g *ℤ read d) (pos (nat_abs g) *ℤ d) 512_000_000
rise d l few = times (leg_made l) (given {y = d} refl few tt) tt

pub overflow_add-result : goal.overflow_add-result
overflow_add-result c = fits (plus (first c.requires.0 c.requires.1) (last c.requires.0 c.requires.1) tt)

pub overflow_mul-result : goal.overflow_mul-result
overflow_mul-result c = fits (times two (plus (first c.requires.0 c.requires.1) (last c.requires.0 c.requires.1) tt) tt)

pub overflow_mul-result-2 : goal.overflow_mul-result-2
overflow_mul-result-2 c = fits (rise c.args.d c.requires.0 c.requires.2)

pub overflow_mul-result-3 : goal.overflow_mul-result-3
overflow_mul-result-3 c = fits (rise c.args.e c.requires.1 c.requires.3)

pub overflow_sub-result : goal.overflow_sub-result
overflow_sub-result c = fits (minus (rise c.args.d c.requires.0 c.requires.2) (rise c.args.e c.requires.1 c.requires.3) tt)

-- R6
middle_is : (g h : ℤ) → pos 2 *ℤ (g *ℤ g *ℤ h +ℤ g *ℤ h *ℤ h) ≡ pos 2 *ℤ g *ℤ h *ℤ (g +ℤ h)
middle_is = solve 2 (λ g h. # 2 ⊗ (g ⊗ g ⊗ h ⊕ g ⊗ h ⊗ h) ≋ # 2 ⊗ g ⊗ h ⊗ (g ⊕ h)) tt

pub returns : goal.returns
unfolding inner_row
returns c =
    let a = nat_abs c.args.g in let b = nat_abs c.args.h in
    row_made (inner_row 2 1 a b c.args.d c.args.e)
    (first c.requires.0 c.requires.1)
    (rw (middle_is (pos a) (pos b)) at (times two (plus (first c.requires.0 c.requires.1) (last c.requires.0 c.requires.1) tt) tt))
    (last c.requires.0 c.requires.1)
    (once (minus (rise c.args.d c.requires.0 c.requires.2) (rise c.args.e c.requires.1 c.requires.3) tt))
    (mul-pos (mul-pos (mul-pos (omega arith) (leg_some c.requires.0)) (leg_some c.requires.1)) (omega (arith, leg_some c.requires.0))) tt tt tt tt
