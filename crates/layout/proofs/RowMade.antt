-- Rows as the code makes them (src/row.rt): four numbers that are those of a row, and small enough for what is worked out from them.
use mathlib.Core.Path.{◌≡◌, refl, sym}
use mathlib.Core.List.{[], ◌∷◌}
use Prim.Native.Nat.{ℕ, ◌*◌, ◌≤◌}
use native.Mathlib.Nat.{mul-pos}
use native.Mathlib.Omega.{arith}
use lib.Dec.{T, leb, leb→le}
use lib.IntN.{ℤ, pos, nat_abs, ◌*ℤ◌}
use Rattle.integers.proofs.Linear.{lin, ◌≼◌, ◌⊢◌by◌, hyp}
use Rattle.integers.proofs.Order.{nonneg_nat, pos_le, le_pos}
use Rattle.integers.proofs.Ring.{solve, ◌≋◌, ◌⊗◌, #◌}
use Rattle.systems.specs.Rows as systems
use Rattle.layout.specs.Inside.{code_row, Leg, Sized}
use Rattle.layout.specs.declared.row.Row.{Row}
use Rattle.integers.proofs.Made.{read, Made, read_back, small, given, times}

module _ {h : ℤ} (l : Leg h) where
  leg_pos : h ≡ pos (nat_abs h)
  leg_pos = sym (nonneg_nat h (lin 1 (λ h. # 1 ≼ h ∷ [] ⊢ # 0 ≼ h by hyp 0 ∷ []) tt h l.some))

  pub leg_some : 1 ≤ nat_abs h
  leg_some = le_pos 1 (nat_abs h) (rw leg_pos at l.some)

  pub leg_made : Made h (pos (nat_abs h)) 256
  leg_made = given leg_pos l.few tt

-- the numbers that the code writes out
pub zero : Made (pos 0) (pos 0) 0
zero = given refl (omega arith) tt

pub two : Made (pos 2) (pos 2) 2
two = given refl (omega arith) tt

-- what a held end's row is made of: products of its leg h, and the leg times the slope p
module _ {h : ℤ} (l : Leg h) where
  abbrev a : ℤ
  a = pos (nat_abs h)

  pub square : Made (read h *ℤ read h) (a *ℤ a) 65_536
  square = times (leg_made l) (leg_made l) tt

  pub doubled : Made (read (pos 2) *ℤ read h) (pos 2 *ℤ a) 512
  doubled = times two (leg_made l) tt

  pub twice : Made (read (read (pos 2) *ℤ read h) *ℤ read h) (pos 2 *ℤ a *ℤ a) 131_072
  twice = times doubled (leg_made l) tt

  pub rise : (p : ℤ) → nat_abs p ≤ 5_000 → Made (read h *ℤ read p) (a *ℤ p) 1_280_000
  rise p slope = times (leg_made l) (given {y = p} refl slope tt) tt

  pub twice_some : 1 ≤ 2 * nat_abs h * nat_abs h
  twice_some = let some = leg_some l in mul-pos (mul-pos (omega arith) some) some

-- the right side of a row is taken once
pub once : {y x : ℤ} {B : ℕ} → Made y x B → Made y (pos 1 *ℤ x) B
once {x = x} m = let e : x ≡ pos 1 *ℤ x = solve 1 (λ x. x ≋ # 1 ⊗ x) tt x in rw e at m

-- the four numbers of the row w, with bounds that are small enough
module _ (w : systems.Row) {b m a r : ℤ} {B M A R : ℕ}
    (before : Made b (pos w.before) B) (middle : Made m (pos w.middle) M) (after : Made a (pos w.after) A) (right : Made r w.right R) where
  abbrev made : Row
  made = record { before = read b; middle = read m; after = read a; right = read r }

  pub row_made : 1 ≤ w.middle → T (leb B 16_777_216) → T (leb M 67_108_864) → T (leb A 16_777_216) → T (leb R 1_024_000_000)
      → (made ≡ code_row w) × Sized made
  row_made some tb tm ta tr = (
    λ i. record { before = read_back before i; middle = read_back middle i; after = read_back after i; right = read_back right i },
    record {
      some = rw (read_back middle) (pos_le 1 w.middle some);
      before = omega (arith, small before, leb→le B 16_777_216 tb);
      middle = omega (arith, small middle, leb→le M 67_108_864 tm);
      after = omega (arith, small after, leb→le A 16_777_216 ta);
      right = omega (arith, small right, leb→le R 1_024_000_000 tr);
    },
  )
