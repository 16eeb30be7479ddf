-- Arithmetic on i64 as the code's needs state it: each operand is read back from its bits. A number that the code makes is the one that is meant as long as
-- its size, bounded step by step, is below 2^63. For functions that compute with sized numbers.
use mathlib.Core.Path.{◌≡◌, refl, ◌∙◌}
use Prim.Native.Nat.{ℕ, ◌+◌, ◌*◌, ◌^◌, ◌≤◌, ◌<◌}
use native.Mathlib.Omega.{arith}
use lib.Dec.{T, ltb, ltb→lt}
use lib.IntN.{ℤ, nat_abs, ◌+ℤ◌, ◌-ℤ◌, ◌*ℤ◌}
use lib.Signed.{mag}
use mir.Syntax.{w64}
use mir.Val.{SFits, to_z, of_z}
use Rattle.integers.proofs.Machine.{fits_abs, back, fits_back}
use Rattle.integers.proofs.Order.{abs_add, abs_sub, abs_mul_le}

-- the number y read back from its bits
abbrev pub read : ℤ → ℤ
read y = to_z w64 (of_z w64 y)

-- y, which the code made, is x, of size at most B
pub record Made (y x : ℤ) (B : ℕ) : Type 0 where
  pub same : y ≡ x
  pub size : nat_abs x ≤ B
  pub room : B < 2 ^ 63

module _ {y x : ℤ} {B : ℕ} (m : Made y x B) where
  x_fits : SFits w64 x
  x_fits = fits_abs x (omega (arith, m.size, m.room))

  pub fits : SFits w64 y
  fits = fits_back m.same x_fits

  pub read_back : read y ≡ x
  read_back = back m.same x_fits

  pub small : nat_abs (read y) ≤ B
  small = rw read_back m.size

-- a number that is given, as itself or by what it is known to be
pub given : {y x : ℤ} {B : ℕ} → y ≡ x → nat_abs x ≤ B → T (ltb B (2 ^ 63)) → Made y x B
given {B = B} e h t = record { same = e; size = h; room = ltb→lt B (2 ^ 63) t }

-- a call's result, read back: it fits, as the call's `ok` says
pub passed : {y x : ℤ} → y ≡ x → mag y < 2 ^ 63 → read y ≡ x
passed {y} e ok = back refl (record { sfits = ok }) ∙ e

-- what a call ensures: what its result is, and how large at most
pub returned : {y x : ℤ} {B : ℕ} → (y ≡ x) × (nat_abs y ≤ B) → T (ltb B (2 ^ 63)) → Made y x B
returned (e, h) t = given e (rw e at h) t

module _ {a b x y : ℤ} {B C : ℕ} (m : Made a x B) (n : Made b y C) where
  pub times : T (ltb (B * C) (2 ^ 63)) → Made (read a *ℤ read b) (x *ℤ y) (B * C)
  times t = given (λ i. read_back m i *ℤ read_back n i) (abs_mul_le x y m.size n.size) t

  pub plus : T (ltb (B + C) (2 ^ 63)) → Made (read a +ℤ read b) (x +ℤ y) (B + C)
  plus t = given (λ i. read_back m i +ℤ read_back n i) (omega (arith, abs_add x y, m.size, n.size)) t

  pub minus : T (ltb (B + C) (2 ^ 63)) → Made (read a -ℤ read b) (x -ℤ y) (B + C)
  minus t = given (λ i. read_back m i -ℤ read_back n i) (omega (arith, abs_sub x y, m.size, n.size)) t
