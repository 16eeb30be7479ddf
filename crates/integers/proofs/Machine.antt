-- Signed 64-bit numbers as the code's needs state them: what fits, and what the machine reads back of a number that it has made.
-- For the proofs of functions that compute with i64.
use mathlib.Core.Path.{◌≡◌, sym, ◌∙◌, ap, subst}
use Prim.Native.Nat.{◌<◌, ◌^◌}
use native.Mathlib.Omega.{arith}
use lib.IntN.{ℤ, pos, negsuc, nat_abs}
use mir.Syntax.{w64}
use mir.Val.{SFits, to_z, of_z}
use mir.ValLaws.{to_z-of_z}

-- a number whose size is below 2 ^ 63 fits
pub fits_abs : (z : ℤ) → nat_abs z < 2 ^ 63 → SFits w64 z
fits_abs (pos n) h = record { sfits = h }
fits_abs (negsuc n) h = record { sfits = omega arith }

-- y, which the code made, is the number x that is meant: read back it is x, and it fits as x does
pub back : {x y : ℤ} → y ≡ x → SFits w64 x → to_z w64 (of_z w64 y) ≡ x
back {x} e f = ap (λ (v : ℤ). to_z w64 (of_z w64 v)) e ∙ to_z-of_z w64 x f

pub fits_back : {x y : ℤ} → y ≡ x → SFits w64 x → SFits w64 y
fits_back e f = subst (SFits w64) (sym e) f
