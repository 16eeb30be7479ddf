-- The definitions' digits are those that std's `{}` writes.
use mathlib.Core.Path.{◌≡◌, sym, ap}
use Prim.Native.Nat.{ℕ, suc, ◌^◌, ◌<◌}
use lib.IntN.{ℤ, pos, negsuc}
use lib.Signed.{mag}
use mir.Syntax.{w64}
use mir.Val.{SFits, to_z, of_z}
use Rattle.std.proofs.Common.{rules, arith, ◌∷◌}
use Rattle.std.proofs.lemmas.Fmt.{AppendsLastDigit, decimal_from_appends, length-decimal-le}
use Rattle.std.specs.Fmt.{decimal as std_decimal, signed_decimal as std_signed}
use mir.ValLaws.{to_z-of_z}
use Rattle.lines.specs.Lines.{digits_within, decimal, signed}

by_last_digit : AppendsLastDigit digits_within
by_last_digit = search rules

pub as_std : (n : ℕ) → n < 2 ^ 64 → std_decimal n ≡ decimal n
unfolding decimal
as_std n h = sym (decimal_from_appends digits_within by_last_digit 20 n h (length-decimal-le 20 n (omega arith) (omega arith) h))

pub signed_as_std : (z : ℤ) → mag z < 2 ^ 63 → std_signed z ≡ signed z
unfolding signed
signed_as_std (pos n) h = as_std n (omega arith)
signed_as_std (negsuc n) h = ap (λ l. 45 ∷ l) (as_std (suc n) (omega arith))

-- a callee has a signed number from its bits
pub column : (z : ℤ) → SFits w64 z → 32 ∷ signed (to_z w64 (of_z w64 z)) ≡ 32 ∷ signed z
column z f = ap (λ y. 32 ∷ signed y) (to_z-of_z w64 z f)
