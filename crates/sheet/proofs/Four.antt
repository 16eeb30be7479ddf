-- Four bytes as std reads them. For the proofs of `read32` and `read_signed`.
use mathlib.Core.Path.{◌≡◌, ap, ◌∙◌}
use mathlib.Core.List.{List, [], ◌∷◌}
use Prim.Native.Nat.{ℕ, ◌+◌}
use native.Mathlib.Omega.{arith}
use mir.Syntax.{w32}
use Rattle.std.specs.Int.{from_be_bytes}
use Rattle.std.proofs.Common.{◌<◌, Fits, w8, slice_index_or}
use Rattle.sheet.specs.Bytes.{byte, be16, be32}

pub of_four : (s : List ℕ) (at : ℕ) {bytes : List ℕ} → bytes ≡ byte s at ∷ byte s (at + 1) ∷ byte s (at + 2) ∷ byte s (at + 3) ∷ [] → from_be_bytes w32 bytes ≡ be32 s at
unfolding be16 be32
of_four s at e =
    let last : at + 2 + 1 ≡ at + 3 = omega arith in
    ap (from_be_bytes w32) e ∙ omega (arith, ap (byte s) last)

-- and they make a number of 32 bits
pub be32_fits : (s : List ℕ) (at : ℕ) → ((i : ℕ) → Fits w8 (slice_index_or s i 0)) → be32 s at < 4294967296
unfolding be16 be32
be32_fits s at h = omega (arith, (h at).fits, (h (at + 1)).fits, (h (at + 2)).fits, (h (at + 2 + 1)).fits)
