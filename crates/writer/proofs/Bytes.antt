-- A number and its bytes, both ways: what is written is read back, and what is read is written again. For Sections and crate written.
use mathlib.Core.Path.{◌≡◌, refl, sym, ap, ◌∙◌}
use mathlib.Core.List.{List, [], ◌∷◌, ◌++◌}
use Prim.Native.Nat.{ℕ, suc, ◌+◌, ◌-◌, ◌/◌, ◌%◌, ◌≤◌, ◌<◌}
use native.Mathlib.Numerals.{add-one}
use native.Mathlib.Omega.{arith}
use lib.IntN.{ℤ, pos, negsuc, nat_abs}
use lib.ListN.{length, drop}
use lib.Seq.{drop-cons}
use Rattle.std.specs.Int.{w64, cast_unsigned, bytes_high_first}
use Rattle.integers.proofs.Order.{le_or_lt}
use Rattle.sheet.specs.Bytes.{byte, be16, be32, signed32}
use Rattle.sheet.proofs.Numbers.{signed_low, signed_high}
use Rattle.writer.specs.Sheets.{bytes16, bytes32, bits32, number_bytes}

-- ---- two's complement
pub signed_bits : (z : ℤ) → nat_abs z < 2147483648 → signed32 (bits32 z) ≡ z
signed_bits (pos n) h = signed_low n h
signed_bits (negsuc n) h = signed_high (4294967295 - n) (omega arith) (omega arith) ∙ ap negsuc (omega arith)

bits_signed : (x : ℕ) → x < 4294967296 → bits32 (signed32 x) ≡ x
bits_signed x h =
    le_or_lt 2147483648 x (bits32 (signed32 x) ≡ x)
    (λ k. ap bits32 (signed_high x k h) ∙ omega arith)
    (λ k. ap bits32 (signed_low x k))

pub bits_small : (z : ℤ) → nat_abs z < 2147483648 → bits32 z < 4294967296
bits_small (pos n) h = omega arith
bits_small (negsuc n) h = omega arith

-- the lowest four of a machine number's eight bytes are those of its 32 bits
pub low_bits : (z : ℤ) → nat_abs z < 2147483648 → bytes_high_first 4 (cast_unsigned w64 z) ≡ number_bytes z
low_bits (pos n) h = refl
low_bits (negsuc n) h =
    let x = 18446744073709551616 - suc n in let y = 4294967295 - n in
    let a : x / 16_777_216 % 256 ≡ y / 16_777_216 % 256 = omega arith in let b : x / 65_536 % 256 ≡ y / 65_536 % 256 = omega arith in
    let c : x / 256 % 256 ≡ y / 256 % 256 = omega arith in let d : x % 256 ≡ y % 256 = omega arith in
    (λ i. a i ∷ b i ∷ c i ∷ d i ∷ [])

-- ---- the bytes of n stand at a place: it is read there
module _ (s : List ℕ) where
  pub read_two : (at n : ℕ) → n < 65536 → byte s at ≡ n / 256 % 256 → byte s (at + 1) ≡ n % 256 → be16 s at ≡ n
  unfolding be16
  read_two at n h a b = omega arith

  pub read_four : (at n : ℕ) → n < 4294967296 → byte s at ≡ n / 16_777_216 % 256 → byte s (at + 1) ≡ n / 65_536 % 256
      → byte s (at + 2) ≡ n / 256 % 256 → byte s (at + 2 + 1) ≡ n % 256 → be32 s at ≡ n
  unfolding be32
  read_four at n h a b c d =
      let first : n / 16_777_216 % 256 ≡ n / 65_536 / 256 % 256 = omega arith in
      let third : n / 256 % 256 ≡ n % 65_536 / 256 % 256 = omega arith in
      let fourth : n % 256 ≡ n % 65_536 % 256 = omega arith in
      let high = read_two at (n / 65_536) (omega arith) (a ∙ first) b in
      let low = read_two (at + 2) (n % 65_536) (omega arith) (c ∙ third) (d ∙ fourth) in
      omega arith

-- ---- the bytes of what is read are those that stand there
module _ (s : List ℕ) (small : (i : ℕ) → byte s i < 256) where
  pub next : (at : ℕ) → at < length s → drop at s ≡ byte s at ∷ drop (at + 1) s
  next at h = drop-cons s at 0 h ∙ ap (λ k. byte s at ∷ drop k s) (sym (add-one at))

  pub two_again : (at : ℕ) → at + 2 ≤ length s → bytes16 (be16 s at) ++ drop (at + 2) s ≡ drop at s
  unfolding be16
  two_again at h =
      let a = small at in let b = small (at + 1) in
      let e : be16 s at / 256 % 256 ≡ byte s at = omega arith in
      let f : be16 s at % 256 ≡ byte s (at + 1) = omega arith in
      let up : at + 1 + 1 ≡ at + 2 = omega arith in
      (λ i. e i ∷ f i ∷ drop (at + 2) s)
      ∙ sym (next at (omega arith) ∙ ap (λ l. byte s at ∷ l) (next (at + 1) (omega arith) ∙ ap (λ k. byte s (at + 1) ∷ drop k s) up))

  word_small : (at : ℕ) → be32 s at < 4294967296
  unfolding be16 be32
  word_small at = omega (arith, small at, small (at + 1), small (at + 2), small (at + 2 + 1))

  half_small : (at : ℕ) → be16 s at < 65536
  unfolding be16
  half_small at = omega (arith, small at, small (at + 1))

  pub four_again : (at : ℕ) → at + 4 ≤ length s → bytes32 (be32 s at) ++ drop (at + 4) s ≡ drop at s
  unfolding be32
  four_again at h =
      let a = half_small at in let b = half_small (at + 2) in
      let e : be32 s at / 16_777_216 % 256 ≡ be16 s at / 256 % 256 = omega arith in
      let f : be32 s at / 65_536 % 256 ≡ be16 s at % 256 = omega arith in
      let g : be32 s at / 256 % 256 ≡ be16 s (at + 2) / 256 % 256 = omega arith in
      let k : be32 s at % 256 ≡ be16 s (at + 2) % 256 = omega arith in
      let up : at + 4 ≡ at + 2 + 2 = omega arith in
      (λ i. e i ∷ f i ∷ g i ∷ k i ∷ drop (up i) s)
      ∙ ap (λ l. bytes16 (be16 s at) ++ l) (two_again (at + 2) (omega arith))
      ∙ two_again at (omega arith)

  pub number_again : (at : ℕ) → at + 4 ≤ length s → number_bytes (signed32 (be32 s at)) ++ drop (at + 4) s ≡ drop at s
  number_again at h = ap (λ n. bytes32 n ++ drop (at + 4) s) (bits_signed (be32 s at) (word_small at)) ∙ four_again at h
