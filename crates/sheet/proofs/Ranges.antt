-- A question asked of the numbers of a range, one after the other, is the definitions' question. For the proofs of place, stretch and strokes.
use mathlib.Core.Path.{◌≡◌, refl, sym, ap, ◌∙◌}
use mathlib.Core.Bool.{Bool, ◌||◌}
use Prim.Native.Nat.{ℕ, zero, suc, ◌+◌}
use native.Mathlib.Nat.{add-zero, zero-add}
use native.Mathlib.Omega.{arith}
use Rattle.std.specs.List.{list_any, range_with_len}
use Rattle.sheet.specs.Bytes.{any_below}
use Rattle.sheet.proofs.Below.{any_append}

same_at : (p : ℕ → Bool) (a k : ℕ) → p (a + 1 + k) ≡ p (a + (1 + k))
same_at p a k = let e : a + 1 + k ≡ a + (1 + k) = omega arith in ap p e

pub any_ranged : (p : ℕ → Bool) (a n : ℕ) → list_any p (range_with_len a n) ≡ any_below (λ k. p (a + k)) n
unfolding any_below
any_ranged p a zero = refl
any_ranged p a (suc n) =
    let q : ℕ → Bool = λ k. p (a + k) in
    let first : q 0 ≡ p a = ap p (add-zero a) in
    let e : suc n ≡ 1 + n = omega arith in
    (λ i. sym first i || any_ranged p (a + 1) n i)
    ∙ (λ i. q 0 || any_below (λ k. same_at p a k i) n)
    ∙ sym (ap (any_below q) e ∙ any_append q 1 n)

-- from 0 on
pub any_counted : (p : ℕ → Bool) (n : ℕ) → list_any p (range_with_len 0 n) ≡ any_below p n
any_counted p n = any_ranged p 0 n ∙ (λ i. any_below (λ k. p (zero-add k i)) n)
