-- What the recursion knows of its parts: the shortest stretch is kept, and what the ends of two parts add to the list.
use mathlib.Core.Path.{◌≡◌, ap, ◌∙◌}
use mathlib.Core.Bool.{true}
use mathlib.Core.List.{List, [], ◌∷◌, ◌++◌}
use Prim.Native.Nat.{ℕ, suc, ◌+◌, ◌<◌}
use native.Mathlib.Nat.{add-zero}
use native.Mathlib.Omega.{arith}
use borrow.Author.Tests.{lt-ltb}
use lib.IntN.{ℤ}
use lib.ListN.{length, set}
use lib.Seq.{sets}
use Rattle.stretch.specs.Stretches.{kept}

-- H2: one tick is kept
pub short_kept : (t : ℕ) (x : ℕ → ℕ → ℤ) (a m : ℕ) → m < 2 → kept t x a m ≡ true
short_kept t x a m h = rw (lt-ltb m 2 h)

-- two runs of stores, one after the other
pub sets_append : {A : Type 0} (xs ys l : List A) (n : ℕ) → sets (sets l n xs) (n + length xs) ys ≡ sets l n (xs ++ ys)
sets_append [] ys l n = ap (λ k. sets l k ys) (add-zero n)
sets_append (x ∷ xs) ys l n =
    let e : n + suc (length xs) ≡ suc n + length xs = omega arith in
    ap (λ k. sets (sets (set l n x) (suc n) xs) k ys) e ∙ sets_append xs ys (set l n x) (suc n)
