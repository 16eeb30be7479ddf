-- The sums that are kept along the legs (specs/Carried), one more at a time. For the reader's walk.
use mathlib.Core.Path.{◌≡◌, subst, ◌∙◌}
use mathlib.Core.List.{List}
use Prim.Native.Nat.{ℕ, ◌+◌, ◌*◌, ◌<◌}
use native.Mathlib.Omega.{arith}
use lib.ListN.{length, get_or, set}
use lib.Seq.{get_or-set_same, get_or-set_other}
use Rattle.integers.proofs.Order.{le_or_lt}
use Rattle.sheet.specs.Bytes.{sum_below}
use Rattle.sheet.specs.Carried.{stride}
use Rattle.sheet.specs.Fields.{leg}

-- the first b of them are kept
abbrev pub Kept : List ℕ → ℕ → List ℕ → Type 0
Kept s b sums = (c : ℕ) → c < b → get_or sums c 0 ≡ sum_below (leg s) (stride * c)

pub kept_next : (s sums : List ℕ) (b sum : ℕ) → b < length sums → sum ≡ sum_below (leg s) (stride * b) → Kept s b sums → Kept s (b + 1) (set sums b sum)
kept_next s sums b sum h e k c i =
    le_or_lt b c (get_or (set sums b sum) c 0 ≡ sum_below (leg s) (stride * c))
    (λ p. let q : b ≡ c = omega arith in subst (λ j. get_or (set sums b sum) j 0 ≡ sum_below (leg s) (stride * j)) q (get_or-set_same sums b sum 0 h ∙ e))
    (λ p. get_or-set_other sums b c sum 0 (λ q. omega arith) ∙ k c p)
