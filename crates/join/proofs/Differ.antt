-- Whole numbers that differ (specs/Joining): what it says that two do not, and that the code compares three at once.
use mathlib.Core.Path.{◌≡◌, refl, sym, ap, ◌∙◌}
use mathlib.Core.Bool.{Bool, true, false, not, ◌&&◌, ◌||◌, false≢true}
use mathlib.Core.List.{[], ◌∷◌}
use Prim.Native.Nat.{ℕ}
use native.Mathlib.Omega.{arith}
use borrow.Author.Tests.{le-ltb, ltb-false}
use lib.Dec.{ltb}
use lib.IntN.{ℤ, pos, negsuc}
use Rattle.std.proofs.Common.{int_eq}
use Rattle.std.specs.Cmp.Lexicographic.{pointwise}
use Rattle.std.proofs.lemmas.Bool.Decides.{Decides-int_eq}
use Rattle.sheet.proofs.Below.{or_left, or_right}
use Rattle.join.specs.Joining.{differ}

pub same_not : (x : ℤ) → differ x x ≡ false
same_not (pos n) = rw (le-ltb n n (omega arith))
same_not (negsuc n) = rw (le-ltb n n (omega arith))

-- neither below nor above: equal
level : (m n : ℕ) → (ltb m n || ltb n m) ≡ false → m ≡ n
level m n e = omega (arith, ltb-false m n (or_left (ltb m n) (ltb n m) e), ltb-false n m (or_right (ltb m n) (ltb n m) e))

pub not_differ : (x y : ℤ) → differ x y ≡ false → x ≡ y
not_differ (pos m) (pos n) e = ap pos (level m n e)
not_differ (pos m) (negsuc n) e = absurd (false≢true (sym e))
not_differ (negsuc m) (pos n) e = absurd (false≢true (sym e))
not_differ (negsuc m) (negsuc n) e = ap negsuc (sym (level n m e))

-- as the code compares two numbers ..
eq_differ : (x y : ℤ) → not (int_eq x y) ≡ differ x y
eq_differ x y = go (int_eq x y) (differ x y) refl refl
  where
    go : (b d : Bool) → int_eq x y ≡ b → differ x y ≡ d → not b ≡ d
    go true d e h = let same : x ≡ y = (Decides-int_eq x y).0 e in sym (sym h ∙ ap (differ x) (sym same) ∙ same_not x)
    go false true e h = refl
    go false false e h = absurd (false≢true (sym e ∙ (Decides-int_eq x y).1 (not_differ x y h)))

-- .. and threes of them
not_all : (p q r : Bool) → not (p && (q && (r && true))) ≡ (not p || not q || not r)
not_all false q r = refl
not_all true false r = refl
not_all true true false = refl
not_all true true true = refl

pub threes_differ : (x y z u v w : ℤ) → not (pointwise int_eq (x ∷ y ∷ z ∷ []) (u ∷ v ∷ w ∷ [])) ≡ (differ x u || differ y v || differ z w)
threes_differ x y z u v w =
    not_all (int_eq x u) (int_eq y v) (int_eq z w) ∙ (λ i. eq_differ x u i || eq_differ y v i || eq_differ z w i)
