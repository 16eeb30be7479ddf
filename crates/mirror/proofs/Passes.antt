-- Why passes over mirrored rows leave negated numbers: what is divided is negated, so what is rounded is (RoundedMirrored), turn by turn.
-- (The worked image is named so that it is checked first.)
use mathlib.Core.Path.{◌≡◌, refl, ap, ◌∙◌}
use mathlib.Core.Bool.{Bool, true, false, cond}
use mathlib.Core.List.{List, [], ◌∷◌}
use Prim.Native.Nat.{ℕ, zero, suc, ◌≤◌, ◌<◌}
use native.Mathlib.Omega.{arith}
use lib.IntN.{ℤ, pos, neg_ℤ, ◌-ℤ◌, ◌*ℤ◌}
use lib.ListN.{set, replicate, get_or-map}
use Rattle.integers.proofs.Ring.{solve, ◌≋◌, ◌⊖◌, ◌⊗◌, ⊝◌}
use Rattle.rounding.specs.Rounded.{rounded}
use Rattle.rounding.proofs.Laws.{rounded_mirrored}
use Rattle.systems.specs.Rows.{Row, Rows}
use Rattle.systems.specs.Passes.{at, target, renewed, turn, sweep, pass, passes}
use Rattle.mirror.specs.Images.{negated, MirrorRows}
use Rattle.mirror.specs.Theorems.{PassesMirrored}
pub use Rattle.mirror.proofs.Worked as worked

-- ---- lists
negated_set : (zs : List ℤ) (i : ℕ) (z : ℤ) → set (negated zs) i (neg_ℤ z) ≡ negated (set zs i z)
negated_set [] i z = refl
negated_set (x ∷ xs) zero z = refl
negated_set (x ∷ xs) (suc i) z = ap (λ (l : List ℤ). neg_ℤ x ∷ l) (negated_set xs i z)

pub at_negated : (zs : List ℤ) (i : ℕ) → at (negated zs) i ≡ neg_ℤ (at zs i)
at_negated zs i = get_or-map neg_ℤ zs i (pos 0)

-- zeros are their own image
pub negated_zeros : (n : ℕ) → negated (replicate n (pos 0)) ≡ replicate n (pos 0)
negated_zeros zero = refl
negated_zeros (suc n) = ap (λ (l : List ℤ). pos 0 ∷ l) (negated_zeros n)

-- ---- passes
module _ (R S : Rows) (mirror : MirrorRows R S) (c : ℕ) where
  module _ (zs : List ℤ) (i : ℕ) (h : i < R.size) where
    abbrev r : Row
    r = R.row i

    target_mirrored : target S c (negated zs) i ≡ neg_ℤ (target R c zs i)
    unfolding target
    target_mirrored =
        (λ j. let q = mirror.row i h j in
        pos c *ℤ q.right -ℤ pos q.before *ℤ at (negated zs) (mirror.prev i h j) -ℤ pos q.after *ℤ at (negated zs) (mirror.next i h j))
        ∙ (λ j. pos c *ℤ neg_ℤ r.right -ℤ pos r.before *ℤ at_negated zs (R.prev i) j -ℤ pos r.after *ℤ at_negated zs (R.next i) j)
        ∙ solve 6 (λ c e b x a y. c ⊗ ⊝ e ⊖ b ⊗ ⊝ x ⊖ a ⊗ ⊝ y ≋ ⊝ (c ⊗ e ⊖ b ⊗ x ⊖ a ⊗ y)) tt
        (pos c) r.right (pos r.before) (at zs (R.prev i)) (pos r.after) (at zs (R.next i))

    renewed_mirrored : renewed S c (negated zs) i ≡ neg_ℤ (renewed R c zs i)
    unfolding renewed
    renewed_mirrored = (λ j. rounded (target_mirrored j) (mirror.row i h j).middle) ∙ rounded_mirrored (target R c zs i) r.middle

    turn_mirrored : turn S c (negated zs) i ≡ negated (turn R c zs i)
    unfolding turn
    turn_mirrored = (λ j. cond (mirror.row i h j).present (set (negated zs) i (renewed_mirrored j)) (negated zs)) ∙ go r.present
      where
        go : (b : Bool) → cond b (set (negated zs) i (neg_ℤ (renewed R c zs i))) (negated zs) ≡ negated (cond b (set zs i (renewed R c zs i)) zs)
        go true = negated_set zs i (renewed R c zs i)
        go false = refl

  sweep_mirrored : (i : ℕ) (zs : List ℤ) → i ≤ R.size → sweep S c i (negated zs) ≡ negated (sweep R c i zs)
  unfolding sweep
  sweep_mirrored zero zs h = refl
  sweep_mirrored (suc i) zs h = ap (λ (l : List ℤ). turn S c l i) (sweep_mirrored i zs (omega arith)) ∙ turn_mirrored (sweep R c i zs) i h

  pass_mirrored : (zs : List ℤ) → pass S c (negated zs) ≡ negated (pass R c zs)
  unfolding pass
  pass_mirrored zs = ap (λ (n : ℕ). sweep S c n (negated zs)) mirror.size ∙ sweep_mirrored R.size zs (omega arith)

pub passes_mirrored : PassesMirrored
unfolding passes
passes_mirrored R S mirror c zero zs = refl
passes_mirrored R S mirror c (suc m) zs = ap (pass S c) (passes_mirrored R S mirror c m zs) ∙ pass_mirrored R S mirror c (passes R c m zs)
