-- A course's strokes, leg by leg: what the code asks of each leg, and the ends as a chain from 0 to P. For crate drawn too.
use mathlib.Core.Path.{◌≡◌, refl, ap, ◌∙◌}
use mathlib.Core.Bool.{true}
use mathlib.Core.List.{List, [], ◌∷◌, ◌++◌}
use Prim.Native.Nat.{ℕ, zero, suc, ◌+◌, ◌≤◌, ◌<◌}
use native.Mathlib.Numerals.{add-one}
use native.Mathlib.Omega.{arith}
use borrow.Author.Tests.{eq-eqb, ne_eqb}
use lib.IntN.{ℤ}
use lib.ListN.{length}
use lib.Seq.{sets}
use Rattle.integers.proofs.Order.{le_or_lt}
use Rattle.sheet.specs.Bytes.{sum_below}
use Rattle.sheet.specs.Fields.{points, legs, leg}
use Rattle.sheet.specs.Reading.{Accepted}
use Rattle.sheet.proofs.Below.{sum_monotone}
use Rattle.sheet.proofs.Laws.{accepted_bounds}
use Rattle.spline.specs.Spline.{next}
use Rattle.layout.specs.Course.{course}
use Rattle.place.specs.Places.{end_of}
use Rattle.stretch.specs.Stretches.{kept}
use Rattle.strokes.specs.Strokes.{places_on, leg_ends, ends_below}
use Rattle.stretch.specs.Chains.{Chain}
use Rattle.stretch.proofs.Chains.{join, at_most}
use Rattle.stretch.proofs.Ends.{chain}
use Rattle.stretch.proofs.Stretches.{short_kept, sets_append}

pub end_inside : (s : List ℕ) (i : ℕ) → i < points s → end_of s i < points s
unfolding next course
end_inside s i h =
    le_or_lt (points s) (suc i) (end_of s i < points s)
    (λ k. rw (eq-eqb (suc i) (points s) (omega arith)) (omega arith))
    (λ k. rw (ne_eqb (suc i) (points s) (λ e. omega arith)) k)

-- the next leg starts where this one ends, at P at the latest
pub leg_ends_by : (s : List ℕ) → Accepted s → (i : ℕ) → i < legs s → sum_below (leg s) i + leg s i ≤ 131_072
unfolding sum_below
leg_ends_by s a i h = omega (arith, sum_monotone (leg s) (suc i) (legs s) h, (accepted_bounds s a).few_ticks)

-- ---- the ends of the first legs, 0 in front
module _ (s : List ℕ) (a : Accepted s) (list : List ℤ) (t : ℕ) (K : ℕ → ℕ → Type 0)
    (stroke : (i : ℕ) → i < legs s → (b m : ℕ) → 1 ≤ m → b + m ≤ leg s i → kept t (places_on s list i) b m ≡ true → K (sum_below (leg s) i + b) (sum_below (leg s) i + (b + m))) where
  pub record Ends (k : ℕ) : Type 0 where
    pub rest : List ℕ
    pub is_ends : ends_below s list t k ≡ 0 ∷ rest
    pub chained : Chain K 0 rest (sum_below (leg s) k)

  pub leg_chain : (i : ℕ) → i < legs s → Chain K (sum_below (leg s) i) (leg_ends s list t i) (sum_below (leg s) (suc i))
  unfolding sum_below
  leg_chain i h =
      let from = sum_below (leg s) i in
      let e : from + 0 ≡ from = omega arith in let f : from + (0 + leg s i) ≡ from + leg s i = omega arith in
      rw (e, f) at
      (chain (kept t (places_on s list i)) from (short_kept t (places_on s list i)) K (leg s i) (stroke i h) (leg s i) 0 (leg s i)
      (omega arith) ((accepted_bounds s a).leg_low i h) (omega arith))

  pub ends_below_lem : (k : ℕ) → k ≤ legs s → Ends k
  unfolding ends_below sum_below
  ends_below_lem zero h = record { rest = []; is_ends = refl; chained = refl }
  ends_below_lem (suc k) h =
      let e = ends_below_lem k (omega arith) in
      record {
        rest = e.rest ++ leg_ends s list t k;
        is_ends = ap (λ x. x ++ leg_ends s list t k) e.is_ends;
        chained = join K 0 (sum_below (leg s) k) (sum_below (leg s) (suc k)) e.rest (leg_ends s list t k) e.chained (leg_chain k h);
      }

-- at most one end for each tick passed
pub few_below : (s : List ℕ) → Accepted s → (list : List ℤ) (t k : ℕ) → k ≤ legs s → length (ends_below s list t k) ≤ sum_below (leg s) k + 1
few_below s a list t k h =
    let e = ends_below_lem s a list t ◌<◌ (λ i h b m some fits q. omega arith) k h in
    omega (arith, ap length e.is_ends, at_most ◌<◌ (λ a b h. h) 0 (sum_below (leg s) k) e.rest e.chained)

-- one leg more, as the loop counts
pub ends_step : (s : List ℕ) (list : List ℤ) (t k : ℕ) → ends_below s list t (k + 1) ≡ ends_below s list t k ++ leg_ends s list t k
unfolding ends_below
ends_step s list t k = ap (ends_below s list t) (add-one k)

pub sets_more : (x y out : List ℕ) → sets (sets out 0 x) (length x) y ≡ sets out 0 (x ++ y)
sets_more x y out = let e : length x ≡ 0 + length x = omega arith in ap (λ k. sets (sets out 0 x) k y) e ∙ sets_append x y out 0
