-- The list functions of specs/Passes: what a turn does, lengths, what stays, and EarlyEnd. Code that goes through a list follows these laws, turn by turn.
use mathlib.Core.Path.{◌≡◌, refl, ◌∙◌, ap}
use mathlib.Core.Logic.{◌≢◌}
use mathlib.Core.List.{List, ◌++◌}
use mathlib.Core.Bool.{Bool, true, false, cond}
use Prim.Native.Nat.{ℕ, zero, suc, ◌≤◌, ◌<◌}
use native.Mathlib.Omega.{arith}
use lib.ListN.{length, set, length-set, get_or-append}
use lib.Seq.{get_or-set_other, set-get_or, set-append_left}
use lib.IntN.{ℤ, pos}
use Rattle.integers.proofs.Order.{le_or_lt}
use Rattle.systems.specs.Rows.{Rows, Dominant}
use Rattle.systems.specs.Passes.{at, target, renewed, turn, sweep, pass, passes}
use Rattle.systems.specs.Theorems.{EarlyEnd}
pub use Rattle.systems.proofs.Example as example

module _ (R : Rows) (c : ℕ) where
  -- ---- one turn
  pub turn_cases : (zs : List ℤ) (i : ℕ) (P : List ℤ → Type 0)
      → ((R.row i).present ≡ true → P (set zs i (renewed R c zs i))) → ((R.row i).present ≡ false → P zs)
      → P (turn R c zs i)
  unfolding turn
  turn_cases zs i P f g = go (R.row i).present f g
    where
      go : (b : Bool) → (b ≡ true → P (set zs i (renewed R c zs i))) → (b ≡ false → P zs) → P (cond b (set zs i (renewed R c zs i)) zs)
      go true f g = f refl
      go false f g = g refl

  pub turn_present : (zs : List ℤ) (i : ℕ) → (R.row i).present ≡ true → turn R c zs i ≡ set zs i (renewed R c zs i)
  unfolding turn
  turn_present zs i e = ap (λ (b : Bool). cond b (set zs i (renewed R c zs i)) zs) e

  pub turn_absent : (zs : List ℤ) (i : ℕ) → (R.row i).present ≡ false → turn R c zs i ≡ zs
  unfolding turn
  turn_absent zs i e = ap (λ (b : Bool). cond b (set zs i (renewed R c zs i)) zs) e

  -- a turn that finds the number that is there changes nothing
  pub turn_same : (zs : List ℤ) (i : ℕ) → renewed R c zs i ≡ at zs i → turn R c zs i ≡ zs
  turn_same zs i e = turn_cases zs i (λ l. l ≡ zs) (λ p. ap (set zs i) e ∙ set-get_or zs i (pos 0)) (λ p. refl)

  pub turn_other : (zs : List ℤ) (i j : ℕ) → j ≢ i → at (turn R c zs i) j ≡ at zs j
  turn_other zs i j n = turn_cases zs i (λ l. at l j ≡ at zs j) (λ p. get_or-set_other zs i j (renewed R c zs i) (pos 0) n) (λ p. refl)

  pub length_turn : (zs : List ℤ) (i : ℕ) → length (turn R c zs i) ≡ length zs
  length_turn zs i = turn_cases zs i (λ l. length l ≡ length zs) (λ p. length-set zs i (renewed R c zs i)) (λ p. refl)

  -- ---- a pass as far as i
  pub sweep_next : (i : ℕ) (zs : List ℤ) → sweep R c (suc i) zs ≡ turn R c (sweep R c i zs) i
  unfolding sweep
  sweep_next i zs = refl

  pub length_sweep : (i : ℕ) (zs : List ℤ) → length (sweep R c i zs) ≡ length zs
  unfolding sweep
  length_sweep zero zs = refl
  length_sweep (suc i) zs = length_turn (sweep R c i zs) i ∙ length_sweep i zs

  -- a pass that has changed nothing so far, and finds the number that is there
  pub sweep_same : (i : ℕ) (zs : List ℤ) → sweep R c i zs ≡ zs → turn R c zs i ≡ zs → sweep R c (suc i) zs ≡ zs
  unfolding sweep
  sweep_same i zs e h = ap (λ (l : List ℤ). turn R c l i) e ∙ h

  -- the numbers from i on are still the old ones
  pub sweep_rest : (i : ℕ) (zs : List ℤ) (j : ℕ) → i ≤ j → at (sweep R c i zs) j ≡ at zs j
  unfolding sweep
  sweep_rest zero zs j h = refl
  sweep_rest (suc i) zs j h = turn_other (sweep R c i zs) i j (omega arith) ∙ sweep_rest i zs j (omega arith)

  -- ---- whole passes
  pub pass_whole : (zs : List ℤ) → pass R c zs ≡ sweep R c R.size zs
  unfolding pass
  pass_whole zs = refl

  -- with no row at all, a pass changes nothing
  module _ (none : (i : ℕ) → i < R.size → (R.row i).present ≡ false) (zs : List ℤ) where
    sweep_none : (i : ℕ) → i ≤ R.size → sweep R c i zs ≡ zs
    unfolding sweep
    sweep_none zero h = refl
    sweep_none (suc i) h = sweep_same i zs (sweep_none i (omega arith)) (turn_absent zs i (none i h))

    pub pass_none : pass R c zs ≡ zs
    pass_none = pass_whole zs ∙ sweep_none R.size (omega arith)

  pub passes_next : (m : ℕ) (zs : List ℤ) → passes R c (suc m) zs ≡ pass R c (passes R c m zs)
  unfolding passes
  passes_next m zs = refl

  pub length_pass : (zs : List ℤ) → length (pass R c zs) ≡ length zs
  unfolding pass
  length_pass zs = length_sweep R.size zs

  pub length_passes : (m : ℕ) (zs : List ℤ) → length (passes R c m zs) ≡ length zs
  unfolding passes
  length_passes zero zs = refl
  length_passes (suc m) zs = length_pass (passes R c m zs) ∙ length_passes m zs

  -- the numbers past the rows stay
  pub passes_rest : (m : ℕ) (zs : List ℤ) (j : ℕ) → R.size ≤ j → at (passes R c m zs) j ≡ at zs j
  unfolding pass passes
  passes_rest zero zs j h = refl
  passes_rest (suc m) zs j h = sweep_rest R.size (passes R c m zs) j h ∙ passes_rest m zs j h

  -- ---- a longer list: what stands behind the rows' numbers is neither read nor written
  module _ {k : ℕ} (d : Dominant k R) (ys : List ℤ) where
    at_append : (zs : List ℤ) (i : ℕ) → R.size ≤ length zs → i < R.size → at (zs ++ ys) i ≡ at zs i
    at_append zs i room h = get_or-append zs ys (pos 0) i (omega arith)

    renewed_append : (zs : List ℤ) (i : ℕ) → R.size ≤ length zs → i < R.size → renewed R c (zs ++ ys) i ≡ renewed R c zs i
    unfolding renewed target
    renewed_append zs i room h = rw (at_append zs (R.prev i) room (d.prev_fits i h), at_append zs (R.next i) room (d.next_fits i h))

    turn_append : (zs : List ℤ) (i : ℕ) → R.size ≤ length zs → i < R.size → turn R c (zs ++ ys) i ≡ turn R c zs i ++ ys
    turn_append zs i room h = turn_cases zs i (λ l. turn R c (zs ++ ys) i ≡ l ++ ys)
        (λ p. turn_present (zs ++ ys) i p ∙ ap (set (zs ++ ys) i) (renewed_append zs i room h) ∙ set-append_left zs ys i (renewed R c zs i) (omega arith))
        (λ p. turn_absent (zs ++ ys) i p)

    sweep_append : (i : ℕ) (zs : List ℤ) → R.size ≤ length zs → i ≤ R.size → sweep R c i (zs ++ ys) ≡ sweep R c i zs ++ ys
    unfolding sweep
    sweep_append zero zs room h = refl
    sweep_append (suc i) zs room h = ap (λ (l : List ℤ). turn R c l i) (sweep_append i zs room (omega arith))
        ∙ turn_append (sweep R c i zs) i (omega (arith, length_sweep i zs)) h

    pub passes_append : (m : ℕ) (zs : List ℤ) → R.size ≤ length zs → passes R c m (zs ++ ys) ≡ passes R c m zs ++ ys
    unfolding pass passes
    passes_append zero zs room = refl
    passes_append (suc m) zs room =
        ap (pass R c) (passes_append m zs room)
        ∙ sweep_append R.size (passes R c m zs) (omega (arith, length_passes m zs)) (omega arith)

-- from pass to pass: the next pass finds what the settled one found
pub early_end : EarlyEnd
unfolding passes
early_end R c zs a zero h e = let q : 0 ≡ a = omega arith in ap (λ (t : ℕ). passes R c t zs) q
early_end R c zs a (suc m) h e = le_or_lt (suc m) a (passes R c (suc m) zs ≡ passes R c a zs)
    (λ g. let q : suc m ≡ a = omega arith in ap (λ (t : ℕ). passes R c t zs) q)
    (λ g. ap (pass R c) (early_end R c zs a m (omega arith) e) ∙ e)
