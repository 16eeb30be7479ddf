-- What holds of every number through all passes, also half way through one: there the numbers that had their turn have what m + 1 passes give, the others
-- what m give. As the former implies the latter, a turn finds both its neighbours with the latter, wherever they lie.
use mathlib.Core.Path.{◌≡◌}
use mathlib.Core.Logic.{◌≢◌}
use mathlib.Core.List.{List}
use mathlib.Core.Bool.{true, false}
use Prim.Native.Nat.{ℕ, zero, suc, ◌≤◌, ◌<◌}
use native.Mathlib.Omega.{arith}
use native.Mathlib.Decide.{ℕ_discrete}
use lib.ListN.{length}
use lib.Seq.{get_or-set_same}
use lib.IntN.{ℤ, pos}
use Rattle.systems.specs.Rows.{Rows}
use Rattle.systems.specs.Passes.{at, renewed, turn, sweep, pass, passes}
use Rattle.systems.proofs.Lists.{turn_cases, turn_other, length_sweep, length_passes}

-- P of every number that belongs to a row
abbrev pub Each : Rows → (ℕ → ℤ → Type 0) → List ℤ → Type 0
Each R P zs = (j : ℕ) → j < R.size → P j (at zs j)

-- P m j z, a property of the number z at index j after m passes, is kept: a turn at i that finds P m everywhere leaves P (m + 1) at i
pub record Invariant (R : Rows) (c : ℕ) (P : ℕ → ℕ → ℤ → Type 0) : Type 0 where
  pub weaker : (m j : ℕ) (z : ℤ) → P (suc m) j z → P m j z
  pub new : (m : ℕ) (zs : List ℤ) → Each R (P m) zs → (i : ℕ) → i < R.size → (R.row i).present ≡ true → P (suc m) i (renewed R c zs i)
  pub old : (m i : ℕ) (z : ℤ) → i < R.size → (R.row i).present ≡ false → P m i z → P (suc m) i z

-- after a turn at i: what holds there of the new number, or of the old one where there is no row, and elsewhere of the old numbers
after_turn : (R : Rows) (c : ℕ) (zs : List ℤ) (i : ℕ) → i < length zs → (P : ℕ → ℤ → Type 0)
    → ((R.row i).present ≡ true → P i (renewed R c zs i)) → ((R.row i).present ≡ false → P i (at zs i))
    → (j : ℕ) → (j ≢ i → P j (at zs j)) → P j (at (turn R c zs i) j)
after_turn R c zs i h P new old j others = go (ℕ_discrete j i)
  where
    here : P i (at (turn R c zs i) i)
    here = turn_cases R c zs i (λ l. P i (at l i)) (λ p. rw (get_or-set_same zs i (renewed R c zs i) (pos 0) h) (new p)) old

    go : Dec (j ≡ i) → P j (at (turn R c zs i) j)
    go (yes e) = rw e here
    go (no n) = rw (turn_other R c zs i j n) (others n)

module _ (R : Rows) (c : ℕ) (P : ℕ → ℕ → ℤ → Type 0) (kept : Invariant R c P) where
  -- half way through a pass: every number has P m, those below i have P (m + 1)
  Through : ℕ → ℕ → List ℤ → Type 0
  Through m i zs = (j : ℕ) → j < R.size → P m j (at zs j) × (j < i → P (suc m) j (at zs j))

  turn_through : (m i : ℕ) (zs : List ℤ) → R.size ≤ length zs → i < R.size → Through m i zs → Through m (suc i) (turn R c zs i)
  unfolding Through
  turn_through m i zs room h t j g = (
    after_turn R c zs i fits (P m) (λ p. kept.weaker m i (renewed R c zs i) (new p)) (λ p. (t i h).0) j (λ n. (t j g).0),
    λ l. after_turn R c zs i fits (P (suc m)) new (λ p. kept.old m i (at zs i) h p (t i h).0) j (λ n. (t j g).1 (omega arith)),
  )
    where
      fits : i < length zs
      fits = omega arith

      new : (R.row i).present ≡ true → P (suc m) i (renewed R c zs i)
      new = kept.new m zs (λ j g. (t j g).0) i h

  sweep_through : (m : ℕ) (zs : List ℤ) → R.size ≤ length zs → Each R (P m) zs → (i : ℕ) → i ≤ R.size → Through m i (sweep R c i zs)
  unfolding sweep Through
  sweep_through m zs room start zero h = λ j g. (start j g, λ l. absurd (omega arith))
  sweep_through m zs room start (suc i) h =
      turn_through m i (sweep R c i zs) (omega (arith, length_sweep R c i zs)) h (sweep_through m zs room start i (omega arith))

  module _ (zs : List ℤ) (room : R.size ≤ length zs) (start : Each R (P 0) zs) where
    passes_hold : (m : ℕ) → Each R (P m) (passes R c m zs)
    unfolding pass passes Through
    passes_hold zero j h = start j h
    passes_hold (suc m) j h = (sweep_through m (passes R c m zs) (omega (arith, length_passes R c m zs)) (passes_hold m) R.size (omega arith) j h).1 h

    pub sweeps_hold : (m i j : ℕ) → i ≤ R.size → j < R.size → P m j (at (sweep R c i (passes R c m zs)) j)
    unfolding Through
    sweeps_hold m i j h g = (sweep_through m (passes R c m zs) (omega (arith, length_passes R c m zs)) (passes_hold m) i h j g).0
