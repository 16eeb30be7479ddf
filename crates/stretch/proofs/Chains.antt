-- Chains joined, how many numbers a rising chain can have, and which; what holds of each number of two lists.
use mathlib.Core.Path.{sym, subst}
use mathlib.Core.List.{List, [], ◌∷◌, ◌++◌}
use mathlib.Core.Logic.{inl, inr, ⊎_elim}
use Prim.Native.Nat.{ℕ, ◌+◌, ◌≤◌, ◌<◌}
use native.Mathlib.Omega.{arith}
use lib.ListN.{length}
use Rattle.stretch.specs.Chains.{Chain, Among, Each}

module _ (K : ℕ → ℕ → Type 0) where
  pub join : (a b c : ℕ) (l r : List ℕ) → Chain K a l b → Chain K b r c → Chain K a (l ++ r) c
  join a b c [] r h k = subst (λ n. Chain K n r c) (sym h) k
  join a b c (x ∷ l) r (h, t) k = (h, join x b c l r t k)

  pub at_most : ((a b : ℕ) → K a b → a < b) → (a b : ℕ) (l : List ℕ) → Chain K a l b → a + length l ≤ b
  at_most rises a b [] h = omega arith
  at_most rises a b (x ∷ l) (h, t) = omega (arith, rises a x h, at_most rises x b l t)

  -- a chain that rises has its last number among its numbers
  pub last_among : (a b : ℕ) (l : List ℕ) → a < b → Chain K a l b → Among b l
  last_among a b [] h e = absurd (omega arith)
  last_among a b (x ∷ l) h (k, t) = last_of x b l t
    where
      last_of : (x b : ℕ) (l : List ℕ) → Chain K x l b → Among b (x ∷ l)
      last_of x b [] e = inl (sym e)
      last_of x b (y ∷ l) (k, t) = inr (last_of y b l t)

  -- what follows of each number and its next one holds along a chain that rises
  pub chain_map : ((a b : ℕ) → K a b → a < b) → (L : ℕ → ℕ → Type 0) (a b : ℕ) (l : List ℕ) → Chain K a l b → ((p q : ℕ) → q ≤ b → K p q → L p q) → Chain L a l b
  chain_map rises L a b [] e f = e
  chain_map rises L a b (x ∷ l) (h, t) f = (f a x (omega (arith, at_most rises x b l t)) h, chain_map rises L x b l t f)

pub among_left : (x : ℕ) (l r : List ℕ) → Among x l → Among x (l ++ r)
among_left x [] r h = absurd h
among_left x (y ∷ l) r h = ⊎_elim inl (λ k. inr (among_left x l r k)) h

pub among_right : (x : ℕ) (l r : List ℕ) → Among x r → Among x (l ++ r)
among_right x [] r h = h
among_right x (y ∷ l) r h = inr (among_right x l r h)

pub each_join : (P : ℕ → Type 0) (l r : List ℕ) → Each P l → Each P r → Each P (l ++ r)
each_join P [] r h k = k
each_join P (x ∷ l) r (h, t) k = (h, each_join P l r t k)
