-- A solver for polynomial identities over ℤ, by reflection: `solve 2 (λ a b. (a ⊕ b) ⊗ (a ⊖ b) ≋ a ⊗ a ⊖ b ⊗ b) tt` proves that identity at all a, b.
-- An expression is brought to Horner form; an identity holds where the form of the difference of its sides has only zeros, which the checker computes.
use mathlib.Core.Path.{◌≡◌, sym, ◌∙◌}
use mathlib.Core.List.{List, [], ◌∷◌}
use mathlib.Core.Bool.{Bool}
use Prim.Native.Nat.{ℕ, zero, suc}
use lib.Dec.{T}
use lib.IntN.{ℤ, pos, ◌-ℤ◌, +ℤ_idl, -ℤ-+ℤ_cancel}
pub use Rattle.integers.proofs.Horner.{Expr, var, lit, ◌⊕◌, ◌⊖◌, ◌⊗◌, ⊝◌, #◌, head, tail, nth, meaning, Horner, con, hor, evaluate, normal, all_zero, swap_middle, normal_sound, both_left, both_right, all_zero_sound}

infix 84 ◌≋◌
pub eq_of_sub : (a b : ℤ) → a -ℤ b ≡ pos 0 → a ≡ b
eq_of_sub a b e = cc (-ℤ-+ℤ_cancel a b, +ℤ_idl b)

-- ---- a statement about n numbers, from a function of n variables
abbrev pub Over : Type 0 → ℕ → Type 0
Over R zero = R
Over R (suc n) = Expr → Over R n

-- the function at the variables i, i + 1, ..
abbrev pub at_variables : (R : Type 0) (n i : ℕ) → Over R n → R
at_variables R zero i q = q
at_variables R (suc n) i f = at_variables R n (suc i) (f (var i))

abbrev pub ForAll : ℕ → (List ℤ → Type 0) → Type 0
ForAll zero K = K []
ForAll (suc n) K = (x : ℤ) → ForAll n (λ ρ. K (x ∷ ρ))

pub for_all : (n : ℕ) (K : List ℤ → Type 0) → ((ρ : List ℤ) → K ρ) → ForAll n K
for_all zero K h = h []
for_all (suc n) K h = λ x. for_all n (λ ρ. K (x ∷ ρ)) (λ ρ. h (x ∷ ρ))

-- ---- the solver
pub data Identity : Type 0 where
  ◌≋◌ : Expr → Expr → Identity

abbrev pub identical : Identity → Bool
identical (e ≋ f) = all_zero (normal (e ⊖ f))

abbrev pub Equates : Identity → List ℤ → Type 0
Equates (e ≋ f) ρ = meaning e ρ ≡ meaning f ρ

identity_sound : (q : Identity) → T (identical q) → (ρ : List ℤ) → Equates q ρ
identity_sound (e ≋ f) t ρ = eq_of_sub (meaning e ρ) (meaning f ρ) (sym (normal_sound (e ⊖ f) ρ) ∙ all_zero_sound (normal (e ⊖ f)) ρ t)

pub solve : (n : ℕ) (f : Over Identity n) → T (identical (at_variables Identity n 0 f)) → ForAll n (Equates (at_variables Identity n 0 f))
solve n f t = for_all n (Equates (at_variables Identity n 0 f)) (identity_sound (at_variables Identity n 0 f) t)
