-- `omega` for ℤ: each number is a difference of two naturals, each expression too, and a statement about ℤ follows from the one about ℕ, which is `omega`'s.
-- `viaℕ 3 (λ a b c. a ≼ b ∷ b ≼ c ∷ [] ⊩ a ≼ c) (omega arith)` proves (a b c : ℤ) → a ≤ℤ b → b ≤ℤ c → a ≤ℤ c. For linear facts; no certificate.
use mathlib.Core.Path.{◌≡◌, sym}
use mathlib.Core.List.{List, [], ◌∷◌}
use mathlib.Core.Bool.{Bool, true, false}
use Prim.Native.Nat.{ℕ, suc, ◌+◌, ◌*◌, ◌≤◌, ◌<◌}
use native.Mathlib.Omega.{arith}
use lib.IntN.{ℤ, pos, negsuc, ◌-ℤ◌, +ℤ_idl, +ℤ_idr}
use lib.Signed.{◌≤ℤ◌}
use Rattle.integers.proofs.Ring.{Expr, var, lit, ◌⊕◌, ◌⊖◌, ◌⊗◌, ⊝◌, #◌, nth, meaning, Over, at_variables, ForAll, for_all, solve, ◌≋◌}
use Rattle.integers.proofs.Order.{pos_le, le_pos}
use Rattle.integers.proofs.Linear.{Fact, ◌≐◌, ◌≼◌, ◌≺◌, ∣◌∣≼◌, Means, Given, Implies, implies, lin, ◌⊢◌by◌, hyp, low}

infix 3 ◌⊩◌
-- ---- the two parts of a number: what is added (`true`) and what is taken away (`false`)
abbrev pub part : Bool → ℤ → ℕ
part true (pos k) = k
part true (negsuc k) = 0
part false (pos k) = 0
part false (negsuc k) = suc k

split : (z : ℤ) → z ≡ pos (part true z) -ℤ pos (part false z)
split (pos k) = sym (+ℤ_idr (pos k))
split (negsuc k) = sym (+ℤ_idl (negsuc k))

-- and of an expression, by those of its variables
abbrev pub parts : Bool → Expr → (Bool → ℕ → ℕ) → ℕ
parts b (var i) p = p b i
parts b (lit z) p = part b z
parts b (e ⊕ f) p = parts b e p + parts b f p
parts true (e ⊖ f) p = parts true e p + parts false f p
parts false (e ⊖ f) p = parts false e p + parts true f p
parts true (e ⊗ f) p = parts true e p * parts true f p + parts false e p * parts false f p
parts false (e ⊗ f) p = parts true e p * parts false f p + parts false e p * parts true f p
parts true (⊝ e) p = parts false e p
parts false (⊝ e) p = parts true e p

abbrev pub parts_at : List ℤ → Bool → ℕ → ℕ
parts_at ρ b i = part b (nth ρ i)

module _ (ρ : List ℤ) where
  abbrev plus : Expr → ℕ
  plus e = parts true e (parts_at ρ)

  abbrev less : Expr → ℕ
  less e = parts false e (parts_at ρ)

  parts_sound : (e : Expr) → meaning e ρ ≡ pos (plus e) -ℤ pos (less e)
  parts_sound (var i) = split (nth ρ i)
  parts_sound (lit z) = split z
  parts_sound (e ⊕ f) =
      rw (parts_sound e, parts_sound f)
      (solve 4 (λ a b c d. (a ⊖ b) ⊕ (c ⊖ d) ≋ (a ⊕ c) ⊖ (b ⊕ d)) tt (pos (plus e)) (pos (less e)) (pos (plus f)) (pos (less f)))
  parts_sound (e ⊖ f) =
      rw (parts_sound e, parts_sound f)
      (solve 4 (λ a b c d. (a ⊖ b) ⊖ (c ⊖ d) ≋ (a ⊕ d) ⊖ (b ⊕ c)) tt (pos (plus e)) (pos (less e)) (pos (plus f)) (pos (less f)))
  parts_sound (e ⊗ f) =
      rw (parts_sound e, parts_sound f)
      (solve 4 (λ a b c d. (a ⊖ b) ⊗ (c ⊖ d) ≋ (a ⊗ c ⊕ b ⊗ d) ⊖ (a ⊗ d ⊕ b ⊗ c)) tt (pos (plus e)) (pos (less e)) (pos (plus f)) (pos (less f)))
  parts_sound (⊝ e) = rw (parts_sound e) (solve 2 (λ a b. ⊝ (a ⊖ b) ≋ b ⊖ a) tt (pos (plus e)) (pos (less e)))

-- ---- the statement, in ℕ
abbrev pub Meansℕ : (Bool → ℕ → ℕ) → Fact → Type 0
Meansℕ p (e ≐ f) = parts true e p + parts false f p ≡ parts true f p + parts false e p
Meansℕ p (e ≼ f) = parts true e p + parts false f p ≤ parts true f p + parts false e p
Meansℕ p (e ≺ f) = parts true e p + parts false f p < parts true f p + parts false e p
Meansℕ p (∣ e ∣≼ f) = (parts true e p + parts false f p ≤ parts true f p + parts false e p) × (parts false e p + parts false f p ≤ parts true f p + parts true e p)

le_to : (ρ : List ℤ) (e f : Expr) → meaning e ρ ≤ℤ meaning f ρ → Meansℕ (parts_at ρ) (e ≼ f)
le_to ρ e f h =
    le_pos (plus ρ e + less ρ f) (plus ρ f + less ρ e)
    (lin 4 (λ a b c d. a ⊖ b ≼ c ⊖ d ∷ [] ⊢ a ⊕ d ≼ c ⊕ b by hyp 0 ∷ []) tt (pos (plus ρ e)) (pos (less ρ e)) (pos (plus ρ f)) (pos (less ρ f))
    (rw (parts_sound ρ e, parts_sound ρ f) at h))

le_from : (ρ : List ℤ) (e f : Expr) → Meansℕ (parts_at ρ) (e ≼ f) → meaning e ρ ≤ℤ meaning f ρ
le_from ρ e f h =
    rw (parts_sound ρ e, parts_sound ρ f)
    (lin 4 (λ a b c d. a ⊕ d ≼ c ⊕ b ∷ [] ⊢ a ⊖ b ≼ c ⊖ d by hyp 0 ∷ []) tt (pos (plus ρ e)) (pos (less ρ e)) (pos (plus ρ f)) (pos (less ρ f))
    (pos_le (plus ρ e + less ρ f) (plus ρ f + less ρ e) h))

to_ℕ : (ρ : List ℤ) (s : Fact) → Means ρ s → Meansℕ (parts_at ρ) s
to_ℕ ρ (e ≐ f) h = omega (
  arith,
  le_to ρ e f (lin 2 (λ a b. a ≐ b ∷ [] ⊢ a ≼ b by hyp 0 ∷ []) tt (meaning e ρ) (meaning f ρ) h),
  le_to ρ f e (lin 2 (λ a b. a ≐ b ∷ [] ⊢ b ≼ a by low 0 ∷ []) tt (meaning e ρ) (meaning f ρ) h),
)
to_ℕ ρ (e ≼ f) h = le_to ρ e f h
to_ℕ ρ (e ≺ f) h = omega (arith, le_to ρ (e ⊕ # 1) f (lin 2 (λ a b. a ≺ b ∷ [] ⊢ a ⊕ # 1 ≼ b by hyp 0 ∷ []) tt (meaning e ρ) (meaning f ρ) h))
to_ℕ ρ (∣ e ∣≼ f) h = (
  le_to ρ e f (lin 2 (λ a b. ∣ a ∣≼ b ∷ [] ⊢ a ≼ b by hyp 0 ∷ []) tt (meaning e ρ) (meaning f ρ) h),
  le_to ρ (⊝ e) f (lin 2 (λ a b. ∣ a ∣≼ b ∷ [] ⊢ ⊝ a ≼ b by low 0 ∷ []) tt (meaning e ρ) (meaning f ρ) h),
)

of_ℕ : (ρ : List ℤ) (s : Fact) → Meansℕ (parts_at ρ) s → Means ρ s
of_ℕ ρ (e ≐ f) h = lin 2 (λ a b. a ≼ b ∷ b ≼ a ∷ [] ⊢ a ≐ b by hyp 0 ∷ hyp 1 ∷ []) tt (meaning e ρ) (meaning f ρ) (le_from ρ e f (omega arith)) (le_from ρ f e (omega arith))
of_ℕ ρ (e ≼ f) h = le_from ρ e f h
of_ℕ ρ (e ≺ f) h = lin 2 (λ a b. a ⊕ # 1 ≼ b ∷ [] ⊢ a ≺ b by hyp 0 ∷ []) tt (meaning e ρ) (meaning f ρ) (le_from ρ (e ⊕ # 1) f (omega arith))
of_ℕ ρ (∣ e ∣≼ f) h = lin 2 (λ a b. a ≼ b ∷ ⊝ a ≼ b ∷ [] ⊢ ∣ a ∣≼ b by hyp 0 ∷ hyp 1 ∷ []) tt (meaning e ρ) (meaning f ρ) (le_from ρ e f h.0) (le_from ρ (⊝ e) f h.1)

-- ---- the form to use
pub data Statement : Type 0 where
  ◌⊩◌ : List Fact → Fact → Statement

abbrev pub Givenℕ : (Bool → ℕ → ℕ) → List Fact → Type 0
Givenℕ p [] = Unit {0}
Givenℕ p (s ∷ hs) = Meansℕ p s × Givenℕ p hs

-- in ℕ: the variable i is `p true i` less `p false i`
abbrev pub Statesℕ : Statement → Type 0
Statesℕ (hs ⊩ g) = (p : Bool → ℕ → ℕ) → Givenℕ p hs → Meansℕ p g

abbrev pub States : Statement → List ℤ → Type 0
States (hs ⊩ g) ρ = Implies ρ hs (Means ρ g)

given_to : (ρ : List ℤ) (hs : List Fact) → Given ρ hs → Givenℕ (parts_at ρ) hs
given_to ρ [] g = tt
given_to ρ (s ∷ hs) g = (to_ℕ ρ s g.0, given_to ρ hs g.1)

states : (l : Statement) → Statesℕ l → (ρ : List ℤ) → States l ρ
states (hs ⊩ g) x ρ = implies ρ hs (Means ρ g) (λ h. of_ℕ ρ g (x (parts_at ρ) (given_to ρ hs h)))

pub viaℕ : (n : ℕ) (f : Over Statement n) → Statesℕ (at_variables Statement n 0 f) → ForAll n (States (at_variables Statement n 0 f))
viaℕ n f h = for_all n (States (at_variables Statement n 0 f)) (states (at_variables Statement n 0 f) h)
