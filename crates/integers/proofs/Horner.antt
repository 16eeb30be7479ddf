-- Polynomial expressions over ℤ and their Horner form, which has the expression's value; a form that has only zeros is 0 everywhere. For the solver, Ring.
use mathlib.Core.Path.{◌≡◌, refl, sym, ◌∙◌}
use mathlib.Core.List.{List, [], ◌∷◌}
use mathlib.Core.Bool.{Bool, true, false, ◌&&◌}
use Prim.Native.Nat.{ℕ, zero, suc}
use lib.Dec.{T}
use lib.IntN.{ℤ, pos, negsuc, neg_ℤ, ◌+ℤ◌, ◌-ℤ◌, ◌*ℤ◌, +ℤ_assoc, +ℤ_comm, +ℤ_idl, +ℤ_idr, zero-*ℤ, *ℤ_comm, *ℤ-zero, *ℤ-one, one, neg_ℤ-+ℤ}
use Rattle.integers.proofs.Laws.{distrib_l, distrib_r, *ℤ_assoc, mul_neg}

infixl 86 ◌⊕◌ ◌⊖◌
infixl 87 ◌⊗◌
infix 88 ⊝◌
infix 89 #◌
-- ---- expressions over numbered variables, and their values at a list of numbers
pub data Expr : Type 0 where
  var : ℕ → Expr
  lit : ℤ → Expr
  ◌⊕◌ : Expr → Expr → Expr
  ◌⊖◌ : Expr → Expr → Expr
  ◌⊗◌ : Expr → Expr → Expr
  ⊝◌ : Expr → Expr

-- a natural constant
abbrev pub #◌ : ℕ → Expr
# n = lit (pos n)

abbrev pub head : List ℤ → ℤ
head [] = pos 0
head (x ∷ ρ) = x

abbrev pub tail : List ℤ → List ℤ
tail [] = []
tail (x ∷ ρ) = ρ

abbrev pub nth : List ℤ → ℕ → ℤ
nth ρ zero = head ρ
nth ρ (suc i) = nth (tail ρ) i

abbrev pub meaning : Expr → List ℤ → ℤ
meaning (var i) ρ = nth ρ i
meaning (lit z) ρ = z
meaning (e ⊕ f) ρ = meaning e ρ +ℤ meaning f ρ
meaning (e ⊖ f) ρ = meaning e ρ -ℤ meaning f ρ
meaning (e ⊗ f) ρ = meaning e ρ *ℤ meaning f ρ
meaning (⊝ e) ρ = neg_ℤ (meaning e ρ)

-- ---- Horner form: `hor a p` at the variables x, y, .. is a(y, ..) + x · p(x, y, ..)
pub data Horner : Type 0 where
  con : ℤ → Horner
  hor : Horner → Horner → Horner

abbrev pub evaluate : Horner → List ℤ → ℤ
evaluate (con z) ρ = z
evaluate (hor a p) ρ = evaluate a (tail ρ) +ℤ head ρ *ℤ evaluate p ρ

abbrev pub add_constant : ℤ → Horner → Horner
add_constant a (con b) = con (a +ℤ b)
add_constant a (hor b q) = hor (add_constant a b) q

abbrev pub add : Horner → Horner → Horner
add (con a) q = add_constant a q
add (hor a p) (con b) = hor (add_constant b a) p
add (hor a p) (hor b q) = hor (add a b) (add p q)

abbrev pub scale : ℤ → Horner → Horner
scale z (con b) = con (z *ℤ b)
scale z (hor a p) = hor (scale z a) (scale z p)

-- times a constant: 0 leaves no terms behind
abbrev pub times : ℤ → Horner → Horner
times (pos zero) q = con (pos 0)
times (pos (suc n)) q = scale (pos (suc n)) q
times (negsuc n) q = scale (negsuc n) q

abbrev pub negate : Horner → Horner
negate (con b) = con (neg_ℤ b)
negate (hor a p) = hor (negate a) (negate p)

-- times the first variable
abbrev pub shift : Horner → Horner
shift (con (pos zero)) = con (pos 0)
shift (con (pos (suc n))) = hor (con (pos 0)) (con (pos (suc n)))
shift (con (negsuc n)) = hor (con (pos 0)) (con (negsuc n))
shift (hor a p) = hor (con (pos 0)) (hor a p)

-- a polynomial of the later variables
abbrev pub lift : Horner → Horner
lift (con z) = con z
lift (hor a p) = hor (hor a p) (con (pos 0))

abbrev pub map_coefficients : (Horner → Horner) → Horner → Horner
map_coefficients f (con b) = lift (f (con b))
map_coefficients f (hor b q) = hor (f b) (map_coefficients f q)

abbrev pub multiply : Horner → Horner → Horner
multiply (con a) q = times a q
multiply (hor a p) q = add (map_coefficients (λ r. multiply a r) q) (shift (multiply p q))

abbrev pub variable : ℕ → Horner
variable zero = hor (con (pos 0)) (con (pos 1))
variable (suc i) = hor (variable i) (con (pos 0))

abbrev pub normal : Expr → Horner
normal (var i) = variable i
normal (lit z) = con z
normal (e ⊕ f) = add (normal e) (normal f)
normal (e ⊖ f) = add (normal e) (negate (normal f))
normal (e ⊗ f) = multiply (normal e) (normal f)
normal (⊝ e) = negate (normal e)

abbrev pub all_zero : Horner → Bool
all_zero (con (pos zero)) = true
all_zero (con (pos (suc n))) = false
all_zero (con (negsuc n)) = false
all_zero (hor a p) = all_zero a && all_zero p

-- ---- the form has the expression's value
-- (a + b) + (c + d) = (a + c) + (b + d)
pub swap_middle : (a b c d : ℤ) → (a +ℤ b) +ℤ (c +ℤ d) ≡ (a +ℤ c) +ℤ (b +ℤ d)
swap_middle a b c d = cc (+ℤ_assoc a b (c +ℤ d), +ℤ_assoc b c d, +ℤ_comm b c, +ℤ_assoc c b d, +ℤ_assoc a c (b +ℤ d))

-- x · (y · z) = y · (x · z)
swap_factors : (x y z : ℤ) → x *ℤ (y *ℤ z) ≡ y *ℤ (x *ℤ z)
swap_factors x y z = cc (*ℤ_assoc x y z, *ℤ_comm x y, *ℤ_assoc y x z)

add_constant_sound : (a : ℤ) (q : Horner) (ρ : List ℤ) → evaluate (add_constant a q) ρ ≡ a +ℤ evaluate q ρ
add_constant_sound a (con b) ρ = refl
add_constant_sound a (hor b q) ρ = cc (add_constant_sound a b (tail ρ), +ℤ_assoc a (evaluate b (tail ρ)) (head ρ *ℤ evaluate q ρ))

add_sound : (p q : Horner) (ρ : List ℤ) → evaluate (add p q) ρ ≡ evaluate p ρ +ℤ evaluate q ρ
add_sound (con a) q ρ = add_constant_sound a q ρ
add_sound (hor a p) (con b) ρ = add_constant_sound b (hor a p) ρ ∙ +ℤ_comm b (evaluate (hor a p) ρ)
add_sound (hor a p) (hor b q) ρ = cc (
  add_sound a b (tail ρ),
  add_sound p q ρ,
  distrib_l (head ρ) (evaluate p ρ) (evaluate q ρ),
  swap_middle (evaluate a (tail ρ)) (head ρ *ℤ evaluate p ρ) (evaluate b (tail ρ)) (head ρ *ℤ evaluate q ρ),
)

scale_sound : (z : ℤ) (q : Horner) (ρ : List ℤ) → evaluate (scale z q) ρ ≡ z *ℤ evaluate q ρ
scale_sound z (con b) ρ = refl
scale_sound z (hor a p) ρ = cc (
  scale_sound z a (tail ρ),
  scale_sound z p ρ,
  distrib_l z (evaluate a (tail ρ)) (head ρ *ℤ evaluate p ρ),
  swap_factors (head ρ) z (evaluate p ρ),
)

times_sound : (z : ℤ) (q : Horner) (ρ : List ℤ) → evaluate (times z q) ρ ≡ z *ℤ evaluate q ρ
times_sound (pos zero) q ρ = sym (zero-*ℤ (evaluate q ρ))
times_sound (pos (suc n)) q ρ = scale_sound (pos (suc n)) q ρ
times_sound (negsuc n) q ρ = scale_sound (negsuc n) q ρ

negate_sound : (q : Horner) (ρ : List ℤ) → evaluate (negate q) ρ ≡ neg_ℤ (evaluate q ρ)
negate_sound (con b) ρ = refl
negate_sound (hor a p) ρ = cc (
  negate_sound a (tail ρ),
  negate_sound p ρ,
  neg_ℤ-+ℤ (evaluate a (tail ρ)) (head ρ *ℤ evaluate p ρ),
  mul_neg (head ρ) (evaluate p ρ),
)

shift_sound : (p : Horner) (ρ : List ℤ) → evaluate (shift p) ρ ≡ head ρ *ℤ evaluate p ρ
shift_sound (con (pos zero)) ρ = sym (*ℤ-zero (head ρ))
shift_sound (con (pos (suc n))) ρ = +ℤ_idl (head ρ *ℤ pos (suc n))
shift_sound (con (negsuc n)) ρ = +ℤ_idl (head ρ *ℤ negsuc n)
shift_sound (hor a p) ρ = +ℤ_idl (head ρ *ℤ evaluate (hor a p) ρ)

lift_sound : (p : Horner) (ρ : List ℤ) → evaluate (lift p) ρ ≡ evaluate p (tail ρ)
lift_sound (con z) ρ = refl
lift_sound (hor a p) ρ = cc (*ℤ-zero (head ρ), +ℤ_idr (evaluate (hor a p) (tail ρ)))

map_coefficients_sound : (f : Horner → Horner) (u : ℤ) (ρ : List ℤ) → ((r : Horner) → evaluate (f r) (tail ρ) ≡ u *ℤ evaluate r (tail ρ))
    → (q : Horner) → evaluate (map_coefficients f q) ρ ≡ u *ℤ evaluate q ρ
map_coefficients_sound f u ρ h (con b) = lift_sound (f (con b)) ρ ∙ h (con b)
map_coefficients_sound f u ρ h (hor b q) = cc (
  h b,
  map_coefficients_sound f u ρ h q,
  distrib_l u (evaluate b (tail ρ)) (head ρ *ℤ evaluate q ρ),
  swap_factors (head ρ) u (evaluate q ρ),
)

multiply_sound : (p q : Horner) (ρ : List ℤ) → evaluate (multiply p q) ρ ≡ evaluate p ρ *ℤ evaluate q ρ
multiply_sound (con a) q ρ = times_sound a q ρ
multiply_sound (hor a p) q ρ =
    add_sound (map_coefficients (λ r. multiply a r) q) (shift (multiply p q)) ρ
    ∙ cc (
      map_coefficients_sound (λ r. multiply a r) (evaluate a (tail ρ)) ρ (λ r. multiply_sound a r (tail ρ)) q,
      shift_sound (multiply p q) ρ,
      multiply_sound p q ρ,
      distrib_r (evaluate a (tail ρ)) (head ρ *ℤ evaluate p ρ) (evaluate q ρ),
      *ℤ_assoc (head ρ) (evaluate p ρ) (evaluate q ρ),
    )

variable_sound : (i : ℕ) (ρ : List ℤ) → evaluate (variable i) ρ ≡ nth ρ i
unfolding one
variable_sound zero ρ = cc (+ℤ_idl (head ρ *ℤ pos 1), *ℤ-one (head ρ))
variable_sound (suc i) ρ = cc (*ℤ-zero (head ρ), +ℤ_idr (evaluate (variable i) (tail ρ)), variable_sound i (tail ρ))

pub normal_sound : (e : Expr) (ρ : List ℤ) → evaluate (normal e) ρ ≡ meaning e ρ
normal_sound (var i) ρ = variable_sound i ρ
normal_sound (lit z) ρ = refl
normal_sound (e ⊕ f) ρ = cc (add_sound (normal e) (normal f) ρ, normal_sound e ρ, normal_sound f ρ)
normal_sound (e ⊖ f) ρ = cc (add_sound (normal e) (negate (normal f)) ρ, negate_sound (normal f) ρ, normal_sound e ρ, normal_sound f ρ)
normal_sound (e ⊗ f) ρ = cc (multiply_sound (normal e) (normal f) ρ, normal_sound e ρ, normal_sound f ρ)
normal_sound (⊝ e) ρ = cc (negate_sound (normal e) ρ, normal_sound e ρ)

pub both_left : (a b : Bool) → T (a && b) → T a
both_left true b t = tt
both_left false b t = t

pub both_right : (a b : Bool) → T (a && b) → T b
both_right true b t = t
both_right false b t = absurd t

pub all_zero_sound : (p : Horner) (ρ : List ℤ) → T (all_zero p) → evaluate p ρ ≡ pos 0
all_zero_sound (con (pos zero)) ρ t = refl
all_zero_sound (con (pos (suc n))) ρ t = absurd t
all_zero_sound (con (negsuc n)) ρ t = absurd t
all_zero_sound (hor a p) ρ t = cc (
  all_zero_sound a (tail ρ) (both_left (all_zero a) (all_zero p) t),
  all_zero_sound p ρ (both_right (all_zero a) (all_zero p) t),
  *ℤ-zero (head ρ),
  +ℤ_idl (pos 0),
)
