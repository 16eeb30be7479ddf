-- Orders over ℤ by certificates: `lin 3 (λ a b c. # 0 ≼ c ∷ a ≼ b ∷ [] ⊢ c ⊗ a ≼ c ⊗ b by hyp 0 ⊠ hyp 1 ∷ []) tt`.
-- A fact says that its slacks are not negative. A certificate combines the slacks of the hypotheses by sums and products; it proves the goal where
-- the goal's slack is that combination and a constant that is not negative, by the ring solver. An equation may be taken any number of times.
use mathlib.Core.Path.{◌≡◌, refl, sym, ◌∙◌, ap}
use mathlib.Core.List.{List, [], ◌∷◌}
use mathlib.Core.Bool.{Bool, true, false, ◌&&◌}
use Prim.Native.Nat.{ℕ, zero, suc, ◌+◌, ◌*◌, ◌≤◌, ◌<◌}
use native.Mathlib.Omega.{arith}
use lib.Dec.{T, leb→le, le→leb, ltb→lt, lt→ltb}
use lib.IntN.{ℤ, pos, negsuc, neg_ℤ, nat_abs, ◌+ℤ◌, ◌-ℤ◌, ◌*ℤ◌, *ℤ-zero, +ℤ_idr}
use lib.Signed.{◌≤ℤ◌, ◌<ℤ◌, ≤ℤ_refl}
use Rattle.integers.proofs.Ring.{Expr, Horner, ◌⊕◌, ◌⊖◌, ◌⊗◌, ⊝◌, #◌, con, hor, head, tail, evaluate, meaning, normal, normal_sound, all_zero, all_zero_sound, both_left, both_right, eq_of_sub, Over, at_variables, ForAll, for_all, solve, ◌≋◌}
use Rattle.integers.proofs.Order.{nonneg, nonneg_add, nonneg_mul, nonneg_square, nonneg_of_le, le_of_nonneg, sub_cases, le_pos, pos_le, abs_upper, abs_lower}

infix 84 ◌≐◌ ◌≼◌ ◌≺◌ ∣◌∣≼◌
infixl 81 ◌⊞◌
infixl 82 ◌⊠◌
infix 83 ◌⊡◌
infix 3 ◌⊢◌by◌ ◌⊢◌times◌by◌ ◌⊢◌≗◌with◌
-- ---- facts
pub data Fact : Type 0 where
  ◌≐◌ : Expr → Expr → Fact
  ◌≼◌ : Expr → Expr → Fact
  ◌≺◌ : Expr → Expr → Fact
  ∣◌∣≼◌ : Expr → Expr → Fact

abbrev pub Means : List ℤ → Fact → Type 0
Means ρ (e ≐ f) = meaning e ρ ≡ meaning f ρ
Means ρ (e ≼ f) = meaning e ρ ≤ℤ meaning f ρ
Means ρ (e ≺ f) = meaning e ρ <ℤ meaning f ρ
Means ρ (∣ e ∣≼ f) = pos (nat_abs (meaning e ρ)) ≤ℤ meaning f ρ

-- a fact says that these two are not negative ..
abbrev pub slack : Fact → Expr
slack (e ≐ f) = f ⊖ e
slack (e ≼ f) = f ⊖ e
slack (e ≺ f) = f ⊖ (e ⊕ # 1)
slack (∣ e ∣≼ f) = f ⊖ e

abbrev pub slack' : Fact → Expr
slack' (e ≐ f) = e ⊖ f
slack' (e ≼ f) = # 0
slack' (e ≺ f) = # 0
slack' (∣ e ∣≼ f) = f ⊖ ⊝ e

-- .. and that this one is 0
abbrev pub residue : Fact → Expr
residue (e ≐ f) = f ⊖ e
residue (e ≼ f) = # 0
residue (e ≺ f) = # 0
residue (∣ e ∣≼ f) = # 0

lt_suc : (a b : ℤ) → a <ℤ b → (a +ℤ pos 1) ≤ℤ b
lt_suc (pos a) (pos b) h = record { le = le→leb (a + 1) b (omega (arith, ltb→lt a b h.lt)) }
lt_suc (pos a) (negsuc b) h = absurd h.lt
lt_suc (negsuc a) (pos b) h = sub_cases 1 (suc a) (λ z. z ≤ℤ pos b) (λ n k. record { le = tt }) (λ n k. pos_le n b (omega arith))
lt_suc (negsuc a) (negsuc b) h =
    let l = ltb→lt b a h.lt in
    sub_cases 1 (suc a) (λ z. z ≤ℤ negsuc b) (λ n k. record { le = le→leb b n (omega arith) }) (λ n k. absurd (omega arith))

suc_lt : (a b : ℤ) → (a +ℤ pos 1) ≤ℤ b → a <ℤ b
suc_lt (pos a) (pos b) h = record { lt = lt→ltb a b (omega (arith, leb→le (a + 1) b h.le)) }
suc_lt (pos a) (negsuc b) h = absurd h.le
suc_lt (negsuc a) (pos b) h = record { lt = tt }
suc_lt (negsuc a) (negsuc b) h = record {
  lt = lt→ltb b a (sub_cases 1 (suc a) (λ z. z ≤ℤ negsuc b → b < a) (λ n k g. omega (arith, leb→le b n g.le)) (λ n k g. absurd g.le) h);
}

nonneg_of_zero : (a : ℤ) → a ≡ pos 0 → pos 0 ≤ℤ a
nonneg_of_zero a e = rw e (nonneg 0)

pub le_trans : (a b c : ℤ) → a ≤ℤ b → b ≤ℤ c → a ≤ℤ c
le_trans a b c h k =
    le_of_nonneg a c
    (rw (solve 3 (λ a b c. c ⊖ a ≋ (b ⊖ a) ⊕ (c ⊖ b)) tt a b c)
    (nonneg_add (b -ℤ a) (c -ℤ b) (nonneg_of_le a b h) (nonneg_of_le b c k)))

pub antisym : (a b : ℤ) → a ≤ℤ b → b ≤ℤ a → a ≡ b
antisym (pos a) (pos b) h k = ap pos (omega (arith, leb→le a b h.le, leb→le b a k.le))
antisym (pos a) (negsuc b) h k = absurd h.le
antisym (negsuc a) (pos b) h k = absurd k.le
antisym (negsuc a) (negsuc b) h k = ap negsuc (omega (arith, leb→le b a h.le, leb→le a b k.le))

same_difference : (a b : ℤ) → a ≡ b → b -ℤ a ≡ pos 0
same_difference a b e = rw e (solve 1 (λ a. a ⊖ a ≋ # 0) tt b)

residue_sound : (ρ : List ℤ) (s : Fact) → Means ρ s → meaning (residue s) ρ ≡ pos 0
residue_sound ρ (e ≐ f) h = same_difference (meaning e ρ) (meaning f ρ) h
residue_sound ρ (e ≼ f) h = refl
residue_sound ρ (e ≺ f) h = refl
residue_sound ρ (∣ e ∣≼ f) h = refl

slack_sound : (ρ : List ℤ) (s : Fact) → Means ρ s → pos 0 ≤ℤ meaning (slack s) ρ
slack_sound ρ (e ≐ f) h = nonneg_of_zero (meaning f ρ -ℤ meaning e ρ) (same_difference (meaning e ρ) (meaning f ρ) h)
slack_sound ρ (e ≼ f) h = nonneg_of_le (meaning e ρ) (meaning f ρ) h
slack_sound ρ (e ≺ f) h = nonneg_of_le (meaning e ρ +ℤ pos 1) (meaning f ρ) (lt_suc (meaning e ρ) (meaning f ρ) h)
slack_sound ρ (∣ e ∣≼ f) h =
    nonneg_of_le (meaning e ρ) (meaning f ρ) (le_trans (meaning e ρ) (pos (nat_abs (meaning e ρ))) (meaning f ρ) (abs_upper (meaning e ρ)) h)

slack'_sound : (ρ : List ℤ) (s : Fact) → Means ρ s → pos 0 ≤ℤ meaning (slack' s) ρ
slack'_sound ρ (e ≐ f) h = nonneg_of_zero (meaning e ρ -ℤ meaning f ρ) (same_difference (meaning f ρ) (meaning e ρ) (sym h))
slack'_sound ρ (e ≼ f) h = nonneg 0
slack'_sound ρ (e ≺ f) h = nonneg 0
slack'_sound ρ (∣ e ∣≼ f) h =
    nonneg_of_le (neg_ℤ (meaning e ρ)) (meaning f ρ) (le_trans (neg_ℤ (meaning e ρ)) (pos (nat_abs (meaning e ρ))) (meaning f ρ) (abs_lower (meaning e ρ)) h)

abs_below : (z f : ℤ) → z ≤ℤ f → neg_ℤ z ≤ℤ f → pos (nat_abs z) ≤ℤ f
abs_below (pos n) f h k = h
abs_below (negsuc n) f h k = k

-- a fact holds where its slacks are not negative
means : (ρ : List ℤ) (s : Fact) → pos 0 ≤ℤ meaning (slack s) ρ → pos 0 ≤ℤ meaning (slack' s) ρ → Means ρ s
means ρ (e ≐ f) h k = antisym (meaning e ρ) (meaning f ρ) (le_of_nonneg (meaning e ρ) (meaning f ρ) h) (le_of_nonneg (meaning f ρ) (meaning e ρ) k)
means ρ (e ≼ f) h k = le_of_nonneg (meaning e ρ) (meaning f ρ) h
means ρ (e ≺ f) h k = suc_lt (meaning e ρ) (meaning f ρ) (le_of_nonneg (meaning e ρ +ℤ pos 1) (meaning f ρ) h)
means ρ (∣ e ∣≼ f) h k = abs_below (meaning e ρ) (meaning f ρ) (le_of_nonneg (meaning e ρ) (meaning f ρ) h) (le_of_nonneg (neg_ℤ (meaning e ρ)) (meaning f ρ) k)

-- ---- certificates: `hyp i` is the slack of the hypothesis i, `low i` its other slack (of an equation or an absolute value), `sq e` a square,
-- `e ⊡ i` the equation i times any e
pub data Certificate : Type 0 where
  hyp : ℕ → Certificate
  low : ℕ → Certificate
  sq : Expr → Certificate
  nat : ℕ → Certificate
  ◌⊡◌ : Expr → ℕ → Certificate
  ◌⊞◌ : Certificate → Certificate → Certificate
  ◌⊠◌ : Certificate → Certificate → Certificate

abbrev pub hypothesis : List Fact → ℕ → Fact
hypothesis [] i = # 0 ≐ # 0
hypothesis (s ∷ hs) zero = s
hypothesis (s ∷ hs) (suc i) = hypothesis hs i

abbrev pub combination : List Fact → Certificate → Expr
combination hs (hyp i) = slack (hypothesis hs i)
combination hs (low i) = slack' (hypothesis hs i)
combination hs (sq e) = e ⊗ e
combination hs (nat n) = # n
combination hs (e ⊡ i) = e ⊗ residue (hypothesis hs i)
combination hs (c ⊞ d) = combination hs c ⊕ combination hs d
combination hs (c ⊠ d) = combination hs c ⊗ combination hs d

abbrev pub Given : List ℤ → List Fact → Type 0
Given ρ [] = Unit {0}
Given ρ (s ∷ hs) = Means ρ s × Given ρ hs

given : (ρ : List ℤ) (hs : List Fact) → Given ρ hs → (i : ℕ) → Means ρ (hypothesis hs i)
given ρ [] g i = refl
given ρ (s ∷ hs) g zero = g.0
given ρ (s ∷ hs) g (suc i) = given ρ hs g.1 i

combination_sound : (ρ : List ℤ) (hs : List Fact) → Given ρ hs → (c : Certificate) → pos 0 ≤ℤ meaning (combination hs c) ρ
combination_sound ρ hs g (hyp i) = slack_sound ρ (hypothesis hs i) (given ρ hs g i)
combination_sound ρ hs g (low i) = slack'_sound ρ (hypothesis hs i) (given ρ hs g i)
combination_sound ρ hs g (sq e) = nonneg_square (meaning e ρ)
combination_sound ρ hs g (nat n) = nonneg n
combination_sound ρ hs g (e ⊡ i) =
    nonneg_of_zero (meaning e ρ *ℤ meaning (residue (hypothesis hs i)) ρ)
    (ap (λ x. meaning e ρ *ℤ x) (residue_sound ρ (hypothesis hs i) (given ρ hs g i)) ∙ *ℤ-zero (meaning e ρ))
combination_sound ρ hs g (c ⊞ d) =
    nonneg_add (meaning (combination hs c) ρ) (meaning (combination hs d) ρ) (combination_sound ρ hs g c) (combination_sound ρ hs g d)
combination_sound ρ hs g (c ⊠ d) =
    nonneg_mul (meaning (combination hs c) ρ) (meaning (combination hs d) ρ) (combination_sound ρ hs g c) (combination_sound ρ hs g d)

-- a constant that is not negative
abbrev pub nonneg_constant : Horner → Bool
nonneg_constant (con (pos n)) = true
nonneg_constant (con (negsuc n)) = false
nonneg_constant (hor a p) = nonneg_constant a && all_zero p

nonneg_constant_sound : (p : Horner) (ρ : List ℤ) → T (nonneg_constant p) → pos 0 ≤ℤ evaluate p ρ
nonneg_constant_sound (con (pos n)) ρ t = nonneg n
nonneg_constant_sound (con (negsuc n)) ρ t = absurd t
nonneg_constant_sound (hor a p) ρ t =
    rw (all_zero_sound p ρ (both_right (nonneg_constant a) (all_zero p) t), *ℤ-zero (head ρ), +ℤ_idr (evaluate a (tail ρ)))
    (nonneg_constant_sound a (tail ρ) (both_left (nonneg_constant a) (all_zero p) t))

-- (k + 1) · d + k is not negative only where d is not
divide_slack : (k : ℕ) (d : ℤ) → pos 0 ≤ℤ (pos (suc k) *ℤ d +ℤ pos k) → pos 0 ≤ℤ d
divide_slack k (pos n) h = nonneg n
divide_slack k (negsuc n) h = absurd (below (suc k * suc n) (n + k * suc n) (omega arith) (omega arith) h)
  where
    below : (x y : ℕ) → x ≡ suc y → k ≤ y → pos 0 ≤ℤ (neg_ℤ (pos x) +ℤ pos k) → ⊥
    below x y e l g = sub_cases k (suc y) (λ z. pos 0 ≤ℤ z → ⊥) (λ i q u. u.le) (λ i q u. omega arith) (rw e at g)

-- k + 1 times e, and k more, is the certificate's combination and a constant that is not negative
abbrev pub certifies : ℕ → List Fact → Expr → Certificate → Bool
certifies k hs e c = nonneg_constant (normal ((# (suc k) ⊗ e ⊕ # k) ⊖ combination hs c))

certifies_sound : (k : ℕ) (ρ : List ℤ) (hs : List Fact) (e : Expr) (c : Certificate) → T (certifies k hs e c) → Given ρ hs → pos 0 ≤ℤ meaning e ρ
certifies_sound k ρ hs e c t g =
    let f : Expr = # (suc k) ⊗ e ⊕ # k in
    let v : Expr = combination hs c in
    let rest : pos 0 ≤ℤ meaning (f ⊖ v) ρ = rw (normal_sound (f ⊖ v) ρ) at (nonneg_constant_sound (normal (f ⊖ v)) ρ t) in
    divide_slack k (meaning e ρ)
    (rw (solve 2 (λ x y. x ≋ (x ⊖ y) ⊕ y) tt (meaning f ρ) (meaning v ρ)) (nonneg_add (meaning (f ⊖ v) ρ) (meaning v ρ) rest (combination_sound ρ hs g c)))

-- the equations among the facts, each times a factor, in order
abbrev pub weighted : List Fact → List Expr → Expr
weighted [] ms = # 0
weighted (s ∷ hs) [] = # 0
weighted (s ∷ hs) (m ∷ ms) = m ⊗ residue s ⊕ weighted hs ms

weighted_sound : (ρ : List ℤ) (hs : List Fact) (ms : List Expr) → Given ρ hs → meaning (weighted hs ms) ρ ≡ pos 0
weighted_sound ρ [] ms g = refl
weighted_sound ρ (s ∷ hs) [] g = refl
weighted_sound ρ (s ∷ hs) (m ∷ ms) g = cc (residue_sound ρ s g.0, *ℤ-zero (meaning m ρ), weighted_sound ρ hs ms g.1)

-- ---- problems: `hs ⊢ goal by certificates`, one for each slack of the goal; `times k` where the certificates are for k + 1 times the goal, which rounds;
-- `hs ⊢ e ≗ f with factors`, an equation from equations: e − f and the factors times (right − left) of the hypotheses add up to 0
pub data Problem : Type 0 where
  ◌⊢◌by◌ : List Fact → Fact → List Certificate → Problem
  ◌⊢◌times◌by◌ : List Fact → Fact → ℕ → List Certificate → Problem
  ◌⊢◌≗◌with◌ : List Fact → Expr → Expr → List Expr → Problem

abbrev pub certificate : ℕ → List Certificate → Certificate
certificate i [] = nat 0
certificate zero (c ∷ cs) = c
certificate (suc i) (c ∷ cs) = certificate i cs

abbrev pub proves : ℕ → List Fact → Fact → List Certificate → Bool
proves k hs g cs = certifies k hs (slack g) (certificate 0 cs) && certifies k hs (slack' g) (certificate 1 cs)

abbrev pub solved : Problem → Bool
solved (hs ⊢ g by cs) = proves 0 hs g cs
solved (hs ⊢ g times k by cs) = proves k hs g cs
solved (hs ⊢ e ≗ f with ms) = all_zero (normal (e ⊖ f ⊕ weighted hs ms))

abbrev pub Implies : List ℤ → List Fact → Type 0 → Type 0
Implies ρ [] G = G
Implies ρ (s ∷ hs) G = Means ρ s → Implies ρ hs G

pub implies : (ρ : List ℤ) (hs : List Fact) (G : Type 0) → (Given ρ hs → G) → Implies ρ hs G
implies ρ [] G f = f tt
implies ρ (s ∷ hs) G f = λ h. implies ρ hs G (λ g. f (h, g))

abbrev pub States : Problem → List ℤ → Type 0
States (hs ⊢ g by cs) ρ = Implies ρ hs (Means ρ g)
States (hs ⊢ g times k by cs) ρ = Implies ρ hs (Means ρ g)
States (hs ⊢ e ≗ f with ms) ρ = Implies ρ hs (meaning e ρ ≡ meaning f ρ)

proves_sound : (k : ℕ) (hs : List Fact) (g : Fact) (cs : List Certificate) (ρ : List ℤ) → T (proves k hs g cs) → Implies ρ hs (Means ρ g)
proves_sound k hs g cs ρ t =
    let a : Bool = certifies k hs (slack g) (certificate 0 cs) in
    let b : Bool = certifies k hs (slack' g) (certificate 1 cs) in
    implies ρ hs (Means ρ g)
    (λ x. means ρ g (certifies_sound k ρ hs (slack g) (certificate 0 cs) (both_left a b t) x) (certifies_sound k ρ hs (slack' g) (certificate 1 cs) (both_right a b t) x))

weighted_proves : (hs : List Fact) (e f : Expr) (ms : List Expr) (ρ : List ℤ) → T (all_zero (normal (e ⊖ f ⊕ weighted hs ms))) → Implies ρ hs (meaning e ρ ≡ meaning f ρ)
weighted_proves hs e f ms ρ t =
    implies ρ hs (meaning e ρ ≡ meaning f ρ)
    (λ g. eq_of_sub (meaning e ρ) (meaning f ρ)
    (cc (
      normal_sound (e ⊖ f ⊕ weighted hs ms) ρ,
      all_zero_sound (normal (e ⊖ f ⊕ weighted hs ms)) ρ t,
      weighted_sound ρ hs ms g,
      +ℤ_idr (meaning e ρ -ℤ meaning f ρ),
    )))

solved_sound : (j : Problem) → T (solved j) → (ρ : List ℤ) → States j ρ
solved_sound (hs ⊢ g by cs) t ρ = proves_sound 0 hs g cs ρ t
solved_sound (hs ⊢ g times k by cs) t ρ = proves_sound k hs g cs ρ t
solved_sound (hs ⊢ e ≗ f with ms) t ρ = weighted_proves hs e f ms ρ t

pub lin : (n : ℕ) (f : Over Problem n) → T (solved (at_variables Problem n 0 f)) → ForAll n (States (at_variables Problem n 0 f))
lin n f t = for_all n (States (at_variables Problem n 0 f)) (solved_sound (at_variables Problem n 0 f) t)

-- ---- sums in order, and a positive factor cancelled
pub add_mono : (a b c d : ℤ) → a ≤ℤ b → c ≤ℤ d → (a +ℤ c) ≤ℤ (b +ℤ d)
add_mono = lin 4 (λ a b c d. a ≼ b ∷ c ≼ d ∷ [] ⊢ a ⊕ c ≼ b ⊕ d by hyp 0 ⊞ hyp 1 ∷ []) tt

le_or_ltℤ : (a b : ℤ) (G : Type 0) → (a ≤ℤ b → G) → (b <ℤ a → G) → G
le_or_ltℤ a b G f g = go (b -ℤ a) refl
  where
    go : (s : ℤ) → b -ℤ a ≡ s → G
    go (pos n) e = f (lin 3 (λ a b s. b ⊖ a ≐ s ∷ # 0 ≼ s ∷ [] ⊢ a ≼ b by hyp 1 ⊞ low 0 ∷ []) tt a b (pos n) e (nonneg n))
    go (negsuc n) e = g (lin 3 (λ a b s. b ⊖ a ≐ s ∷ s ≼ ⊝ # 1 ∷ [] ⊢ b ≺ a by hyp 1 ⊞ hyp 0 ∷ []) tt a b (negsuc n) e (record { le = le→leb 0 n (omega arith) }))

cancel_le : (m a b : ℤ) → pos 0 <ℤ m → (m *ℤ a) ≤ℤ (m *ℤ b) → a ≤ℤ b
cancel_le m a b p h = le_or_ltℤ a b (a ≤ℤ b) (λ k. k)
    (λ k. absurd (omega (
      arith,
      le_pos 1 0
          (lin 3 (λ m a b. # 0 ≺ m ∷ m ⊗ a ≼ m ⊗ b ∷ b ≺ a ∷ [] ⊢ # 1 ≼ # 0 by hyp 1 ⊞ hyp 0 ⊠ hyp 2 ⊞ hyp 0 ⊞ hyp 2 ∷ []) tt m a b p h k),
    )))

pub cancel_eq : (m a b : ℤ) → pos 0 <ℤ m → m *ℤ a ≡ m *ℤ b → a ≡ b
cancel_eq m a b p h = antisym a b (cancel_le m a b p (rw h (≤ℤ_refl (m *ℤ b)))) (cancel_le m b a p (rw h (≤ℤ_refl (m *ℤ b))))
