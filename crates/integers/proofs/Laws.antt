-- Laws of ℤ that the kit lacks: the product distributes over sums and is associative. For Ring alone; other proofs call its solver.
use mathlib.Core.Path.{◌≡◌}
use Prim.Native.Nat.{zero, suc}
use lib.IntN.{ℤ, pos, negsuc, neg_ℤ, suc_ℤ, pred_ℤ, ◌+ℤ◌, ◌*ℤ◌, +ℤ_assoc, +ℤ_comm, +ℤ_idl, +ℤ_idr, +ℤ_invr, +ℤ_invl, suc_ℤ-+ℤ, pred_ℤ-+ℤ, suc_ℤ-*ℤ, pred_ℤ-*ℤ, *ℤ_comm, zero-*ℤ}

-- induction from 0, a step up or down at a time
by_steps : (P : ℤ → Type 0) → P (pos zero) → ((a : ℤ) → P a → P (suc_ℤ a)) → ((a : ℤ) → P a → P (pred_ℤ a)) → (a : ℤ) → P a
by_steps P z s p (pos zero) = z
by_steps P z s p (pos (suc n)) = s (pos n) (by_steps P z s p (pos n))
by_steps P z s p (negsuc zero) = p (pos zero) z
by_steps P z s p (negsuc (suc n)) = p (negsuc n) (by_steps P z s p (negsuc n))

pub distrib_r : (a b c : ℤ) → (a +ℤ b) *ℤ c ≡ a *ℤ c +ℤ b *ℤ c
distrib_r a b c = by_steps (λ a. (a +ℤ b) *ℤ c ≡ a *ℤ c +ℤ b *ℤ c)
    (cc (+ℤ_idl b, zero-*ℤ c, +ℤ_idl (b *ℤ c)))
    (λ a ih. cc (suc_ℤ-+ℤ a b, suc_ℤ-*ℤ (a +ℤ b) c, suc_ℤ-*ℤ a c, +ℤ_assoc (a *ℤ c) (b *ℤ c) c, +ℤ_comm (b *ℤ c) c, +ℤ_assoc (a *ℤ c) c (b *ℤ c)))
    (λ a ih. cc (
      pred_ℤ-+ℤ a b,
      pred_ℤ-*ℤ (a +ℤ b) c,
      pred_ℤ-*ℤ a c,
      +ℤ_assoc (a *ℤ c) (b *ℤ c) (neg_ℤ c),
      +ℤ_comm (b *ℤ c) (neg_ℤ c),
      +ℤ_assoc (a *ℤ c) (neg_ℤ c) (b *ℤ c),
    ))
    a

pub distrib_l : (a b c : ℤ) → a *ℤ (b +ℤ c) ≡ a *ℤ b +ℤ a *ℤ c
distrib_l a b c = cc (*ℤ_comm a (b +ℤ c), distrib_r b c a, *ℤ_comm a b, *ℤ_comm a c)

neg_unique : (a b : ℤ) → a +ℤ b ≡ pos zero → a ≡ neg_ℤ b
neg_unique a b e = cc (+ℤ_assoc a b (neg_ℤ b), +ℤ_invr b, +ℤ_idr a, +ℤ_idl (neg_ℤ b))

neg_mul : (a b : ℤ) → neg_ℤ a *ℤ b ≡ neg_ℤ (a *ℤ b)
neg_mul a b = neg_unique (neg_ℤ a *ℤ b) (a *ℤ b) (cc (distrib_r (neg_ℤ a) a b, +ℤ_invl a, zero-*ℤ b))

pub mul_neg : (a b : ℤ) → a *ℤ neg_ℤ b ≡ neg_ℤ (a *ℤ b)
mul_neg a b = cc (*ℤ_comm a (neg_ℤ b), neg_mul b a, *ℤ_comm a b)

pub *ℤ_assoc : (a b c : ℤ) → (a *ℤ b) *ℤ c ≡ a *ℤ (b *ℤ c)
*ℤ_assoc a b c = by_steps (λ a. (a *ℤ b) *ℤ c ≡ a *ℤ (b *ℤ c))
    (cc (zero-*ℤ b, zero-*ℤ c, zero-*ℤ (b *ℤ c)))
    (λ a ih. cc (suc_ℤ-*ℤ a b, suc_ℤ-*ℤ a (b *ℤ c), distrib_r (a *ℤ b) b c))
    (λ a ih. cc (pred_ℤ-*ℤ a b, pred_ℤ-*ℤ a (b *ℤ c), distrib_r (a *ℤ b) (neg_ℤ b) c, neg_mul b c))
    a
