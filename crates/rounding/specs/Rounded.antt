-- Rounding (L4), of bend numbers and of places alike (L2, P1). Every promise and law about rounding speaks of `rounded`.
use Rattle.std.specs.Prelude.{ℕ, suc, ◌+◌, ◌*◌, ◌/◌, ℤ, pos, negsuc, neg_ℤ}

-- n / d to the nearest, a half going up, of natural numbers: the whole part of n / d + 1/2, which is (2n + d) / 2d
abbrev pub nearest : ℕ → ℕ → ℕ
nearest n d = (2 * n + d) / (2 * d)

-- L4: n / d to the nearest, a half going away from zero: by n's size, with n's sign. `negsuc k` is -(k + 1).
unfoldable pub rounded : ℤ → ℕ → ℤ
rounded (pos n) d = pos (nearest n d)
rounded (negsuc k) d = neg_ℤ (pos (nearest (suc k) d))
