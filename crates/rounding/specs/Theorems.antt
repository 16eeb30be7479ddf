-- What is proved of rounding, to be read without its proof, which is in proofs/Laws under the same name in lower case.
use Rattle.std.specs.Prelude.{◌≡◌, ℕ, ◌*◌, ◌≤◌, ℤ, pos, neg_ℤ, nat_abs, ◌-ℤ◌, ◌*ℤ◌}
use Rattle.rounding.specs.Rounded.{rounded}

-- L4, of z for n / d: at most a half away, and where it is just a half not nearer to zero than n / d
pub record NearestAway (n : ℤ) (d : ℕ) (z : ℤ) : Type 0 where
  pub near : 2 * nat_abs (pos d *ℤ z -ℤ n) ≤ d
  pub half : 2 * nat_abs (pos d *ℤ z -ℤ n) ≡ d → nat_abs n ≤ d * nat_abs z

abbrev pub RoundedNearest : Type 0
RoundedNearest = (n : ℤ) (d : ℕ) → 1 ≤ d → NearestAway n d (rounded n d)

-- L4, L7: the negated numerator gives the negated number, whatever the divisor
abbrev pub RoundedMirrored : Type 0
RoundedMirrored = (n : ℤ) (d : ℕ) → rounded (neg_ℤ n) d ≡ neg_ℤ (rounded n d)
