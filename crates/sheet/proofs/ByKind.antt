-- What holds of the number of legs, the least N and the kind whatever the kind is (ends, and specs/Fields).
use mathlib.Core.Path.{◌≡◌, refl}
use Prim.Native.Nat.{ℕ, zero, suc, ◌+◌, ◌≤◌}
use native.Mathlib.Omega.{arith}
use Rattle.ends.specs.Ends.{leg_count, least_points}
use Rattle.ends.specs.declared.EndKind.{EndKind}
use Rattle.ends.specs.declared.EndKind.TheVariants.{Free, Held, Closed}
use Rattle.sheet.specs.Fields.{kind_of, sheet_length}

-- no more legs than waypoints
pub legs_at_most : (k : EndKind) (n : ℕ) → leg_count k n ≤ n
legs_at_most Free n = omega arith
legs_at_most Held n = omega arith
legs_at_most Closed n = omega arith

-- at most one leg fewer
pub legs_at_least : (k : EndKind) (n : ℕ) → n ≤ leg_count k n + 1
legs_at_least Free n = omega arith
legs_at_least Held n = omega arith
legs_at_least Closed n = omega arith

-- no kind has more bytes than held, by legs and slopes together
pub held_longest : (k : EndKind) (n : ℕ) → 1 ≤ n → sheet_length k n ≤ sheet_length Held n
held_longest Free n h = omega arith
held_longest Held n h = omega arith
held_longest Closed n h = omega arith

pub least_two : (k : EndKind) → 2 ≤ least_points k
least_two Free = omega arith
least_two Held = omega arith
least_two Closed = omega arith

pub kind_otherwise : (b : ℕ) → (b ≡ 0 → ⊥) → (b ≡ 1 → ⊥) → Closed ≡ kind_of b
kind_otherwise zero f g = absurd (f refl)
kind_otherwise (suc zero) f g = absurd (g refl)
kind_otherwise (suc (suc b)) f g = refl
