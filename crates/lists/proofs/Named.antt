-- The kind of a number, as the code asks for it (`try_from`): a number that is named is at most 2 and names the lists' kind, another is above. For answer.
use mathlib.Core.Path.{◌≡◌, ap}
use Prim.Native.Nat.{ℕ, zero, suc, ◌≤◌, ◌<◌}
use native.Mathlib.Omega.{arith}
use Rattle.std.specs.Prelude.{Result, Ok, Err}
use Rattle.std.specs.Result.{IsErrAnd}
use Rattle.ends.specs.Ends.{kind_named}
use Rattle.ends.specs.declared.EndKind.{EndKind}
use Rattle.ends.specs.declared.UnknownKind.{UnknownKind}
use Rattle.sheet.specs.Answers.{refused}
use Rattle.sheet.specs.Fields.{kind_of}
use Rattle.sheet.specs.declared.Refusal.{Refusal}
use Rattle.sheet.specs.declared.Refusal.TheVariants.{Ends}
use Rattle.answers.specs.Answers.{told_count}

pub named : (n : ℕ) {k : EndKind} → Ok k ≡ kind_named n → (n ≤ 2) × (k ≡ kind_of n)
named zero e = (omega arith, cc)
named (suc zero) e = (omega arith, cc)
named (suc (suc zero)) e = (omega arith, cc)
named (suc (suc (suc n))) e = absurd (cc)

pub unnamed : (n : ℕ) {u : UnknownKind} → Err u ≡ kind_named n → 2 < n
unnamed zero e = absurd (cc)
unnamed (suc zero) e = absurd (cc)
unnamed (suc (suc zero)) e = absurd (cc)
unnamed (suc (suc (suc n))) e = omega arith

pub told_ends : (r : Result ℕ Refusal) → IsErrAnd r (λ q. q ≡ Ends) → told_count r ≡ refused Ends
told_ends (Ok n) h = absurd h
told_ends (Err q) h = ap refused h
