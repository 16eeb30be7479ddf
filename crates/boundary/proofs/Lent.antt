-- The runner that is lent to step or back as a slice (specs/Written): three numbers are a runner, a shorter slice is none.
use mathlib.Core.Path.{◌≡◌, refl, sym, ap, ◌∙◌}
use mathlib.Core.Bool.{Bool, cond}
use mathlib.Core.List.{List, []}
use Prim.Native.Nat.{ℕ}
use borrow.Author.Tests.{le-leb, lt-leb}
use lib.ListN.{length}
use Rattle.std.specs.Prelude.{Result, Ok, Err}
use Rattle.std.specs.Result.{MatchResult}
use Rattle.sheet.specs.Answers.{Told}
use Rattle.sheet.specs.declared.Refusal.{Refusal}
use Rattle.runner.specs.Ticks.{told_runner}
use Rattle.sheet.specs.Bytes.{be16, be32, signed32, any_below, sum_below}
use Rattle.sheet.specs.Reading.{most_points, read_by}
use Rattle.runner.specs.Steps.{off_legs, adrift, stepped}
use Rattle.runner.specs.Backs.{moved_back, backed}
use Rattle.runner.specs.Worked.{sheet_a}
use Rattle.runner.specs.declared.Runner.{Runner}
use Rattle.boundary.specs.Written.{no_runner, lent_runner, moved_slice, IsLent}

-- tried: no runner on course A is 11, not the 15 that back says where no tick is flown
runner_first : (moved_slice most_points backed sheet_a []).number ≡ 11
unfolding moved_slice be16 be32 signed32 any_below sum_below read_by off_legs adrift moved_back backed
runner_first = refl

-- tried: no sheet and no runner is number 1, torn, before it is 11
sheet_first : (moved_slice most_points stepped [] []).number ≡ 1
unfolding moved_slice read_by
sheet_first = refl

module _ (limit : ℕ) (call : List ℕ → Runner → Told) (s r : List ℕ) where
  abbrev lent : Bool → Told
  lent b = cond b (call s (lent_runner r)) (no_runner limit s)

  -- what step and back answer of the runner that is lent, or without one
  pub moved_lent : (a b : Result Runner Refusal) {P : Runner → Type 0} → IsLent limit s r a → MatchResult a P (λ q. b ≡ Err q)
      → ((at : Runner) → P at → told_runner b ≡ call s at) → told_runner b ≡ moved_slice limit call s r
  unfolding moved_slice
  moved_lent (Ok at) b (long, is) p f = f at p ∙ ap (call s) is ∙ sym (ap lent (le-leb 3 (length r) long))
  moved_lent (Err q) b (short, is) p f = ap told_runner p ∙ is ∙ sym (ap lent (lt-leb 3 (length r) short))
