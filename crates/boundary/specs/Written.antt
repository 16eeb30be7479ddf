-- What an exported function leaves in the slice that is lent for its results, and step and back of a runner that is lent as a slice. For boundary, exports and board.
use Rattle.std.specs.Prelude.{◌≡◌, cond, List, ◌++◌, map, ℕ, eqb, leb, ◌≤◌, ◌<◌, ℤ, nat_abs, length, drop, get_or, Result, Ok, Err}
use Rattle.sheet.specs.Answers.{Told, refused}
use Rattle.sheet.specs.Reading.{read_by}
use Rattle.sheet.specs.declared.Refusal.{Refusal}
use Rattle.sheet.specs.declared.Refusal.TheVariants.{Adrift}
use Rattle.answers.specs.Answers.{pass_on}
use Rattle.runner.specs.Ticks.{runner, at_lap}
use Rattle.runner.specs.declared.Runner.{Runner}

-- the values at the front of the slice where it has room for them, and the slice as it was where it has not; the rest is kept
unfoldable pub put : {A : Type 0} → List A → List A → List A
put values out = cond (leb (length values) (length out)) (values ++ drop (length values) out) out

-- values as a slice of signed numbers holds them, and one of unsigned ones
abbrev pub signed : List ℤ → List ℤ
signed values = values

abbrev pub unsigned : List ℤ → List ℕ
unsigned values = map nat_abs values

-- results are written only where the call is not refused (A9)
unfoldable pub written_by : {A : Type 0} → (List ℤ → List A) → Told → List A → List A
written_by g t out = cond (eqb t.number 0) (put (g t.values) out) out

abbrev pub written : Told → List ℤ → List ℤ
written = written_by signed

abbrev pub written_unsigned : Told → List ℕ → List ℕ
written_unsigned = written_by unsigned

-- A1, A8: without a runner step and back answer the sheet's refusal, and otherwise adrift
abbrev pub no_runner : ℕ → List ℕ → Told
no_runner limit s = pass_on (read_by limit s) (refused Adrift)

-- a lent runner is three numbers, leg, offset and laps; a shorter slice holds none. `call` is step or back by value, with the same limit
abbrev pub lent_runner : List ℕ → Runner
lent_runner r = at_lap (get_or r 2 0) (runner (get_or r 0 0) (get_or r 1 0))

unfoldable pub moved_slice : ℕ → (List ℕ → Runner → Told) → List ℕ → List ℕ → Told
moved_slice limit call s r = cond (leb 3 (length r)) (call s (lent_runner r)) (no_runner limit s)

-- the answer is the lent runner, or what is said where there is none
abbrev pub IsLent : ℕ → List ℕ → List ℕ → Result Runner Refusal → Type 0
IsLent limit s r (Ok at) = (3 ≤ length r) × (at ≡ lent_runner r)
IsLent limit s r (Err q) = (length r < 3) × (refused q ≡ no_runner limit s)
