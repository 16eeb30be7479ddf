-- How a call's number is found after reading (A1, A8). Every call's definition is a chain of these, the lowest number first.
use Rattle.std.specs.Prelude.{◌≡◌, Bool, true, false, List, [], ◌∷◌, ℕ, pos, Result, Ok, Err}
use Rattle.sheet.specs.Answers.{Told, refused, Reading, read_course}
use Rattle.sheet.specs.Fields.{ticks}
use Rattle.sheet.specs.declared.Refusal.{Refusal}
use Rattle.answers.specs.declared.opened.OpenSheet.{OpenSheet}
use Rattle.answers.specs.declared.opened.TimedSheet.{TimedSheet}

-- A3, A7: neither number nor values
abbrev pub done : Told
done = record { number = 0; values = [] }

-- F8: number and values of each case of an answer without a value, and of one that is a count (of bytes: A11; of stroke ends: A15)
abbrev pub told_outcome : Result (Unit {0}) Refusal → Told
told_outcome (Ok nothing) = done
told_outcome (Err r) = refused r

abbrev pub told_count : Result ℕ Refusal → Told
told_count (Ok n) = record { number = 0; values = pos n ∷ [] }
told_count (Err r) = refused r

-- a call's number without its values: what a step over a lent record answers (A7)
abbrev pub bare : Told → Told
bare t = record { number = t.number; values = [] }

-- A8: reading's refusal is the call's
abbrev pub pass_on : Reading → Told → Told
pass_on (Err r) rest = refused r
pass_on (Ok c) rest = rest

-- the refusal where its test applies, and otherwise the rest
abbrev pub guard : Bool → Refusal → Told → Told
guard true r rest = refused r
guard false r rest = rest

-- A2: what opening a sheet answers, after the reader's answer: the sheet with what was read of it, or the refusal
abbrev pub Answered : Reading → List ℕ → Result OpenSheet Refusal → Type 0
Answered reading s (Ok sheet) = (sheet.bytes.now ≡ s) × (reading ≡ read_course sheet.kind sheet.points (ticks s))
Answered reading s (Err r) = reading ≡ Err r

-- P7: the same of a sheet with its P
abbrev pub AnsweredTimed : Reading → List ℕ → Result TimedSheet Refusal → Type 0
AnsweredTimed reading s (Ok timed) = Answered reading s (Ok timed.sheet)
AnsweredTimed reading s (Err r) = Answered reading s (Err r)

-- r is the refusal that reading's answer carries, if it carries one: what `refusal_of` promises
abbrev pub Carries : Reading → Refusal → Type 0
Carries answer r = (q : Refusal) → answer ≡ Err q → r ≡ q
