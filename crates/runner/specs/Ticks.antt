-- The leg, offset and laps of a tick (P3, P4, M10), the ticks that a runner has flown (M11), and the runner from a tick (N10, A6).
use Rattle.std.specs.Prelude.{Bool, true, false, cond, ◌&&◌, List, [], ◌∷◌, ℕ, zero, suc, ◌+◌, ◌-◌, ◌*◌, ◌/◌, ◌%◌, ltb, pos, Result, Ok, Err}
use Rattle.ends.specs.declared.EndKind.{EndKind}
use Rattle.ends.specs.declared.EndKind.TheVariants.{Free, Held, Closed}
use Rattle.sheet.specs.Answers.{Told, refused}
use Rattle.sheet.specs.Bytes.{sum_below}
use Rattle.sheet.specs.Fields.{kind, legs, leg, ticks}
use Rattle.sheet.specs.Reading.{most_points, read_by}
use Rattle.sheet.specs.declared.Refusal.{Refusal}
use Rattle.sheet.specs.declared.Refusal.TheVariants.{Past}
use Rattle.answers.specs.Answers.{pass_on, guard}
use Rattle.runner.specs.declared.Runner.{Runner}

-- M1: the runner at a leg and offset with no lap flown; and any runner at another count of laps
abbrev pub runner : ℕ → ℕ → Runner
runner i u = record { leg = i; offset = u; laps = 0 }

abbrev pub at_lap : ℕ → Runner → Runner
at_lap l r = record { leg = r.leg; offset = r.offset; laps = l }

-- F8: the number and values of each answer; a runner's are leg, offset and laps
abbrev pub found : Runner → Told
found r = record { number = 0; values = pos r.leg ∷ pos r.offset ∷ pos r.laps ∷ [] }

abbrev pub told_runner : Result Runner Refusal → Told
told_runner (Ok r) = found r
told_runner (Err r) = refused r

-- A9: the runner that an answer leaves of one that a call was asked to move
abbrev pub left : Result Runner Refusal → Runner → Runner
left (Ok next) r = next
left (Err q) r = r

-- an open course has ends, free or held
abbrev pub is_open : EndKind → Bool
is_open Free = true
is_open Held = true
is_open Closed = false

-- P4: ticks of a closed course go round
abbrev pub reduced : EndKind → ℕ → ℕ → ℕ
reduced Free p t = t
reduced Held p t = t
reduced Closed p t = t % p

-- M10: the whole laps in a tick of a closed course; an open one has none
abbrev pub laps_in : EndKind → ℕ → ℕ → ℕ
laps_in Free p t = 0
laps_in Held p t = 0
laps_in Closed p t = t / p

-- P3: leg i where t, counted from its start, is below its length, or else one of the k legs after it; the last of them in any case
unfoldable pub walk : (ℕ → ℕ) → ℕ → ℕ → ℕ → Runner
walk h zero i t = runner i t
walk h (suc k) i t = cond (ltb t (h i)) (runner i t) (walk h k (suc i) (t - h i))

-- P3, P4, M10: the leg and offset of a tick, and its laps
unfoldable pub spot_at : List ℕ → ℕ → Runner
spot_at s t = at_lap (laps_in (kind s) (ticks s) t) (walk (leg s) (legs s - 1) 0 (reduced (kind s) (ticks s) t))

-- the tick, from 0, at which a runner stands
unfoldable pub tick_of : List ℕ → Runner → ℕ
tick_of s r = sum_below (leg s) r.leg + r.offset

-- M11: the ticks that it has flown, its laps and then those up to where it stands
unfoldable pub ticks_flown : List ℕ → Runner → ℕ
ticks_flown s r = r.laps * ticks s + tick_of s r

-- N10: an open course has no tick over P
abbrev pub past : List ℕ → ℕ → Bool
past s t = is_open (kind s) && ltb (ticks s) t

-- A6: the runner from a tick, of a reader with a limit; and the station's
unfoldable pub runner_at_tick_by : ℕ → List ℕ → ℕ → Told
runner_at_tick_by limit s t = pass_on (read_by limit s) (guard (past s t) Past (found (spot_at s t)))

abbrev pub runner_at_tick : List ℕ → ℕ → Told
runner_at_tick = runner_at_tick_by most_points
