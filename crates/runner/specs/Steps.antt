-- The step: N11, N13, A7, A9, M2 and M10, and any count of steps for M4 and M5.
use Rattle.std.specs.Prelude.{Bool, not, cond, ◌&&◌, ◌||◌, List, ℕ, zero, suc, ◌/◌, min, ltb, eqb}
use Rattle.ends.specs.declared.EndKind.{EndKind}
use Rattle.ends.specs.declared.EndKind.TheVariants.{Free, Held, Closed}
use Rattle.sheet.specs.Answers.{Told}
use Rattle.sheet.specs.Fields.{kind, legs, leg, ticks}
use Rattle.sheet.specs.Reading.{most_points, read_by}
use Rattle.sheet.specs.declared.Refusal.TheVariants.{Adrift, Landed}
use Rattle.answers.specs.Answers.{pass_on, guard}
use Rattle.runner.specs.Ticks.{runner, at_lap, found, is_open, spot_at}
use Rattle.runner.specs.declared.Runner.{Runner}

-- N13: at the end of an open course, which is the full last leg
abbrev pub landed : List ℕ → Runner → Bool
landed s r = is_open (kind s) && eqb (suc r.leg) (legs s) && eqb r.offset (leg s r.leg)

-- N11, of leg and offset: on none of the legs, or not below its leg's length and not landed either
unfoldable pub off_legs : List ℕ → Runner → Bool
off_legs s r = not (ltb r.leg (legs s)) || not (ltb r.offset (leg s r.leg) || landed s r)

-- N11: off the legs, or on an open course with a lap
unfoldable pub adrift : List ℕ → Runner → Bool
adrift s r = off_legs s r || (is_open (kind s) && ltb 0 r.laps)

-- M10: the largest count of laps, 2^64 - 1; and one lap more, save at the largest count
abbrev pub most_laps : ℕ
most_laps = 18_446_744_073_709_551_615

abbrev pub next_lap : ℕ → ℕ
next_lap l = min (suc l) most_laps

-- from the last tick of the last leg: to the end of an open course, or round to the first waypoint, which is a lap more
abbrev pub last_step : EndKind → Runner → Runner
last_step Free r = at_lap r.laps (runner r.leg (suc r.offset))
last_step Held r = at_lap r.laps (runner r.leg (suc r.offset))
last_step Closed r = at_lap (next_lap r.laps) (runner 0 0)

-- M2, untested: one tick on, on its leg or to the start of the next one
unfoldable pub moved : List ℕ → Runner → Runner
moved s r =
    cond (ltb (suc r.offset) (leg s r.leg)) (at_lap r.laps (runner r.leg (suc r.offset)))
    (cond (ltb (suc r.leg) (legs s)) (at_lap r.laps (runner (suc r.leg) 0)) (last_step (kind s) r))

-- A7: by value the step answers the runner moved on, over a lent record its number alone (`bare`); of a reader with a limit
unfoldable pub stepped_by : ℕ → List ℕ → Runner → Told
stepped_by limit s r = pass_on (read_by limit s) (guard (adrift s r) Adrift (guard (landed s r) Landed (found (moved s r))))

-- M2, A9: the record that a step leaves, moved on or, where the step is refused, as it was
unfoldable pub onward_by : ℕ → List ℕ → Runner → Runner
onward_by limit s r = cond (eqb (stepped_by limit s r).number 0) (moved s r) r

-- the station's
abbrev pub stepped : List ℕ → Runner → Told
stepped = stepped_by most_points

abbrev pub onward : List ℕ → Runner → Runner
onward = onward_by most_points

-- M4, M5, M9: a runner after n moves of one sort, each by its own definition; and the record after n steps from the first waypoint, no lap flown
unfoldable pub repeated : (Runner → Runner) → ℕ → Runner → Runner
repeated move zero r = r
repeated move (suc n) r = move (repeated move n r)

abbrev pub after : List ℕ → ℕ → Runner
after s n = repeated (onward s) n (runner 0 0)

-- M4: where n ticks of flight lead on a closed course: the runner from tick n, its laps at most the largest count
abbrev pub flown_to : List ℕ → ℕ → Runner
flown_to s n = at_lap (min (n / ticks s) most_laps) (spot_at s n)
