-- Back: N15, A12, A9, M6 and M10.
use Rattle.std.specs.Prelude.{Bool, cond, ◌&&◌, List, ℕ, ◌-◌, ltb, eqb}
use Rattle.sheet.specs.Answers.{Told}
use Rattle.sheet.specs.Fields.{legs, leg}
use Rattle.sheet.specs.Reading.{read_sheet}
use Rattle.sheet.specs.declared.Refusal.TheVariants.{Adrift, Start}
use Rattle.answers.specs.Answers.{pass_on, guard}
use Rattle.runner.specs.Ticks.{runner, at_lap, found}
use Rattle.runner.specs.Steps.{adrift}
use Rattle.runner.specs.declared.Runner.{Runner}

-- N15: at the first waypoint with no lap flown
abbrev pub at_start : Runner → Bool
at_start r = eqb r.leg 0 && eqb r.offset 0 && eqb r.laps 0

-- the last tick of leg i, one before the waypoint at its end
abbrev pub last_tick : List ℕ → ℕ → Runner
last_tick s i = runner i (leg s i - 1)

-- M6, untested: one tick back, on its leg, to the last tick of the leg before, or from the first waypoint to that of the closing leg, which takes a lap off
unfoldable pub moved_back : List ℕ → Runner → Runner
moved_back s r =
    cond (ltb 0 r.offset) (at_lap r.laps (runner r.leg (r.offset - 1)))
    (cond (ltb 0 r.leg) (at_lap r.laps (last_tick s (r.leg - 1))) (at_lap (r.laps - 1) (last_tick s (legs s - 1))))

-- A12: by value back answers the runner moved back, over a lent record its number alone (`bare`)
unfoldable pub backed : List ℕ → Runner → Told
backed s r = pass_on (read_sheet s) (guard (adrift s r) Adrift (guard (at_start r) Start (found (moved_back s r))))

-- M6, A9: the record that back leaves, moved back or, where back is refused, as it was
unfoldable pub backward : List ℕ → Runner → Runner
backward s r = cond (eqb (backed s r).number 0) (moved_back s r) r
