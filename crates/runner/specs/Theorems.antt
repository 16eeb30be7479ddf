-- What is proved of ticks and runners: P3, P4, P7, M3 to M5, M10, M11, N13.
use Rattle.std.specs.Prelude.{◌≡◌, true, false, List, ◌⊎◌, ℕ, ◌+◌, ◌-◌, ◌≤◌, ◌<◌, min}
use Rattle.ends.specs.declared.EndKind.TheVariants.{Closed}
use Rattle.sheet.specs.Answers.{refused}
use Rattle.sheet.specs.Bytes.{sum_below}
use Rattle.sheet.specs.Fields.{kind, legs, leg, ticks}
use Rattle.sheet.specs.Reading.{Accepted}
use Rattle.sheet.specs.declared.Refusal.TheVariants.{Landed}
use Rattle.runner.specs.Ticks.{runner, at_lap, is_open, reduced, laps_in, spot_at, tick_of, ticks_flown, past}
use Rattle.runner.specs.Steps.{adrift, most_laps, landed, stepped, onward, repeated, after, flown_to}
use Rattle.runner.specs.declared.Runner.{Runner}

-- r is not adrift and has flown n ticks
pub record Stands (s : List ℕ) (n : ℕ) (r : Runner) : Type 0 where
  pub fits : adrift s r ≡ false
  pub flown : ticks_flown s r ≡ n

-- M11: the ticks flown tell the tick and the laps: on a closed course what is left of them modulo P and the whole P in them, on an open one all of them and none
abbrev pub FlownParts : Type 0
FlownParts = (s : List ℕ) → Accepted s → (r : Runner) → adrift s r ≡ false
    → (tick_of s r ≡ reduced (kind s) (ticks s) (ticks_flown s r)) × (r.laps ≡ laps_in (kind s) (ticks s) (ticks_flown s r))

-- P3, P4, M10: the runner from a tick that the course has is not adrift and has flown so many ticks
abbrev pub TickStands : Type 0
TickStands = (s : List ℕ) → Accepted s → (t : ℕ) → past s t ≡ false → Stands s t (spot_at s t)

-- P3, M11: no two runners that are not adrift have flown the same ticks
abbrev pub OneRunner : Type 0
OneRunner = (s : List ℕ) → Accepted s → (r : Runner) → adrift s r ≡ false → spot_at s (ticks_flown s r) ≡ r

-- P7: the sum of the legs before leg i is at most u, and with leg i it is over u, unless no leg follows
pub record Enclosed (s : List ℕ) (u i : ℕ) : Type 0 where
  pub is_leg : i < legs s
  pub from : sum_below (leg s) i ≤ u
  pub till : (u < sum_below (leg s) (i + 1)) ⊎ (i + 1 ≡ legs s)

-- P7: at every tick of every sheet that has legs, the sums enclose the tick, reduced, on the leg that it names and on no other, and the offset is what is left
abbrev pub LegBySums : Type 0
LegBySums = (s : List ℕ) → 1 ≤ legs s → (t : ℕ) → let u = reduced (kind s) (ticks s) t in
    Enclosed s u (spot_at s t).leg × ((i : ℕ) → Enclosed s u i → spot_at s t ≡ at_lap (laps_in (kind s) (ticks s) t) (runner i (u - sum_below (leg s) i)))

-- M4: on a closed course n steps, for every n, lead to the runner from tick n, with the laps of tick n or, if those are more, the largest count
abbrev pub ClosedSteps : Type 0
ClosedSteps = (s : List ℕ) → Accepted s → kind s ≡ Closed → (n : ℕ) → after s n ≡ flown_to s n

-- .. and from any runner that is not adrift, of a count of laps that a record can hold, to n ticks more
abbrev pub ClosedStepsOn : Type 0
ClosedStepsOn = (s : List ℕ) → Accepted s → kind s ≡ Closed → (r : Runner) → adrift s r ≡ false → r.laps ≤ most_laps → (n : ℕ)
    → repeated (onward s) n r ≡ flown_to s (ticks_flown s r + n)

-- M5: on an open course they lead to tick n or, from P on, to the end, where a step is refused with 13
abbrev pub OpenSteps : Type 0
OpenSteps = (s : List ℕ) → Accepted s → is_open (kind s) ≡ true → (n : ℕ)
    → (after s n ≡ spot_at s (min n (ticks s))) × (ticks s ≤ n → stepped s (after s n) ≡ refused Landed)

-- N13: landed is said at P alone; before it the step is done
abbrev pub StepBefore : Type 0
StepBefore = (s : List ℕ) → Accepted s → (r : Runner) → adrift s r ≡ false
    → (landed s r ≡ true → tick_of s r ≡ ticks s) × (landed s r ≡ false → (stepped s r).number ≡ 0)
