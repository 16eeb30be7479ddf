-- Demand 3 (D3, group C) as one claim about every accepted sheet; a page to be read alone. The promises of layout::lay_out, place::place_at_tick and
-- place::place_of_runner are equations with the very definitions that it speaks of: lay_out and laid_out, place_at_tick, place_of_runner. Each is the same call of a reader
-- with a limit, lay_out_by and the like, at 512 waypoints, which is the station's. proofs/Claim has the proof.
use Rattle.std.specs.Prelude.{◌≡◌, false, List, ◌++◌, ℕ, ◌*◌, ◌^◌, ◌≤◌, ◌<◌, ℤ, length, take, drop}
use Rattle.ends.specs.declared.EndKind.{EndKind}
use Rattle.ends.specs.declared.EndKind.TheVariants.{Free, Held, Closed}
use Rattle.sheet.specs.Answers.{Told}
use Rattle.sheet.specs.Fields.{kind, points, ticks}
use Rattle.sheet.specs.Reading.{Accepted, most_points}
use Rattle.answers.specs.Answers.{done}
use Rattle.spline.specs.Spline.{Curve, Exact, SameCurve, value_at, ExactSpline}
use Rattle.spline.specs.Position.{Near}
use Rattle.layout.specs.Course.{course}
use Rattle.layout.specs.Layout.{all_bends, lay_out_by, laid_out, laid_out_by}
use Rattle.runner.specs.Ticks.{spot_at}
use Rattle.runner.specs.Steps.{adrift}
use Rattle.runner.specs.declared.Runner.{Runner}
use Rattle.place.specs.Places.{place_on, placed, place_at_tick_by, place_of_runner_by}

-- C1: the list has the own bend numbers, for the sheet s, of a reader with a limit. Its first 3N entries are those that a laying out of s, done, has written into
-- some list; how they came into this one is not asked.
pub record OwnBy (limit : ℕ) (s : List ℕ) (list : List ℤ) : Type 0 where
  pub lent : List ℤ
  pub not_refused : lay_out_by limit s (length lent) ≡ done
  pub holds : take (3 * points s) list ≡ take (3 * points s) (laid_out_by limit s lent)

-- the station's
abbrev pub Own : List ℕ → List ℤ → Type 0
Own = OwnBy most_points

-- C6: t is a tick of a course whose legs add up to p
abbrev pub Answers : EndKind → ℕ → ℕ → Type 0
Answers Free p t = t ≤ p
Answers Held p t = t ≤ p
Answers Closed p t = t < 2 ^ 64

-- C8, of one answer: it is the place of group P at the leg and offset of r, not a refusal, and there it is near (C3) every exact spline, on each axis
pub record Answered (s : List ℕ) (list : List ℤ) (r : Runner) (answer : Told) : Type 0 where
  pub place : answer ≡ placed s list r
  pub near : (axis : ℕ) → axis < 3 → (f : Curve) → Exact (course s axis) f → Near f.denominator (value_at (f.cubic r.leg) r.offset) (place_on s list r axis)

pub record Demand3By (limit : ℕ) (s : List ℕ) : Type 0 where
  -- C4: on each axis there is an exact spline ..
  pub exists : (axis : ℕ) → axis < 3 → ExactSpline (course s axis)
  -- .. and any two are the same
  pub same : (axis : ℕ) → axis < 3 → (a b : Curve) → Exact (course s axis) a → Exact (course s axis) b → SameCurve (course s axis) a b
  -- C5: a laying out into whatever list is long enough is done; what it writes is the bend numbers of forty passes, and the rest of the list stays
  pub laying : (list : List ℤ) → 3 * points s ≤ length list → (lay_out_by limit s (length list) ≡ done) × (laid_out_by limit s list ≡ all_bends s ++ drop (3 * points s) list)
  -- C6: with own bend numbers each tick of the course is answered, at the leg and offset that it names (C2) ..
  pub by_tick : (list : List ℤ) → OwnBy limit s list → (t : ℕ) → Answers (kind s) (ticks s) t → Answered s list (spot_at s t) (place_at_tick_by limit s list t)
  -- C7: .. and each runner that is not adrift, at its own
  pub by_runner : (list : List ℤ) → OwnBy limit s list → (r : Runner) → adrift s r ≡ false → Answered s list r (place_of_runner_by limit s list r)

-- the station's
abbrev pub Demand3 : List ℕ → Type 0
Demand3 = Demand3By most_points

-- C9: all of this, of every accepted sheet
abbrev pub Claim : Type 0
Claim = (s : List ℕ) → Accepted s → Demand3 s

-- B4: .. and by a reader of whatever limit, of every accepted sheet within it
abbrev pub ClaimBy : Type 0
ClaimBy = (limit : ℕ) (s : List ℕ) → Accepted s → points s ≤ limit → Demand3By limit s

-- C1: own numbers are there after every laying out that is done
abbrev pub OwnLaid : Type 0
OwnLaid = (s : List ℕ) → Accepted s → (list : List ℤ) → 3 * points s ≤ length list → Own s (laid_out s list)
