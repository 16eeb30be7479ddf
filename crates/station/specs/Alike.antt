-- Readers with two limits (B3): on each call that takes one, of a sheet within both, they give the same answers, lists and runners. For board.
use Rattle.std.specs.Prelude.{◌≡◌, List, ℕ, ◌≤◌, ℤ}
use Rattle.sheet.specs.Fields.{points}
use Rattle.sheet.specs.Reading.{read_by}
use Rattle.layout.specs.Layout.{lay_out_by, laid_out_by}
use Rattle.runner.specs.Ticks.{runner_at_tick_by}
use Rattle.runner.specs.Steps.{stepped_by, onward_by, repeated}
use Rattle.runner.specs.declared.Runner.{Runner}
use Rattle.place.specs.Places.{place_at_tick_by, place_of_runner_by}

pub record Alike (l m : ℕ) (s : List ℕ) : Type 0 where
  pub read : read_by l s ≡ read_by m s
  pub laying : (room : ℕ) → lay_out_by l s room ≡ lay_out_by m s room
  pub list : (lent : List ℤ) → laid_out_by l s lent ≡ laid_out_by m s lent
  pub by_tick : (list : List ℤ) (t : ℕ) → place_at_tick_by l s list t ≡ place_at_tick_by m s list t
  pub by_runner : (list : List ℤ) (r : Runner) → place_of_runner_by l s list r ≡ place_of_runner_by m s list r
  pub from_tick : (t : ℕ) → runner_at_tick_by l s t ≡ runner_at_tick_by m s t
  pub step : (r : Runner) → stepped_by l s r ≡ stepped_by m s r
  pub runner : (lent : Runner) → onward_by l s lent ≡ onward_by m s lent
  -- M4, M5: and after any count of steps
  pub steps : (n : ℕ) (r : Runner) → repeated (onward_by l s) n r ≡ repeated (onward_by m s) n r

abbrev pub WithinBoth : Type 0
WithinBoth = (l m : ℕ) (s : List ℕ) → points s ≤ l → points s ≤ m → Alike l m s
