-- `WithinBoth` (specs/Alike): one lemma on reading, `read_alike` of crate sheet, and every call passes the reading on first.
use mathlib.Core.Path.{◌≡◌, refl, sym, ap, ◌∙◌}
use mathlib.Core.Bool.{cond}
use mathlib.Core.List.{List, ◌++◌}
use Prim.Native.Nat.{ℕ, zero, suc, ◌*◌}
use lib.Dec.{eqb}
use lib.ListN.{length, drop}
use Rattle.sheet.specs.Answers.{Told, Reading}
use Rattle.sheet.specs.Fields.{points}
use Rattle.sheet.specs.Reading.{read_by}
use Rattle.sheet.proofs.Laws.{read_alike}
use Rattle.answers.specs.Answers.{pass_on}
use Rattle.layout.specs.Layout.{all_bends, lay_out_by, laid_out_by}
use Rattle.runner.specs.Ticks.{runner_at_tick_by}
use Rattle.runner.specs.Steps.{moved, stepped_by, onward_by, repeated}
use Rattle.runner.specs.declared.Runner.{Runner}
use Rattle.place.specs.Places.{place_at_tick_by, place_of_runner_by}
use Rattle.station.specs.Alike.{Alike, WithinBoth}

module _ (l m : ℕ) (s : List ℕ) (e : read_by l s ≡ read_by m s) where
  on : (rest : Told) → pass_on (read_by l s) rest ≡ pass_on (read_by m s) rest
  on rest = ap (λ (x : Reading). pass_on x rest) e

  laying : (room : ℕ) → lay_out_by l s room ≡ lay_out_by m s room
  unfolding lay_out_by
  laying room = on _

  step : (r : Runner) → stepped_by l s r ≡ stepped_by m s r
  unfolding stepped_by
  step r = on _

  runner : (r : Runner) → onward_by l s r ≡ onward_by m s r
  unfolding onward_by
  runner r = ap (λ (t : Told). cond (eqb t.number 0) (moved s r) r) (step r)

  steps : (n : ℕ) (r : Runner) → repeated (onward_by l s) n r ≡ repeated (onward_by m s) n r
  unfolding repeated
  steps zero r = refl
  steps (suc n) r = runner (repeated (onward_by l s) n r) ∙ ap (onward_by m s) (steps n r)

  alike : Alike l m s
  unfolding laid_out_by place_at_tick_by place_of_runner_by runner_at_tick_by
  alike = record {
    read = e;
    laying = laying;
    list = λ lent. ap (λ (t : Told). cond (eqb t.number 0) (all_bends s ++ drop (3 * points s) lent) lent) (laying (length lent));
    by_tick = λ list t. on _;
    by_runner = λ list r. on _;
    from_tick = λ t. on _;
    step = step;
    runner = runner;
    steps = steps;
  }

pub within_both : WithinBoth
within_both l m s below above = alike l m s (read_alike l s below ∙ sym (read_alike m s above))
