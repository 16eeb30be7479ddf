-- A refused call passes reading's number on and keeps what was lent: each call's definition begins with the reader's answer, and what it leaves asks its number.
use mathlib.Core.Path.{sym, ◌∙◌}
use mathlib.Core.List.{[], ◌∷◌}
use lib.ListN.{length}
use Rattle.lists.specs.Answer.{write_sheet}
use Rattle.writer.specs.Writing.{written_into}
use Rattle.answers.proofs.Guards.{read_on, number_keeps, refused_keeps}
use Rattle.answers.specs.Answers.{done}
use Rattle.join.specs.Joining.{join_sheets, joined_into}
use Rattle.layout.specs.Layout.{lay_out_by, laid_out_by}
use Rattle.runner.specs.Ticks.{runner_at_tick_by}
use Rattle.runner.specs.Steps.{moved, stepped_by, onward_by}
use Rattle.runner.specs.Backs.{moved_back, backed, backward}
use Rattle.place.specs.Places.{place_at_tick_by, place_of_runner_by}
use Rattle.seat.specs.Serving.{admitted, next_turn, served, turn_after}
use Rattle.fleet.proofs.Lent.{fleet_kept}
use Rattle.fleet.proofs.Triples.{numbers_kept}
use Rattle.strokes.specs.Strokes.{strokes_answer, drawn_into}
use Rattle.claims.specs.Refused.{RefusalPassedOn, RefusedKeepsList, RefusedKeepsRecord, RefusedKeepsFleet, RefusedKeepsEnds, RefusedKeepsSlice}

pub refusal_passed_on : RefusalPassedOn
unfolding lay_out_by place_at_tick_by place_of_runner_by runner_at_tick_by stepped_by backed served turn_after strokes_answer join_sheets
refusal_passed_on s q = (
  (λ limit e. record {
    laying = λ room. rw e;
    by_tick = λ list t. rw e;
    by_runner = λ list r. rw e;
    from_tick = λ t. rw e;
    step = λ r. rw e;
  }),
  (λ e. record {
    back = λ r. rw e;
    round = λ list fleet t. let k = length fleet in (rw e, refused_keeps (admitted s list k t done) (next_turn k t ∷ []) [] q (rw e));
    strokes = λ list tolerance room. rw e;
    join_first = λ t room. rw e;
    join_second = λ t room a. sym (read_on t a _) ∙ rw e;
  }),
)

pub refused_keeps_list : RefusedKeepsList
unfolding laid_out_by
refused_keeps_list limit s list = number_keeps (lay_out_by limit s (length list)) _ list

pub refused_keeps_record : RefusedKeepsRecord
unfolding onward_by backward
refused_keeps_record s r = ((λ limit. number_keeps (stepped_by limit s r) (moved s r) r), number_keeps (backed s r) (moved_back s r) r)

pub refused_keeps_fleet : RefusedKeepsFleet
refused_keeps_fleet s list t = ((λ fleet. fleet_kept s list fleet t), (λ lent. numbers_kept s list lent t))

pub refused_keeps_ends : RefusedKeepsEnds
unfolding drawn_into
refused_keeps_ends s list tolerance out = number_keeps (strokes_answer s list tolerance (length out)) _ out

pub refused_keeps_slice : RefusedKeepsSlice
unfolding written_into joined_into
refused_keeps_slice = ((λ c out. number_keeps (write_sheet c (length out)) _ out), (λ s t out. number_keeps (join_sheets s t (length out)) _ out))
