-- `station_back`: what the lent runner's way back tells is told of the slice.
use Rattle.std.proofs.Common.{◌≡◌, ◌∙◌, ap, rules}
use Rattle.sheet.specs.Answers.{Told}
use Rattle.sheet.specs.Reading.{most_points}
use Rattle.runner.specs.Ticks.{told_runner}
use Rattle.runner.specs.Backs.{backed}
use Rattle.boundary.specs.Written.{moved_slice, written_unsigned}
use Rattle.boundary.proofs.Lent.{moved_lent}
use Rattle.exports.proofs.station_back.Goals as goal

pub returns : goal.returns
returns c =
    let a = c.args in
    let moved : told_runner c.and_then.result ≡ moved_slice most_points backed a.sheet.now a.lent.now =
    moved_lent most_points backed a.sheet.now a.lent.now c.lent_runner-answer.result c.and_then.result c.lent_runner-answer.ensures c.and_then.ensures (λ at p. search rules) in
    record {
      answer = c.tell_runner.ensures.answer ∙ ap (λ (t : Told). t.number) moved;
      lent = c.tell_runner.ensures.out ∙ ap (λ (t : Told). written_unsigned t a.lent.now) moved;
    }
