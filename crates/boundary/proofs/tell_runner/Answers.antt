-- `tell_runner`: three numbers are written, or a refusal's number is given.
use Rattle.std.proofs.Common.{◌∙◌, ap, [], ◌∷◌, pos}
use Rattle.runner.specs.Ticks.{told_runner}
use Rattle.boundary.specs.Written.{unsigned}
use Rattle.boundary.proofs.Told.{done_written, kept_written}
use Rattle.boundary.proofs.tell_runner.Goals as goal

pub returns-in-Ok-clause-out : goal.returns-in-Ok-clause-out
returns-in-Ok-clause-out c =
    let at = c.in-Ok.at in
    c.put.ensures
    ∙ done_written unsigned (told_runner c.args.answer) c.args.out.now (pos at.leg ∷ pos at.offset ∷ pos at.laps ∷ []) (ap told_runner c.in-Ok.is)

pub returns-in-Err-clause-out : goal.returns-in-Err-clause-out
returns-in-Err-clause-out c = kept_written unsigned (told_runner c.args.answer) c.args.out.now c.in-Err.refusal (ap told_runner c.in-Err.is)
