-- `tell_place`: three numbers are written, or a refusal's number is given.
use Rattle.std.proofs.Common.{◌∙◌, ap}
use Rattle.place.specs.Places.{told_placed}
use Rattle.boundary.specs.Written.{signed}
use Rattle.boundary.proofs.Told.{done_written, kept_written}
use Rattle.boundary.proofs.tell_place.Goals as goal

pub returns-in-Ok-clause-out : goal.returns-in-Ok-clause-out
returns-in-Ok-clause-out c =
    c.put.ensures ∙ done_written signed (told_placed c.args.answer) c.args.out.now c.in-Ok.place.at (ap told_placed c.in-Ok.is)

pub returns-in-Err-clause-out : goal.returns-in-Err-clause-out
returns-in-Err-clause-out c = kept_written signed (told_placed c.args.answer) c.args.out.now c.in-Err.refusal (ap told_placed c.in-Err.is)
