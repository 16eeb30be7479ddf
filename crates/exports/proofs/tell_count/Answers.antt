-- `tell_count`: one number is written, or a refusal's number is given.
use Rattle.std.proofs.Common.{◌∙◌, ap, [], ◌∷◌, pos}
use Rattle.answers.specs.Answers.{told_count}
use Rattle.boundary.specs.Written.{unsigned}
use Rattle.boundary.proofs.Told.{done_written, kept_written}
use Rattle.exports.proofs.tell_count.Goals as goal

pub returns-in-Ok-clause-out : goal.returns-in-Ok-clause-out
returns-in-Ok-clause-out c =
    c.put.ensures ∙ done_written unsigned (told_count c.args.answer) c.args.out.now (pos c.in-Ok.count ∷ []) (ap told_count c.in-Ok.is)

pub returns-in-Err-clause-out : goal.returns-in-Err-clause-out
returns-in-Err-clause-out c = kept_written unsigned (told_count c.args.answer) c.args.out.now c.in-Err.refusal (ap told_count c.in-Err.is)
