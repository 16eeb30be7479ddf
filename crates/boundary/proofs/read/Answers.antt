-- `read`: the course's three numbers are written, or a refusal's number is given.
use Rattle.std.proofs.Common.{◌∙◌, ap, sym, [], ◌∷◌, ℕ, pos}
use Rattle.ends.specs.Ends.{kind_number}
use Rattle.sheet.specs.Answers.{told}
use Rattle.sheet.specs.Reading.{read_by}
use Rattle.boundary.specs.Written.{put, unsigned}
use Rattle.boundary.proofs.Told.{done_written, kept_written}
use Rattle.boundary.proofs.read.Goals as goal

pub returns-in-Ok-clause-out : goal.returns-in-Ok-clause-out
returns-in-Ok-clause-out c =
    let k = c.in-Ok.course in let out = c.args.out.now in
    c.put.ensures ∙ ap (λ (n : ℕ). put (n ∷ k.points ∷ k.ticks ∷ []) out) c.from.ensures
    ∙ done_written unsigned (told (read_by c.args.limit c.args.sheet.now)) out (pos (kind_number k.kind) ∷ pos k.points ∷ pos k.ticks ∷ [])
    (sym c.read_by.ensures ∙ ap told c.in-Ok.is)

pub returns-in-Err-clause-out : goal.returns-in-Err-clause-out
returns-in-Err-clause-out c =
    kept_written unsigned (told (read_by c.args.limit c.args.sheet.now)) c.args.out.now c.in-Err.refusal (sym c.read_by.ensures ∙ ap told c.in-Err.is)
