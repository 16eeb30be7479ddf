-- `read_with_sums`: a torn sheet is told, and one that is not leaves the rest of the chain.
use Rattle.std.proofs.Common.{◌∙◌, sym, ap, length}
use borrow.Author.Tests.{le-ltb, lt-ltb, eq-eqb, ne_eqb}
use Rattle.sheet.specs.Answers.{told}
use Rattle.sheet.specs.Bytes.{be32}
use Rattle.sheet.specs.Reading.{read_by}
use Rattle.sheet.specs.declared.Refusal.TheVariants.{Torn}
use Rattle.sheet.proofs.Lowest.{past, passed, stopped}
use Rattle.sheet.proofs.reader.read_with_sums.Goals as goal

pub returns-then-length-lt8-clause-answer : goal.returns-then-length-lt8-clause-answer
unfolding read_by
returns-then-length-lt8-clause-answer c =
    let s = c.args.s.now in ap told (stopped c.args.limit s Torn (past 1) (simp (lt-ltb (length s) 8 c.if-length-lt8.true)))

pub returns-then-read32-length-clause-answer : goal.returns-then-read32-length-clause-answer
unfolding read_by
returns-then-read32-length-clause-answer c =
    let s = c.args.s.now in
    ap told (stopped c.args.limit s Torn (past 1) (simp (
      le-ltb (length s) 8 c.if-length-lt8.false,
      ne_eqb (be32 s 0) (length s) (λ e. c.if-read32-length.true (c.read32.ensures.0 ∙ e)),
    )))

pub returns-clause-answer : goal.returns-clause-answer
unfolding read_by
returns-clause-answer c =
    let s = c.args.s.now in
    ap told (c.read_fields.ensures.answer ∙ passed c.args.limit s Torn (past 1) (simp (
      le-ltb (length s) 8 c.if-length-lt8.false,
      eq-eqb (be32 s 0) (length s) (sym c.read32.ensures.0 ∙ c.if-read32-length.false),
    )))
