-- `read32`: std's number of four bytes is the definition's.
use Rattle.std.proofs.Common.{◌∙◌, arith}
use Rattle.sheet.proofs.Four.{of_four}
use Rattle.sheet.proofs.bytes.read32.Goals as goal

pub returns : goal.returns
returns c = (c.from.ensures ∙ c.from_be_bytes.ensures ∙ of_four c.args.s.now c.args.at c.four_bytes.ensures, omega (arith, c.from.ensures))
