-- std's digits are the definition's.
use Rattle.std.proofs.Common.{◌∙◌}
use Rattle.lines.proofs.Decimal.{as_std}
use Rattle.lines.proofs.Grow.{grown_as}
use Rattle.lines.proofs.put_decimal.Goals as goal

pub returns-clause-grown : goal.returns-clause-grown
returns-clause-grown c = grown_as (c.as_bytes.ensures.value ∙ c.format.ensures.text ∙ as_std c.args.n c.ranges.n.fits) c.push.ensures
