-- The space, then std's digits, which are the definition's.
use Rattle.std.proofs.Common.{◌≡◌, ◌∙◌, ap, arith}
use Rattle.std.specs.Fmt.{signed_decimal as std_signed}
use mir.Syntax.{w64}
use mir.Val.{to_z, of_z}
use mir.ValLaws.{to_z-of_z}
use Rattle.lines.proofs.Decimal.{signed_as_std}
use Rattle.lines.proofs.Grow.{grown_twice}
use Rattle.lines.proofs.put_column.Goals as goal

pub returns-clause-grown : goal.returns-clause-grown
returns-clause-grown c =
    let same : to_z w64 (of_z w64 c.args.z) ≡ c.args.z = to_z-of_z w64 c.args.z c.ranges.z in
    grown_twice c.push.ensures c.push-2.ensures (c.as_bytes.ensures.value ∙ c.format.ensures.text ∙ ap std_signed same ∙ signed_as_std c.args.z (omega arith))
