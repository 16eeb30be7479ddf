-- `read_u16`: std's number of two bytes is the definition's.
use Rattle.std.proofs.Common.{arith}
use Rattle.sheet.specs.Bytes.{be16}
use Rattle.sheet.proofs.bytes.read_u16.Goals as goal

pub returns : goal.returns
unfolding be16
returns c = omega (arith, c.from_be_bytes.ensures)
