-- `copy_part`: a copy between two parts of one length.
use Rattle.std.proofs.Common.{◌≡◌, ◌+◌, ◌-◌, arith}
use Rattle.writer.proofs.Over.{part_copied}
use Rattle.writer.proofs.put.copy_part.Goals as goal

pub returns : goal.returns
returns c =
    let a = c.args in let i : a.from + a.count - a.from ≡ a.count = omega arith in let j : a.at + a.count - a.at ≡ a.count = omega arith in
    part_copied a.s.now a.from a.out.now a.at a.count i j c.requires.0 c.copy_from_slice.ensures.after
