-- `is_off`: all numbers fit, and what is compared is the size.
use Rattle.integers.proofs.Made.{fits}
use Rattle.stretch.proofs.Off.{risen, line, distance, off_is}
use Rattle.stretch.proofs.test.is_off.Goals as goal

pub overflow_mul-line-2 : goal.overflow_mul-line-2
overflow_mul-line-2 c = fits (risen c.requires)

pub overflow_add-line : goal.overflow_add-line
overflow_add-line c = fits (line c.requires)

pub overflow_sub-apart : goal.overflow_sub-apart
overflow_sub-apart c = fits (distance c.requires)

pub returns : goal.returns
returns c = off_is c.requires c.unsigned_abs.ensures.value
