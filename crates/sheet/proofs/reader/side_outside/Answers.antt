-- `side_outside`: one test for each axis.
use Rattle.std.proofs.Common.{◌∙◌, ap}
use Rattle.sheet.specs.Reading.{slope_outside}
use Rattle.sheet.proofs.Numbers.{as_read, any_axis}
use Rattle.sheet.proofs.reader.side_outside.Goals as goal

pub returns : goal.returns
returns c =
    any_axis (λ axis. slope_outside) c.args.s.now c.args.at
    (c.slope_outside.ensures ∙ ap slope_outside (as_read c.read_signed.ensures.0 c.read_signed.ensures.1))
    (c.slope_outside-2.ensures ∙ ap slope_outside (as_read c.read_signed-2.ensures.0 c.read_signed-2.ensures.1))
    (c.slope_outside-3.ensures ∙ ap slope_outside (as_read c.read_signed-3.ensures.0 c.read_signed-3.ensures.1))
