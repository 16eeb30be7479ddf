-- `cut`: the stretch's number of ticks falls from call to call, since a stretch that is cut has two ticks or more.
use Rattle.stretch.proofs.piece.TabledLeg.+cut.Given as goal

abbrev pub decreases-cut : goal.decreases-cut
decreases-cut l = l.ticks
