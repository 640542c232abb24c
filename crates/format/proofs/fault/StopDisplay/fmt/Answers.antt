use Rattle.std.proofs.Common.{append_assoc}
use Rattle.format.proofs.fault.StopDisplay.fmt.Goals as goal

pub returns-clause-writes : goal.returns-clause-writes
returns-clause-writes g c p o = simp append_assoc (rw c.layer.ensures at (rw c.from.ensures.0 at (c.writeln.ensures.writes p o)))
