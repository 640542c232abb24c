use Rattle.std.proofs.Common.{refl}
use Rattle.loggers.proofs.worked_example.stops_travelling.Goals as goal

pub returns : goal.returns
returns c = refl
