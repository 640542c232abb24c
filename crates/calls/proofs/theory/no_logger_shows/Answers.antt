use Rattle.calls.proofs.Alikes.{no_logger_shows}
use Rattle.calls.proofs.theory.no_logger_shows.Goals as goal

pub returns : goal.returns
returns g c = no_logger_shows g.L.Logger g.W.Workload.machine
