use Rattle.network.proofs.Theorems.{run_worlds}
use Rattle.network.proofs.theory.runs.Goals as goal

pub returns : goal.returns
returns g c = λ n. run_worlds (g.W.Workload.machine n) n
