use Rattle.network.proofs.Theorems.{cuts, orphan}
use Rattle.network.proofs.theory.cuts.Goals as goal

pub returns : goal.returns
returns g c = record { cuts = λ n. cuts (g.W.Workload.machine n) n; orphan = orphan }
