use Rattle.network.proofs.Theorems.{worlds, replays}
use Rattle.network.proofs.theory.worlds.Goals as goal

pub returns : goal.returns
returns g c = record { worlds = λ n. worlds (g.W.Workload.machine n) n; replays = λ n. replays (g.W.Workload.machine n) n }
