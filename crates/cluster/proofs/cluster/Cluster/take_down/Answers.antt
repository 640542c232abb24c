use Rattle.std.proofs.Common.{refl}
use Rattle.cluster.specs.View.{system}
use Rattle.cluster.proofs.Citing.{crashed_is}
use Rattle.cluster.proofs.cluster.Cluster.take_down.Goals as goal

pub returns : goal.returns
returns g c = record {
  cluster = crashed_is (system g.W.Workload c.args.self.now).cluster c.args.p c.down_count.result _ _ c.reset.ensures c.insert-self.ensures c.down_count.ensures;
  logger = refl;
}
