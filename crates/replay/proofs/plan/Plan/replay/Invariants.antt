use Rattle.hosts.specs.View.{look}
use Rattle.logger.specs.HostSets.{members}
use Rattle.replay.proofs.Replaying.{Replaying}
use Rattle.replay.proofs.plan.Plan.replay.Given as goal

abbrev pub invariant-loop-count : goal.invariant-loop-count
invariant-loop-count g l =
    Replaying (g.L.Logger.found l.self.logger.now) (members l.self.returning) l.most (look g.W.Workload l.initial.hosts) l.count l.count (look g.W.Workload l.hosts)
