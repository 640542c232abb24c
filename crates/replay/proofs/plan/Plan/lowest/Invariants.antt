use Rattle.std.proofs.Common.{◌≡◌, None}
use Rattle.workload.proofs.Turns.{UpTo}
use Rattle.hosts.specs.View.{look}
use Rattle.logger.specs.HostSets.{members}
use Rattle.calls.specs.Recovery.{lowest, replayable}
use Rattle.replay.proofs.plan.Plan.lowest.Given as goal

-- no host below k can go on
abbrev pub invariant-loop-q : goal.invariant-loop-q
invariant-loop-q g l =
    UpTo (λ k. lowest k (replayable (g.L.Logger.found l.self.logger.now) (members l.self.returning) (look g.W.Workload l.hosts)) ≡ None) l.hosts.n l.q-iterator
