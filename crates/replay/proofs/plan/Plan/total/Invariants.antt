use Rattle.std.proofs.Common.{◌≡◌, ◌*◌, ◌≤◌}
use Rattle.workload.proofs.Turns.{UpTo}
use Rattle.logger.specs.HostSets.{members}
use Rattle.calls.specs.Recovery.{targets}
use Rattle.replay.proofs.plan.Plan.total.Given as goal

-- the targets below k are added up
abbrev pub invariant-loop-q : goal.invariant-loop-q
invariant-loop-q g l =
    UpTo (λ k. (l.sum ≡ targets (g.L.Logger.found l.self.logger.now) (members l.self.returning) k) × (l.sum ≤ 64 * k)) l.hosts.n l.q-iterator
