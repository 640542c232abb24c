use Rattle.std.proofs.Common.{◌≡◌, true, not, ◌||◌, eqb, length}
use Rattle.workload.proofs.Turns.{UpTo}
use Rattle.hosts.specs.View.{look}
use Rattle.logger.specs.HostSets.{members}
use Rattle.calls.specs.Recovery.{all_below, target}
use Rattle.replay.proofs.plan.Plan.all_reached.Given as goal

-- the hosts below k have reached their targets
abbrev pub invariant-loop-q : goal.invariant-loop-q
invariant-loop-q g l =
    UpTo (λ k. all_below k (λ h. not (members l.self.returning h) || eqb (length ((look g.W.Workload l.hosts).hosts h).receipts) (target (g.L.Logger.found l.self.logger.now) h)) ≡ true)
    l.hosts.n l.q-iterator
