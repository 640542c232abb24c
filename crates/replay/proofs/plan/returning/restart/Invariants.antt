use Rattle.std.proofs.Common.{◌≡◌, ◌&&◌, ltb}
use Rattle.workload.proofs.Turns.{UpTo}
use Rattle.hosts.specs.View.{look}
use Rattle.logger.specs.HostSets.{members}
use Rattle.calls.specs.Recovery.{restarted}
use Rattle.replay.proofs.plan.returning.restart.Given as goal

-- the returning hosts below k have started again
abbrev pub invariant-loop-h : goal.invariant-loop-h
invariant-loop-h g l =
    UpTo (λ k. look g.W.Workload l.hosts ≡ restarted (λ x. ltb x k && members l.returning x) (look g.W.Workload l.initial.hosts)) 8 l.h-iterator
