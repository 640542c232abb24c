use Rattle.std.proofs.Common.{◌≡◌, ℕ, ◌<◌, length, get_or}
use Rattle.workload.proofs.Turns.{UpTo}
use Rattle.calls.specs.Recovery.{target}
use Rattle.replay.proofs.plan.targets.Given as goal

-- the targets of the hosts below k are there
abbrev pub invariant-loop-q : goal.invariant-loop-q
invariant-loop-q g l = (length l.table ≡ 8) × UpTo (λ k. (h : ℕ) → h < k → get_or l.table h 0 ≡ target (g.L.Logger.found l.logger) h) 8 l.q-iterator
