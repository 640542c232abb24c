use Rattle.std.proofs.Common.{◌≡◌, ◌-◌}
use Rattle.calls.specs.Recovery.{target, reach}
use Rattle.replay.proofs.plan.target.Given as goal

-- what is left to reach leads to the target
abbrev pub invariant-loop-found : goal.invariant-loop-found
invariant-loop-found g l = reach (g.L.Logger.found l.logger l.q) (64 - l.found) l.found ≡ target (g.L.Logger.found l.logger) l.q
