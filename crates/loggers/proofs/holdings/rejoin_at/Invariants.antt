use Rattle.std.proofs.Common.{◌≡◌, length, None}
use Rattle.logger.specs.HostSets.{members}
use Rattle.loggers.specs.FamilyBased.{returned}
use Rattle.loggers.specs.FamilyViews.{seen}
use Rattle.loggers.proofs.Placing.{Swept}
use Rattle.loggers.proofs.holdings.rejoin_at.Given as goal

abbrev pub invariant-loop-h : goal.invariant-loop-h
invariant-loop-h l = (length l.held ≡ 8) × Swept seen None (returned (members l.hosts.down) (seen l.all)) l.initial.held l.held l.h
