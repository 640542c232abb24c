use Rattle.std.proofs.Common.{rules}
use Rattle.logger.specs.HostSets.{members}
use Rattle.loggers.specs.FamilyBased.{rejoin_at}
use Rattle.loggers.proofs.Entries.{table_changed, rejoin_none}
use Rattle.loggers.proofs.family_based.FamilyBasedLogger.rejoin.Goals as goal

pub returns : goal.returns
returns c =
    let l = c.args.self.now in
    let d = c.empty-self.ensures in
    let t = table_changed (rejoin_at l.hosts.n (members l.hosts.down)) l.table.places c.change.new.self.places (rejoin_none l.hosts.n (members l.hosts.down)) (λ x y w. search rules) c.change.ensures in
    cc
