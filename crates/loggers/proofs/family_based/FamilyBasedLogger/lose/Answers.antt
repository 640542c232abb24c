use Rattle.std.proofs.Common.{rules}
use Rattle.loggers.specs.FamilyBased.{lose_at}
use Rattle.loggers.proofs.Entries.{table_changed, lose_none}
use Rattle.loggers.proofs.family_based.FamilyBasedLogger.lose.Goals as goal

pub returns : goal.returns
returns c =
    let l = c.args.self.now in
    let d = c.insert-self.ensures in
    let t = table_changed (lose_at c.args.p) l.table.places c.change.new.self.places (lose_none c.args.p) (λ x y w. search rules) c.change.ensures in
    cc
