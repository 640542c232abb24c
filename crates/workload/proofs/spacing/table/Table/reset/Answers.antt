use Rattle.std.proofs.Common.{rules}
use Rattle.workload.proofs.Steady.{margin_steady, steady_set}
use Rattle.workload.proofs.spacing.table.Table.reset.Goals as goal

pub invariant_of-self : goal.invariant_of-self
invariant_of-self c =
    record { steady = steady_set c.args.self.now.hosts c.index.result c.new.result (search rules) c.args.self.now.steady (margin_steady c.new.result c.new.ensures) }
