use Rattle.workload.proofs.Steady.{margin_steady, all_steady}
use Rattle.workload.proofs.spacing.table.Table.new.Goals as goal

pub invariant_of-result : goal.invariant_of-result
invariant_of-result c = record { steady = all_steady c.new.result (margin_steady c.new.result c.new.ensures) }
