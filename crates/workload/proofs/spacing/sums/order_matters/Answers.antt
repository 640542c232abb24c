use Rattle.std.proofs.Common.{refl}
use lib.Ieee.{add, le, of_bits, to_bits}
use Rattle.workload.proofs.spacing.sums.order_matters.Goals as goal

pub returns : goal.returns
unfolding add le of_bits to_bits
returns c = record { widest_first = refl; widest_last = refl }
