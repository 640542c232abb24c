use Rattle.std.proofs.Common.{arith, rules}
use lib.Ieee.{binary32}
use Rattle.std.proofs.num.Patterns.{up_to_infinity}
use Rattle.workload.proofs.Floats.{bits_back}
use Rattle.workload.proofs.spacing.mark.Mark.read.Goals as goal

pub float_from_bits-result : goal.float_from_bits-result
float_from_bits-result c = up_to_infinity binary32 _ (omega arith)

pub returns-in-1 : goal.returns-in-1
returns-in-1 c = search (rules, bits_back)
