use Rattle.std.proofs.Common.{arith}
use Rattle.logger.proofs.Bits.{ones_all}
use Rattle.logger.proofs.host_set.HostSet.len.Goals as goal

pub returns : goal.returns
returns c = ones_all _ c.args.self.bits (omega arith) (omega arith)
