use mathlib.Core.Path.{fun_ext}
use Rattle.logger.proofs.Bits.{union_bit}
use Rattle.logger.proofs.host_set.HostSet.union.Goals as goal

pub returns : goal.returns
returns c = fun_ext (union_bit c.args.self.bits c.args.other.bits)
