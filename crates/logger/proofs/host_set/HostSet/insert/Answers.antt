use Rattle.std.proofs.Common.{rules}
use mathlib.Core.Path.{fun_ext}
use Rattle.logger.proofs.Bits.{insert_bit}
use Rattle.logger.proofs.host_set.HostSet.insert.Goals as goal

pub returns : goal.returns
returns c = rw c.number.ensures.value (fun_ext (λ h. insert_bit c.args.self.bits c.args.p h (search rules)))
