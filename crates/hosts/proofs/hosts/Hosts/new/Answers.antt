use Rattle.std.proofs.Common.{refl}
use Rattle.hosts.proofs.Networks.{assembled_is}
use Rattle.hosts.proofs.hosts.Hosts.new.Goals as goal

pub returns : goal.returns
returns g c = rw c.new.ensures (assembled_is 0 _ _ _ _ _ _ _ _ _ _ refl refl c.empty.ensures c.new-2.ensures.posts c.new-2.ensures.released)
