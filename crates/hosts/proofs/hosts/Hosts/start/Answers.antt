use Rattle.std.proofs.Common.{ap}
use Rattle.hosts.proofs.Networks.{assembled_is}
use Rattle.hosts.proofs.hosts.Hosts.start.Goals as goal

pub returns : goal.returns
returns g c =
    assembled_is c.args.n _ _ _ _ _ _ _ _ _ _ (ap g.W.Workload.machine c.start.ensures.hosts) c.start.ensures.state c.clear_all.ensures
    c.clear.ensures.posts c.clear.ensures.released
