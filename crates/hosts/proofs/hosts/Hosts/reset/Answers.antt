use Rattle.std.proofs.Common.{ap}
use Rattle.records.specs.View.{lists_of, row, no_lists}
use Rattle.hosts.proofs.Networks.{replaced_is}
use Rattle.hosts.proofs.hosts.Hosts.reset.Goals as goal

pub returns : goal.returns
returns g c =
    let work = g.W.Workload in
    let t = c.args.self.now in
    let did = c.reset.ensures in
    replaced_is t.n (work.machine (work.hosts t.workload)) _ (work.state t.workload) _ (lists_of t.records) _ (row t.outside.posts)
    (row t.outside.released) c.args.p _ no_lists (ap work.machine did.hosts) did.state c.clear.ensures
