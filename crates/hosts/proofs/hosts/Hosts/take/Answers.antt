use Rattle.std.proofs.Common.{ap}
use Rattle.records.specs.View.{lists_of, row}
use Rattle.hosts.proofs.Networks.{taken_is}
use Rattle.hosts.proofs.hosts.Hosts.take.Goals as goal

pub returns : goal.returns
returns g c =
    let work = g.W.Workload in
    let t = c.args.self.now in
    let did = c.step-reaction.ensures in
    taken_is t.n (work.machine (work.hosts t.workload)) _ (work.state t.workload) _ (lists_of t.records) _ (row t.outside.posts)
    (row t.outside.released) c.args.p c.args.message c.step-reaction.result (ap work.machine did.hosts) did.state c.grow.ensures did.reaction
