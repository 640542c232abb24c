use Rattle.std.proofs.Common.{rules}
use Rattle.cluster.specs.View.{system}
use Rattle.script.proofs.Openings.{opens, opens_not}
use Rattle.script.proofs.run.course.Course.open.Goals as goal

pub returns-in_err-list-clause-leads : goal.returns-in_err-list-clause-leads
returns-in_err-list-clause-leads g c =
    let met = g.met.L.Logger in
    opens_not g.L.Logger (record { begins = met.begins; lawful = met.lawful; finds = met.finds; misses = met.misses }) g.W.Workload.machine c.args.n c.args.f
    (system g.W.Workload c.args.cluster.now) _ c.args.self.now c.args.listing.now c.requires _ _ _ _ (search rules) (search rules) c.from_residual-in_err-list.ensures.1

pub returns-clause-leads : goal.returns-clause-leads
returns-clause-leads g c =
    let met = g.met.L.Logger in
    opens g.L.Logger (record { begins = met.begins; lawful = met.lawful; finds = met.finds; misses = met.misses }) g.W.Workload.machine c.args.n c.args.f
    (system g.W.Workload c.args.cluster.now) _ c.args.self.now c.args.listing.now c.requires _ _ (search rules)
