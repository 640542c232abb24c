use Rattle.std.proofs.Common.{ℕ, sym, ap, ◌∙◌, arith, rules}
use Rattle.hosts.specs.View.{look}
use Rattle.logger.specs.HostSets.{members}
use Rattle.calls.specs.Recovery.{replay}
use Rattle.replay.proofs.Replaying.{replaying_more, replaying_stops, replaying_ends}
use Rattle.replay.proofs.plan.Plan.replay.Goals as goal

pub loop-count-preserved : goal.loop-count-preserved
loop-count-preserved g c =
    let now = c.loop-count in
    let plan = c.args.self.now in
    replaying_more (g.L.Logger.found plan.logger.now) (members plan.returning) c.total-most.result now.count now.count c.in-Some.q (look g.W.Workload c.args.hosts.now)
    (look g.W.Workload now.hosts) (look g.W.Workload c.take.new.self) c.in-Some.message (omega arith) (sym c.lowest.ensures.value ∙ c.in-Some.is) (search rules) now.invariant

pub returns-in_default : goal.returns-in_default
returns-in_default g c =
    let now = c.loop-count in
    let plan = c.args.self.now in
    let found = g.L.Logger.found plan.logger.now in
    ap (λ (k : ℕ). replay found (members plan.returning) k (look g.W.Workload c.args.hosts.now)) (sym c.total-most.ensures)
    ∙ replaying_stops found (members plan.returning) c.total-most.result now.count now.count _ (look g.W.Workload c.args.hosts.now) (look g.W.Workload now.hosts)
    (omega arith) (sym c.lowest.ensures.value ∙ c.in_default.is) (omega arith) now.invariant

pub returns : goal.returns
returns g c =
    let now = c.loop-count in
    let plan = c.args.self.now in
    let found = g.L.Logger.found plan.logger.now in
    ap (λ (k : ℕ). replay found (members plan.returning) k (look g.W.Workload c.args.hosts.now)) (sym c.total-most.ensures)
    ∙ replaying_ends found (members plan.returning) c.total-most.result now.count now.count _ (look g.W.Workload c.args.hosts.now) (look g.W.Workload now.hosts)
    (omega arith) (omega arith) now.invariant
