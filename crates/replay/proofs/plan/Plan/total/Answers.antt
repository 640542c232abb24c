use Rattle.std.proofs.Common.{sym, ap, ◌∙◌, arith}
use Rattle.calls.specs.Recovery.{target}
use Rattle.workload.proofs.Turns.{turn, next, ends}
use Rattle.replay.proofs.Adding.{one_more, none_more}
use Rattle.replay.proofs.Reaching.{target_low}
use Rattle.replay.proofs.plan.Plan.total.Goals as goal

pub loop-q-preserved-then-contains : goal.loop-q-preserved-then-contains
loop-q-preserved-then-contains g c =
    let e = c.in-Some.ensures.steps in
    let t = turn _ _ _ _ _ e c.loop-q.invariant in
    let plan = c.args.self.now in
    let at = plan.are_targets c.index.result c.index.ensures.low in
    let low = target_low (g.L.Logger.found plan.logger.now) c.index.result in
    next _ _ _ _ _ e c.loop-q.invariant _ (
      one_more _ _ _ _ t.1.0 _ (sym c.contains.ensures ∙ c.if-contains.true) (at ∙ ap (target (g.L.Logger.found plan.logger.now)) c.index.ensures.value),
      omega (arith, t.1.1, c.index.ensures.value),
    )

pub loop-q-preserved : goal.loop-q-preserved
loop-q-preserved g c =
    let e = c.in-Some.ensures.steps in
    let t = turn _ _ _ _ _ e c.loop-q.invariant in
    next _ _ _ _ _ e c.loop-q.invariant _ (none_more _ _ _ _ t.1.0 (sym c.contains.ensures ∙ c.if-contains.false), omega (arith, t.1.1))

pub returns : goal.returns
returns g c = (ends _ _ _ c.in-None.ensures.steps.0 c.loop-q.invariant).0
