use Rattle.std.proofs.Common.{sym, ◌∙◌}
use Rattle.workload.proofs.Turns.{turn, next, ends}
use Rattle.replay.proofs.Lowest.{not_all, all_more}
use Rattle.replay.proofs.plan.Plan.all_reached.Goals as goal

pub returns-then-not-has_reached : goal.returns-then-not-has_reached
returns-then-not-has_reached g c =
    let t = turn _ _ _ _ _ c.in-Some.ensures.steps c.loop-q.invariant in
    sym (not_all _ _ c.in-Some.q (sym c.has_reached.ensures ∙ c.if-not-has_reached.true) t.0)

pub loop-q-preserved : goal.loop-q-preserved
loop-q-preserved g c =
    let e = c.in-Some.ensures.steps in
    let t = turn _ _ _ _ _ e c.loop-q.invariant in
    next _ _ _ _ _ e c.loop-q.invariant _ (all_more _ c.in-Some.q t.1 (sym c.has_reached.ensures ∙ c.if-not-has_reached.false))

pub returns : goal.returns
returns g c = sym (ends _ _ _ c.in-None.ensures.steps.0 c.loop-q.invariant)
