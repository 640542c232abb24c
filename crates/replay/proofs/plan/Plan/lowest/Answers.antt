use Rattle.std.proofs.Common.{sym, ◌∙◌}
use Rattle.workload.proofs.Turns.{turn, next, ends}
use Rattle.replay.proofs.Lowest.{none_more, found_at}
use Rattle.replay.proofs.plan.Plan.lowest.Goals as goal

pub returns-in-Some-next_of-clause-value : goal.returns-in-Some-next_of-clause-value
returns-in-Some-next_of-clause-value g c =
    let t = turn _ _ _ _ _ c.in-Some.ensures.steps c.loop-q.invariant in
    sym (found_at _ _ c.in-Some.q c.in-Some-next_of.message t.1 (sym c.next_of.ensures.value ∙ c.in-Some-next_of.is) t.0)

pub loop-q-preserved : goal.loop-q-preserved
loop-q-preserved g c =
    let e = c.in-Some.ensures.steps in
    let t = turn _ _ _ _ _ e c.loop-q.invariant in
    next _ _ _ _ _ e c.loop-q.invariant _ (none_more _ c.in-Some.q t.1 (sym c.next_of.ensures.value ∙ c.in_default.is))

pub returns-clause-value : goal.returns-clause-value
returns-clause-value g c = sym (ends _ _ _ c.in-None.ensures.steps.0 c.loop-q.invariant)
