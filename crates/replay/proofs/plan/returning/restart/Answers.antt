use Rattle.std.proofs.Common.{◌∙◌, sym, refl, true, false, rules}
use Rattle.workload.proofs.Turns.{starts, turn, next, ends}
use Rattle.replay.proofs.Restarting.{restarted_more}
use Rattle.replay.proofs.plan.returning.restart.Goals as goal

pub loop-h-init : goal.loop-h-init
loop-h-init g c = starts _ _ _ (search rules) (search rules)

pub loop-h-preserved-then-contains : goal.loop-h-preserved-then-contains
loop-h-preserved-then-contains g c =
    let e = c.in-Some.ensures.steps in
    let t = turn _ _ _ _ _ e c.loop-h.invariant in
    next _ _ _ _ _ e c.loop-h.invariant _ (restarted_more _ _ _ _ c.in-Some.h true t.1 (sym c.if-contains.true ∙ c.contains.ensures) c.reset.ensures)

pub loop-h-preserved : goal.loop-h-preserved
loop-h-preserved g c =
    let e = c.in-Some.ensures.steps in
    let t = turn _ _ _ _ _ e c.loop-h.invariant in
    next _ _ _ _ _ e c.loop-h.invariant _ (restarted_more _ _ _ _ c.in-Some.h false t.1 (sym c.if-contains.false ∙ c.contains.ensures) refl)

pub returns : goal.returns
returns g c = ends _ _ _ c.in-None.ensures.steps.0 c.loop-h.invariant ∙ search rules
