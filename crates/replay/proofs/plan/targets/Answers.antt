use Rattle.std.proofs.Common.{ℕ, get_or, set, ap, ◌∙◌, inl, inr, arith, rules}
use Rattle.std.proofs.lemmas.List.{get_or-set_same, get_or-set_other}
use Rattle.std.proofs.lemmas.Bool.{cases_eq}
use Rattle.workload.proofs.Turns.{starts, turn, next}
use Rattle.calls.specs.Recovery.{target}
use Rattle.replay.proofs.plan.targets.Goals as goal

pub loop-q-init : goal.loop-q-init
loop-q-init g c = (search rules, starts _ _ _ (search rules) (λ h l. absurd (omega arith)))

pub loop-q-preserved : goal.loop-q-preserved
loop-q-preserved g c =
    let e = c.in-Some.ensures.steps in
    let i = c.loop-q.invariant in
    let t = turn _ _ _ _ _ e i.1 in
    let q = c.in-Some.q in
    let goal_of = target (g.L.Logger.found c.args.logger.now) in (
      search rules,
      next _ _ _ _ _ e i.1 _ (λ h l. rw c.index.ensures.value (elim (cases_eq h q) [
        | inl f ↦ (ap (λ (k : ℕ). get_or (set c.loop-q.table q c.target.result) k 0) f ∙ get_or-set_same c.loop-q.table q c.target.result 0 (omega (arith, i.0, t.0)) ∙ c.target.ensures.value ∙ ap goal_of (omega arith))
        | inr n ↦ (get_or-set_other c.loop-q.table q h c.target.result 0 n ∙ t.1 h (omega arith))
      ])),
    )
