use Rattle.std.proofs.Common.{◌≡◌, ◌+◌, true, false, is_some, sym, ◌∙◌, arith}
use Rattle.replay.proofs.Reaching.{reach_more, reach_stops, reach_ends}
use Rattle.replay.proofs.plan.target.Goals as goal

pub returns-then-is_none-clause-value : goal.returns-then-is_none-clause-value
returns-then-is_none-clause-value g c =
    let found = g.L.Logger.found c.args.logger.now c.args.q in
    let here : is_some (found (c.loop-found.found + 1)) ≡ false = rw (← c.after.ensures, ← c.find.ensures) c.if-is_none.ensures in
    sym (reach_stops found c.loop-found.found c.loop-found-test.true here) ∙ c.loop-found.invariant

pub loop-found-preserved : goal.loop-found-preserved
loop-found-preserved g c =
    let found = g.L.Logger.found c.args.logger.now c.args.q in
    let here : is_some (found (c.loop-found.found + 1)) ≡ true = rw (← c.after.ensures, ← c.find.ensures) c.if-is_none.ensures in
    sym (reach_more found c.loop-found.found c.loop-found-test.true here) ∙ c.loop-found.invariant

pub returns-clause-value : goal.returns-clause-value
returns-clause-value g c =
    let all : c.loop-found.found ≡ 64 = omega arith in
    sym all ∙ sym (reach_ends (g.L.Logger.found c.args.logger.now c.args.q) c.loop-found.found c.loop-found-test.false) ∙ c.loop-found.invariant
