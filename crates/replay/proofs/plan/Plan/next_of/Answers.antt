use Rattle.std.proofs.Common.{arith}
use Rattle.replay.proofs.Reaching.{target_low}
use Rattle.replay.proofs.plan.Plan.next_of.Goals as goal

pub after-requires : goal.after-requires
after-requires g c =
    let plan = c.args.self.now in
    let low = target_low (g.L.Logger.found plan.logger.now) c.index.result in
    let at = plan.are_targets c.index.result c.index.ensures.low in
    omega (arith, c.if-receipts-self.false)
