use Rattle.std.proofs.Common.{Some, Option, sym, ap, ◌∙◌, rules}
use Rattle.loggers.specs.FamilyBased.{Holding, Holdings, put, taken}
use Rattle.loggers.specs.FamilyViews.{holding, seen, holdings}
use Rattle.loggers.proofs.Entries.{holdings_set, holdings_read, carried_is}
use Rattle.loggers.proofs.holdings.carry_at.Goals as goal

pub returns-then-too_few : goal.returns-then-too_few
returns-then-too_few c =
    let xs = c.args.held.now in
    let e = holding c.in-Some.e in
    let given = sym (holdings_read xs c.index-from.result c.args.s _ c.index-from.ensures.value (search rules)) ∙ ap seen c.in-Some.is in
    let own = holdings_read xs c.index-to.result c.args.p _ c.index-to.ensures.value (search rules) in
    holdings_set _ _ c.args.s _ c.index-from.ensures.value (search rules)
    ∙ ap (λ (t : Holdings). put t c.args.s (Some (holding c.given.result))) (holdings_set xs _ c.args.p _ c.index-to.ensures.value (search rules))
    ∙ carried_is (holdings xs) c.args.hosts.now.f c.args.s c.args.p e _ _ given (sym c.too_few.ensures ∙ c.if-too_few.true)
    (c.taken.ensures ∙ ap (λ (o : Option Holding). taken o e c.args.p) own) c.given.ensures
