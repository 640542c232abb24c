use Rattle.std.proofs.Common.{inl, length, ap, ◌∙◌, rules, tests, arith}
use Rattle.std.proofs.lemmas.Iterator.Consumers.{YieldsList-from_first, YieldsList-from_filter, count_from_yields_List}
use Rattle.logger.specs.Meaning.{count}
use Rattle.logger.specs.HostSets.{members}
use Rattle.cluster.proofs.Counting.{counted}
use Rattle.cluster.proofs.cluster.Cluster.down_count.Goals as goal

pub count-requires-clause-fits : goal.count-requires-clause-fits
count-requires-clause-fits g c = inl (let e = ap length c.filter.ensures.source in omega (arith, c.hosts.ensures.few))

pub returns : goal.returns
returns g c =
    let down = members c.args.self.now.down in
    count_from_yields_List _ c.count.result c.count.ensures.ran
    (YieldsList-from_filter _ down (YieldsList-from_first (λ h. h) (λ h. h) _ (c.filter.ensures.source ∙ c.hosts.ensures.hosts)) c.filter.ensures.closure (λ x r q k. search (rules, tests)))
    ∙ counted down c.n.result ∙ ap (λ k. count k down) c.n.ensures
