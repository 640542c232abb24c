use Rattle.std.proofs.Common.{[], refl, arith}
use Rattle.records.proofs.Blank.{blank}
use Rattle.records.proofs.by_host.ByHost.empty.Goals as goal

pub returns : goal.returns
returns c = let e = c.default.ensures in blank (λ v. v.items) [] c.default.result (record { items = [] }) refl (λ k l. e.at k _ (omega (arith, e.long)))
