use Rattle.std.proofs.Common.{arith}
use Rattle.records.specs.View.{lists, no_lists}
use Rattle.records.proofs.Blank.{blank_map}
use Rattle.records.proofs.records.Records.empty.Goals as goal

pub returns : goal.returns
returns c = let e = c.default.ensures in blank_map lists no_lists c.default.result (λ k d l. e.at k d (omega (arith, e.long)))
