use Rattle.std.proofs.Common.{arith}
use Rattle.records.specs.View.{lists, no_lists}
use Rattle.records.proofs.Blank.{blank_map}
use Rattle.records.proofs.records.Records.clear_all.Goals as goal

pub returns : goal.returns
returns c = let i = c.loop-record.invariant in blank_map lists no_lists c.loop-record.record-items (λ k d l. i.1 k d (omega (arith, i.0)))
