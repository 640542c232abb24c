use Rattle.std.proofs.Common.{rules}
use Rattle.records.specs.View.{lists, no_lists}
use Rattle.records.proofs.Tables.{edited_at}
use Rattle.records.proofs.records.Records.clear.Goals as goal

pub returns : goal.returns
returns c = edited_at lists no_lists c.args.self.now.records c.args.p _ c.index.ensures.value (search rules) c.clear.new.self _ c.clear.ensures
