use Rattle.records.proofs.Filing.{nothing_filed}
use Rattle.records.proofs.record.grow.HostRecordDefault.default.Goals as goal

pub invariant_of-result-clause-filed : goal.invariant_of-result-clause-filed
invariant_of-result-clause-filed c = nothing_filed _ _ c.empty.ensures c.new-2.ensures
