use Rattle.records.proofs.Filing.{nothing_filed}
use Rattle.records.proofs.record.HostRecord.clear.Goals as goal

pub invariant_of-self-clause-filed : goal.invariant_of-self-clause-filed
invariant_of-self-clause-filed c = nothing_filed _ _ c.clear-4.ensures c.clear-2.ensures
