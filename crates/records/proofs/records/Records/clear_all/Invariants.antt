use Rattle.std.proofs.Common.{◌≡◌, ℕ, ◌<◌, length, get_or}
use Rattle.records.specs.declared.record.HostRecord.{HostRecord}
use Rattle.records.specs.View.{lists, no_lists}
use Rattle.records.proofs.records.Records.clear_all.Given as goal

-- those before this one are empty
abbrev pub invariant-loop-record : goal.invariant-loop-record
invariant-loop-record l = (length l.record-items ≡ 8) × ((k : ℕ) (d : HostRecord) → k < l.record-index → lists (get_or l.record-items k d) ≡ no_lists)
