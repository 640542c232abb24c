use Rattle.std.proofs.Common.{◌≡◌, ℕ, ◌<◌, [], length, get_or}
use Rattle.records.proofs.by_host.ByHost.clear.Given as goal

-- those before this one are empty
abbrev pub invariant-loop-list : goal.invariant-loop-list
invariant-loop-list l = (length l.list-items ≡ 8) × ((k : ℕ) → k < l.list-index → (get_or l.list-items k (record { items = [] })).items ≡ [])
