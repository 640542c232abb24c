-- The lists that the tables stand for.
use Rattle.std.specs.Prelude.{ℕ, List, [], ◌∷◌, ◌++◌, map, slice_index_or}
use Rattle.workload.specs.declared.reaction.Reaction.{Reaction}
use Rattle.network.specs.declared.message.Message.{Message}
use Rattle.network.specs.declared.message.Receipt.{Receipt}
use Rattle.network.specs.Host.{optional, receipt_of}
use Rattle.records.specs.declared.by_host.ByHost.{ByHost}
use Rattle.records.specs.declared.record.HostRecord.{HostRecord}
use Rattle.records.specs.declared.records.Records.{Records}

-- the lists of one host's record
pub record Lists : Type 0 where
  pub receipts : List Receipt
  pub sends : List (ℕ × ℕ)
  pub outputs : List ℕ

abbrev pub lists : HostRecord → Lists
lists r = record { receipts = r.receipts.items; sends = r.sends.items; outputs = r.outputs.items }

abbrev pub no_lists : Lists
no_lists = record { receipts = []; sends = []; outputs = [] }

-- one message more taken, with what came of it
abbrev pub with_taken : Lists → Message → Reaction → Lists
with_taken l t r = record { receipts = l.receipts ++ (receipt_of t ∷ []); sends = l.sends ++ optional r.send; outputs = l.outputs ++ optional r.output }

-- the lists of each host
abbrev pub lists_of : Records → ℕ → Lists
lists_of x h = slice_index_or (map lists x.records) h no_lists

-- the list of each host
abbrev pub row : ByHost → ℕ → List ℕ
row x h = (slice_index_or x.lists h (record { items = [] })).items
