-- What the values of the family-based program stand for.
use Rattle.std.specs.Prelude.{ℕ, List, Some, None, Option, slice_index_or}
use Rattle.loggers.specs.declared.family_based.FamilyBased.{FamilyBased}
use Rattle.loggers.specs.declared.entry.Entry.{Entry}
use Rattle.loggers.specs.declared.places.Places.{Places}
use Rattle.logger.specs.HostSets.{members}
use Rattle.loggers.specs.Places.{at}
use Rattle.loggers.specs.FamilyBased.{Holding, Holdings, State}

abbrev pub holding : Entry → Holding
holding e = record { source = e.source; holders = members e.holders }

abbrev pub seen : Option Entry → Option Holding
seen None = None
seen (Some e) = Some (holding e)

-- one place of the table, by host
abbrev pub holdings : List (Option Entry) → Holdings
holdings xs h = seen (slice_index_or xs h None)

-- where the place is empty, no host holds anything
abbrev pub row : Option (List (Option Entry)) → Holdings
row None = λ h. None
row (Some xs) = holdings xs

abbrev pub table : Places (List (Option Entry)) → ℕ → ℕ → Holdings
table t q r = row (at t.places None q r)

abbrev pub state : FamilyBased → State
state l = record { n = l.hosts.n; f = l.hosts.f; down = members l.hosts.down; holdings = table l.table }
