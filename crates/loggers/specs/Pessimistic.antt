-- Pessimistic logging: each determinant goes to the stable store as it is noted, and the volatile sets stay empty.
use Rattle.std.specs.Prelude.{ℕ, Bool, false, cond, ◌&&◌, Some, None, Option, ◌==◌}
use Rattle.logger.specs.declared.determinant.Determinant.{Determinant}
use Rattle.network.specs.declared.message.Receipt.{Receipt}
use Rattle.loggers.specs.declared.places.Places.{Places}
use Rattle.loggers.specs.declared.pessimistic.Pessimistic.{Pessimistic}
use Rattle.logger.specs.Meaning.{Meaning}
use Rattle.logger.specs.Operation.{Operation, start, carry, note, spread, lose, rejoin}
use Rattle.logger.specs.Sources.{source, is_source}
use Rattle.logger.specs.HostSets.{nobody, with_host, members}
use Rattle.loggers.specs.Places.{at}

-- the stable store: of a receiver and a receipt number, which message was taken
abbrev pub Stored : Type 0
Stored = ℕ → ℕ → Option Receipt

-- the store with d in it
abbrev pub with_determinant : Stored → Determinant → Stored
with_determinant t d q r = cond (q == d.receiver && r == d.number) (Some (source d)) (t q r)

pub record State : Type 0 where
  pub n : ℕ
  pub f : ℕ
  pub down : ℕ → Bool
  pub store : Stored

-- n hosts that have done nothing
abbrev pub fresh : ℕ → ℕ → State
fresh n f = record { n = n; f = f; down = nobody; store = λ q r. None }

-- what an operation does
abbrev pub after : Operation → State → State
after (start n f) a = fresh n f
after (carry s p) a = a
after (note p d) a = record { n = a.n; f = a.f; down = a.down; store = with_determinant a.store d }
after (spread p) a = a
after (lose p) a = record { n = a.n; f = a.f; down = with_host a.down p; store = a.store }
after rejoin a = record { n = a.n; f = a.f; down = nobody; store = a.store }

abbrev pub means : State → Meaning
means a = record { n = a.n; f = a.f; down = a.down; held = λ h d. false; stored = λ d. is_source (a.store d.receiver d.number) (source d) }

-- WHAT THE PROGRAM'S VALUES STAND FOR
abbrev pub stored : Places Receipt → Stored
stored s = at s.places None

abbrev pub state : Pessimistic → State
state l = record { n = l.hosts.n; f = l.hosts.f; down = members l.hosts.down; store = stored l.store }
