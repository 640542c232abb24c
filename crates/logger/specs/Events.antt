-- The receipts behind a log, and who depends on them. Event (q, k) is the k-th receipt of host q, from 1.
-- A host h has received len h messages: of a host that is down, those up to its target count.
use Rattle.std.specs.Prelude.{◌≡◌, ℕ, ◌<◌, ◌≤◌, true}
use Rattle.network.specs.Past.{Origins, Past}
use Rattle.logger.specs.declared.determinant.Determinant.{Determinant}
use Rattle.logger.specs.Meaning.{Meaning, Up, count, log_set}

-- Of each event: its determinant, and in which of its own receipts the sender, if it is a host, made the message.
pub record Events : Type 0 where
  pub at : ℕ → ℕ → Determinant
  pub made : ℕ → ℕ → ℕ

abbrev pub origins : Events → Origins
origins v = record { sender = λ q k. (v.at q k).sender; made = v.made }

-- (q, k) is an event of n hosts
pub record Event (n : ℕ) (len : ℕ → ℕ) (q k : ℕ) : Type 0 where
  pub host : q < n
  pub low : 1 ≤ k
  pub high : k ≤ len q

-- d is the determinant of an event
pub record Happened (n : ℕ) (v : Events) (len : ℕ → ℕ) (d : Determinant) : Type 0 where
  pub event : Event n len d.receiver d.number
  pub is : d ≡ v.at d.receiver d.number

-- The Depend set of d: x is up, and in the past of one of its receipts lies the receipt of d, with the sender and the ssn of d.
pub record Depends (m : Meaning) (v : Events) (len : ℕ → ℕ) (d : Determinant) (x : ℕ) : Type 0 where
  pub up : Up m x
  pub number : ℕ
  pub receipt : Event m.n len x number
  pub past : Past m.n (origins v) x number d.receiver d.number
  pub same : v.at d.receiver d.number ≡ d

-- A determinant whose Log set has at most f hosts has its Depend set inside its Log set.
-- So no f crashes leave a host that depends on a receipt which nobody can replay.
abbrev pub NoOrphans : Meaning → Events → (ℕ → ℕ) → Type 0
NoOrphans m v len = (d : Determinant) → count m.n (log_set m d) ≤ m.f → (x : ℕ) → Depends m v len d x → log_set m d x ≡ true
