-- What follows from the clauses, whatever the logger.
use Rattle.std.specs.Prelude.{◌≡◌, ℕ, suc, ◌<◌, ◌≤◌, true}
use Rattle.network.specs.Past.{Before, Past}
use Rattle.logger.specs.declared.determinant.Determinant.{Determinant}
use Rattle.logger.specs.Meaning.{Meaning, Covered, down_count, Findable, Up, Knows}
use Rattle.logger.specs.Clauses.{Carry, Note, Spread, Lose, Rejoin}
use Rattle.logger.specs.Operation.{Operation, Allowed, Lawful}
use Rattle.logger.specs.Events.{Events, origins, Event, NoOrphans}
use Rattle.logger.specs.Invariant.{Invariant, Replayable, Left, Updated, next, FromOutside, FromHost, Agree}
use Rattle.logger.specs.Reached.{Reached, Sound}

-- COVERED STAYS. While at most f hosts are down, what is covered can be found.
abbrev pub Survives : Type 0
Survives = (m : Meaning) (d : Determinant) → Covered m d → down_count m ≤ m.f → Findable m d

-- no operation uncovers what is covered
pub record CoveredStays : Type 0 where
  pub survives : Survives
  pub carry : (m m' : Meaning) (s p : ℕ) → Carry m m' s p → (d : Determinant) → Covered m d → Covered m' d
  pub note : (m m' : Meaning) (p : ℕ) (e : Determinant) → Note m m' p e → (d : Determinant) → Covered m d → Covered m' d
  pub spread : (m m' : Meaning) (p : ℕ) → Spread m m' p → (d : Determinant) → Covered m d → Covered m' d
  pub lose : (m m' : Meaning) (p : ℕ) → Lose m m' p → (d : Determinant) → Covered m d → Covered m' d
  pub rejoin : (m m' : Meaning) → Rejoin m m' → down_count m ≤ m.f → (d : Determinant) → Covered m d → Covered m' d

-- THE PAST IS KNOWN. What came immediately before a covered event is covered.
abbrev pub CoversBefore : Type 0
CoversBefore =
    (m : Meaning) (v : Events) (len rel : ℕ → ℕ) → Invariant m v len rel → (q k a j : ℕ) → Event m.n len q k → Before m.n (origins v) q k a j
    → Covered m (v.at q k)
    → Covered m (v.at a j)

-- a host that is up knows its whole past
abbrev pub KnowsPast : Type 0
KnowsPast =
    (m : Meaning) (v : Events) (len rel : ℕ → ℕ) → Invariant m v len rel → (x k a j : ℕ) → Up m x → 1 ≤ k → k ≤ len x → Past m.n (origins v) x k a j
    → Knows m x (v.at a j)

abbrev pub HasNoOrphans : Type 0
HasNoOrphans = (m : Meaning) (v : Events) (len rel : ℕ → ℕ) → Invariant m v len rel → NoOrphans m v len

pub record PastIsKnown : Type 0 where
  pub covers_before : CoversBefore
  pub knows_past : KnowsPast
  pub no_orphans : HasNoOrphans

-- THE INVARIANT IS KEPT. It speaks of events that happened alone.
abbrev pub AgreeKeeps : Type 0
AgreeKeeps = (m : Meaning) (v v' : Events) (len rel : ℕ → ℕ) → Agree m.n len v v' → Invariant m v len rel → Invariant m v' len rel

abbrev pub CarryKeeps : Type 0
CarryKeeps = (m m' : Meaning) (v : Events) (len rel : ℕ → ℕ) (s p : ℕ) → Carry m m' s p → Invariant m v len rel → Invariant m' v len rel

-- p receives a message from s: a carry and then a note
abbrev pub ReceiveKeeps : Type 0
ReceiveKeeps =
    (m m₁ m₂ : Meaning) (v : Events) (len len' rel : ℕ → ℕ) (s p : ℕ)
    → Carry m m₁ s p
    → Note m₁ m₂ p (next v len p)
    → Invariant m v len rel
    → FromHost v len s p
    → Updated len len' p (suc (len p))
    → Invariant m₂ v len' rel

-- p receives a message from outside: a note alone
abbrev pub OutsideKeeps : Type 0
OutsideKeeps =
    (m m' : Meaning) (v : Events) (len len' rel : ℕ → ℕ) (p : ℕ)
    → Note m m' p (next v len p)
    → Invariant m v len rel
    → FromOutside m.n v len p
    → Updated len len' p (suc (len p))
    → Invariant m' v len' rel

-- after a spread p may release all that it has put out
pub record AfterSpread (m' : Meaning) (v : Events) (len rel : ℕ → ℕ) (p : ℕ) : Type 0 where
  pub keeps : Invariant m' v len rel
  pub covers : (k : ℕ) → 1 ≤ k → k ≤ len p → Covered m' (v.at p k)
  pub releases : (rel' : ℕ → ℕ) → Updated rel rel' p (len p) → Invariant m' v len rel'

abbrev pub SpreadKeeps : Type 0
SpreadKeeps = (m m' : Meaning) (v : Events) (len rel : ℕ → ℕ) (p : ℕ) → Spread m m' p → Invariant m v len rel → AfterSpread m' v len rel p

-- what a crash leaves has the invariant again, and can be replayed
pub record AfterCrash (m' : Meaning) (v : Events) (len len' rel : ℕ → ℕ) : Type 0 where
  pub shorter : (q : ℕ) → q < m'.n → len' q ≤ len q
  pub replayable : Replayable m' v len'
  pub keeps : Invariant m' v len' rel

abbrev pub LoseKeeps : Type 0
LoseKeeps =
    (m m' : Meaning) (v : Events) (len len' rel : ℕ → ℕ) (p : ℕ)
    → Lose m m' p
    → Invariant m v len rel
    → down_count m' ≤ m'.f
    → Left m' len len'
    → AfterCrash m' v len len' rel

-- each host that a crash leaves down has a target
abbrev pub LeavesSome : Type 0
LeavesSome =
    (m m' : Meaning) (v : Events) (len rel : ℕ → ℕ) (p : ℕ) → Lose m m' p → Invariant m v len rel
    → (len' : ℕ → ℕ) × Left m' len len' × ((q : ℕ) → len' q ≤ len q)

abbrev pub RejoinKeeps : Type 0
RejoinKeeps =
    (m m' : Meaning) (v : Events) (len rel : ℕ → ℕ) → Rejoin m m' → down_count m ≤ m.f → Replayable m v len → Invariant m v len rel
    → Invariant m' v len rel × (down_count m' ≡ 0)

pub record InvariantIsKept : Type 0 where
  pub agree : AgreeKeeps
  pub carry : CarryKeeps
  pub receive : ReceiveKeeps
  pub outside : OutsideKeeps
  pub spread : SpreadKeeps
  pub lose : LoseKeeps
  pub leaves_some : LeavesSome
  pub rejoin : RejoinKeeps

-- WHOLE RUNS. Each state that is reached is sound.
abbrev pub StaysSound : Type 0
StaysSound = (m : Meaning) (v : Events) (len rel : ℕ → ℕ) → Reached m v len rel → Sound m v len rel

-- Of what a host has released, no crash takes back anything that led to it.
abbrev pub KeepsReleased : Type 0
KeepsReleased =
    (m : Meaning) (v : Events) (len rel : ℕ → ℕ) → Reached m v len rel → (h k a j : ℕ) → h < m.n → 1 ≤ k → k ≤ rel h → Past m.n (origins v) h k a j
    → Event m.n len a j × Covered m (v.at a j)

pub record RunsStaySound : Type 0 where
  pub sound : StaysSound
  pub keeps_released : KeepsReleased

-- THE CLAUSES CAN BE MET, each wherever its operation is allowed.
abbrev pub EachCanBeMet : Type 0
EachCanBeMet = (op : Operation) (m : Meaning) → Allowed op m → (m' : Meaning) × Lawful op m m'

-- A run that makes every operation. Of three hosts, one of which may be down, host 0 receives a message from outside, and host 1 one that host 0 made then.
-- Host 1 releases what it has put out, crashes, and comes back.
pub record CrashAndReturn : Type 0 where
  pub m : Meaning
  pub m' : Meaning
  pub v : Events
  pub len : ℕ → ℕ
  pub rel : ℕ → ℕ
  pub hosts : m.n ≡ 3
  pub bound : m.f ≡ 1
  pub crashed : Reached m v len rel
  pub down : m.down 1 ≡ true
  pub released : rel 1 ≡ 1
  pub left : len 1 ≡ 1
  pub sender : (v.at 1 1).sender ≡ 0
  pub rejoined : Rejoin m m'

pub record ClausesCanBeMet : Type 0 where
  pub each : EachCanBeMet
  pub run : CrashAndReturn
