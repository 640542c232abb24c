-- What holds of a log and the events behind it between any two operations; and what a crash leaves of the events.
use Rattle.std.specs.Prelude.{◌≡◌, ℕ, suc, ◌<◌, ◌≤◌, true, false, ◌≢◌}
use Rattle.network.specs.Past.{Before}
use Rattle.logger.specs.declared.determinant.Determinant.{Determinant}
use Rattle.logger.specs.Meaning.{Meaning, Covered, Up, Findable, Knows}
use Rattle.logger.specs.Events.{Events, origins, Event, Happened}

-- the determinant of an event names it, and a message of a host was made in one of its receipts
pub record WellFormed (n : ℕ) (v : Events) (len : ℕ → ℕ) : Type 0 where
  pub receiver : (q k : ℕ) → Event n len q k → (v.at q k).receiver ≡ q
  pub number : (q k : ℕ) → Event n len q k → (v.at q k).number ≡ k
  pub made : (q k : ℕ) → Event n len q k → (v.at q k).sender < n → Event n len (v.at q k).sender (v.made q k)

-- Host h has released what its first rel h receipts put out.
pub record Invariant (m : Meaning) (v : Events) (len rel : ℕ → ℕ) : Type 0 where
  pub well_formed : WellFormed m.n v len
  -- what a host that is up holds, and what is stored, happened
  pub held_happened : (x : ℕ) (d : Determinant) → Up m x → m.held x d ≡ true → Happened m.n v len d
  pub stored_happened : (d : Determinant) → m.stored d ≡ true → Happened m.n v len d
  -- a host that is up knows its own events, and what came immediately before each event whose determinant it holds
  pub knows_own : (x k : ℕ) → Up m x → 1 ≤ k → k ≤ len x → Knows m x (v.at x k)
  pub knows_before : (x : ℕ) (d : Determinant) → Up m x → m.held x d ≡ true → (a j : ℕ) → Before m.n (origins v) d.receiver d.number a j → Knows m x (v.at a j)
  -- what came immediately before an event whose determinant is stored is covered
  pub stored_before : (d : Determinant) → m.stored d ≡ true → (a j : ℕ) → Before m.n (origins v) d.receiver d.number a j → Covered m (v.at a j)
  -- what a host has released is covered
  pub released_within : (h : ℕ) → h < m.n → rel h ≤ len h
  pub released_covered : (h k : ℕ) → h < m.n → 1 ≤ k → k ≤ rel h → Covered m (v.at h k)

-- each event of a host that is down can be found
abbrev pub Replayable : Meaning → Events → (ℕ → ℕ) → Type 0
Replayable m v len = (q k : ℕ) → Event m.n len q k → m.down q ≡ true → Findable m (v.at q k)

-- a determinant for receipt number k of q can be found
abbrev pub ReceiptFindable : Meaning → ℕ → ℕ → Type 0
ReceiptFindable m q k = (d : Determinant) × (d.receiver ≡ q) × (d.number ≡ k) × Findable m d

-- the target of q: the largest t such that each receipt of q from 1 to t can be found
pub record Target (m : Meaning) (q t : ℕ) : Type 0 where
  pub findable : (k : ℕ) → 1 ≤ k → k ≤ t → ReceiptFindable m q k
  pub largest : (u : ℕ) → ((k : ℕ) → 1 ≤ k → k ≤ u → ReceiptFindable m q k) → u ≤ t

-- What is left of the receipts after a crash that led to m: all of a host that is up, and of a host that is down those up to its target.
pub record Left (m : Meaning) (len len' : ℕ → ℕ) : Type 0 where
  pub up : (q : ℕ) → q < m.n → m.down q ≡ false → len' q ≡ len q
  pub down : (q : ℕ) → q < m.n → m.down q ≡ true → Target m q (len' q)

-- g' is g but at p, where it is x
pub record Updated (g g' : ℕ → ℕ) (p x : ℕ) : Type 0 where
  pub there : g' p ≡ x
  pub elsewhere : (h : ℕ) → h ≢ p → g' h ≡ g h

-- the determinant of the next receipt of p
abbrev pub next : Events → (ℕ → ℕ) → ℕ → Determinant
next v len p = v.at p (suc (len p))

-- p next receives a message from outside
pub record FromOutside (n : ℕ) (v : Events) (len : ℕ → ℕ) (p : ℕ) : Type 0 where
  pub number : (next v len p).number ≡ suc (len p)
  pub sender : n ≤ (next v len p).sender

-- p next receives a message that s made in one of its receipts
pub record FromHost (v : Events) (len : ℕ → ℕ) (s p : ℕ) : Type 0 where
  pub number : (next v len p).number ≡ suc (len p)
  pub sender : (next v len p).sender ≡ s
  pub made_low : 1 ≤ v.made p (suc (len p))
  pub made_high : v.made p (suc (len p)) ≤ len s

-- v' has the events of v; it may differ where there is no event yet
pub record Agree (n : ℕ) (len : ℕ → ℕ) (v v' : Events) : Type 0 where
  pub at : (q k : ℕ) → Event n len q k → v'.at q k ≡ v.at q k
  pub made : (q k : ℕ) → Event n len q k → v'.made q k ≡ v.made q k
