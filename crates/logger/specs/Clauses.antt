-- Where each operation of a logger may be used, and what it does: a relation between the meaning before (m) and after (m').
-- Each set is bounded from both sides, by what it keeps and by what it may gain; so what a clause does not name stays as it is.
use Rattle.std.specs.Prelude.{◌≡◌, ℕ, ◌<◌, ◌≤◌, true, false, ◌≢◌, ◌⊎◌}
use Rattle.logger.specs.declared.determinant.Determinant.{Determinant}
use Rattle.logger.specs.Meaning.{Meaning, Covered, Up, HeldByUp, Findable}

-- START. 2 to 8 hosts; at least one, and not all, may be down at once.
pub record Sizes (n f : ℕ) : Type 0 where
  pub two : 2 ≤ n
  pub eight : n ≤ 8
  pub one : 1 ≤ f
  pub below : f < n

-- all hosts are up, and every set is empty
pub record Started (n f : ℕ) (m : Meaning) : Type 0 where
  pub hosts : m.n ≡ n
  pub bound : m.f ≡ f
  pub none_down : (h : ℕ) → m.down h ≡ false
  pub none_held : (h : ℕ) (d : Determinant) → m.held h d ≡ false
  pub none_stored : (d : Determinant) → m.stored d ≡ false

-- What carry, note and spread have in common: the same hosts are down, and no set loses a member.
pub record Grows (m m' : Meaning) : Type 0 where
  pub same_n : m'.n ≡ m.n
  pub same_f : m'.f ≡ m.f
  pub same_down : (h : ℕ) → m'.down h ≡ m.down h
  pub keeps_held : (h : ℕ) (d : Determinant) → m.held h d ≡ true → m'.held h d ≡ true
  pub keeps_stored : (d : Determinant) → m.stored d ≡ true → m'.stored d ≡ true

-- CARRY from s to p, two different hosts that are up
pub record MayCarry (m : Meaning) (s p : ℕ) : Type 0 where
  pub from_up : Up m s
  pub to_up : Up m p
  pub apart : s ≢ p

pub record Carry (m m' : Meaning) (s p : ℕ) : Type 0 where
  pub allowed : MayCarry m s p
  pub grows : Grows m m'
  -- p may gain what s holds
  pub held_gains : (h : ℕ) (d : Determinant) → m'.held h d ≡ true → (m.held h d ≡ true) ⊎ ((h ≡ p) × (m.held s d ≡ true))
  pub stored_gains : (d : Determinant) → m'.stored d ≡ true → m.stored d ≡ true
  -- then p holds all that s holds, but for what is covered
  pub carried : (d : Determinant) → m.held s d ≡ true → (m'.held p d ≡ true) ⊎ Covered m' d

-- NOTE d at p. The numbers of d are in range; sender 8 is the outside world.
pub record InRange (d : Determinant) : Type 0 where
  pub receiver : d.receiver < 8
  pub number_low : 1 ≤ d.number
  pub number_high : d.number ≤ 64
  pub sender : d.sender ≤ 8
  pub ssn_low : 1 ≤ d.ssn
  pub ssn_high : d.ssn ≤ 64

-- p is up, d is a receipt of p from a host or from outside, and no other determinant for that receipt can be found
pub record MayNote (m : Meaning) (p : ℕ) (d : Determinant) : Type 0 where
  pub at_up : Up m p
  pub own : d.receiver ≡ p
  pub in_range : InRange d
  pub sender : (d.sender ≡ 8) ⊎ (d.sender < m.n)
  pub only : (e : Determinant) → e.receiver ≡ d.receiver → e.number ≡ d.number → Findable m e → e ≡ d

pub record Note (m m' : Meaning) (p : ℕ) (d : Determinant) : Type 0 where
  pub allowed : MayNote m p d
  pub grows : Grows m m'
  -- d is then held by p or stored
  pub noted : (m'.held p d ≡ true) ⊎ (m'.stored d ≡ true)
  pub held_gains : (h : ℕ) (e : Determinant) → m'.held h e ≡ true → (m.held h e ≡ true) ⊎ ((h ≡ p) × (e ≡ d))
  -- the store may also gain what p holds
  pub stored_gains : (e : Determinant) → m'.stored e ≡ true → (m.stored e ≡ true) ⊎ ((e ≡ d) ⊎ (m.held p e ≡ true))
  -- if the store gained, all that p holds is then covered
  pub covers : (e : Determinant) → m'.stored e ≡ true → m.stored e ≡ false → (g : Determinant) → m'.held p g ≡ true → Covered m' g

-- SPREAD from p, which is up
pub record Spread (m m' : Meaning) (p : ℕ) : Type 0 where
  pub allowed : Up m p
  pub grows : Grows m m'
  -- hosts that are up and the store may gain what p holds
  pub held_gains : (h : ℕ) (d : Determinant) → m'.held h d ≡ true → (m.held h d ≡ true) ⊎ (Up m h × (m.held p d ≡ true))
  pub stored_gains : (d : Determinant) → m'.stored d ≡ true → (m.stored d ≡ true) ⊎ (m.held p d ≡ true)
  -- all that p holds is then covered
  pub covers : (d : Determinant) → m.held p d ≡ true → Covered m' d

-- LOSE p, which is up: it goes down, and what it held is gone
pub record Lose (m m' : Meaning) (p : ℕ) : Type 0 where
  pub allowed : Up m p
  pub same_n : m'.n ≡ m.n
  pub same_f : m'.f ≡ m.f
  pub falls : m'.down p ≡ true
  pub same_down : (h : ℕ) → h ≢ p → m'.down h ≡ m.down h
  pub emptied : (d : Determinant) → m'.held p d ≡ false
  pub same_held : (h : ℕ) (d : Determinant) → h ≢ p → m'.held h d ≡ m.held h d
  pub same_stored : (d : Determinant) → m'.stored d ≡ m.stored d

-- REJOIN: no host is down any more
pub record Rejoin (m m' : Meaning) : Type 0 where
  pub same_n : m'.n ≡ m.n
  pub same_f : m'.f ≡ m.f
  pub none_down : (h : ℕ) → m'.down h ≡ false
  pub same_stored : (d : Determinant) → m'.stored d ≡ m.stored d
  -- a host that was up holds what it held
  pub same_held : (h : ℕ) (d : Determinant) → m.down h ≡ false → m'.held h d ≡ m.held h d
  -- a host that was down holds all that a host that was up held, but for what is stored, and nothing else
  pub taught : (q : ℕ) (d : Determinant) → q < m.n → m.down q ≡ true → HeldByUp m d → (m.stored d ≡ true) ⊎ (m'.held q d ≡ true)
  pub only_taught : (q : ℕ) (d : Determinant) → q < m.n → m.down q ≡ true → m'.held q d ≡ true → HeldByUp m d
