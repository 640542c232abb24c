-- The states that a logger comes to when it is told of receipts, releases and crashes as they happen, and never more than f hosts are down.
use Rattle.std.specs.Prelude.{ℕ, suc, ◌≤◌}
use Rattle.logger.specs.Meaning.{Meaning, down_count}
use Rattle.logger.specs.Clauses.{Started, Carry, Note, Spread, Lose, Rejoin}
use Rattle.logger.specs.Events.{Events}
use Rattle.logger.specs.Invariant.{Invariant, Replayable, Left, Updated, next, FromOutside, FromHost, Agree}

-- A log, the events behind it, how many each host has received, and up to which of them it has released.
pub data Reached : Meaning → Events → (ℕ → ℕ) → (ℕ → ℕ) → Type 0 where
  starts : {n f : ℕ} {m : Meaning} {v : Events} → Started n f m → Reached m v (λ _. 0) (λ _. 0)
  -- the events to come are not fixed
  renames : {m : Meaning} {v v' : Events} {len rel : ℕ → ℕ} → Reached m v len rel → Agree m.n len v v' → Reached m v' len rel
  -- a delivery that was cut off
  carries : {m m' : Meaning} {v : Events} {len rel : ℕ → ℕ} {s p : ℕ} → Reached m v len rel → Carry m m' s p → Reached m' v len rel
  receives :
      {m m₁ m₂ : Meaning} {v : Events} {len len' rel : ℕ → ℕ} {s p : ℕ} → Reached m v len rel
      → Carry m m₁ s p
      → Note m₁ m₂ p (next v len p)
      → FromHost v len s p
      → Updated len len' p (suc (len p))
      → Reached m₂ v len' rel
  takes_post :
      {m m' : Meaning} {v : Events} {len len' rel : ℕ → ℕ} {p : ℕ} → Reached m v len rel
      → Note m m' p (next v len p)
      → FromOutside m.n v len p
      → Updated len len' p (suc (len p))
      → Reached m' v len' rel
  releases : {m m' : Meaning} {v : Events} {len rel rel' : ℕ → ℕ} {p : ℕ} → Reached m v len rel → Spread m m' p → Updated rel rel' p (len p) → Reached m' v len rel'
  crashes :
      {m m' : Meaning} {v : Events} {len len' rel : ℕ → ℕ} {p : ℕ} → Reached m v len rel → Lose m m' p → down_count m' ≤ m'.f → Left m' len len' → Reached m' v len' rel
  rejoins : {m m' : Meaning} {v : Events} {len rel : ℕ → ℕ} → Reached m v len rel → Rejoin m m' → Reached m' v len rel

pub record Sound (m : Meaning) (v : Events) (len rel : ℕ → ℕ) : Type 0 where
  pub invariant : Invariant m v len rel
  pub replayable : Replayable m v len
  pub few : down_count m ≤ m.f
