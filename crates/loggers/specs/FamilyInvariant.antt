-- What a start and allowed operations keep true of family-based logging.
use Rattle.std.specs.Prelude.{◌≡◌, ℕ, ◌<◌, Bool, true, false, ◌⊎◌, Some, None}
use Rattle.network.specs.declared.message.Receipt.{Receipt}
use Rattle.logger.specs.Clauses.{Sizes}
use Rattle.loggers.specs.FamilyBased.{Holding, Holdings, State, source_of}

-- h, which is up, holds e
pub record Holds (n : ℕ) (down : ℕ → Bool) (c : Holdings) (h : ℕ) (e : Holding) : Type 0 where
  pub host : h < n
  pub up : down h ≡ false
  pub has : c h ≡ Some e

-- k is down, or holds the determinant with source x
abbrev pub Vouched : (ℕ → Bool) → Holdings → Receipt → ℕ → Type 0
Vouched down c x k = (down k ≡ true) ⊎ (source_of (c k) ≡ Some x)

-- What the hosts hold of one receipt.
pub record InOrder (n : ℕ) (down : ℕ → Bool) (c : Holdings) : Type 0 where
  -- whom a host that is up knows to hold it vouches for it
  pub known : (h k : ℕ) (e : Holding) → Holds n down c h e → e.holders k ≡ true → (k < n) × Vouched down c e.source k
  -- hosts that are up hold the same determinant
  pub one : (h k : ℕ) (e g : Holding) → Holds n down c h e → Holds n down c k g → e.source ≡ g.source
  -- a host that is down holds nothing
  pub none : (h : ℕ) → down h ≡ true → c h ≡ None

pub record Ready (a : State) : Type 0 where
  pub sizes : Sizes a.n a.f
  pub receipts : (q r : ℕ) → InOrder a.n a.down (a.holdings q r)
