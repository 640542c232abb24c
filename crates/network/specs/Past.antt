-- The past of a receipt. An event (q, k) is the k-th receipt of host q, from 1.
use Rattle.std.specs.Prelude.{◌≡◌, ℕ, suc, ◌<◌, ◌≤◌}

-- Of each event: who sent the message, and in which of its own receipts the sender made it.
pub record Origins : Type 0 where
  pub sender : ℕ → ℕ → ℕ
  pub made : ℕ → ℕ → ℕ

-- Among n hosts, (a, j) comes immediately before (q, k): it is the receipt before it at the same host,
-- or the one in which its sender, a host, made the message.
pub data Before (n : ℕ) (o : Origins) (q k a j : ℕ) : Type 0 where
  previous : a ≡ q → k ≡ suc j → 1 ≤ j → Before n o q k a j
  maker : a ≡ o.sender q k → a < n → j ≡ o.made q k → Before n o q k a j

-- (a, j) lies in the past of (q, k): it is that receipt, or comes immediately before one in the past.
pub data Past (n : ℕ) (o : Origins) (q k : ℕ) : ℕ → ℕ → Type 0 where
  itself : Past n o q k q k
  before : {a j b i : ℕ} → Past n o q k a j → Before n o a j b i → Past n o q k b i
