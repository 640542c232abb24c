-- The crash-free run: n hosts that stay up, and no logger. It is fed posts, then pairs of a receiver and a sender.
use Rattle.std.specs.Prelude.{◌≡◌, ℕ, true, List, [], ◌∷◌, is_ok, Result}
use Rattle.workload.specs.Machine.{Machine}
use Rattle.network.specs.declared.refusal.Refusal.{Refusal}
use Rattle.network.specs.Network.{Network, started, posting, delivering}

-- A call with two numbers: its answer, and the network then.
abbrev pub Feed : Type 0 → Type 0
Feed S = Network S → ℕ → ℕ → Result ℕ Refusal × Network S

module _ {S : Type 0} (feed : Feed S) where
  -- the network after the calls with these pairs of numbers, one after the other
  abbrev pub after : Network S → List (ℕ × ℕ) → Network S
  after v [] = v
  after v (x ∷ xs) = after (feed v x.0 x.1).1 xs

  -- none of them is refused
  abbrev pub AllAccepted : Network S → List (ℕ × ℕ) → Type 0
  AllAccepted v [] = Unit {0}
  AllAccepted v (x ∷ xs) = (is_ok (feed v x.0 x.1).0 ≡ true) × AllAccepted (feed v x.0 x.1).1 xs

module _ {S : Type 0} (m : Machine S) (n : ℕ) where
  -- The network after n hosts were fed the posts (host, body) and then the pairs (receiver, sender). One that is refused alters nothing.
  abbrev pub crash_free : List (ℕ × ℕ) → List (ℕ × ℕ) → Network S
  crash_free posts pairs = after delivering (after posting (started m n) posts) pairs

  -- a run of which nothing is refused
  abbrev pub Valid : List (ℕ × ℕ) → List (ℕ × ℕ) → Type 0
  Valid posts pairs = AllAccepted posting (started m n) posts × AllAccepted delivering (after posting (started m n) posts) pairs
