-- A world: the history of each host, which is what it took, oldest first. What a host has is a fold over its history.
use Rattle.std.specs.Prelude.{◌≡◌, ℕ, zero, suc, ◌-◌, ◌<◌, ◌≤◌, Bool, true, cond, List, [], ◌∷◌, ◌++◌, length, take, Some, None, Option, ◌==◌, nat_le}
use Rattle.std.specs.List.{slice_get}
use Rattle.workload.specs.Machine.{Machine, replaced}
use Rattle.network.specs.declared.message.Message.{Message}
use Rattle.network.specs.Host.{Host, fresh, taking}
use Rattle.network.specs.Network.{Network, outside, bodies_to, is_sender, waiting}
use Rattle.network.specs.Past.{Origins}

abbrev pub World : Type 0
World = ℕ → List Message

-- nobody took anything
abbrev pub nothing : World
nothing h = []

-- W, and t taken by p
abbrev pub put : World → ℕ → Message → World
put W p t = replaced W p (W p ++ (t ∷ []))

-- the first v h messages of each host h
abbrev pub cut : World → (ℕ → ℕ) → World
cut W v h = take (v h) (W h)

-- the least number up to a bound that passes the test, and the bound if none does
abbrev pub least : ℕ → (ℕ → Bool) → ℕ
least zero P = 0
least (suc b) P = cond (P 0) 0 (suc (least b (λ k. P (suc k))))

-- the sender, the ssn, of what may be an entry
abbrev pub sender_of : Option Message → ℕ
sender_of None = outside
sender_of (Some t) = t.sender

abbrev pub ssn_of : Option Message → ℕ
ssn_of None = 0
ssn_of (Some t) = t.ssn

module _ {S : Type 0} (m : Machine S) where
  -- x, after p took these messages, one after the other
  abbrev pub taking_all : ℕ → Host S → List Message → Host S
  taking_all p x [] = x
  taking_all p x (t ∷ ts) = taking_all p (taking m p x t) ts

  -- host p after a history
  abbrev pub host_after : ℕ → List Message → Host S
  host_after p h = taking_all p (fresh m p) h

  -- n hosts with these posts and histories
  abbrev pub network : ℕ → (ℕ → List ℕ) → World → Network S
  network n posts W = record { n = n; machine = m; hosts = λ h. host_after h (W h); posts = posts; released = λ h. [] }

  -- which of the messages that s took, from 1, made its j-th message to p: the least number of them that made j such messages
  abbrev pub made_by : ℕ → ℕ → List Message → ℕ → ℕ
  made_by s p h j = least (length h) (λ k. nat_le j (length (bodies_to p (host_after s (take k h)).sends)))

  -- in which of its own receipts the sender made its message j to p; 0 for the outside world
  abbrev pub made_in : World → ℕ → ℕ → ℕ → ℕ
  made_in W s p j = cond (s == outside) 0 (made_by s p (W s) j)

  -- where the receipts of a world come from
  abbrev pub origins : World → Origins
  origins W = record {
    sender = λ q k. sender_of (slice_get (W q) (k - 1));
    made = λ q k. made_in W (sender_of (slice_get (W q) (k - 1))) q (ssn_of (slice_get (W q) (k - 1)));
  }

-- The message t waits at host p.
pub record Next {S : Type 0} (v : Network S) (p : ℕ) (t : Message) : Type 0 where
  pub host : p < v.n
  pub sender : is_sender v p t.sender ≡ true
  pub waits : waiting v p t.sender ≡ Some t

module _ {S : Type 0} (m : Machine S) (n : ℕ) (posts : ℕ → List ℕ) where
  -- The worlds that a crash-free run comes to: one message more at a time.
  pub data Reached : World → Type 0 where
    start : Reached nothing
    taken : {W : World} {p : ℕ} {t : Message} → Reached W → Next (network m n posts W) p t → Reached (put W p t)

  -- each message from a host that lies within the cut was made within the cut
  abbrev pub Closed : World → (ℕ → ℕ) → Type 0
  Closed W v = (q k : ℕ) (t : Message) → k < v q → slice_get (W q) k ≡ Some t → t.sender < n → made_in m W t.sender q t.ssn ≤ v t.sender
