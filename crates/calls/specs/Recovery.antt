-- What a recovery makes of a cluster, by what the logger finds.
use Rattle.std.specs.Prelude.{◌≡◌, ℕ, zero, suc, ◌+◌, ◌<◌, Bool, true, cond, not, ◌&&◌, ◌||◌, List, length, is_some, Some, None, Option, ◌==◌, nat_lt, slice_index}
use Rattle.network.specs.declared.message.Message.{Message}
use Rattle.network.specs.Host.{fresh}
use Rattle.network.specs.Network.{Network, received, waiting, is_sender, takes}

-- what is found of each receiver and receipt number: the sender and the ssn
abbrev pub Finder : Type 0
Finder = ℕ → ℕ → Option (ℕ × ℕ)

-- r, and as many more, at most k, as are found one after the other
unfoldable pub reach : (ℕ → Option (ℕ × ℕ)) → ℕ → ℕ → ℕ
reach found zero r = r
reach found (suc k) r = cond (is_some (found (r + 1))) (reach found k (r + 1)) r

-- the target of host q: the largest r, at most 64, such that each of its receipts from 1 to r is found
abbrev pub target : Finder → ℕ → ℕ
target found q = reach (found q) 64 0

-- a table that holds the target of each host below 8
abbrev pub AreTargets : Finder → List ℕ → Type 0
AreTargets found ts = (h : ℕ) → h < 8 → slice_index ts h ≡ target found h

-- the sum over the hosts below n
abbrev pub total : ℕ → (ℕ → ℕ) → ℕ
total zero g = 0
total (suc n) g = total n g + g n

-- the test passes at every host below n
abbrev pub all_below : ℕ → (ℕ → Bool) → Bool
all_below zero P = true
all_below (suc n) P = all_below n P && P n

-- the lowest host below n that has something, and what it has
abbrev pub or_else : {A : Type 0} → Option (ℕ × A) → ℕ → Option A → Option (ℕ × A)
or_else (Some x) h o = Some x
or_else None h None = None
or_else None h (Some a) = Some (h, a)

abbrev pub lowest : {A : Type 0} → ℕ → (ℕ → Option A) → Option (ℕ × A)
lowest zero g = None
lowest (suc n) g = or_else (lowest n g) n (g n)

-- the sum of the targets of the returning hosts, which is as many receipts as can be replayed
abbrev pub targets : Finder → (ℕ → Bool) → ℕ → ℕ
targets found returning n = total n (λ h. cond (returning h) (target found h) 0)

module _ {S : Type 0} where
  -- the message with this sender and ssn, if it is the one that waits at q
  abbrev pub waits_as : Network S → ℕ → Option (ℕ × ℕ) → Option Message
  waits_as v q None = None
  waits_as v q (Some d) = cond (is_sender v q d.0 && d.1 == received v q d.0 + 1) (waiting v q d.0) None

  -- returning hosts start from the first state with empty lists
  abbrev pub restarted : (ℕ → Bool) → Network S → Network S
  restarted returning v = record { n = v.n; machine = v.machine; hosts = λ h. cond (returning h) (fresh v.machine h) (v.hosts h); posts = v.posts; released = v.released }

  -- go on from where this message was taken, if there is one, and count it
  abbrev pub replay_on : Option (ℕ × Message) → Network S → (Network S → ℕ × Network S) → ℕ × Network S
  replay_on None v go = (0, v)
  replay_on (Some x) v go = ((go (takes v x.0 (Some x.1))).0 + 1, (go (takes v x.0 (Some x.1))).1)

module _ {S : Type 0} (found : Finder) (returning : ℕ → Bool) where
  -- what a returning host can take next: it is below its target, and the message of its next receipt waits
  abbrev pub replayable : Network S → ℕ → Option Message
  replayable v q =
      cond (returning q && nat_lt (length (v.hosts q).receipts) (target found q)) (waits_as v q (found q (length (v.hosts q).receipts + 1))) None

  -- At most k times: the lowest host that can takes its next receipt's message. How many were taken, and the network then.
  unfoldable pub replay : ℕ → Network S → ℕ × Network S
  replay zero v = (0, v)
  replay (suc k) v = replay_on (lowest v.n (replayable v)) v (λ w. replay k w)

  abbrev pub replayed : Network S → ℕ × Network S
  replayed v = replay (targets found returning v.n) (restarted returning v)

  -- each returning host has as many receipts as its target says
  abbrev pub all_reached : Network S → Bool
  all_reached v = all_below v.n (λ h. not (returning h) || length (v.hosts h).receipts == target found h)
