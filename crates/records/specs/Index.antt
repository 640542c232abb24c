-- What a host's record keeps beside its lists, so that none of them has to be searched.
use Rattle.std.specs.Prelude.{◌≡◌, ℕ, ◌+◌, ◌<◌, cond, List, [], ◌∷◌, ◌++◌, length, Some, None, Option, nat_lt, slice_index, slice_index_or, slice_set}
use Rattle.workload.specs.Machine.{replaced}
use Rattle.network.specs.declared.message.Receipt.{Receipt}
use Rattle.network.specs.Network.{count_from, bodies_to}
use Rattle.records.specs.declared.by_host.ByHost.{ByHost}

-- how many of the receipts are of messages from each sender, the outside world too
abbrev pub Counted : List ℕ → List Receipt → Type 0
Counted taken xs = (s : ℕ) → s < 9 → slice_index taken s ≡ count_from s xs

-- the bodies of the sends to each host
abbrev pub FiledIn : (ℕ → List ℕ) → List (ℕ × ℕ) → Type 0
FiledIn sent xs = (p : ℕ) → p < 8 → sent p ≡ bodies_to p xs

-- the same of a table as it is kept
abbrev pub Filed : ByHost → List (ℕ × ℕ) → Type 0
Filed sent xs = FiledIn (λ p. (slice_index_or sent.lists p (record { items = [] })).items) xs

-- the counts after one more receipt, of a message from s
abbrev pub one_taken : List ℕ → ℕ → List ℕ
one_taken taken s = cond (nat_lt s 9) (slice_set taken s (slice_index taken s + 1)) taken

-- the body of a send, if there is one, that goes to a host that there may be
abbrev pub with_filed : (ℕ → List ℕ) → Option (ℕ × ℕ) → ℕ → List ℕ
with_filed sent None = sent
with_filed sent (Some x) = cond (nat_lt x.0 8) (replaced sent x.0 (sent x.0 ++ (x.1 ∷ []))) sent

-- the list that it is filed in has room
abbrev pub RoomFor : (ℕ → List ℕ) → Option (ℕ × ℕ) → Type 0
RoomFor sent None = Unit {0}
RoomFor sent (Some x) = x.0 < 8 → length (sent x.0) < 64
