-- What is true of every crash-free run, and of the worlds that runs come to. The records at the end are what the functions of src/theory.rt ensure.
use Rattle.std.specs.Prelude.{◌≡◌, ℕ, zero, suc, ◌+◌, ◌<◌, ◌≤◌, true, ◌↔◌, List, ◌++◌, length, take, drop, Some, None, Option, ◌≢◌}
use Rattle.std.specs.List.{slice_get}
use Rattle.workload.specs.Machine.{Machine}
use Rattle.network.specs.declared.message.Message.{Message}
use Rattle.network.specs.Host.{Host}
use Rattle.network.specs.Network.{Network, outside, bodies_to, count_from, sent, waiting, is_sender, posting, started}
use Rattle.network.specs.Run.{after, AllAccepted, crash_free, Valid}
use Rattle.network.specs.World.{World, nothing, cut, taking_all, host_after, network, made_in, Next, Reached, Closed}

-- ys begins with xs
abbrev pub Prefix : {A : Type 0} → List A → List A → Type 0
Prefix {A} xs ys = (more : List A) × (ys ≡ xs ++ more)

-- message j from s to p, from 1, if s has sent it
abbrev pub message : {S : Type 0} → Network S → ℕ → ℕ → ℕ → Option ℕ
message v s p zero = None
message v s p (suc i) = slice_get (sent v s p) i

-- y received, sent and put out all that x did, and perhaps more after it.
pub record Grows {S : Type 0} (x y : Host S) : Type 0 where
  pub receipts : Prefix x.receipts y.receipts
  pub sends : Prefix x.sends y.sends
  pub outputs : Prefix x.outputs y.outputs

-- Host p takes the first k messages of a history, and goes on from there with the rest.
pub record Front {S : Type 0} (m : Machine S) (p k : ℕ) (history : List Message) : Type 0 where
  pub goes_on : host_after m p history ≡ taking_all m p (host_after m p (take k history)) (drop k history)
  pub grows : Grows (host_after m p (take k history)) (host_after m p history)

module _ {S : Type 0} (m : Machine S) (n : ℕ) (posts : ℕ → List ℕ) (W : World) where
  -- What is known of the message t at place k, from 0, of the history of q: its ssn follows those that q had from its sender, and its sender sent it.
  pub record Entry (q k : ℕ) (t : Message) : Type 0 where
    pub host : q < n
    pub sender : is_sender (network m n posts W) q t.sender ≡ true
    pub ssn : t.ssn ≡ count_from t.sender (host_after m q (take k (W q))).receipts + 1
    pub sent : message (network m n posts W) t.sender q t.ssn ≡ Some t.body

  -- Each host h has taken the first u h messages of its history. Some host has not taken all, and the next of its history waits there.
  pub record Ready (u : ℕ → ℕ) : Type 0 where
    pub host : ℕ
    pub next : Message
    pub is : slice_get (W host) (u host) ≡ Some next
    pub waits : Next (network m n posts (cut W u)) host next

module _ {S : Type 0} (m : Machine S) (n : ℕ) where
  -- The worlds that runs come to.
  pub record Worlds : Type 0 where
    pub entries : (posts : ℕ → List ℕ) (W : World) → Reached m n posts W → (q k : ℕ) (t : Message) → slice_get (W q) k ≡ Some t → Entry m n posts W q k t
    -- a message from a host was made in one of that host's receipts
    pub made : (posts : ℕ → List ℕ) (W : World) → Reached m n posts W → (q k : ℕ) (t : Message) → slice_get (W q) k ≡ Some t → (t.sender ≢ outside)
        → (1 ≤ made_in m W t.sender q t.ssn) × (made_in m W t.sender q t.ssn ≤ length (W t.sender))
    -- receipts tell no bodies, and still two such worlds with the same network are one
    pub one : (posts : ℕ → List ℕ) (W X : World) → Reached m n posts W → Reached m n posts X → network m n posts W ≡ network m n posts X → W ≡ X
    -- more posts take none of them away
    pub more_posts : (posts posts' : ℕ → List ℕ) → ((h : ℕ) → Prefix (posts h) (posts' h)) → (W : World) → Reached m n posts W → Reached m n posts' W

  -- Cuts of a world.
  pub record Cuts : Type 0 where
    pub fronts : (p k : ℕ) (history : List Message) → Front m p k history
    -- a message that is sent within a cut is the same in the whole world
    pub messages_stay : (posts : ℕ → List ℕ) (W : World) (v : ℕ → ℕ) (s p j b : ℕ)
        → message (network m n posts (cut W v)) s p j ≡ Some b → message (network m n posts W) s p j ≡ Some b
    -- a message of the world is sent within a cut exactly if the receipt that made it lies within
    pub made_within : (posts : ℕ → List ℕ) (W : World) (v : ℕ → ℕ) (s p j b : ℕ)
        → message (network m n posts (cut W v)) s p j ≡ Some b ↔ ((message (network m n posts W) s p j ≡ Some b) × (made_in m W s p j ≤ v s))
    -- runs come to a cut of a world that they come to exactly if the cut is closed
    pub closed : (posts : ℕ → List ℕ) (W : World) (v : ℕ → ℕ) → Reached m n posts W → Closed m n posts W v ↔ Reached m n posts (cut W v)

  -- Hosts that have any part of their histories take the rest.
  pub record Replays : Type 0 where
    -- while some host has not taken all, some host can take the next message of its history
    pub progress : (posts : ℕ → List ℕ) (W : World) → Reached m n posts W → (u : ℕ → ℕ) (h : ℕ) → u h < length (W h) → Ready m n posts W u
    -- and what waits at a host from the sender of its next message can only be that message
    pub faithful : (posts : ℕ → List ℕ) (W : World) → Reached m n posts W → (u : ℕ → ℕ) (q : ℕ) (t a : Message)
        → slice_get (W q) (u q) ≡ Some t → waiting (network m n posts (cut W u)) q t.sender ≡ Some a → a ≡ t

  -- Runs as they are fed, call by call.
  pub record Runs : Type 0 where
    -- after accepted posts nothing is taken
    pub posted : (posts : List (ℕ × ℕ)) → AllAccepted posting (started m n) posts → after posting (started m n) posts ≡ network m n (λ h. bodies_to h posts) nothing
    -- valid runs end in the networks of the worlds in which no host took more than 64 messages, and in no others
    pub ends : (posts : List (ℕ × ℕ)) → AllAccepted posting (started m n) posts → (v : Network S)
        → ((pairs : List (ℕ × ℕ)) × Valid m n posts pairs × (crash_free m n posts pairs ≡ v))
        ↔ ((W : World) × Reached m n (λ h. bodies_to h posts) W × ((h : ℕ) → length (W h) ≤ 64) × (network m n (λ h. bodies_to h posts) W ≡ v))
