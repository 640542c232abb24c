-- Hosts that send each other messages: which message waits where, and what it is to take one.
use Rattle.std.specs.Prelude.{ℕ, suc, ◌+◌, Bool, cond, not, ◌&&◌, ◌||◌, List, [], ◌∷◌, ◌++◌, length, is_some, Some, None, Ok, Option, Result, ◌==◌, nat_le, nat_lt}
use Rattle.std.specs.List.{slice_get}
use Rattle.std.specs.Option.{option_map}
use Rattle.workload.specs.declared.Workload as workload
use Rattle.workload.specs.Machine.{Machine, replaced}
use Rattle.network.specs.declared.message.Message.{Message}
use Rattle.network.specs.declared.message.Receipt.{Receipt}
use Rattle.network.specs.declared.refusal.Refusal.{Refusal}
use Rattle.network.specs.declared.refusal.Refusal.TheVariants.{HostCount, NoSuchHost, NoSuchSender, NothingWaits, ReceiptsFull, PostsFull}
use Rattle.network.specs.Checks.{checked, unless_refused}
use Rattle.network.specs.Host.{Host, fresh, taking}

-- n hosts and what they do. The posts to each host, and the outputs that it released, belong to the outside world.
pub record Network (S : Type 0) : Type 0 where
  pub n : ℕ
  pub machine : Machine S
  pub hosts : ℕ → Host S
  pub posts : ℕ → List ℕ
  pub released : ℕ → List ℕ

-- the sender that stands for the outside world
abbrev pub outside : ℕ
outside = 8

-- the bodies of the sends whose destination is p
abbrev pub bodies_to : ℕ → List (ℕ × ℕ) → List ℕ
bodies_to p [] = []
bodies_to p (x ∷ xs) = cond (x.0 == p) (x.1 ∷ bodies_to p xs) (bodies_to p xs)

-- how many of the receipts are of messages from s
abbrev pub count_from : ℕ → List Receipt → ℕ
count_from s [] = 0
count_from s (x ∷ xs) = cond (x.sender == s) (suc (count_from s xs)) (count_from s xs)

module _ {S : Type 0} (v : Network S) where
  -- The messages from s to p, by their bodies: message j is the j-th send of s whose destination is p, or the j-th post to p.
  abbrev pub sent : ℕ → ℕ → List ℕ
  sent s p = cond (s == outside) (v.posts p) (bodies_to p (v.hosts s).sends)

  -- how many messages from s the host p has received
  abbrev pub received : ℕ → ℕ → ℕ
  received p s = count_from s (v.hosts p).receipts

  -- The message from s that waits at p: the first that p has not received.
  abbrev pub waiting : ℕ → ℕ → Option Message
  waiting p s = option_map (λ b. record { sender = s; ssn = received p s + 1; body = b }) (slice_get (sent s p) (received p s))

  abbrev pub with_host : ℕ → Host S → Network S
  with_host p x = record { n = v.n; machine = v.machine; hosts = replaced v.hosts p x; posts = v.posts; released = v.released }

  abbrev pub with_post : ℕ → ℕ → Network S
  with_post p b = record { n = v.n; machine = v.machine; hosts = v.hosts; posts = replaced v.posts p (v.posts p ++ (b ∷ [])); released = v.released }

  abbrev pub with_released : ℕ → ℕ → Network S
  with_released p x = record { n = v.n; machine = v.machine; hosts = v.hosts; posts = v.posts; released = replaced v.released p (v.released p ++ (x ∷ [])) }

  -- p takes this message, if there is one
  abbrev pub takes : ℕ → Option Message → Network S
  takes p None = v
  takes p (Some t) = with_host p (taking v.machine p (v.hosts p) t)

  -- Checks: each a test, with the refusal where it fails.
  abbrev pub host_check : ℕ → Bool × Refusal
  host_check p = (nat_lt p v.n, NoSuchHost)

  abbrev pub post_check : ℕ → Bool × Refusal
  post_check p = (nat_lt (length (v.posts p)) 64, PostsFull)

  abbrev pub is_sender : ℕ → ℕ → Bool
  is_sender p s = s == outside || (nat_lt s v.n && not (s == p))

  -- a receiver and a sender that may be named together
  abbrev pub pair_checks : ℕ → ℕ → List (Bool × Refusal)
  pair_checks p s = host_check p ∷ (is_sender p s, NoSuchSender) ∷ []

  abbrev pub message_checks : ℕ → ℕ → List (Bool × Refusal)
  message_checks p s = (is_some (waiting p s), NothingWaits) ∷ (nat_lt (length (v.hosts p).receipts) 64, ReceiptsFull) ∷ []

  -- The outside world posts b to p: the ssn, and the network then.
  abbrev pub posting : ℕ → ℕ → Result ℕ Refusal × Network S
  posting p b = unless_refused (checked (host_check p ∷ post_check p ∷ [])) v (Ok (length (v.posts p) + 1), with_post p b)

  -- Host p takes the next message from s: its ssn, and the network then.
  abbrev pub delivering : ℕ → ℕ → Result ℕ Refusal × Network S
  delivering p s = unless_refused (checked (pair_checks p s ++ message_checks p s)) v (Ok (received p s + 1), takes p (waiting p s))

  -- What is shown of host p.
  abbrev pub showing : ℕ → Result ℕ Refusal
  showing p = (unless_refused (checked (host_check p ∷ [])) v (Ok (v.machine.shown (v.hosts p).state), v)).0

  -- The output at place i, from 0, of host p.
  abbrev pub output_at : ℕ → ℕ → Option ℕ
  output_at p i = cond (nat_lt p v.n) (slice_get (v.hosts p).outputs i) None

-- n hosts that have taken nothing
abbrev pub started : {S : Type 0} → Machine S → ℕ → Network S
started m n = record { n = n; machine = m; hosts = λ h. fresh m h; posts = λ h. []; released = λ h. [] }

-- no hosts yet: the workload is as it was handed over
abbrev pub unstarted : {S : Type 0} → Machine S → (ℕ → S) → Network S
unstarted m state = record { n = 0; machine = m; hosts = λ h. record { state = state h; receipts = []; sends = []; outputs = [] }; posts = λ h. []; released = λ h. [] }

abbrev pub count_check : ℕ → Bool × Refusal
count_check n = (nat_le 2 n && nat_le n 8, HostCount)

-- A start with n hosts, on a run that may have been used before.
abbrev pub starting : {W S : Type 0} → workload.Ghosts W S → Network S → ℕ → Result ℕ Refusal × Network S
starting work v n = unless_refused (checked (count_check n ∷ [])) v (Ok 0, started (work.machine n) n)
