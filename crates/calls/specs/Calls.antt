-- The calls on a cluster: when each is refused, what it answers and leaves, and which operations of the logger it makes.
use Rattle.std.specs.Prelude.{◌≡◌, ℕ, ◌+◌, Bool, false, cond, not, ◌&&◌, ◌||◌, List, [], ◌∷◌, ◌++◌, length, is_some, Some, None, Ok, Err, Option, Result, ◌==◌, nat_le, nat_lt}
use Rattle.std.specs.List.{slice_get}
use Rattle.std.specs.Option.{unwrap_or}
use Rattle.workload.specs.Machine.{Machine}
use Rattle.network.specs.declared.refusal.Refusal.{Refusal}
use Rattle.network.specs.declared.refusal.Refusal.TheVariants.{DownBound, NoSuchPoint, NotWhole, HostDown, SenderDown, NothingToRelease, NobodyDown, TargetMissed}
use Rattle.network.specs.Checks.{checked, unless_refused}
use Rattle.network.specs.Network.{Network, outside, received, waiting, takes, with_post, with_released, host_check, post_check, pair_checks, message_checks, count_check}
use Rattle.logger.specs.declared.determinant.Determinant.{Determinant}
use Rattle.logger.specs.declared.logger.Logger as logger
use Rattle.logger.specs.Meaning.{determinant}
use Rattle.logger.specs.Operation.{Operation, start, carry, note, spread, lose, rejoin}
use Rattle.calls.specs.declared.call.Call.{Call}
use Rattle.calls.specs.declared.call.Call.TheVariants.{Post, Deliver, Cut, Release, Crash, Recover, Show}
use Rattle.calls.specs.Cluster.{Cluster, down_count, opened, with_network, crashed, nobody}
use Rattle.calls.specs.Recovery.{Finder, restarted, replayed, all_reached}

abbrev pub Answer : Type 0
Answer = Result ℕ Refusal

-- whether something came, or why not
abbrev pub whether : {A : Type 0} → Result A Refusal → Result (Unit {0}) Refusal
whether (Ok x) = Ok tt
whether (Err e) = Err e

-- OPEN starts the cluster with n hosts and the bound f, whatever was before.
abbrev pub open_checks : ℕ → ℕ → List (Bool × Refusal)
open_checks n f = count_check n ∷ (nat_le 1 f && nat_lt f n, DownBound) ∷ []

abbrev pub opening : {S : Type 0} → (ℕ → Machine S) → Cluster S → ℕ → ℕ → Answer × Cluster S
opening machine c n f = unless_refused (checked (open_checks n f)) c (Ok 0, opened (machine n) n f)

-- THE LOGGER is told by a carry that p is about to take a message from s, if s is a host; and by a note that p took it.
abbrev pub carried : ℕ → ℕ → List Operation
carried p s = cond (s == outside) [] (carry s p ∷ [])

-- what is told of a delivery with determinant d that comes to a point: 0 before the carry, 1 after it, 2 after the note, 3 after all
abbrev pub told : ℕ → ℕ → Determinant → ℕ → List Operation
told p s d k = cond (nat_le 1 k) (carried p s) [] ++ cond (nat_le 2 k) (note p d ∷ []) []

module _ {S : Type 0} (c : Cluster S) where
  -- CHECKS of the other calls, in ascending order
  abbrev pub whole_check : Bool × Refusal
  whole_check = (c.whole, NotWhole)

  abbrev pub up_check : ℕ → Bool × Refusal
  up_check p = (not (c.down p), HostDown)

  abbrev pub sender_check : ℕ → Bool × Refusal
  sender_check s = (s == outside || not (c.down s), SenderDown)

  -- what a delivery asks once its pair is in range
  abbrev pub taking_checks : ℕ → ℕ → List (Bool × Refusal)
  taking_checks p s = whole_check ∷ up_check p ∷ sender_check s ∷ message_checks c.network p s

  -- the output of p that is released next: the oldest that it has not released
  abbrev pub next_output : ℕ → Option ℕ
  next_output p = slice_get (c.network.hosts p).outputs (length (c.network.released p))

  abbrev pub checks : Call → List (Bool × Refusal)
  checks (Post p b) = host_check c.network p ∷ whole_check ∷ post_check c.network p ∷ []
  checks (Deliver p s) = pair_checks c.network p s ++ taking_checks p s
  checks (Cut p s k) = pair_checks c.network p s ++ ((nat_lt k 4, NoSuchPoint) ∷ taking_checks p s)
  checks (Release p) = host_check c.network p ∷ whole_check ∷ up_check p ∷ (is_some (next_output p), NothingToRelease) ∷ []
  checks (Crash p) = host_check c.network p ∷ whole_check ∷ up_check p ∷ []
  checks Recover = whole_check ∷ (nat_lt 0 (down_count c), NobodyDown) ∷ []
  checks (Show p) = host_check c.network p ∷ whole_check ∷ up_check p ∷ []

  abbrev pub released_by : ℕ → Option ℕ → Network S
  released_by p None = c.network
  released_by p (Some x) = with_released c.network p x

  -- the determinant of the receipt that the next message from s to p makes
  abbrev pub next_determinant : ℕ → ℕ → Determinant
  next_determinant p s = determinant p (length (c.network.hosts p).receipts + 1) s (received c.network p s + 1)

  abbrev pub delivered : ℕ → ℕ → List Operation
  delivered p s = carried p s ++ (note p (next_determinant p s) ∷ [])

  -- of a delivery that is cut at a point
  abbrev pub begun : ℕ → ℕ → ℕ → List Operation
  begun p s k = told p s (next_determinant p s) k

module _ {S : Type 0} (found : Finder) (c : Cluster S) where
  -- All returning hosts reached their targets: every host is up. Else they are down again and empty, and the cluster is not whole.
  abbrev pub recovered : Answer × Cluster S
  recovered =
      cond (all_reached found c.down (replayed found c.down c.network).1)
      (Ok (replayed found c.down c.network).0, record { network = (replayed found c.down c.network).1; f = c.f; whole = c.whole; down = nobody })
      (Err TargetMissed, record { network = restarted c.down (replayed found c.down c.network).1; f = c.f; whole = false; down = c.down })

  -- what an accepted call answers, and the cluster after it
  abbrev pub done : Call → Answer × Cluster S
  done (Post p b) = (Ok (length (c.network.posts p) + 1), with_network c (with_post c.network p b))
  done (Deliver p s) = (Ok (received c.network p s + 1), with_network c (takes c.network p (waiting c.network p s)))
  done (Cut p s k) = (Ok 0, crashed c p)
  done (Release p) = (Ok (unwrap_or (next_output c p) 0), with_network c (released_by c p (next_output c p)))
  done (Crash p) = (Ok 0, crashed c p)
  done Recover = recovered
  done (Show p) = (Ok (c.network.machine.shown (c.network.hosts p).state), c)

  -- and the operations of the logger that it makes, in order
  abbrev pub made : Call → List Operation
  made (Post p b) = []
  made (Deliver p s) = delivered c p s
  made (Cut p s k) = begun c p s k ++ (lose p ∷ [])
  made (Release p) = spread p ∷ []
  made (Crash p) = lose p ∷ []
  made Recover = cond (all_reached found c.down (replayed found c.down c.network).1) (rejoin ∷ []) []
  made (Show p) = []

-- a refused call makes none
abbrev pub if_accepted : Result (Unit {0}) Refusal → List Operation → List Operation
if_accepted (Ok u) ops = ops
if_accepted (Err e) ops = []

-- A cluster and its logger.
pub record System (S L : Type 0) : Type 0 where
  pub cluster : Cluster S
  pub logger : L

-- the operations, one after the other
abbrev pub Follows : {L : Type 0} → logger.Ghosts L → List Operation → L → L → Type 0
Follows log [] l m = l ≡ m
Follows {L} log (op ∷ ops) l m = (k : L) × log.acts op l k × Follows log ops k m

module _ {L S : Type 0} (log : logger.Ghosts L) where
  -- the answer of a call made at a, and the cluster after it
  abbrev pub outcome : System S L → Call → Answer × Cluster S
  outcome a call = unless_refused (checked (checks a.cluster call)) a.cluster (done (log.found a.logger) a.cluster call)

  abbrev pub operations : System S L → Call → List Operation
  operations a call = if_accepted (checked (checks a.cluster call)) (made (log.found a.logger) a.cluster call)

  -- The call made at a, its answer, and what it leaves. The answer and the cluster are fixed; the logger is followed through what its operations do.
  pub record Called (a : System S L) (call : Call) (answer : Answer) (b : System S L) : Type 0 where
    pub cluster : outcome a call ≡ (answer, b.cluster)
    pub logger : Follows log (operations a call) a.logger b.logger

  -- An open made at a: a refused one leaves everything as it was.
  pub record Opened (machine : ℕ → Machine S) (a : System S L) (n f : ℕ) (answer : Answer) (b : System S L) : Type 0 where
    pub cluster : opening machine a.cluster n f ≡ (answer, b.cluster)
    pub logger : Follows log (if_accepted (checked (open_checks n f)) (start n f ∷ [])) a.logger b.logger
