-- Traces: the calls made on a cluster since it was opened, each with its answer, and what an outside observer has of them.
use Rattle.std.specs.Prelude.{ℕ, ◌≤◌, Bool, true, false, List, [], ◌∷◌, ◌++◌, Some, None, Ok, Err, Option}
use Rattle.workload.specs.Machine.{Machine}
use Rattle.network.specs.Host.{optional}
use Rattle.logger.specs.declared.logger.Logger as logger
use Rattle.logger.specs.Operation.{Operation}
use Rattle.calls.specs.declared.call.Call.{Call}
use Rattle.calls.specs.declared.call.Call.TheVariants.{Post, Deliver, Cut, Release, Crash, Recover, Show}
use Rattle.calls.specs.declared.call.Made.{Made}
use Rattle.calls.specs.Cluster.{down_count, opened}
use Rattle.calls.specs.Calls.{Answer, System, Called}

-- what an accepted post gave: to whom, and the body
abbrev pub post_in : Call → Answer → Option (ℕ × ℕ)
post_in (Post p b) (Ok j) = Some (p, b)
post_in (Post p b) (Err e) = None
post_in (Deliver p s) r = None
post_in (Cut p s k) r = None
post_in (Release p) r = None
post_in (Crash p) r = None
post_in Recover r = None
post_in (Show p) r = None

-- what an accepted release gave: by whom, and the output that it answered
abbrev pub release_in : Call → Answer → Option (ℕ × ℕ)
release_in (Post p b) r = None
release_in (Deliver p s) r = None
release_in (Cut p s k) r = None
release_in (Release p) (Ok x) = Some (p, x)
release_in (Release p) (Err e) = None
release_in (Crash p) r = None
release_in Recover r = None
release_in (Show p) r = None

-- the accepted posts, and the answers of the accepted releases, in order
abbrev pub posts_of : List Made → List (ℕ × ℕ)
posts_of [] = []
posts_of (x ∷ xs) = optional (post_in x.call x.answer) ++ posts_of xs

abbrev pub releases_of : List Made → List (ℕ × ℕ)
releases_of [] = []
releases_of (x ∷ xs) = optional (release_in x.call x.answer) ++ releases_of xs

-- a call that takes a host down or brings hosts back
abbrev pub disturbs : Call → Bool
disturbs (Post p b) = false
disturbs (Deliver p s) = false
disturbs (Cut p s k) = true
disturbs (Release p) = false
disturbs (Crash p) = true
disturbs Recover = true
disturbs (Show p) = false

module _ {L S : Type 0} (log : logger.Ghosts L) (m : Machine S) (n f : ℕ) where
  -- the calls made since an accepted open with n hosts and the bound f, and what they led to
  pub data Trace : List Made → System S L → Type 0 where
    opens : {l l' : L} → log.acts (Operation.start n f) l l' → Trace [] (record { cluster = opened m n f; logger = l' })
    then : {t : List Made} {a b : System S L} {x : Made} → Trace t a → Called log a x.call x.answer b → Trace (t ++ (x ∷ [])) b

  -- never more than f hosts are down at once
  abbrev pub Within : {t : List Made} {a : System S L} → Trace t a → Type 0
  Within (opens s) = Unit {0}
  Within (then {b = b} T c) = Within T × (down_count b.cluster ≤ f)
