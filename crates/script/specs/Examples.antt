-- Small traces that compute: what the definitions say of concrete calls.
use Rattle.std.specs.Prelude.{◌≡◌, ℕ, List, [], ◌∷◌, Ok, Err}
use Rattle.workload.specs.Ledger.{ledger, body_of}
use Rattle.workload.specs.declared.ledger.order.Order.TheVariants.{Credit, Transfer}
use Rattle.network.specs.declared.refusal.Refusal.TheVariants.{NotWhole, NothingWaits}
use Rattle.calls.specs.declared.call.Call.{Call}
use Rattle.calls.specs.declared.call.Call.TheVariants.{Post, Deliver, Cut, Crash, Recover, Show}
use Rattle.calls.specs.Calls.{Answer}
use Rattle.calls.specs.Cluster.{opened}
use Rattle.script.specs.Exact.{pessimistic_logging, family_based_logging, answers}

-- what the calls answer on a ledger of 3 hosts of which 1 may be down
abbrev pub pessimistic_answers : List Call → List Answer
pessimistic_answers calls = answers pessimistic_logging (opened (ledger 3) 3 1) (pessimistic_logging.fresh 3 1) calls

abbrev pub family_based_answers : List Call → List Answer
family_based_answers calls = answers family_based_logging (opened (ledger 3) 3 1) (family_based_logging.fresh 3 1) calls

-- 9 licences for host 0, 4 of which it hands to host 1
abbrev pub handed_over : List Call → List Call
handed_over more = Post 0 (body_of (Credit 9)) ∷ Post 0 (body_of (Transfer 1 4)) ∷ Deliver 0 8 ∷ Deliver 0 8 ∷ Deliver 1 0 ∷ more

-- a delivery from outside that is cut at a point, and then a recovery
abbrev pub cut_at : ℕ → List Call
cut_at k = Post 0 (body_of (Credit 9)) ∷ Cut 0 8 k ∷ Recover ∷ []

pub record Examples : Type 0 where
  -- host 1 took a message of host 0, and with it the determinants that host 0 depends on: both come back
  pub carried_and_back : family_based_answers (handed_over (Crash 0 ∷ Recover ∷ Show 0 ∷ Show 1 ∷ []))
      ≡ Ok 1 ∷ Ok 2 ∷ Ok 1 ∷ Ok 2 ∷ Ok 1 ∷ Ok 0 ∷ Ok 2 ∷ Ok 5 ∷ Ok 4 ∷ []
  -- what nobody else heard of is forgotten, and the message waits again
  pub forgotten : family_based_answers (handed_over (Crash 1 ∷ Recover ∷ Deliver 1 0 ∷ Show 1 ∷ []))
      ≡ Ok 1 ∷ Ok 2 ∷ Ok 1 ∷ Ok 2 ∷ Ok 1 ∷ Ok 0 ∷ Ok 0 ∷ Ok 1 ∷ Ok 4 ∷ []
  pub stored_and_back : pessimistic_answers (handed_over (Crash 1 ∷ Recover ∷ Deliver 1 0 ∷ Show 1 ∷ []))
      ≡ Ok 1 ∷ Ok 2 ∷ Ok 1 ∷ Ok 2 ∷ Ok 1 ∷ Ok 0 ∷ Ok 1 ∷ Err NothingWaits ∷ Ok 4 ∷ []
  -- a delivery that is cut before its receipt is noted did not happen; after that it did
  pub cut_before : pessimistic_answers (cut_at 0) ≡ Ok 1 ∷ Ok 0 ∷ Ok 0 ∷ []
  pub cut_carried : pessimistic_answers (cut_at 1) ≡ Ok 1 ∷ Ok 0 ∷ Ok 0 ∷ []
  pub cut_noted : pessimistic_answers (cut_at 2) ≡ Ok 1 ∷ Ok 0 ∷ Ok 1 ∷ []
  pub cut_after : pessimistic_answers (cut_at 3) ≡ Ok 1 ∷ Ok 0 ∷ Ok 1 ∷ []
  -- one crash too many is accepted, and then nothing is
  pub too_many : pessimistic_answers (Crash 0 ∷ Crash 1 ∷ Recover ∷ Show 2 ∷ []) ≡ Ok 0 ∷ Ok 0 ∷ Err NotWhole ∷ Err NotWhole ∷ []
