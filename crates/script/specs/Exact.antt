-- A cluster over a logger whose operations are functions of what it keeps, as those of the shipped loggers are: calls can be computed.
use Rattle.std.specs.Prelude.{ℕ, List, [], ◌∷◌}
use Rattle.network.specs.Checks.{checked, unless_refused}
use Rattle.loggers.specs.FamilyBased as family
use Rattle.logger.specs.Operation.{Operation}
use Rattle.loggers.specs.Pessimistic as pessimistic
use Rattle.logger.specs.Sources.{pair}
use Rattle.calls.specs.declared.call.Call.{Call}
use Rattle.calls.specs.Calls.{Answer, checks, done, made, if_accepted}
use Rattle.calls.specs.Cluster.{Cluster}
use Rattle.calls.specs.Recovery.{Finder}

-- what it keeps when it has just started, what an operation makes of that, and what is found in it
pub record Exact (M : Type 0) : Type 0 where
  pub fresh : ℕ → ℕ → M
  pub after : Operation → M → M
  pub found : M → Finder

abbrev pub pessimistic_logging : Exact pessimistic.State
pessimistic_logging = record { fresh = pessimistic.fresh; after = pessimistic.after; found = λ a q r. pair (a.store q r) }

abbrev pub family_based_logging : Exact family.State
family_based_logging = record { fresh = family.fresh; after = family.after; found = family.finds }

-- the operations, one after the other
abbrev pub all_after : {M : Type 0} → Exact M → List Operation → M → M
all_after log [] l = l
all_after log (op ∷ ops) l = all_after log ops (log.after op l)

-- the answers of calls made one after the other
abbrev pub answers : {S M : Type 0} → Exact M → Cluster S → M → List Call → List Answer
answers log c l [] = []
answers log c l (x ∷ xs) =
    let r = unless_refused (checked (checks c x)) c (done (log.found l) c x) in
    r.0 ∷ answers log r.1 (all_after log (if_accepted (checked (checks c x)) (made (log.found l) c x)) l) xs
