-- Without crashes no logger shows.
use Rattle.std.specs.Prelude.{◌≡◌, ℕ, ◌<◌, true, List, [], ◌∷◌, ◌++◌, map, is_ok}
use Rattle.workload.specs.Machine.{Machine}
use Rattle.network.specs.Run.{crash_free, Valid}
use Rattle.logger.specs.declared.logger.Logger as logger
use Rattle.logger.specs.Clauses.{Sizes}
use Rattle.calls.specs.declared.call.Call.{Call}
use Rattle.calls.specs.declared.call.Call.TheVariants.{Post, Deliver}
use Rattle.calls.specs.declared.call.Made.{Made}
use Rattle.calls.specs.Calls.{System}
use Rattle.calls.specs.Trace.{Trace}

-- the calls of a crash-free run
abbrev pub run_calls : List (ℕ × ℕ) → List (ℕ × ℕ) → List Call
run_calls posts pairs = map (λ x. Post x.0 x.1) posts ++ map (λ x. Deliver x.0 x.1) pairs

abbrev pub NoneRefused : List Made → Type 0
NoneRefused [] = Unit {0}
NoneRefused (x ∷ xs) = (is_ok x.answer ≡ true) × NoneRefused xs

-- Of a valid crash-free run a cluster accepts each call, under any logger, and each host ends with what it has there.
abbrev pub NoLoggerShows : {L S : Type 0} → logger.Ghosts L → (ℕ → Machine S) → Type 0
NoLoggerShows {L} {S} log machine =
    (n f : ℕ) → Sizes n f → (posts pairs : List (ℕ × ℕ)) → Valid (machine n) n posts pairs → (t : List Made) (a : System S L) → Trace log (machine n) n f t a
    → map (λ (x : Made). x.call) t ≡ run_calls posts pairs
    → NoneRefused t × ((h : ℕ) → h < n → a.cluster.network.hosts h ≡ (crash_free (machine n) n posts pairs).hosts h)
