-- What is promised of a whole list of calls, made on a cluster that is opened for it.
use Rattle.std.specs.Prelude.{◌≡◌, ℕ, ◌<◌, true, ◌↔◌, List, map, Ok, Err}
use Rattle.workload.specs.Machine.{Machine}
use Rattle.network.specs.Checks.{checked}
use Rattle.network.specs.Run.{crash_free, Valid}
use Rattle.logger.specs.declared.logger.Logger as logger
use Rattle.calls.specs.declared.call.Made.{Made}
use Rattle.calls.specs.Alike.{run_calls, NoneRefused}
use Rattle.calls.specs.Calls.{Answer, System, open_checks}
use Rattle.calls.specs.Guarantee.{Guarantee}
use Rattle.calls.specs.Trace.{Trace, Within}

module _ {L S : Type 0} (log : logger.Ghosts L) (machine : ℕ → Machine S) (n f : ℕ) where
  -- An accepted open, and then the calls: each has its answer beside it.
  pub record MadeAll (before after : List Made) (b : System S L) : Type 0 where
    pub same_calls : map (λ (x : Made). x.call) after ≡ map (λ (x : Made). x.call) before
    pub trace : Trace log (machine n) n f after b
    -- while never more than f hosts are down at once, which is what it is to stay whole, the guarantee holds after each call
    pub whole : b.cluster.whole ≡ true ↔ Within log (machine n) n f trace
    pub guarantee : Within log (machine n) n f trace → Guarantee log (machine n) n f trace
    -- and if these are the calls of a valid crash-free run, none is refused, and each host ends with what it has there
    pub alike : (posts pairs : List (ℕ × ℕ)) → Valid (machine n) n posts pairs → map (λ (x : Made). x.call) before ≡ run_calls posts pairs
        → NoneRefused after × ((h : ℕ) → h < n → b.cluster.network.hosts h ≡ (crash_free (machine n) n posts pairs).hosts h)

  -- A refused open leaves the cluster and the list as they were.
  abbrev pub Played : System S L → List Made → Answer → List Made → System S L → Type 0
  Played a before (Ok k) after b = (k ≡ 0) × (checked (open_checks n f) ≡ Ok tt) × MadeAll before after b
  Played a before (Err e) after b = (checked (open_checks n f) ≡ Err e) × (after ≡ before) × (b ≡ a)
