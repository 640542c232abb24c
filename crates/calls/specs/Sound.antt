-- What holds of a cluster and its logger between any two calls, while it is whole.
use Rattle.std.specs.Prelude.{◌≡◌, ℕ, ◌<◌, ◌≤◌, true, false, List, ◌++◌, length, take, Ok}
use Rattle.workload.specs.Machine.{Machine}
use Rattle.network.specs.World.{World, host_after, Reached}
use Rattle.logger.specs.declared.logger.Logger as logger
use Rattle.logger.specs.Invariant.{Invariant, Replayable}
use Rattle.logger.specs.Meaning.{down_count}
use Rattle.calls.specs.declared.call.Call.{Call}
use Rattle.calls.specs.Calls.{Answer, System, Called, Opened}
use Rattle.calls.specs.Cluster.{Cluster}
use Rattle.calls.specs.Guarantee.{events, lengths}

-- W is the world behind the cluster c and its logger l; the receipts of host h up to rel h are covered, and gave all that it released.
pub record Sound {L S : Type 0} (log : logger.Ghosts L) (W : World) (rel : ℕ → ℕ) (c : Cluster S) (l : L) : Type 0 where
  pub ready : log.ready l
  pub eight : c.network.n ≤ 8
  pub same_n : (log.meaning l).n ≡ c.network.n
  pub same_f : (log.meaning l).f ≡ c.f
  pub same_down : (h : ℕ) → (log.meaning l).down h ≡ c.down h
  pub reached : Reached c.network.machine c.network.n c.network.posts W
  pub room : (h : ℕ) → length (W h) ≤ 64
  pub up : (h : ℕ) → h < c.network.n → c.down h ≡ false → c.network.hosts h ≡ host_after c.network.machine h (W h)
  pub invariant : Invariant (log.meaning l) (events c.network.machine W) (lengths W) rel
  pub replayable : Replayable (log.meaning l) (events c.network.machine W) (lengths W)
  pub few : down_count (log.meaning l) ≤ (log.meaning l).f
  pub released :
      (h : ℕ) → h < c.network.n → (more : List ℕ) × ((host_after c.network.machine h (take (rel h) (W h))).outputs ≡ c.network.released h ++ more)

-- There is such a world.
abbrev pub Sounds : {L S : Type 0} → logger.Ghosts L → Cluster S → L → Type 0
Sounds log c l = (W : World) × (rel : ℕ → ℕ) × Sound log W rel c l

-- An accepted open makes a cluster sound, and every call keeps it so, unless it takes one host too many down.
pub record StaysSound {L S : Type 0} (log : logger.Ghosts L) (machine : ℕ → Machine S) : Type 0 where
  pub opened : (a b : System S L) (n f k : ℕ) → Opened log machine a n f (Ok k) b → Sounds log b.cluster b.logger
  pub called :
      (a b : System S L) (call : Call) (answer : Answer) → Called log a call answer b → Sounds log a.cluster a.logger → b.cluster.whole ≡ true
      → Sounds log b.cluster b.logger
