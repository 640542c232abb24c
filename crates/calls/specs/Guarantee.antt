-- THE RECOVERY GUARANTEE.
use Rattle.std.specs.Prelude.{◌≡◌, ℕ, suc, ◌-◌, ◌<◌, true, false, cond, ◌↔◌, List, [], ◌∷◌, ◌++◌, length, Some, Ok}
use Rattle.std.specs.List.{slice_get}
use Rattle.workload.specs.Machine.{Machine}
use Rattle.network.specs.declared.message.Message.{Message}
use Rattle.network.specs.Network.{bodies_to}
use Rattle.network.specs.Run.{crash_free, Valid}
use Rattle.network.specs.World.{World, network, origins, sender_of, ssn_of}
use Rattle.logger.specs.declared.logger.Logger as logger
use Rattle.logger.specs.Clauses.{Sizes}
use Rattle.logger.specs.Events.{Events, NoOrphans}
use Rattle.logger.specs.Meaning.{Meaning, determinant}
use Rattle.calls.specs.declared.call.Call.TheVariants.{Recover}
use Rattle.calls.specs.declared.call.Made.{Made}
use Rattle.calls.specs.Cluster.{Cluster}
use Rattle.calls.specs.Recovery.{target, total}
use Rattle.calls.specs.Calls.{Answer, System, outcome}
use Rattle.calls.specs.Trace.{posts_of, releases_of, disturbs, Trace, opens, then, Within}

-- The receipts of a world: their determinants, and the receipts in which their messages were made.
abbrev pub events : {S : Type 0} → Machine S → World → Events
events m W = record { at = λ q k. determinant q k (sender_of (slice_get (W q) (k - 1))) (ssn_of (slice_get (W q) (k - 1))); made = (origins m W).made }

abbrev pub lengths : World → ℕ → ℕ
lengths W h = length (W h)

module _ {L S : Type 0} (log : logger.Ghosts L) (m : Machine S) (n f : ℕ) where
  -- No host that is up before and after is altered.
  abbrev pub Spares : System S L → System S L → Type 0
  Spares a b =
      (h : ℕ) → h < n → a.cluster.down h ≡ false → b.cluster.down h ≡ false → b.cluster.network.hosts h ≡ a.cluster.network.hosts h

  -- SOME CRASH-FREE RUN, fed the accepted posts in order and these pairs, nothing of which it refuses,
  -- gives each host that is up the same state, receipts, sends and outputs. There each host's outputs, a down one's too,
  -- begin with the answers of its accepted releases, in order.
  pub record AsCrashFree (t : List Made) (a : System S L) (pairs : List (ℕ × ℕ)) : Type 0 where
    pub valid : Valid m n (posts_of t) pairs
    pub up : (h : ℕ) → h < n → a.cluster.down h ≡ false → a.cluster.network.hosts h ≡ (crash_free m n (posts_of t) pairs).hosts h
    pub released : (h : ℕ) → h < n → (more : List ℕ) × (((crash_free m n (posts_of t) pairs).hosts h).outputs ≡ bodies_to h (releases_of t) ++ more)

  -- The histories of that run. Of a host that is down they are its receipts up to its target, as they are found.
  pub record Behind (t : List Made) (a : System S L) (pairs : List (ℕ × ℕ)) (W : World) : Type 0 where
    pub run : crash_free m n (posts_of t) pairs ≡ network m n (λ h. bodies_to h (posts_of t)) W
    pub target : (h : ℕ) → h < n → a.cluster.down h ≡ true → length (W h) ≡ target (log.found a.logger) h
    pub found :
        (h k : ℕ) (x : Message) → h < n → a.cluster.down h ≡ true → slice_get (W h) k ≡ Some x → log.found a.logger h (suc k) ≡ Some (x.sender, x.ssn)

  -- A RECOVER MADE NEXT is accepted, brings every host back that is down, at its target, and answers how many receipts those then have in all.
  pub record Recovers (a : System S L) (answer : Answer) (c : Cluster S) : Type 0 where
    pub count : ℕ
    pub accepted : answer ≡ Ok count
    pub all_up : (h : ℕ) → c.down h ≡ false
    pub at_target : (h : ℕ) → h < n → a.cluster.down h ≡ true → length (c.network.hosts h).receipts ≡ target (log.found a.logger) h
    pub counted : count ≡ total n (λ h. cond (a.cluster.down h) (length (c.network.hosts h).receipts) 0)

  -- the logger serves these hosts, and knows which are down
  pub record Agrees (a : System S L) (l : Meaning) : Type 0 where
    pub hosts : l.n ≡ n
    pub bound : l.f ≡ f
    pub down : (h : ℕ) → l.down h ≡ a.cluster.down h

  -- What holds after each call.
  pub record Holds (t : List Made) (a : System S L) : Type 0 where
    pub pairs : List (ℕ × ℕ)
    pub as_crash_free : AsCrashFree t a pairs
    pub recovers : (h : ℕ) → h < n → a.cluster.down h ≡ true → Recovers a (outcome log a Recover).0 (outcome log a Recover).1
    pub world : World
    pub behind : Behind t a pairs world
    pub agrees : Agrees a (log.meaning a.logger)
    -- Alvisi and Marzullo: a determinant whose Log set has at most f hosts has its Depend set inside it.
    pub no_orphans : NoOrphans (log.meaning a.logger) (events m world) (lengths world)

  -- It holds at the start and after each call, and each crash, cut and recovery spared the hosts that stayed up.
  abbrev pub Guarantee : {t : List Made} {a : System S L} → Trace log m n f t a → Type 0
  Guarantee {a = a} (opens s) = Holds [] a
  Guarantee {a = b} (then {t = t} {a = a} {x = x} T c) = Guarantee T × (disturbs x.call ≡ true → Spares a b) × Holds (t ++ (x ∷ [])) b

module _ {L S : Type 0} (log : logger.Ghosts L) (machine : ℕ → Machine S) where
  -- Whatever was called, in any order and with any arguments: while never more than f hosts are down at once the guarantee holds.
  abbrev pub Guaranteed : Type 0
  Guaranteed = (n f : ℕ) → Sizes n f → (t : List Made) (a : System S L) (T : Trace log (machine n) n f t a) → Within log (machine n) n f T → Guarantee log (machine n) n f T

  -- A cluster is whole exactly if never more than f hosts were down at once since it was opened.
  abbrev pub WholeIsWithin : Type 0
  WholeIsWithin = (n f : ℕ) → Sizes n f → (t : List Made) (a : System S L) (T : Trace log (machine n) n f t a) → a.cluster.whole ≡ true ↔ Within log (machine n) n f T
