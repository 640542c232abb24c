-- A recovery brings back every host that is down, with its whole history, and leaves the cluster sound.
use Rattle.std.proofs.Common.{◌≡◌, ℕ, ◌<◌, true, cond, length, ◌∙◌, arith}
use Rattle.std.proofs.lemmas.Bool.{both_ways}
use Rattle.network.specs.Network.{Network}
use Rattle.network.specs.World.{World, host_after}
use Rattle.logger.specs.declared.logger.Logger as logger
use Rattle.logger.specs.Operation.{Operation}
use Rattle.logger.proofs.Crashing.{rejoin_keeps}
use Rattle.calls.specs.Cluster.{Cluster, nobody}
use Rattle.calls.specs.Guarantee.{events, lengths}
use Rattle.calls.specs.Recovery.{total, replayed, all_reached}
use Rattle.calls.specs.Sound.{Sound}
use Rattle.calls.proofs.Laws.{Laws}
use Rattle.calls.proofs.Returning.{brought_back, WorldBehind, brought_back_is}
use Rattle.calls.proofs.Replays as replays
use Rattle.calls.proofs.Replays.{Finds}
pub use Rattle.calls.proofs.Targets.{found_is, target_is}

module _ {L S : Type 0} (log : logger.Ghosts L) (laws : Laws log) (W : World) (rel : ℕ → ℕ) (c : Cluster S) (l : L) (s : Sound log W rel c l) where
  behind : WorldBehind c.network c.down W
  behind = record { reached = s.reached; others = s.up }

  finds : Finds (log.found l) c.network c.down W
  finds = record { targets = target_is log laws W rel c l s; entries = found_is log laws W rel c l s }

  -- the network, with the hosts that are down brought back
  abbrev pub returned : Network S
  returned = brought_back c.network c.down W

  pub replayed_is : replayed (log.found l) c.down c.network ≡ (total c.network.n (λ h. cond (c.down h) (length (W h)) 0), returned)
  replayed_is = replays.replayed_is (log.found l) c.network c.down W behind finds

  pub reached_all : all_reached (log.found l) c.down returned ≡ true
  reached_all = replays.reached_all (log.found l) c.network c.down W behind finds

  pub returned_is : (h : ℕ) → h < c.network.n → returned.hosts h ≡ host_after c.network.machine h (W h)
  returned_is = brought_back_is c.network c.down W behind

  pub rejoin_sound : (k : L) → log.acts Operation.rejoin l k → Sound log W rel (record { network = returned; f = c.f; whole = c.whole; down = nobody }) k
  rejoin_sound k act =
      let law = laws.lawful Operation.rejoin l k s.ready tt act in
      let kept = rejoin_keeps (log.meaning l) (log.meaning k) (events c.network.machine W) (lengths W) rel law.1 s.few s.replayable s.invariant in
      record {
        ready = law.0;
        eight = s.eight;
        same_n = law.1.same_n ∙ s.same_n;
        same_f = law.1.same_f ∙ s.same_f;
        same_down = law.1.none_down;
        reached = s.reached;
        room = s.room;
        up = λ h lt up. returned_is h lt;
        invariant = kept.0;
        replayable = λ q j e down. absurd (both_ways ((log.meaning k).down q) (law.1.none_down q) down);
        few = omega (arith, kept.1);
        released = s.released;
      }
