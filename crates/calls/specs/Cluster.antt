-- A cluster: hosts that may crash.
use Rattle.std.specs.Prelude.{ℕ, Bool, true, false, nat_le}
use Rattle.workload.specs.Machine.{Machine, replaced}
use Rattle.network.specs.Host.{fresh}
use Rattle.network.specs.Network.{Network, started, unstarted, with_host}
use Rattle.logger.specs.Meaning.{count}

-- Hosts, of which at most f may be down at once. It is whole from an accepted open until more than f hosts are down.
-- A host that is down has nothing: what stands for it in the network is a host that took nothing.
pub record Cluster (S : Type 0) : Type 0 where
  pub network : Network S
  pub f : ℕ
  pub whole : Bool
  pub down : ℕ → Bool

abbrev pub nobody : ℕ → Bool
nobody h = false

module _ {S : Type 0} where
  -- how many hosts are down
  abbrev pub down_count : Cluster S → ℕ
  down_count c = count c.network.n c.down

  -- before the first open there are no hosts
  abbrev pub unopened : Machine S → (ℕ → S) → Cluster S
  unopened m state = record { network = unstarted m state; f = 0; whole = false; down = nobody }

  -- n hosts that are up and have taken nothing
  abbrev pub opened : Machine S → ℕ → ℕ → Cluster S
  opened m n f = record { network = started m n; f = f; whole = true; down = nobody }

  abbrev pub with_network : Cluster S → Network S → Cluster S
  with_network c v = record { network = v; f = c.f; whole = c.whole; down = c.down }

  -- p goes down and loses all that it had
  abbrev pub crashed : Cluster S → ℕ → Cluster S
  crashed c p = record {
    network = with_host c.network p (fresh c.network.machine p);
    f = c.f;
    whole = nat_le (count c.network.n (replaced c.down p true)) c.f;
    down = replaced c.down p true;
  }
