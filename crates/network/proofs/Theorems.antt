-- The theorems about crash-free runs.
use Rattle.std.proofs.Common.{ℕ, refl, arith, lit<}
use Rattle.workload.specs.Machine.{Machine}
use Rattle.network.specs.World.{cut, Reached, start, taken, Closed}
use Rattle.network.specs.Theorems.{Worlds, Cuts, Replays, Runs}
use Rattle.network.specs.Relay.{relay, one_post, posted, passed_on, relayed, orphaned, Orphan}
use Rattle.network.proofs.Histories.{front}
use Rattle.network.proofs.Worlds.{grown_cut}
use Rattle.network.proofs.Messages.{message_grown}
use Rattle.network.proofs.Made as made
use Rattle.network.proofs.Reached as reached
use Rattle.network.proofs.Runs as runs

module _ {S : Type 0} (m : Machine S) (n : ℕ) where
  pub worlds : Worlds m n
  worlds = record {
    entries = λ posts W R. reached.entry m n posts R;
    made = λ posts W R q k t e host. made.made_bounds m n posts W t.sender q t.ssn t.body host (reached.entry m n posts R q k t e).sent;
    one = λ posts W X R C. reached.one_world m n posts R C;
    more_posts = λ posts posts' g W R. reached.more_posts m n posts posts' g R;
  }

  pub cuts : Cuts m n
  cuts = record {
    fronts = front m;
    messages_stay = λ posts W v s p j b. message_grown m n posts (cut W v) W s p j b (grown_cut W v s);
    made_within = made.made_within m n;
    closed = λ posts W v R. reached.closed_exactly m n posts R v;
  }

  pub replays : Replays m n
  replays = record { progress = λ posts W R. reached.progress m n posts R; faithful = λ posts W R. reached.faithful m n posts R }

  pub run_worlds : Runs m n
  run_worlds = record { posted = runs.posted m n; ends = runs.ends m n }

pub orphan : Orphan
orphan = record { reached = comes; made = refl; not_closed = opens; not_reached = λ C. opens ((reached.closed_exactly relay 2 one_post comes orphaned).1 C) }
  where
    comes : Reached relay 2 one_post relayed
    comes = taken {p = 1} {t = passed_on} (taken {p = 0} {t = posted} start (record { host = lit< tt; sender = refl; waits = refl })) (record { host = lit< tt; sender = refl; waits = refl })

    opens : Closed relay 2 one_post relayed orphaned → ⊥
    opens c = absurd (omega (arith, c 1 0 passed_on (lit< tt) refl (lit< tt)))
