-- A run that can be followed by hand, in which a cut that is not closed is reached by no run. So what is said of closed cuts is not true of every cut.
use Rattle.std.specs.Prelude.{◌≡◌, ℕ, cond, List, [], ◌∷◌, Some, None, ◌==◌}
use Rattle.workload.specs.Machine.{Machine}
use Rattle.network.specs.declared.message.Message.{Message}
use Rattle.network.specs.Network.{outside}
use Rattle.network.specs.World.{World, nothing, put, cut, made_in, Reached, Closed}

-- Host 0 passes on to host 1 each body that it takes. A host's state is the last body that it took.
abbrev pub relay : Machine ℕ
relay = record {
  first = λ p. 0;
  rule = λ p x s b. record { state = b; reaction = record { send = cond (p == 0) (Some (1, b)) None; output = None } };
  shown = λ x. x;
}

-- the outside world posts 5 to host 0
abbrev pub one_post : ℕ → List ℕ
one_post h = cond (h == 0) (5 ∷ []) []

abbrev pub posted : Message
posted = record { sender = outside; ssn = 1; body = 5 }

abbrev pub passed_on : Message
passed_on = record { sender = 0; ssn = 1; body = 5 }

-- host 0 took the post, and host 1 what host 0 made of it
abbrev pub relayed : World
relayed = put (put nothing 0 posted) 1 passed_on

-- host 1 keeps what it took, and host 0 has lost the receipt in which it made that
abbrev pub orphaned : ℕ → ℕ
orphaned h = cond (h == 1) 1 0

pub record Orphan : Type 0 where
  pub reached : Reached relay 2 one_post relayed
  pub made : made_in relay relayed 0 1 1 ≡ 1
  pub not_closed : Closed relay 2 one_post relayed orphaned → ⊥
  pub not_reached : Reached relay 2 one_post (cut relayed orphaned) → ⊥
