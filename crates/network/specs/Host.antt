-- One host: what it has while it is up, and how that grows with each message that it takes.
use Rattle.std.specs.Prelude.{ℕ, List, [], ◌∷◌, ◌++◌, Some, None, Option}
use Rattle.workload.specs.Machine.{Machine, Step}
use Rattle.network.specs.declared.message.Message.{Message}
use Rattle.network.specs.declared.message.Receipt.{Receipt}

-- the list of what there is
abbrev pub optional : {A : Type 0} → Option A → List A
optional None = []
optional (Some x) = x ∷ []

-- Its state, and in order: its receipts, its sends as destination and body, and its outputs.
pub record Host (S : Type 0) : Type 0 where
  pub state : S
  pub receipts : List Receipt
  pub sends : List (ℕ × ℕ)
  pub outputs : List ℕ

abbrev pub receipt_of : Message → Receipt
receipt_of t = record { sender = t.sender; ssn = t.ssn }

-- x, after it took the message t and did what the step says
abbrev pub grown : {S : Type 0} → Host S → Message → Step S → Host S
grown x t r = record {
  state = r.state;
  receipts = x.receipts ++ (receipt_of t ∷ []);
  sends = x.sends ++ optional r.reaction.send;
  outputs = x.outputs ++ optional r.reaction.output;
}

module _ {S : Type 0} (m : Machine S) where
  -- host p, before it took anything
  abbrev pub fresh : ℕ → Host S
  fresh p = record { state = m.first p; receipts = []; sends = []; outputs = [] }

  -- host p, which has x, after it takes t
  abbrev pub taking : ℕ → Host S → Message → Host S
  taking p x t = grown x t (m.rule p x.state t.sender t.body)
