-- What hosts do: the state that each begins in, and what each makes of a message.
use Rattle.std.specs.Prelude.{ℕ, cond, None, ◌==◌}
use Rattle.workload.specs.declared.reaction.Reaction.{Reaction}

-- One message taken: the state after it, and what was sent and put out.
pub record Step (S : Type 0) : Type 0 where
  pub state : S
  pub reaction : Reaction

-- The first state of each host; the rule, from the host, its state, the sender and the body; the number that stands for a state.
pub record Machine (S : Type 0) : Type 0 where
  pub first : ℕ → S
  pub rule : ℕ → S → ℕ → ℕ → Step S
  pub shown : S → ℕ

-- g, but x at p
abbrev pub replaced : {A : Type 0} → (ℕ → A) → ℕ → A → ℕ → A
replaced g p x h = cond (h == p) x (g h)

abbrev pub no_reaction : Reaction
no_reaction = record { send = None; output = None }

-- a message that only changes the state, which one that no rule takes leaves as it was
abbrev pub silently : {S : Type 0} → S → Step S
silently x = record { state = x; reaction = no_reaction }
