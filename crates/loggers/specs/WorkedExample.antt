-- A message passed from host to host under family-based logging, computed by its rules.
use Rattle.std.specs.Prelude.{◌≡◌, ℕ, zero, suc, List, [], ◌∷◌, ◌++◌, Some, None, Option}
use Rattle.logger.specs.declared.determinant.Determinant.{Determinant}
use Rattle.logger.specs.Meaning.{determinant}
use Rattle.logger.specs.Operation.{Operation, carry, note}
use Rattle.loggers.specs.FamilyBased.{Holding, State, fresh, after}

-- one operation after the other
abbrev run : List Operation → State → State
run [] a = a
run (op ∷ ops) a = run ops (after op a)

-- what is held of receipt number r of host q, as a list
abbrev listed : ℕ → ℕ → Option Holding → List Determinant
listed q r None = []
listed q r (Some e) = determinant q r e.source.sender e.source.ssn ∷ []

-- what host h holds of the receipts 1 to k of host q
abbrev held_of : State → ℕ → ℕ → ℕ → List Determinant
held_of a h q zero = []
held_of a h q (suc k) = held_of a h q k ++ listed q (suc k) (a.holdings q (suc k) h)

-- what host h holds of all receipts of the hosts below m
abbrev held_by : State → ℕ → ℕ → List Determinant
held_by a h zero = []
held_by a h (suc m) = held_by a h m ++ held_of a h m 64

-- host 0 receives a message from outside, host 1 one from host 0, and host 2 one from host 1
abbrev passed_on : List Operation
passed_on = note 0 (determinant 0 1 8 1) ∷ carry 0 1 ∷ note 1 (determinant 1 1 0 1) ∷ carry 1 2 ∷ note 2 (determinant 2 1 1 1) ∷ []

-- Where one host may be down, hosts 0 and 1 are enough for the first determinant, so it travels no further.
abbrev pub StopsTravelling : Type 0
StopsTravelling = held_by (run passed_on (fresh 3 1)) 2 8 ≡ determinant 1 1 0 1 ∷ determinant 2 1 1 1 ∷ []
