-- The operations of a logger that change it, as one type: where each is allowed, and what it may do.
use Rattle.std.specs.Prelude.{ℕ}
use Rattle.logger.specs.declared.determinant.Determinant.{Determinant}
use Rattle.logger.specs.Meaning.{Meaning, Up}
use Rattle.logger.specs.Clauses.{Sizes, Started, MayCarry, Carry, MayNote, Note, Spread, Lose, Rejoin}

pub data Operation : Type 0 where
  start : ℕ → ℕ → Operation
  carry : ℕ → ℕ → Operation
  note : ℕ → Determinant → Operation
  spread : ℕ → Operation
  lose : ℕ → Operation
  rejoin : Operation

abbrev pub Allowed : Operation → Meaning → Type 0
Allowed (start n f) m = Sizes n f
Allowed (carry s p) m = MayCarry m s p
Allowed (note p d) m = MayNote m p d
Allowed (spread p) m = Up m p
Allowed (lose p) m = Up m p
Allowed rejoin m = Unit {0}

abbrev pub Lawful : Operation → Meaning → Meaning → Type 0
Lawful (start n f) m m' = Started n f m'
Lawful (carry s p) m m' = Carry m m' s p
Lawful (note p d) m m' = Note m m' p d
Lawful (spread p) m m' = Spread m m' p
Lawful (lose p) m m' = Lose m m' p
Lawful rejoin m m' = Rejoin m m'
