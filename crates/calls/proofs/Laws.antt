-- The laws of a logger, as one record.
use Rattle.std.proofs.Common.{◌≡◌, ℕ, Some, None}
use Rattle.logger.specs.declared.determinant.Determinant.{Determinant}
use Rattle.logger.specs.declared.logger.Logger as logger
use Rattle.logger.specs.Clauses.{Sizes, Started}
use Rattle.logger.specs.Meaning.{determinant, Findable}
use Rattle.logger.specs.Operation.{Operation, Allowed, Lawful}

pub record Laws {L : Type 0} (log : logger.Ghosts L) : Type 0 where
  pub begins : (n f : ℕ) (l m : L) → Sizes n f → log.acts (Operation.start n f) l m → log.ready m × Started n f (log.meaning m)
  pub lawful : (op : Operation) (l m : L) → log.ready l → Allowed op (log.meaning l) → log.acts op l m → log.ready m × Lawful op (log.meaning l) (log.meaning m)
  pub finds : (l : L) (q r s j : ℕ) → log.ready l → log.found l q r ≡ Some (s, j) → Findable (log.meaning l) (determinant q r s j)
  pub misses :
      (l : L) (q r : ℕ) → log.ready l → log.found l q r ≡ None → (d : Determinant) → d.receiver ≡ q → d.number ≡ r → Findable (log.meaning l) d → ⊥
