-- The receipts of a world stay what they are as it grows.
use Rattle.std.proofs.Common.{◌≡◌, ℕ, zero, suc, ◌-◌, List, Some, sym, ◌∙◌, arith}
use Rattle.std.specs.List.{slice_get}
use Rattle.workload.specs.Machine.{Machine}
use Rattle.network.specs.declared.message.Message.{Message}
use Rattle.network.specs.World.{World, Reached}
use Rattle.network.proofs.Places.{nth_some}
use Rattle.network.proofs.Worlds.{Grown, nth_grown}
use Rattle.network.proofs.Origins.{origins_same}
use Rattle.logger.specs.Events.{Events, Event}
use Rattle.logger.specs.Invariant.{Agree}
use Rattle.logger.specs.Meaning.{determinant}
use Rattle.calls.specs.Guarantee.{events, lengths}

pub agree_sym : (n : ℕ) (len : ℕ → ℕ) (v v' : Events) → Agree n len v v' → Agree n len v' v
agree_sym n len v v' a = record { at = λ q k e. sym (a.at q k e); made = λ q k e. sym (a.made q k e) }

module _ {S : Type 0} (m : Machine S) where
  -- the determinant of the receipt that took t
  pub at_is : (W : World) (q k : ℕ) (t : Message) → slice_get (W q) k ≡ Some t → (events m W).at q (suc k) ≡ determinant q (suc k) t.sender t.ssn
  at_is W q k t e = let i : suc k - 1 ≡ k = omega arith in rw (i, e)

  pub agree : (n : ℕ) (posts : ℕ → List ℕ) {W : World} → Reached m n posts W → (X : World) → Grown W X → Agree n (lengths W) (events m W) (events m X)
  agree n posts {W} R X g = record { at = at; made = λ q k v. (origins_same m n posts R X g q k v.low v.high).1 }
    where
      at : (q k : ℕ) → Event n (lengths W) q k → (events m X).at q k ≡ (events m W).at q k
      at q zero v = absurd (omega (arith, v.low))
      at q (suc k) v =
          let t = nth_some (W q) k v.high in
          at_is X q k t.0 (nth_grown W X q k t.0 g t.1) ∙ sym (at_is W q k t.0 t.1)
