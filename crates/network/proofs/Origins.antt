-- Where the receipts of a world come from, and that this stays as the world grows.
use Rattle.std.proofs.Common.{◌≡◌, ℕ, zero, suc, ◌-◌, ◌≤◌, List, length, Some, Option, sym, ap, ◌∙◌, arith}
use Rattle.std.specs.List.{slice_get}
use Rattle.workload.specs.Machine.{Machine}
use Rattle.network.specs.declared.message.Message.{Message}
use Rattle.network.specs.World.{World, sender_of, ssn_of, made_in, origins, Reached}
use Rattle.network.proofs.Places.{nth_some}
use Rattle.network.proofs.Worlds.{Grown, nth_grown}
use Rattle.network.proofs.Reached.{made_same}

module _ {S : Type 0} (m : Machine S) where
  module _ (W : World) (q k : ℕ) (t : Message) (e : slice_get (W q) k ≡ Some t) where
    at_place : slice_get (W q) (suc k - 1) ≡ Some t
    at_place = let i : suc k - 1 ≡ k = omega arith in rw i e

    pub sender_at : (origins m W).sender q (suc k) ≡ t.sender
    sender_at = ap sender_of at_place

    pub made_at : (origins m W).made q (suc k) ≡ made_in m W t.sender q t.ssn
    made_at = ap (λ (o : Option Message). made_in m W (sender_of o) q (ssn_of o)) at_place

  pub origins_same : (n : ℕ) (posts : ℕ → List ℕ) {W : World} → Reached m n posts W → (X : World) → Grown W X → (q k : ℕ) → 1 ≤ k → k ≤ length (W q)
      → ((origins m X).sender q k ≡ (origins m W).sender q k) × ((origins m X).made q k ≡ (origins m W).made q k)
  origins_same n posts {W} R X g q zero low high = absurd (omega arith)
  origins_same n posts {W} R X g q (suc k) low high =
      let t = nth_some (W q) k high in
      let e = nth_grown W X q k t.0 g t.1 in (
        sender_at X q k t.0 e ∙ sym (sender_at W q k t.0 t.1),
        made_at X q k t.0 e ∙ made_same m n posts R X g q k t.0 t.1 ∙ sym (made_at W q k t.0 t.1),
      )
