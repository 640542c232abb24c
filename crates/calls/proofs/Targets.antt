-- What is found of a host that is down: the receipts of its history, and no more.
use Rattle.std.proofs.Common.{◌≡◌, ℕ, zero, suc, ◌+◌, ◌<◌, ◌≤◌, true, false, length, is_some, Some, None, Option, refl, ◌∙◌, arith}
use native.Mathlib.Decide.{ℕ_discrete}
use Rattle.std.specs.List.{slice_get}
use Rattle.network.specs.declared.message.Message.{Message}
use Rattle.network.specs.World.{World}
use Rattle.network.proofs.Places.{nth_lt, nth_some}
use Rattle.logger.specs.declared.determinant.Determinant.{Determinant}
use Rattle.logger.specs.declared.logger.Logger as logger
use Rattle.logger.specs.Events.{Happened}
use Rattle.logger.specs.Meaning.{determinant}
use Rattle.logger.proofs.Crashing.{findable_happened}
use Rattle.calls.specs.Cluster.{Cluster}
use Rattle.calls.specs.Guarantee.{events, lengths}
use Rattle.calls.specs.Recovery.{reach, target}
use Rattle.calls.proofs.Events.{at_is}
use Rattle.calls.specs.Sound.{Sound}
use Rattle.calls.proofs.Laws.{Laws}

-- all from r + 1 to t are found, and t + 1 is not
reach_is : (found : ℕ → Option (ℕ × ℕ)) (k r t : ℕ) → r ≤ t → t ≤ r + k → ((i : ℕ) → r < i → i ≤ t → is_some (found i) ≡ true) → is_some (found (t + 1)) ≡ false → reach found k r ≡ t
unfolding reach
reach_is found zero r t low high all none = omega arith
reach_is found (suc k) r t low high all none = elim (ℕ_discrete r t) [
  | yes i ↦ (let stop : is_some (found (r + 1)) ≡ false = rw i none in rw stop i)
  | no ne ↦ rw (all (r + 1) (omega arith) (omega arith)) (reach_is found k (r + 1) t (omega arith) (omega arith) (λ i a b. all i (omega arith) b) none)
]

module _ {L S : Type 0} (log : logger.Ghosts L) (laws : Laws log) (W : World) (rel : ℕ → ℕ) (c : Cluster S) (l : L) (s : Sound log W rel c l) where
  -- what is found happened
  found_happened : (h k : ℕ) (x : ℕ × ℕ) → log.found l h k ≡ Some x → Happened (log.meaning l).n (events c.network.machine W) (lengths W) (determinant h k x.0 x.1)
  found_happened h k x e = findable_happened (log.meaning l) (events c.network.machine W) (lengths W) rel s.invariant (determinant h k x.0 x.1) (laws.finds l h k x.0 x.1 s.ready e)

  pub found_is : (h k : ℕ) (x : Message) → h < c.network.n → c.down h ≡ true → slice_get (W h) k ≡ Some x → log.found l h (suc k) ≡ Some (x.sender, x.ssn)
  found_is h k x lt down e = go (log.found l h (suc k)) refl
    where
      d : Determinant
      d = (events c.network.machine W).at h (suc k)

      go : (o : Option (ℕ × ℕ)) → log.found l h (suc k) ≡ o → log.found l h (suc k) ≡ Some (x.sender, x.ssn)
      go None i =
          absurd (laws.misses l h (suc k) s.ready i d refl refl (s.replayable h (suc k) (record { host = rw s.same_n lt; low = omega arith; high = nth_lt (W h) k x e }) (s.same_down h ∙ down)))
      go (Some y) i = let same = (found_happened h (suc k) y i).is ∙ at_is c.network.machine W h k x e in i ∙ λ j. Some ((same j).sender, (same j).ssn)

  none_past : (h : ℕ) → is_some (log.found l h (length (W h) + 1)) ≡ false
  none_past h = go (log.found l h (length (W h) + 1)) refl
    where
      go : (o : Option (ℕ × ℕ)) → log.found l h (length (W h) + 1) ≡ o → is_some o ≡ false
      go None i = refl
      go (Some x) i = let high = (found_happened h (length (W h) + 1) x i).event.high in absurd (omega arith)

  pub target_is : (h : ℕ) → h < c.network.n → c.down h ≡ true → target (log.found l) h ≡ length (W h)
  target_is h lt down = reach_is (log.found l h) 64 0 (length (W h)) (omega arith) (omega (arith, s.room h)) every (none_past h)
    where
      every : (i : ℕ) → 0 < i → i ≤ length (W h) → is_some (log.found l h i) ≡ true
      every zero a b = absurd (omega arith)
      every (suc k) a b = let x = nth_some (W h) k b in rw (found_is h k x.0 lt down x.1)
