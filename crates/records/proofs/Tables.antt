-- A table seen through a view of its entries: one entry read, and one replaced.
use Rattle.std.proofs.Common.{◌≡◌, ℕ, ◌<◌, List, map, length, get_or, set, sym, subst}
use lib.Seq.{map-set}
use Rattle.std.proofs.lemmas.List.{get_or-map, length-map}
use Rattle.workload.specs.Machine.{replaced}
use Rattle.workload.proofs.Tables.{written}

-- y stands at place i now, which is that of p
pub edited_at :
    {A B : Type 0} (view : A → B) (none : B) (xs : List A) (p i : ℕ) → i ≡ p → p < length xs → (y : A) (z : B) → view y ≡ z
    → ◌≡◌ {A = ℕ → B} (λ h. get_or (map view (set xs i y)) h none) (replaced (λ h. get_or (map view xs) h none) p z)
edited_at view none xs p i e l y z f = rw e (written (map view xs) _ p (view y) z none (map-set view xs p y) f (subst (λ (k : ℕ). p < k) (sym (length-map xs view)) l))

-- the entry at place i, which is that of p
pub read_at : {A B : Type 0} (view : A → B) (none : B) (xs : List A) (p i : ℕ) → i ≡ p → p < length xs → (x : A) → view (get_or xs i x) ≡ get_or (map view xs) p none
read_at view none xs p i e l x = rw e (sym (get_or-map view xs p x none l))
