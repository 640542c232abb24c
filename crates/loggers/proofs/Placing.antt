-- Tables of receipts, and loops over lists.
use Rattle.std.proofs.Common.{◌≡◌, ℕ, zero, suc, ◌+◌, ◌<◌, ◌≤◌, Bool, true, false, cond, ltb, List, length, get_or, set, replicate, Some, None, Option, ◌≢◌, ⊎_elim, refl, ◌∙◌, arith}
use mathlib.Core.Path.{fun_ext}
use Rattle.std.specs.Borrow.{MutBor}
use Rattle.std.proofs.lemmas.List.{get_or-set_same, get_or-set_other, get_or_default}
use Rattle.std.proofs.lemmas.Bool.Decides.{nat_tests}
use Rattle.std.proofs.lemmas.Bool.{cases_eq}
use Rattle.loggers.specs.Places.{place, has_place, at, with_place, Leaves, Changed}

-- receipt number r of host q, of the 512, has been given x
module _ {A : Type 0} (xs : List (Option A)) (x : A) (q r i : ℕ) (is : i ≡ place q r) (fits : i < length xs) (has : has_place q r ≡ true) where
  at_set : (k j : ℕ) → at (set xs i (Some x)) None k j ≡ with_place (at xs None) q r x k j
  at_set k j = grind (arith, nat_tests, get_or-set_same, get_or-set_other)

  pub set_place : at (set xs i (Some x)) None ≡ with_place (at xs None) q r x
  set_place = fun_ext (λ k. fun_ext (at_set k))

pub repeated : {A : Type 0} (x : A) (n i : ℕ) → get_or (replicate n x) i x ≡ x
repeated x zero i = refl
repeated x (suc n) zero = refl
repeated x (suc n) (suc i) = repeated x n i

pub at_empty : {A : Type 0} (q r : ℕ) → at {A = Option A} (replicate 512 None) None q r ≡ None
at_empty {A} q r = go (has_place q r)
  where
    go : (t : Bool) → cond {A = Option A} t (get_or {A = Option A} (replicate 512 None) (place q r) None) None ≡ None
    go true = repeated None 512 (place q r)
    go false = refl

-- A loop that changes what has a place.
module _ {A : Type 0} (post : MutBor A → Unit {0} → MutBor A → Type 0) where
  -- the places below i of xs have been changed, and make ys
  pub record Passed (xs ys : List (Option A)) (i : ℕ) : Type 0 where
    pub done : (k : ℕ) → k < i → Changed post (get_or xs k None) (get_or ys k None)
    pub rest : (k : ℕ) → i ≤ k → get_or ys k None ≡ get_or xs k None

  -- one place more
  passed_more : (xs ys : List (Option A)) (i : ℕ) (o : Option A) → Passed xs ys i → i < length ys → Changed post (get_or ys i None) o → Passed xs (set ys i o) (i + 1)
  passed_more xs ys i o p l e = record { done = λ k h. ⊎_elim (here k) (there k h) (cases_eq k i); rest = λ k h. get_or-set_other ys i k o None (omega arith) ∙ p.rest k (omega arith) }
    where
      here : (k : ℕ) → k ≡ i → Changed post (get_or xs k None) (get_or (set ys i o) k None)
      here k is = rw (is, ← p.rest i (omega arith), get_or-set_same ys i o None l) e

      there : (k : ℕ) → k < i + 1 → k ≢ i → Changed post (get_or xs k None) (get_or (set ys i o) k None)
      there k h ne = rw (get_or-set_other ys i k o None ne) (p.done k (omega arith))

  -- which had x, and has y now
  pub passed_full : (xs ys : List (Option A)) (i : ℕ) (d : Option A) (x y : A) → Passed xs ys i → i < length ys → get_or ys i d ≡ Some x → Leaves post x y → Passed xs (set ys i (Some y)) (i + 1)
  passed_full xs ys i d x y p l is e = passed_more xs ys i (Some y) p l (rw (get_or_default ys i None d l, is) (y, refl, e))

  -- which is empty
  pub passed_empty : (xs ys : List (Option A)) (i : ℕ) (d : Option A) → Passed xs ys i → i < length ys → get_or ys i d ≡ None → Passed xs (set ys i (get_or ys i d)) (i + 1)
  passed_empty xs ys i d p l is = rw is (passed_more xs ys i None p l (rw (get_or_default ys i None d l, is) refl))

-- A loop that changes each element by a rule.
module _ {A B : Type 0} (see : A → B) (none : A) (rule : ℕ → B → B) where
  -- the places below i of xs have been changed, and make ys
  abbrev pub Swept : List A → List A → ℕ → Type 0
  Swept xs ys i = (j : ℕ) → see (get_or ys j none) ≡ cond (ltb j i) (rule j (see (get_or xs j none))) (see (get_or xs j none))

  -- past the end the rule changes nothing
  pub swept_all : (xs ys : List A) (i j : ℕ) → Swept xs ys i → (i ≤ j → rule j (see (get_or xs j none)) ≡ see (get_or xs j none)) → see (get_or ys j none) ≡ rule j (see (get_or xs j none))
  swept_all xs ys i j done past = let here = done j in grind (arith, nat_tests)
