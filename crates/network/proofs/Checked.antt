-- A call is accepted exactly if all its checks hold.
use Rattle.std.proofs.Common.{◌≡◌, ℕ, Bool, true, false, cond, List, [], ◌∷◌, is_ok, Ok, Err, Result, sym, refl}
use Rattle.std.proofs.lemmas.Bool.{true≢false}
use Rattle.network.specs.declared.refusal.Refusal.{Refusal}
use Rattle.network.specs.Checks.{checked, unless_refused}

-- every check holds
abbrev pub Pass : List (Bool × Refusal) → Type 0
Pass [] = Unit {0}
Pass (c ∷ cs) = (c.0 ≡ true) × Pass cs

pub pass_checked : (cs : List (Bool × Refusal)) → Pass cs → checked cs ≡ Ok tt
pass_checked [] h = refl
pass_checked (c ∷ cs) h = rw h.0 (pass_checked cs h.1)

pub checked_pass : (cs : List (Bool × Refusal)) → is_ok (checked cs) ≡ true → Pass cs
checked_pass [] e = tt
checked_pass (c ∷ cs) e = go c.0 refl e (checked_pass cs)
  where
    go : (b : Bool) → c.0 ≡ b → is_ok (cond b (checked cs) (Err c.1)) ≡ true → (is_ok (checked cs) ≡ true → Pass cs) → (c.0 ≡ true) × Pass cs
    go true i e ih = (i, ih e)
    go false i e ih = absurd (true≢false (sym e))

module _ {A : Type 0} (cs : List (Bool × Refusal)) (before : A) (k : ℕ) (done : A) where
  pub accepted : Pass cs → unless_refused (checked cs) before (Ok k, done) ≡ (Ok k, done)
  accepted h = rw (pass_checked cs h)

  pub accepted_parts : is_ok (unless_refused (checked cs) before (Ok k, done)).0 ≡ true → Pass cs × (unless_refused (checked cs) before (Ok k, done) ≡ (Ok k, done))
  accepted_parts e = go (checked cs) refl e
    where
      go : (r : Result (Unit {0}) Refusal) → checked cs ≡ r → is_ok (unless_refused r before (Ok k, done)).0 ≡ true → Pass cs × (unless_refused r before (Ok k, done) ≡ (Ok k, done))
      go (Ok u) i e = (checked_pass cs (rw i), refl)
      go (Err x) i e = absurd (true≢false (sym e))
