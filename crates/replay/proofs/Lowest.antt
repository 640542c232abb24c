-- The lowest host that has something.
use Rattle.std.proofs.Common.{◌≡◌, ℕ, zero, suc, ◌+◌, ◌<◌, Bool, true, false, Some, None, Option, sym, ap, ◌∙◌, add-one, arith}
use native.Mathlib.Decide.{ℕ_discrete}
use Rattle.calls.specs.Recovery.{lowest, all_below}

module _ {A : Type 0} (g : ℕ → Option A) where
  pub none_more : (q : ℕ) → lowest q g ≡ None → g q ≡ None → lowest (q + 1) g ≡ None
  none_more q e f = rw (add-one, e, f)

  -- found at q, where none was found below
  pub found_at : (n q : ℕ) (a : A) → lowest q g ≡ None → g q ≡ Some a → q < n → lowest n g ≡ Some (q, a)
  found_at zero q a e f l = absurd (omega arith)
  found_at (suc n) q a e f l = elim (ℕ_discrete q n) [
    | yes i ↦ rw (← i, e, f)
    | no ne ↦ rw (found_at n q a e f (omega arith))
  ]

-- a host below n that fails the test
pub not_all : (P : ℕ → Bool) (n q : ℕ) → P q ≡ false → q < n → all_below n P ≡ false
not_all P zero q e l = absurd (omega arith)
not_all P (suc n) q e l = elim (ℕ_discrete q n) [
  | yes i ↦ (let here : P n ≡ false = ap P (sym i) ∙ e in grind arith)
  | no ne ↦ (let below = not_all P n q e (omega arith) in grind arith)
]

pub all_more : (P : ℕ → Bool) (q : ℕ) → all_below q P ≡ true → P q ≡ true → all_below (q + 1) P ≡ true
all_more P q e f = rw (add-one, e, f)
