-- Sums over hosts, tests of all hosts, and the lowest host that has something.
use Rattle.std.proofs.Common.{◌≡◌, ℕ, zero, suc, ◌<◌, Bool, true, Some, None, Option, refl, arith}
use native.Mathlib.Decide.{ℕ_discrete}
use Rattle.calls.specs.Recovery.{total, all_below, lowest}

pub total_same : (n : ℕ) (g g' : ℕ → ℕ) → ((h : ℕ) → h < n → g h ≡ g' h) → total n g ≡ total n g'
total_same zero g g' e = refl
total_same (suc n) g g' e = omega (arith, total_same n g g' (λ h l. e h (omega arith)), e n (omega arith))

-- one less at q
pub total_less : (n : ℕ) (g g' : ℕ → ℕ) (q : ℕ) → q < n → g q ≡ suc (g' q) → ((h : ℕ) → (h ≡ q → ⊥) → g h ≡ g' h) → total n g ≡ suc (total n g')
total_less zero g g' q l e o = absurd (omega arith)
total_less (suc n) g g' q l e o = elim (ℕ_discrete n q) [
  | yes i ↦ (let here : g n ≡ suc (g' n) = rw i e in omega (arith, total_same n g g' (λ h k. o h (λ j. omega arith))))
  | no ne ↦ omega (arith, total_less n g g' q (omega arith) e o, o n ne)
]

pub total_some : (n : ℕ) (g : ℕ → ℕ) → 0 < total n g → (h : ℕ) × (h < n) × (0 < g h)
total_some zero g l = absurd (omega arith)
total_some (suc n) g l = let ih = total_some n g in grind arith

pub all_true : (n : ℕ) (P : ℕ → Bool) → ((h : ℕ) → h < n → P h ≡ true) → all_below n P ≡ true
all_true zero P e = refl
all_true (suc n) P e = rw (all_true n P (λ h l. e h (omega arith)), e n (omega arith))

module _ {A : Type 0} where
  pub lowest_is : (n : ℕ) (g : ℕ → Option A) (x : ℕ × A) → lowest n g ≡ Some x → (x.0 < n) × (g x.0 ≡ Some x.1)
  lowest_is zero g x e = grind arith
  lowest_is (suc n) g x e = let ih = lowest_is n g x in grind arith

  pub lowest_none : (n : ℕ) (g : ℕ → Option A) → lowest n g ≡ None → (h : ℕ) → h < n → g h ≡ None
  lowest_none zero g e h l = absurd (omega arith)
  lowest_none (suc n) g e h l = let ih = lowest_none n g in grind (arith, ℕ_discrete h n)
