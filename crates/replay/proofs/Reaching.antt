-- The target of a host, found one receipt after the other.
use Rattle.std.proofs.Common.{◌≡◌, ℕ, zero, suc, ◌+◌, ◌-◌, ◌<◌, ◌≤◌, Bool, true, false, cond, is_some, Option, ap, ◌∙◌, arith}
use Rattle.calls.specs.Recovery.{Finder, reach, target}

module _ (found : ℕ → Option (ℕ × ℕ)) (r : ℕ) where
  step : r < 64 → 64 - r ≡ suc (64 - (r + 1))
  step l = omega arith

  pub reach_more : r < 64 → is_some (found (r + 1)) ≡ true → reach found (64 - r) r ≡ reach found (64 - (r + 1)) (r + 1)
  unfolding reach
  reach_more l e = ap (λ (k : ℕ). reach found k r) (step l) ∙ rw e

  pub reach_stops : r < 64 → is_some (found (r + 1)) ≡ false → reach found (64 - r) r ≡ r
  unfolding reach
  reach_stops l e = ap (λ (k : ℕ). reach found k r) (step l) ∙ rw e

  pub reach_ends : 64 ≤ r → reach found (64 - r) r ≡ r
  unfolding reach
  reach_ends l = let e : 64 - r ≡ 0 = omega arith in ap (λ (k : ℕ). reach found k r) e

reach_low : (found : ℕ → Option (ℕ × ℕ)) (k r : ℕ) → reach found k r ≤ r + k
unfolding reach
reach_low found zero r = omega arith
reach_low found (suc k) r = go (is_some (found (r + 1))) (reach_low found k (r + 1))
  where
    go : (b : Bool) → reach found k (r + 1) ≤ r + 1 + k → cond b (reach found k (r + 1)) r ≤ r + suc k
    go true l = omega arith
    go false l = omega arith

pub target_low : (found : Finder) (q : ℕ) → target found q ≤ 64
target_low found q = reach_low (found q) 64 0
