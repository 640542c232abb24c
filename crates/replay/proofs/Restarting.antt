-- One returning host after the other starts again.
use Rattle.std.proofs.Common.{◌≡◌, ℕ, ◌+◌, Bool, true, false, cond, ◌&&◌, ltb, sym, ap, ◌∙◌, arith}
use mathlib.Core.Path.{fun_ext}
use native.Mathlib.Decide.{ℕ_discrete}
use Rattle.network.specs.Host.{fresh}
use Rattle.network.specs.Network.{Network, with_host}
use Rattle.calls.specs.Recovery.{restarted}

module _ {S : Type 0} (d : ℕ → Bool) (v : Network S) (i : ℕ) where
  abbrev so_far : ℕ → Bool
  so_far x = ltb x i && d x

  one_more : (h : ℕ) (b : Bool) → d i ≡ b
      → (cond b (with_host (restarted so_far v) i (fresh v.machine i)) (restarted so_far v)).hosts h ≡ (restarted (λ x. ltb x (i + 1) && d x) v).hosts h
  one_more h true e = elim (ℕ_discrete h i) [ yes q ↦ rw q (grind arith) | no n ↦ grind arith ]
  one_more h false e = elim (ℕ_discrete h i) [ yes q ↦ rw q (grind arith) | no n ↦ grind arith ]

  step : (b : Bool) → d i ≡ b → cond b (with_host (restarted so_far v) i (fresh v.machine i)) (restarted so_far v) ≡ restarted (λ x. ltb x (i + 1) && d x) v
  step true e = λ j. record { n = v.n; machine = v.machine; hosts = fun_ext (λ h. one_more h true e) j; posts = v.posts; released = v.released }
  step false e = λ j. record { n = v.n; machine = v.machine; hosts = fun_ext (λ h. one_more h false e) j; posts = v.posts; released = v.released }

pub restarted_more :
    {S : Type 0} (d : ℕ → Bool) (v v' w : Network S) (i : ℕ) (b : Bool) → v' ≡ restarted (λ x. ltb x i && d x) v → b ≡ d i
    → w ≡ cond b (with_host v' i (fresh v'.machine i)) v' → w ≡ restarted (λ x. ltb x (i + 1) && d x) v
restarted_more d v v' w i b ev eb ew = ew ∙ ap (λ (u : Network _). cond b (with_host u i (fresh u.machine i)) u) ev ∙ step d v i b (sym eb)
