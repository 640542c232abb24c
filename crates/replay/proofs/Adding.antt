-- The targets of the returning hosts, added up one after the other.
use Rattle.std.proofs.Common.{◌≡◌, ℕ, ◌+◌, Bool, true, false, refl, add-one, add-zero}
use Rattle.calls.specs.Recovery.{Finder, target, targets}

module _ (found : Finder) (d : ℕ → Bool) (q s : ℕ) (is : s ≡ targets found d q) where
  pub one_more : (x : ℕ) → d q ≡ true → x ≡ target found q → s + x ≡ targets found d (q + 1)
  one_more x e f = rw (add-one, e, f, is) refl

  pub none_more : d q ≡ false → s ≡ targets found d (q + 1)
  none_more e = rw (add-one, e, add-zero) is
