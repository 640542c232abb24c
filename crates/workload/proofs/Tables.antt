-- A table of values by host, written at one place.
use Rattle.std.proofs.Common.{◌≡◌, ℕ, ◌<◌, List, length, get_or, set, arith}
use mathlib.Core.Path.{fun_ext}
use Rattle.std.proofs.lemmas.List.{get_or-set_same, get_or-set_other}
use Rattle.std.proofs.lemmas.Bool.{cases_eq}
use Rattle.workload.specs.Machine.{replaced}

pub written :
    {A : Type 0} (xs ys : List A) (p : ℕ) (x y d : A) → ys ≡ set xs p x → x ≡ y → p < length xs → (λ (h : ℕ). get_or ys h d) ≡ replaced (λ h. get_or xs h d) p y
written xs ys p x y d e f l = fun_ext (λ h. rw (e, ← f) (grind (arith, cases_eq h p, get_or-set_same xs p x d l, get_or-set_other xs p h x d)))
