-- Each record of a spacing table stays finite and not negative.
use Rattle.std.proofs.Common.{◌≡◌, ℕ, ◌<◌, ◌≤◌, Bool, true, false, cond, List, length, get_or, set, replicate, sym, ap, ◌∙◌, subst, inl, inr, arith, lit≤}
use lib.Ieee.{Float, binary32, fits, le, of_bits, to_bits}
use Rattle.std.proofs.lemmas.List.{get_or-set_same, get_or-set_other, get_or-replicate}
use Rattle.std.proofs.lemmas.Bool.{cases_eq}
use Rattle.workload.specs.declared.spacing.placement.Placement.{Placement}
use Rattle.workload.specs.Spacing.{FiniteNonnegative, Steady, AllSteady, at_margin, widened, widest}
use Rattle.workload.proofs.Floats.{sum_finite}

pub margin_steady : (x : Placement) → x ≡ at_margin → Steady x
unfolding of_bits to_bits
margin_steady x e = subst Steady (sym e) (lit≤ tt, lit≤ tt)

pub widened_steady :
    (x : Placement) (w : Float) → fits binary32 x.position ≡ true → fits binary32 w ≡ true → Steady x → to_bits binary32 w ≤ widest → Steady (widened x w)
widened_steady x w f g s l = (sum_finite x.position w f g s.0 l, the_larger (le w x.greatest))
  where
    the_larger : (b : Bool) → FiniteNonnegative (cond b x.greatest w)
    the_larger true = s.1
    the_larger false = omega arith

pub all_steady : (x : Placement) → Steady x → AllSteady (replicate 8 x)
all_steady x s h d l = subst Steady (sym (get_or-replicate 8 h x d l)) s

pub steady_set : (xs : List Placement) (p : ℕ) (x : Placement) → p < length xs → AllSteady xs → Steady x → AllSteady (set xs p x)
steady_set xs p x l all s h d m =
    elim (cases_eq h p) [
      | inl e ↦ subst Steady (sym (ap (λ (j : ℕ). get_or (set xs p x) j d) e ∙ get_or-set_same xs p x d l)) s
      | inr n ↦ subst Steady (sym (get_or-set_other xs p h x d n)) (all h d m)
    ]
