-- A text that does not fit in a listing.
use Rattle.std.proofs.Common.{◌≡◌, ℕ, ◌+◌, Bool, true, false, cond, List, length, Ok, Err, Result, sym, refl, ap, ◌∙◌}
use Rattle.format.specs.declared.fault.ListFault.{ListFault}
use Rattle.format.specs.declared.fault.ListFault.TheVariants.{Full}
use Rattle.format.specs.Lines.{fits, placed, ending}

-- a text that does not fit leaves the listing as it was
pub placed_full : (xs t : List ℕ) (w : ℕ) (e : ListFault) → ending xs w t ≡ Err e → placed xs w t ≡ xs
placed_full xs t w e h = go (fits xs w t) refl
  where
    go : (b : Bool) → fits xs w t ≡ b → placed xs w t ≡ xs
    go true g =
        let e' : cond true (Ok (w + length t)) (Err Full) ≡ Err e = sym (ap (λ (b : Bool). cond {A = Result ℕ ListFault} b (Ok (w + length t)) (Err Full)) g) ∙ h in
        absurd (cc)
    go false g = simp g
