-- A table of which every entry is seen as the same.
use Rattle.std.proofs.Common.{◌≡◌, ℕ, ◌<◌, List, [], ◌∷◌, length, map, get_or, ap, ◌∙◌, inl, inr, refl}
use Rattle.std.proofs.lemmas.List.{get_or-map, get_or_past, length-map}
use Rattle.std.proofs.lemmas.Bool.{cases_lt}
use mathlib.Core.Path.{fun_ext}

-- read with a default that is seen as that too
pub blank :
    {A B : Type 0} (view : A → B) (none : B) (xs : List A) (d : A) → view d ≡ none → ((k : ℕ) → k < length xs → view (get_or xs k d) ≡ none)
    → ◌≡◌ {A = ℕ → B} (λ h. view (get_or xs h d)) (λ h. none)
blank view none xs d e all = fun_ext (λ h. elim (cases_lt h (length xs)) [ inl l ↦ all h l | inr l ↦ (ap view (get_or_past xs h d l) ∙ e) ])

-- read after all are seen
pub blank_map :
    {A B : Type 0} (view : A → B) (none : B) (xs : List A) → ((k : ℕ) (d : A) → k < length xs → view (get_or xs k d) ≡ none)
    → ◌≡◌ {A = ℕ → B} (λ h. get_or (map view xs) h none) (λ h. none)
blank_map view none [] all = fun_ext (λ h. refl)
blank_map view none (x ∷ xs) all = fun_ext (λ h. elim (cases_lt h (length (x ∷ xs))) [
  | inl l ↦ (get_or-map view (x ∷ xs) h x none l ∙ all h x l)
  | inr l ↦ get_or_past (map view (x ∷ xs)) h none (rw (length-map (x ∷ xs) view) l)
])
