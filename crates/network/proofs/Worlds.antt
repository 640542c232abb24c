-- Worlds that grow by one message, and cuts of them.
use Rattle.std.proofs.Common.{◌≡◌, ℕ, ◌<◌, ◌≤◌, ◌⊎◌, [], ◌∷◌, ◌++◌, length, take, Some, inl, inr, arith, length-append, take_all}
use mathlib.Core.Path.{fun_ext}
use native.Mathlib.Decide.{ℕ_discrete}
use lib.Seq.{take-append-le}
use Rattle.std.proofs.lemmas.List.Prefix.{front_fits}
use Rattle.std.specs.List.{slice_get}
use Rattle.network.specs.declared.message.Message.{Message}
use Rattle.network.specs.World.{World, put, cut}
use Rattle.network.specs.Theorems.{Prefix}
use Rattle.network.proofs.Places.{nth_snoc, nth_prefix, prefix_itself, prefix_take, prefix_of_take}

-- the history of h after p took a
pub put_is : (W : World) (p : ℕ) (a : Message) (h : ℕ) → ((h ≡ p) × (put W p a h ≡ W h ++ (a ∷ []))) ⊎ ((h ≡ p → ⊥) × (put W p a h ≡ W h))
put_is W p a h = elim (ℕ_discrete h p) [ yes e ↦ inl (e, grind arith) | no ne ↦ inr (ne, grind arith) ]

pub put_same : (W : World) (p : ℕ) (a : Message) → put W p a p ≡ W p ++ (a ∷ [])
put_same W p a = grind arith

pub put_other : (W : World) (p : ℕ) (a : Message) (h : ℕ) → (h ≡ p → ⊥) → put W p a h ≡ W h
put_other W p a h ne = grind arith

-- a message of it is one of before, or it is a
pub put_nth :
    (W : World) (p : ℕ) (a : Message) (h k : ℕ) (t : Message) → slice_get (put W p a h) k ≡ Some t
    → ((slice_get (W h) k ≡ Some t) × (take k (put W p a h) ≡ take k (W h))) ⊎ ((h ≡ p) × (take k (put W p a h) ≡ W h) × (t ≡ a))
put_nth W p a h k t e =
    elim (put_is W p a h) [
      | inl q ↦ elim (nth_snoc (W h) a k t (rw q.1 at e)) [ inl r ↦ inl (r.0, rw q.1 r.1) | inr r ↦ inr (q.0, rw q.1 r.0, r.1) ]
      | inr q ↦ inl (rw q.1 at e, rw q.1)
    ]

-- each history of the second begins with that of the first
abbrev pub Grown : World → World → Type 0
Grown W₀ W₁ = (h : ℕ) → Prefix (W₀ h) (W₁ h)

pub grown_put : (W : World) (p : ℕ) (t : Message) → Grown W (put W p t)
grown_put W p t h = elim (put_is W p t h) [ inl q ↦ ((t ∷ []), q.1) | inr q ↦ rw q.1 (prefix_itself (W h)) ]

pub grown_cut : (W : World) (v : ℕ → ℕ) → Grown (cut W v) W
grown_cut W v h = prefix_take (v h) (W h)

pub grown_cuts : (W₀ W₁ : World) (v : ℕ → ℕ) → Grown W₀ W₁ → Grown (cut W₀ v) (cut W₁ v)
grown_cuts W₀ W₁ v g h = prefix_of_take (v h) (W₀ h) (W₁ h) (g h)

pub nth_grown : (W₀ W₁ : World) (h k : ℕ) (t : Message) → Grown W₀ W₁ → slice_get (W₀ h) k ≡ Some t → slice_get (W₁ h) k ≡ Some t
nth_grown W₀ W₁ h k t g e = nth_prefix (W₀ h) (W₁ h) k t (g h) e

-- room for one message more
pub put_room : (b : ℕ) (W : World) (p : ℕ) (t : Message) → ((h : ℕ) → length (W h) ≤ b) → length (W p) < b → (h : ℕ) → length (put W p t h) ≤ b
put_room b W p t few lt h =
    elim (put_is W p t h) [ inl q ↦ rw (q.1, length-append (W h) (t ∷ []), q.0) (omega arith) | inr q ↦ rw q.1 (few h) ]

pub grown_length : (W₀ W₁ : World) (h : ℕ) → Grown W₀ W₁ → length (W₀ h) ≤ length (W₁ h)
grown_length W₀ W₁ h g = front_fits (W₁ h) (W₀ h) (g h).0 (g h).1

-- a cut that does not reach the message a
pub cut_short : (W : World) (p : ℕ) (a : Message) (v : ℕ → ℕ) → v p ≤ length (W p) → cut (put W p a) v ≡ cut W v
cut_short W p a v le = fun_ext (λ h. elim (put_is W p a h) [ inl q ↦ rw (q.1, q.0) (take-append-le (v p) (W p) (a ∷ []) le) | inr q ↦ rw q.1 ])

-- a cut that has all of p
pub cut_all : (W : World) (p : ℕ) (a : Message) (v : ℕ → ℕ) → length (W p) < v p → cut (put W p a) v ≡ put (cut W v) p a
cut_all W p a v lt = fun_ext (λ h. elim (put_is W p a h) [ inl q ↦ here h q.0 | inr q ↦ rw (q.1, put_other (cut W v) p a h q.0) ])
  where
    here : (h : ℕ) → h ≡ p → cut (put W p a) v h ≡ put (cut W v) p a h
    here h e =
        let all : take (v p) (W p) ≡ W p = take_all (v p) (W p) (omega arith) in
        let whole : take (v p) (W p ++ (a ∷ [])) ≡ W p ++ (a ∷ []) = take_all (v p) (W p ++ (a ∷ [])) (simp length-append (omega arith)) in
        rw (e, put_same W p a, put_same (cut W v) p a, all, whole)
