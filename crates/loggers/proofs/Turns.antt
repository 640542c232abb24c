-- Folds over hosts, lowest first.
use Rattle.std.proofs.Common.{◌≡◌, ℕ, zero, suc, ◌+◌, Bool, true, false, cond, not, List, [], ◌∷◌, Option, sym, refl, ap, ◌∙◌, add-zero, arith}
use denote.Param.Members.{Mut}
use Rattle.std.specs.Fn.{Called}
use Rattle.std.specs.Iterator.{FoldsItems}
use Rattle.std.specs.List.{range_with_len, fold, filter}
use Rattle.std.proofs.lemmas.Fn.{fold_over}
use Rattle.std.proofs.lemmas.Iterator.{YieldsList}
use Rattle.std.proofs.lemmas.List.Sums.{fold_push}

-- a fold over hosts, each of whose turns is seen to be `step`
pub folded :
    {B : Type 0} (step : B → ℕ → B) {S F C : Type 0} {steps : S → Option ℕ → S → Type 0} {g : Mut F (C × (ℕ × Unit {0})) C} (see : C → B) {f : F}
    → ((a : C) (x : ℕ) (b : C) (f' : F) → Called g f (a, (x, tt)) b f' → (see b ≡ step (see a) x) × (f' ≡ f))
    → {s : S} {all : List ℕ} {init r : C} {first : B}
    → see init ≡ first
    → FoldsItems steps g s f init r
    → YieldsList steps (λ h. h) s all
    → see r ≡ fold step first all
folded {B} step {steps = steps} {g = g} see {f = f} called {s = s} {all = all} {init = init} {r = r} {first = first} base ran yields =
    fold_over steps (λ h. h) g (λ ys c. see c ≡ fold step first ys) f
    (λ ys a x b f' j k. let w = called a x b f' k in (w.0 ∙ ap (λ (o : B). step o x) j ∙ sym (fold_push step first ys x), w.1))
    s all init r yields.runs base ran

-- `turns n` is what `turns 0` becomes in n turns, those of the hosts from 0 on
pub by_turns : {B : Type 0} (step : B → ℕ → B) (turns : ℕ → B) → ((n : ℕ) → turns (n + 1) ≡ step (turns n) n) → (n : ℕ) → fold step (turns 0) (range_with_len 0 n) ≡ turns n
by_turns {B} step turns turn n = let e : 0 + n ≡ n = omega arith in from_host 0 n ∙ ap turns e
  where
    from_host : (a n : ℕ) → fold step (turns a) (range_with_len a n) ≡ turns (a + n)
    from_host a zero = ap turns (sym (add-zero a))
    from_host a (suc n) =
        let e : a + 1 + n ≡ a + suc n = omega arith in
        ap (λ (b : B). fold step b (range_with_len (a + 1) n)) (sym (turn a)) ∙ from_host (a + 1) n ∙ ap turns e

-- turns of those hosts alone that are not down
module _ {B : Type 0} (step : B → ℕ → B) (down : ℕ → Bool) where
  abbrev pub up : List ℕ → List ℕ
  up hosts = filter (λ h. not (down h)) hosts

  abbrev pub turn_up : B → ℕ → B
  turn_up b h = cond (down h) b (step b h)

  pub fold_up : (b : B) (hosts : List ℕ) → fold step b (up hosts) ≡ fold turn_up b hosts
  fold_up b [] = refl
  fold_up b (x ∷ xs) = go (down x) (fold_up b xs) (fold_up (step b x) xs)
    where
      go : (t : Bool) → fold step b (up xs) ≡ fold turn_up b xs → fold step (step b x) (up xs) ≡ fold turn_up (step b x) xs → fold step b (cond (not t) (x ∷ up xs) (up xs)) ≡ fold turn_up (cond t b (step b x)) xs
      go true stays turns = stays
      go false stays turns = turns
