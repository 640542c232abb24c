-- What rejoin does to one receipt, and what find finds.
use Rattle.std.specs.Prelude.{◌≡◌, ℕ, zero, suc, ◌<◌, Bool, true, false, cond, ◌⊎◌, Some, None, Option, ◌==◌, refl}
use Rattle.std.proofs.Common.{sym, ap, ◌∙◌, inl, inr, ⊎_elim, arith}
use Rattle.std.proofs.lemmas.Bool.{cases_eq, cases_Bool, eqb-true, or_cases, cond-true, cond-false}
use Rattle.network.specs.declared.message.Receipt.{Receipt}
use Rattle.logger.specs.HostSets.{nobody, with_host}
use Rattle.loggers.specs.FamilyBased.{Holding, Holdings, knowing, source_of, merge, gather, with_self, returned, rejoin_at}
use Rattle.loggers.specs.FamilyInvariant.{Holds, Vouched, InOrder}
use Rattle.loggers.specs.Ordered.{source_some, same_holders, known_grows, in_order}

merge_source : (o b : Option Holding) (x : Receipt) → source_of (merge o b) ≡ Some x → (source_of o ≡ Some x) ⊎ (source_of b ≡ Some x)
merge_source None b x h = inr h
merge_source (Some e) None x h = inl h
merge_source (Some e) (Some g) x h = inl h

merge_holders : (o b : Option Holding) (g : Holding) (k : ℕ) → merge o b ≡ Some g → g.holders k ≡ true → ((e : Holding) × (o ≡ Some e) × (e.holders k ≡ true)) ⊎ ((e : Holding) × (b ≡ Some e) × (e.holders k ≡ true))
merge_holders None b g k i y = inr (g, i, y)
merge_holders (Some e) None g k i y = inl (g, i, y)
merge_holders (Some e) (Some a) g k i y = ⊎_elim (λ z. inl (e, refl, z)) (λ z. inr (a, refl, z)) (or_cases (e.holders k) (a.holders k) (same_holders _ g i k y))

-- what is merged is nothing only if both are
merge_none : (o b : Option Holding) → merge o b ≡ None → (o ≡ None) × (b ≡ None)
merge_none None b i = (refl, i)
merge_none (Some e) None i = grind arith
merge_none (Some e) (Some g) i = grind arith

module _ (down : ℕ → Bool) (c : Holdings) where
  -- some host below m that is up holds an e with P
  abbrev SomeHolds : (Holding → Type 0) → ℕ → Type 0
  SomeHolds P m = (h : ℕ) × (e : Holding) × Holds m down c h e × P e

  later : (P : Holding → Type 0) (m : ℕ) → SomeHolds P m → SomeHolds P (suc m)
  later P m w = let l = w.2.host in (w.0, w.1, record { host = omega arith; up = w.2.up; has = w.2.has }, w.3)

  last : (P : Holding → Type 0) (m : ℕ) → down m ≡ false → (e : Holding) × (c m ≡ Some e) × P e → SomeHolds P (suc m)
  last P m u w = (m, w.0, record { host = omega arith; up = u; has = w.1 }, w.2)

  -- one host more is asked, if it is up
  asked : {A : Type 0} (m : ℕ) (R : Option Holding → Type 0) → R (gather down c (suc m)) → (down m ≡ true → R (gather down c m) → A) → (down m ≡ false → R (merge (gather down c m) (c m)) → A) → A
  asked {A} m R r below here = go (down m) refl r
    where
      go : (t : Bool) → down m ≡ t → R (cond t (gather down c m) (merge (gather down c m) (c m))) → A
      go true d = below d
      go false d = here d

  -- what is gathered comes from a host that is up, and so does each holder that is known
  pub gather_source : (m : ℕ) (x : Receipt) → source_of (gather down c m) ≡ Some x → SomeHolds (λ e. e.source ≡ x) m
  gather_source zero x s = grind arith
  gather_source (suc m) x s =
      let ih = λ (t : source_of (gather down c m) ≡ Some x). later (λ e. e.source ≡ x) m (gather_source m x t) in
      asked m (λ o. source_of o ≡ Some x) s (λ d. ih) (λ u t. ⊎_elim ih (λ y. last (λ e. e.source ≡ x) m u (source_some (c m) x y)) (merge_source (gather down c m) (c m) x t))

  pub gather_holders : (m : ℕ) (g : Holding) (k : ℕ) → gather down c m ≡ Some g → g.holders k ≡ true → SomeHolds (λ e. e.holders k ≡ true) m
  gather_holders zero g k i y = grind arith
  gather_holders (suc m) g k i y =
      let ih = λ (e : Holding) (t : gather down c m ≡ Some e) (z : e.holders k ≡ true). later (λ e. e.holders k ≡ true) m (gather_holders m e k t z) in
      asked m (λ o. o ≡ Some g) i (λ d t. ih g t y)
      (λ u t. ⊎_elim (λ w. ih w.0 w.1 w.2) (last (λ e. e.holders k ≡ true) m u) (merge_holders (gather down c m) (c m) g k t y))

  -- where nothing is gathered, no host that is up holds anything
  pub gather_none : (m h : ℕ) (e : Holding) → gather down c m ≡ None → Holds m down c h e → ⊥
  gather_none zero h e i w = let l = w.host in omega arith
  gather_none (suc m) h e i w =
      let ih = λ (t : gather down c m ≡ None) (ne : h ≡ m → ⊥). gather_none m h e t (record { host = (let l = w.host in omega arith); up = w.up; has = w.has }) in
      asked m (λ o. o ≡ None) i (λ d t. ih t (λ q. let a = ap down q in let u = w.up in grind arith))
      (λ u t. let n = merge_none (gather down c m) (c m) t in ⊎_elim (λ q. let b = ap c q in let v = w.has in let z = n.1 in grind arith) (ih n.0) (cases_eq h m))

-- What rejoin makes of one receipt.
pub record Returns (n : ℕ) (down : ℕ → Bool) (c c' : Holdings) : Type 0 where
  pub order : InOrder n nobody c'
  pub stays : (h : ℕ) → down h ≡ false → c' h ≡ c h
  pub taught : (q h : ℕ) (e : Holding) → q < n → down q ≡ true → Holds n down c h e → source_of (c' q) ≡ Some e.source
  pub only_taught : (q : ℕ) (y : Receipt) → q < n → down q ≡ true → source_of (c' q) ≡ Some y → (h : ℕ) × (e : Holding) × Holds n down c h e × (e.source ≡ y)

module _ (n : ℕ) (down : ℕ → Bool) (c : Holdings) (order : InOrder n down c) where
  -- what is left of a receipt where o was gathered
  abbrev back : Option Holding → Holdings
  back o h = returned down o h (c h)

  back_up : (o : Option Holding) (h : ℕ) → down h ≡ false → back o h ≡ c h
  back_up o h u = cond-false (down h) _ (c h) u

  back_down : (o : Option Holding) (h : ℕ) → down h ≡ true → back o h ≡ with_self o h
  back_down o h d = cond-true (down h) _ (c h) d

  -- nothing was gathered
  module _ (none : gather down c n ≡ None) where
    nobody_holds : {A : Type 0} (h : ℕ) (e : Holding) → Holds n down c h e → A
    nobody_holds h e w = absurd (gather_none down c n h e none w)

    nothing_back : {A : Type 0} (h : ℕ) (e : Holding) → Holds n nobody (back None) h e → A
    nothing_back h e w =
        ⊎_elim (λ d. let i = sym (back_down None h d) ∙ w.has in grind arith) (λ u. nobody_holds h e (record { host = w.host; up = u; has = sym (back_up None h u) ∙ w.has })) (cases_Bool (down h))

    returns_none : Returns n down c (back None)
    returns_none = record {
      order = record { known = λ h k e w y. nothing_back h e w; one = λ h k e g w z. nothing_back h e w; none = λ h d. grind arith };
      stays = back_up None;
      taught = λ q h e l d w. nobody_holds h e w;
      only_taught = λ q y l d s. let i = sym (ap source_of (back_down None q d)) ∙ s in grind arith;
    }

  -- g was gathered
  module _ (g : Holding) (some : gather down c n ≡ Some g) where
    agree : (h : ℕ) (e : Holding) → Holds n down c h e → e.source ≡ g.source
    agree h e w = let z = gather_source down c n g.source (ap source_of some) in order.one h z.0 e z.1 w z.2 ∙ z.3

    has_source : (h : ℕ) → down h ≡ true → source_of (back (Some g) h) ≡ Some g.source
    has_source h d = ap source_of (back_down (Some g) h d)

    change : (h : ℕ) → (back (Some g) h ≡ c h) ⊎ (((h < n) ⊎ (c h ≡ None)) × (source_of (back (Some g) h) ≡ Some g.source))
    change h = ⊎_elim (λ d. inr (inr (order.none h d), has_source h d)) (λ u. inl (back_up (Some g) h u)) (cases_Bool (down h))

    no_host : (h : ℕ) → nobody h ≡ true → back (Some g) h ≡ None
    no_host h d = grind arith

    knows : (h k : ℕ) (e : Holding) → Holds n down c h e → e.holders k ≡ true → (k < n) × Vouched nobody (back (Some g)) g.source k
    knows = known_grows n down nobody c (back (Some g)) g.source order agree change (λ k l d. inr (has_source k d)) no_host

    news : (h k : ℕ) (e : Holding) → h < n → back (Some g) h ≡ Some e → e.holders k ≡ true → (c h ≡ Some e) ⊎ ((k < n) × Vouched nobody (back (Some g)) g.source k)
    news h k e l i y = ⊎_elim fell (λ u. inl (sym (back_up (Some g) h u) ∙ i)) (cases_Bool (down h))
      where
        fell : down h ≡ true → (c h ≡ Some e) ⊎ ((k < n) × Vouched nobody (back (Some g)) g.source k)
        fell d =
            inr (⊎_elim (λ z. let w = gather_holders down c n g k some z in knows w.0 k w.1 w.2 w.3) (λ z. let q = eqb-true k h z in (grind arith, inr (has_source k (ap down q ∙ d))))
            (or_cases (g.holders k) (k == h) (same_holders (knowing g (with_host g.holders h)) e (sym (back_down (Some g) h d) ∙ i) k y)))

    returns_some : Returns n down c (back (Some g))
    returns_some = record {
      order = in_order n down nobody c (back (Some g)) g.source order agree change (λ k l d. inr (has_source k d)) no_host news;
      stays = back_up (Some g);
      taught = λ q h e l d w. has_source q d ∙ ap Some (sym (agree h e w));
      only_taught = λ q y l d s. gather_source down c n y (ap source_of some ∙ sym (has_source q d) ∙ s);
    }

  pub rejoin_returns : Returns n down c (rejoin_at n down c)
  rejoin_returns = go (gather down c n) refl
    where
      go : (o : Option Holding) → gather down c n ≡ o → Returns n down c (back o)
      go None i = returns_none i
      go (Some g) i = returns_some g i
