-- What spread does to one receipt.
use Rattle.std.specs.Prelude.{◌≡◌, ℕ, zero, suc, ◌<◌, ◌≤◌, Bool, true, false, cond, not, ◌&&◌, ◌||◌, leb, ◌≢◌, ◌⊎◌, Some, None, Option, ◌==◌, nat_le}
use Rattle.std.proofs.Math.Path.{refl, ap}
use Rattle.std.proofs.Common.{sym, subst, ◌∙◌, arith}
use Rattle.std.proofs.Math.Logic.{inl, inr, ⊎_elim}
use Rattle.std.proofs.lemmas.Bool.{cases_eq, cases_Bool, eqb-true, eq-eqb, or_left, or_right, or_cases, leb-false, cond-false}
use Rattle.std.proofs.lemmas.Bool.Decides.{nat_tests}
use Rattle.network.specs.declared.message.Receipt.{Receipt}
use Rattle.logger.specs.Sources.{is_source}
use Rattle.logger.specs.HostSets.{with_host, either, size}
use Rattle.loggers.specs.FamilyBased.{Holding, Holdings, knowing, source_of, holders_of, join_one, join, joined, handed, hand_out, spread_held, spread_at}
use Rattle.loggers.specs.FamilyInvariant.{Holds, Vouched, InOrder}
use Rattle.logger.proofs.Counting.{all}
use Rattle.loggers.specs.Ordered.{Step, same_step, put_same, put_other, known_of, same_holders, keeps, known_grows, in_order, vouchers, vouched, enough}

-- Who joins. K is never forgotten, only hosts that are up join, and they do until f + 1 are known or all that are up.
module _ (f : ℕ) (down : ℕ → Bool) where
  one_keeps : (K : ℕ → Bool) (h k : ℕ) → K k ≡ true → join_one f down K h k ≡ true
  one_keeps K h k x = go (nat_le (size K) f && (not (down h) && not (K h)))
    where
      go : (t : Bool) → cond t (with_host K h) K k ≡ true
      go true = or_left (K k) _ x
      go false = x

  one_from : (K : ℕ → Bool) (h k : ℕ) → join_one f down K h k ≡ true → (K k ≡ true) ⊎ ((k ≡ h) × (down h ≡ false))
  one_from K h k x = go (nat_le (size K) f) (down h) (K h) refl x
    where
      go : (t d y : Bool) → down h ≡ d → cond (t && (not d && not y)) (with_host K h) K k ≡ true → (K k ≡ true) ⊎ ((k ≡ h) × (down h ≡ false))
      go true false false u z = ⊎_elim inl (λ w. inr (eqb-true k h w, u)) (or_cases (K k) (k == h) z)
      go true false true u z = inl z
      go true true y u z = inl z
      go false d y u z = inl z

  one_all : (K : ℕ → Bool) (h : ℕ) → (f < size K) ⊎ ((down h ≡ true) ⊎ (join_one f down K h h ≡ true))
  one_all K h = go (nat_le (size K) f) (down h) (K h) refl refl refl
    where
      go : (t d y : Bool) → nat_le (size K) f ≡ t → down h ≡ d → K h ≡ y → (f < size K) ⊎ ((down h ≡ true) ⊎ (cond (t && (not d && not y)) (with_host K h) K h ≡ true))
      go false d y a b c = inl (leb-false _ _ a)
      go true true y a b c = inr (inl b)
      go true false true a b c = inr (inr c)
      go true false false a b c = inr (inr (or_right (K h) _ (eq-eqb h h refl)))

  one_full : (K : ℕ → Bool) (h : ℕ) → f < size K → join_one f down K h ≡ K
  one_full K h l = cond-false _ (with_host K h) K (let t : leb (size K) f ≡ false = grind (arith, nat_tests) in grind arith)

  join_from : (K : ℕ → Bool) (m k : ℕ) → join f down K m k ≡ true → (K k ≡ true) ⊎ ((k < m) × (down k ≡ false))
  join_from K zero k x = inl x
  join_from K (suc m) k x = let ih = join_from K m k in let w = one_from (join f down K m) m k x in grind arith

  join_all : (K : ℕ → Bool) (m : ℕ) → (f < size (join f down K m)) ⊎ ((k : ℕ) → k < m → down k ≡ false → join f down K m k ≡ true)
  join_all K zero = inr (λ k l d. absurd (omega arith))
  join_all K (suc m) = ⊎_elim full more (join_all K m)
    where
      full : f < size (join f down K m) → (f < size (join f down K (suc m))) ⊎ ((k : ℕ) → k < suc m → down k ≡ false → join f down K (suc m) k ≡ true)
      full l = inl (subst (λ (L : ℕ → Bool). f < size L) (sym (one_full (join f down K m) m l)) l)

      more : ((k : ℕ) → k < m → down k ≡ false → join f down K m k ≡ true) → (f < size (join f down K (suc m))) ⊎ ((k : ℕ) → k < suc m → down k ≡ false → join f down K (suc m) k ≡ true)
      more ih = ⊎_elim full (λ here. inr (λ k l d. turn here k l d (cases_eq k m))) (one_all (join f down K m) m)
        where
          turn : (down m ≡ true) ⊎ (join f down K (suc m) m ≡ true) → (k : ℕ) → k < suc m → down k ≡ false → (k ≡ m) ⊎ (k ≢ m) → join f down K (suc m) k ≡ true
          turn (inl x) k l d (inl i) = let j = ap down i in grind arith
          turn (inr x) k l d (inl i) = ap (join f down K (suc m)) i ∙ x
          turn here k l d (inr ne) = one_keeps (join f down K m) m k (ih k (omega arith) d)

pub record Spreads (n f : ℕ) (down : ℕ → Bool) (p : ℕ) (c c' : Holdings) : Type 0 where
  pub step : Step n down c c' (λ h y. (h < n) × (down h ≡ false) × (source_of (c p) ≡ Some y))
  pub covers : (y : Receipt) → source_of (c p) ≡ Some y → f < vouchers n down c' y

module _ (n f : ℕ) (down : ℕ → Bool) (c : Holdings) (p : ℕ) (order : InOrder n down c) where
  -- p holds e, and knows K in the end
  module _ (e : Holding) (from : Holds n down c p e) (K : ℕ → Bool) (joins : (k : ℕ) → K k ≡ true → (e.holders k ≡ true) ⊎ ((k < n) × (down k ≡ false))) where
    given_out : Holdings
    given_out = hand_out p e K c

    abbrev theirs : ℕ → Holding
    theirs h = knowing e (either (holders_of (c h)) K)

    at_p : given_out p ≡ Some (knowing e K)
    unfolding given_out
    at_p = put_same (λ k. handed e K k (c k)) p (Some (knowing e K))

    -- what h then holds: it is p, it joined, or it holds what it held
    at : (h : ℕ) → ((h ≡ p) × (given_out h ≡ Some (knowing e K))) ⊎ (((h < n) × (down h ≡ false) × (given_out h ≡ Some (theirs h))) ⊎ ((joined e K h ≡ false) × (given_out h ≡ c h)))
    unfolding given_out
    at h = ⊎_elim (λ i. inl (i, ap given_out i ∙ at_p)) (λ ne. inr (go ne (K h) (e.holders h) refl refl)) (cases_eq h p)
      where
        out : h ≢ p → given_out h ≡ handed e K h (c h)
        out ne = put_other (λ k. handed e K k (c k)) p (Some (knowing e K)) h ne

        go : h ≢ p → (a b : Bool) → K h ≡ a → e.holders h ≡ b → ((h < n) × (down h ≡ false) × (given_out h ≡ Some (theirs h))) ⊎ ((joined e K h ≡ false) × (given_out h ≡ c h))
        go ne true true x y = inr (rw (x, y), out ne ∙ rw (x, y))
        go ne false b x y = inr (rw x, out ne ∙ rw x)
        go ne true false x y = let w = joins h x in inl (grind arith, grind arith, out ne ∙ rw (x, y))

    agree : (h : ℕ) (g : Holding) → Holds n down c h g → g.source ≡ e.source
    agree h g w = order.one h p g e w from

    change : (h : ℕ) → (given_out h ≡ c h) ⊎ (((h < n) ⊎ (c h ≡ None)) × (source_of (given_out h) ≡ Some e.source))
    change h =
        ⊎_elim (λ w. inr (inl (let i = w.0 in let l = from.host in grind arith), ap source_of w.1))
        (⊎_elim (λ w. inr (inl w.0, ap source_of w.2)) (λ w. inl w.1)) (at h)

    none : (h : ℕ) → down h ≡ true → given_out h ≡ None
    none h d =
        ⊎_elim (λ w. let i = ap down w.0 in let u = from.up in grind arith)
        (⊎_elim (λ w. let u = w.1 in grind arith) (λ w. w.1 ∙ order.none h d)) (at h)

    knows : (h k : ℕ) (g : Holding) → Holds n down c h g → g.holders k ≡ true → (k < n) × Vouched down given_out e.source k
    knows = known_grows n down down c given_out e.source order agree change (λ k l d. inl d) none

    -- all that p knows in the end vouch
    all_vouch : (k : ℕ) → K k ≡ true → (k < n) × Vouched down given_out e.source k
    all_vouch k x = ⊎_elim (knows p k e from) new (cases_Bool (e.holders k))
      where
        new : e.holders k ≡ false → (k < n) × Vouched down given_out e.source k
        new y =
            let w = joins k x in
            (grind arith, inr (⊎_elim (λ z. ap source_of z.1) (⊎_elim (λ z. ap source_of z.2) (λ z. let t = z.0 in grind arith)) (at k)))

    news : (h k : ℕ) (g : Holding) → h < n → given_out h ≡ Some g → g.holders k ≡ true → (c h ≡ Some g) ⊎ ((k < n) × Vouched down given_out e.source k)
    news h k g l i y =
        ⊎_elim (λ w. inr (all_vouch k (same_holders (knowing e K) g (sym w.1 ∙ i) k y)))
        (⊎_elim (λ w. inr (joined_knows w.0 w.1 (same_holders (theirs h) g (sym w.2 ∙ i) k y))) (λ w. inl (sym w.1 ∙ i))) (at h)
      where
        joined_knows : h < n → down h ≡ false → (theirs h).holders k ≡ true → (k < n) × Vouched down given_out e.source k
        joined_knows l u z = ⊎_elim (λ t. let w = known_of (c h) k t in knows h k w.0 (record { host = l; up = u; has = w.1 }) w.2) (all_vouch k) (or_cases (holders_of (c h) k) (K k) z)

    gains : (h : ℕ) (y : Receipt) → source_of (given_out h) ≡ Some y → (source_of (c h) ≡ Some y) ⊎ ((h < n) × (down h ≡ false) × (source_of (c p) ≡ Some y))
    gains h y t =
        let f = ap source_of from.has in
        ⊎_elim (λ w. inl (ap (λ (k : ℕ). source_of (c k)) w.0 ∙ f ∙ sym (ap source_of w.1) ∙ t))
        (⊎_elim (λ w. inr (w.0, w.1, f ∙ sym (ap source_of w.2) ∙ t)) (λ w. inl (sym (ap source_of w.1) ∙ t))) (at h)

    out_order : InOrder n down given_out
    out_order = in_order n down down c given_out e.source order agree change (λ k l d. inl d) none news

    out_covers : n ≤ 8 → f < n → (f < size K) ⊎ ((k : ℕ) → k < n → down k ≡ false → K k ≡ true) → f < vouchers n down given_out e.source
    out_covers small few (inl l) = enough n f down given_out p (knowing e K) small out_order (record { host = from.host; up = from.up; has = at_p }) l
    out_covers small few (inr a) =
        let every = all n (λ k. down k || is_source (source_of (given_out k)) e.source)
        (λ k l. vouched down given_out e.source k (⊎_elim inl (λ u. (all_vouch k (a k l u)).1) (cases_Bool (down k)))) in
        omega arith

    spreads_out : n ≤ 8 → f < n → (f < size K) ⊎ ((k : ℕ) → k < n → down k ≡ false → K k ≡ true) → Spreads n f down p c given_out
    spreads_out small few full = record {
      step = record { order = out_order; keeps = keeps n down down c given_out e.source order agree change (λ k l d. inl d) none; gains = gains };
      covers = λ y t. let a = out_covers small few full in let b = from.has in let j : e.source ≡ y = cc in subst (λ (z : Receipt). f < vouchers n down given_out z) j a;
    }

  pub spread_spreads : n ≤ 8 → f < n → p < n → down p ≡ false → Spreads n f down p c (spread_at n f down p c)
  unfolding given_out
  spread_spreads small few l u = go (c p) refl
    where
      stays : ((y : Receipt) → source_of (c p) ≡ Some y → f < vouchers n down c y) → Spreads n f down p c c
      stays many = record { step = same_step n down c _ order; covers = many }

      deep : (e : Holding) → c p ≡ Some e → (t : Bool) → nat_le (size e.holders) f ≡ t → Spreads n f down p c (cond t (hand_out p e (join f down e.holders n) c) c)
      deep e i true x = spreads_out e (record { host = l; up = u; has = i }) (join f down e.holders n) (join_from f down e.holders n) small few (join_all f down e.holders n)
      deep e i false x =
          stays (λ y t. let a = enough n f down c p e small order (record { host = l; up = u; has = i }) (leb-false _ _ x) in let b : e.source ≡ y = cc in rw b at a)

      go : (o : Option Holding) → c p ≡ o → Spreads n f down p c (spread_held n f down p c o)
      go None i = stays (λ y t. grind arith)
      go (Some e) i = deep e i (nat_le (size e.holders) f) refl
