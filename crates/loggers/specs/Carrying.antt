-- What carry does to one receipt.
use Rattle.std.specs.Prelude.{◌≡◌, ℕ, ◌<◌, ◌≤◌, Bool, true, false, cond, ◌||◌, ◌≢◌, ◌⊎◌, Some, None, Option, ◌==◌, nat_le}
use Rattle.std.proofs.Math.Path.{refl}
use Rattle.std.proofs.Common.{sym, ap, ◌∙◌, inl, ⊎_elim, arith}
use Rattle.std.proofs.Math.Logic.{inr}
use Rattle.std.proofs.lemmas.Bool.{cases_eq, eqb-true, or_cases, leb-false}
use Rattle.network.specs.declared.message.Receipt.{Receipt}
use Rattle.logger.specs.HostSets.{size}
use Rattle.loggers.specs.FamilyBased.{Holding, Holdings, source_of, holders_of, put, taken, given, carry_held, carry_at}
use Rattle.loggers.specs.FamilyInvariant.{Holds, Vouched, InOrder}
use Rattle.loggers.specs.Ordered.{Step, same_step, put_same, put_other, known_of, same_holders, keeps, known_grows, in_order, vouchers, enough}

pub record Carried (n f : ℕ) (down : ℕ → Bool) (s p : ℕ) (c c' : Holdings) : Type 0 where
  pub step : Step n down c c' (λ h y. (h ≡ p) × (source_of (c s) ≡ Some y))
  pub carried : (y : Receipt) → source_of (c s) ≡ Some y → (source_of (c' p) ≡ Some y) ⊎ (f < vouchers n down c' y)

module _ (n f : ℕ) (down : ℕ → Bool) (c : Holdings) (s p : ℕ) (order : InOrder n down c) (to_host : p < n) (to_up : down p ≡ false) (apart : s ≢ p) where
  -- s, which knows at most f holders, holds e
  module _ (e : Holding) (from : Holds n down c s e) where
    moved : Holdings
    moved = put (put c p (Some (taken (c p) e p))) s (Some (given e p))

    at_s : moved s ≡ Some (given e p)
    unfolding moved
    at_s = put_same (put c p (Some (taken (c p) e p))) s (Some (given e p))

    at_p : moved p ≡ Some (taken (c p) e p)
    unfolding moved
    at_p = put_other (put c p (Some (taken (c p) e p))) s (Some (given e p)) p (λ i. apart (sym i)) ∙ put_same c p (Some (taken (c p) e p))

    elsewhere : (h : ℕ) → h ≢ s → h ≢ p → moved h ≡ c h
    unfolding moved
    elsewhere h i j = put_other (put c p (Some (taken (c p) e p))) s (Some (given e p)) h i ∙ put_other c p (Some (taken (c p) e p)) h j

    -- what h then holds
    at : (h : ℕ) → ((h ≡ s) × (moved h ≡ Some (given e p))) ⊎ (((h ≡ p) × (moved h ≡ Some (taken (c p) e p))) ⊎ (moved h ≡ c h))
    at h = ⊎_elim (λ i. inl (i, ap moved i ∙ at_s)) (λ i. inr (⊎_elim (λ j. inl (j, ap moved j ∙ at_p)) (λ j. inr (elsewhere h i j)) (cases_eq h p))) (cases_eq h s)

    agree : (h : ℕ) (g : Holding) → Holds n down c h g → g.source ≡ e.source
    agree h g w = order.one h s g e w from

    change : (h : ℕ) → (moved h ≡ c h) ⊎ (((h < n) ⊎ (c h ≡ None)) × (source_of (moved h) ≡ Some e.source))
    change h =
        ⊎_elim (λ w. inr (inl (let i = w.0 in let l = from.host in grind arith), ap source_of w.1))
        (⊎_elim (λ w. inr (inl (let i = w.0 in grind arith), ap source_of w.1)) inl) (at h)

    none : (h : ℕ) → down h ≡ true → moved h ≡ None
    none h d =
        ⊎_elim (λ w. let i = ap down w.0 in let u = from.up in grind arith)
        (⊎_elim (λ w. let i = ap down w.0 in grind arith) (λ i. i ∙ order.none h d)) (at h)

    knows : (h k : ℕ) (g : Holding) → Holds n down c h g → g.holders k ≡ true → (k < n) × Vouched down moved e.source k
    knows = known_grows n down down c moved e.source order agree change (λ k l d. inl d) none

    itself : (k : ℕ) → (k == p) ≡ true → (k < n) × Vouched down moved e.source k
    itself k t = let i = eqb-true k p t in (grind arith, inr (ap (λ (h : ℕ). source_of (moved h)) i ∙ ap source_of at_p))

    -- whom s then knows, and whom p
    by_s : (k : ℕ) → (given e p).holders k ≡ true → (k < n) × Vouched down moved e.source k
    by_s k y = ⊎_elim (knows s k e from) (itself k) (or_cases (e.holders k) (k == p) y)

    by_p : (k : ℕ) → (taken (c p) e p).holders k ≡ true → (k < n) × Vouched down moved e.source k
    by_p k y =
        ⊎_elim
        (λ t. ⊎_elim (λ z. let w = known_of (c p) k z in knows p k w.0 (record { host = to_host; up = to_up; has = w.1 }) w.2) (knows s k e from) (or_cases (holders_of (c p) k) (e.holders k) t))
        (itself k)
        (or_cases (holders_of (c p) k || e.holders k) (k == p) y)

    news : (h k : ℕ) (g : Holding) → h < n → moved h ≡ Some g → g.holders k ≡ true → (c h ≡ Some g) ⊎ ((k < n) × Vouched down moved e.source k)
    news h k g l i y =
        ⊎_elim (λ w. inr (by_s k (same_holders (given e p) g (sym w.1 ∙ i) k y)))
        (⊎_elim (λ w. inr (by_p k (same_holders (taken (c p) e p) g (sym w.1 ∙ i) k y))) (λ j. inl (sym j ∙ i))) (at h)

    gains : (h : ℕ) (y : Receipt) → source_of (moved h) ≡ Some y → (source_of (c h) ≡ Some y) ⊎ ((h ≡ p) × (source_of (c s) ≡ Some y))
    gains h y t =
        let f = ap source_of from.has in
        ⊎_elim (λ w. inl (ap (λ (k : ℕ). source_of (c k)) w.0 ∙ f ∙ sym (ap source_of w.1) ∙ t))
        (⊎_elim (λ w. inr (w.0, f ∙ sym (ap source_of w.1) ∙ t)) (λ i. inl (sym (ap source_of i) ∙ t))) (at h)

    moved_carries : Carried n f down s p c moved
    moved_carries = record {
      step = record {
        order = in_order n down down c moved e.source order agree change (λ k l d. inl d) none news;
        keeps = keeps n down down c moved e.source order agree change (λ k l d. inl d) none;
        gains = gains;
      };
      carried = λ y t. inl (ap source_of at_p ∙ sym (ap source_of from.has) ∙ t);
    }

  pub carry_carries : n ≤ 8 → s < n → down s ≡ false → Carried n f down s p c (carry_at f s p c)
  unfolding moved
  carry_carries small l u = go (c s) refl
    where
      stays : ((y : Receipt) → source_of (c s) ≡ Some y → f < vouchers n down c y) → Carried n f down s p c c
      stays many = record { step = same_step n down c _ order; carried = λ y t. inr (many y t) }

      deep : (e : Holding) → c s ≡ Some e → (t : Bool) → nat_le (size e.holders) f ≡ t → Carried n f down s p c (cond t (put (put c p (Some (taken (c p) e p))) s (Some (given e p))) c)
      deep e i true x = moved_carries e (record { host = l; up = u; has = i })
      deep e i false x =
          stays (λ y t. let a = enough n f down c s e small order (record { host = l; up = u; has = i }) (leb-false _ _ x) in let b : e.source ≡ y = cc in rw b at a)

      go : (o : Option Holding) → c s ≡ o → Carried n f down s p c (carry_held f s p c o)
      go None i = stays (λ y t. grind arith)
      go (Some e) i = deep e i (nat_le (size e.holders) f) refl
