-- What the hosts hold of one receipt stays in order.
use Rattle.std.specs.Prelude.{◌≡◌, ℕ, ◌<◌, ◌≤◌, Bool, true, ◌||◌, ◌≢◌, ◌⊎◌, Some, None, Option, refl}
use Rattle.std.proofs.Common.{sym, ap, ◌∙◌, inl, inr, ⊎_elim, arith}
use Rattle.std.proofs.lemmas.Bool.Decides.{nat_tests}
use Rattle.std.proofs.lemmas.Bool.{cases_Bool}
use Rattle.network.specs.declared.message.Receipt.{Receipt}
use Rattle.logger.specs.Meaning.{count}
use Rattle.logger.specs.Sources.{is_source}
use Rattle.logger.specs.HostSets.{with_host, size}
use Rattle.loggers.specs.FamilyBased.{Holding, Holdings, source_of, holders_of, put, lose_at}
use Rattle.loggers.specs.FamilyInvariant.{Holds, Vouched, InOrder}
use Rattle.logger.proofs.Sources.{is_source_of}
use Rattle.logger.proofs.Counting.{mono_or, count_eight}

pub source_some : (o : Option Holding) (x : Receipt) → source_of o ≡ Some x → (e : Holding) × (o ≡ Some e) × (e.source ≡ x)
source_some None x h = grind arith
source_some (Some e) x h = (e, refl, cc)

pub source_none : (o : Option Holding) → source_of o ≡ None → o ≡ None
source_none None h = refl
source_none (Some e) h = grind arith

-- whom a host knew, if it held anything
pub known_of : (o : Option Holding) (k : ℕ) → holders_of o k ≡ true → (e : Holding) × (o ≡ Some e) × (e.holders k ≡ true)
known_of None k h = grind arith
known_of (Some e) k h = (e, refl, h)

pub same_holders : (e g : Holding) → Some e ≡ Some g → (k : ℕ) → g.holders k ≡ true → e.holders k ≡ true
same_holders e g i k h = let j : e ≡ g = cc in rw j h

-- What an operation that only adds does to one receipt: Gets h y says that h may get the determinant with source y.
pub record Step (n : ℕ) (down : ℕ → Bool) (c c' : Holdings) (Gets : ℕ → Receipt → Type 0) : Type 0 where
  pub order : InOrder n down c'
  pub keeps : (h : ℕ) (y : Receipt) → source_of (c h) ≡ Some y → source_of (c' h) ≡ Some y
  pub gains : (h : ℕ) (y : Receipt) → source_of (c' h) ≡ Some y → (source_of (c h) ≡ Some y) ⊎ Gets h y

pub same_step : (n : ℕ) (down : ℕ → Bool) (c : Holdings) (Gets : ℕ → Receipt → Type 0) → InOrder n down c → Step n down c c Gets
same_step n down c Gets order = record { order = order; keeps = λ h y s. s; gains = λ h y s. inl s }

pub put_same : (c : Holdings) (p : ℕ) (o : Option Holding) → put c p o p ≡ o
put_same c p o = grind (arith, nat_tests)

pub put_other : (c : Holdings) (p : ℕ) (o : Option Holding) (h : ℕ) → h ≢ p → put c p o h ≡ c h
put_other c p o h ne = grind (arith, nat_tests)

-- Some hosts got the determinant with source x, which every host that was up and held one held.
module _ (n : ℕ) (down down' : ℕ → Bool) (c c' : Holdings) (x : Receipt) (order : InOrder n down c)
    (agree : (h : ℕ) (e : Holding) → Holds n down c h e → e.source ≡ x)
    (change : (h : ℕ) → (c' h ≡ c h) ⊎ (((h < n) ⊎ (c h ≡ None)) × (source_of (c' h) ≡ Some x)))
    (fell : (k : ℕ) → k < n → down k ≡ true → Vouched down' c' x k)
    (none' : (h : ℕ) → down' h ≡ true → c' h ≡ None) where
  held : (h : ℕ) (e : Holding) → h < n → c h ≡ Some e → Holds n down c h e
  held h e l i = let z = order.none h in grind (arith, cases_Bool (down h))

  pub keeps : (h : ℕ) (y : Receipt) → source_of (c h) ≡ Some y → source_of (c' h) ≡ Some y
  keeps h y s = ⊎_elim (λ i. ap source_of i ∙ s) (λ g. ⊎_elim (λ l. g.1 ∙ ap Some (held_x l)) (λ i. grind arith) g.0) (change h)
    where
      held_x : h < n → x ≡ y
      held_x l = let w = source_some (c h) y s in sym (agree h w.0 (held h w.0 l w.1)) ∙ w.2

  pub vouch_grows : (k : ℕ) → k < n → Vouched down c x k → Vouched down' c' x k
  vouch_grows k l v = ⊎_elim (fell k l) (λ s. inr (keeps k x s)) v

  -- whom a host knew to hold it still vouches
  pub known_grows : (h k : ℕ) (e : Holding) → Holds n down c h e → e.holders k ≡ true → (k < n) × Vouched down' c' x k
  known_grows h k e w y = let v = order.known h k e w y in (v.0, vouch_grows k v.0 (rw (agree h e w) at v.1))

  pub in_order : ((h k : ℕ) (e : Holding) → h < n → c' h ≡ Some e → e.holders k ≡ true → (c h ≡ Some e) ⊎ ((k < n) × Vouched down' c' x k)) → InOrder n down' c'
  in_order news = record {
    known = λ h k e w y. rw (is_x h e w) (⊎_elim (λ i. known_grows h k e (held h e w.host i) y) (λ v. v) (news h k e w.host w.has y));
    one = λ h k e g w z. is_x h e w ∙ sym (is_x k g z);
    none = none';
  }
    where
      is_x : (h : ℕ) (e : Holding) → Holds n down' c' h e → e.source ≡ x
      is_x h e w =
          ⊎_elim (λ i. agree h e (held h e w.host (sym i ∙ w.has))) (λ g. let a = g.1 in let b = w.has in grind arith) (change h)

pub lose_in_order : (n : ℕ) (down : ℕ → Bool) (c : Holdings) (p : ℕ) → InOrder n down c → InOrder n (with_host down p) (lose_at p c)
lose_in_order n down c p order = record {
  known = λ h k e w y. let v = order.known h k e in grind (arith, nat_tests);
  one = λ h k e g w z. let v = order.one h k e g in grind (arith, nat_tests);
  none = λ h d. let v = order.none h in grind (arith, nat_tests);
}

-- how many hosts vouch
abbrev pub vouchers : ℕ → (ℕ → Bool) → Holdings → Receipt → ℕ
vouchers n down c x = count n (λ k. down k || is_source (source_of (c k)) x)

pub vouched : (down : ℕ → Bool) (c : Holdings) (x : Receipt) (k : ℕ) → Vouched down c x k → (down k || is_source (source_of (c k)) x) ≡ true
vouched down c x k (inl d) = grind arith
vouched down c x k (inr s) = let t = is_source_of (source_of (c k)) x s in grind (arith, cases_Bool (down k))

-- where a host that is up knows f + 1 holders, there are as many
pub enough : (n f : ℕ) (down : ℕ → Bool) (c : Holdings) (h : ℕ) (e : Holding) → n ≤ 8 → InOrder n down c → Holds n down c h e → f < size e.holders → f < vouchers n down c e.source
enough n f down c h e small order w many =
    let short = count_eight n e.holders small (λ k y. (order.known h k e w y).0) in
    let up = mono_or {Q = ⊥} n e.holders (λ k. down k || is_source (source_of (c k)) e.source) (λ k i y. inl (vouched down c e.source k (order.known h k e w y).1)) in
    ⊎_elim (λ l. omega arith) absurd up
