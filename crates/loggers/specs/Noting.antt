-- What note does to one receipt.
use Rattle.std.specs.Prelude.{◌≡◌, ℕ, ◌<◌, Bool, true, false, ◌⊎◌, Some, None}
use Rattle.std.proofs.Common.{sym, ap, ◌∙◌, inl, inr, ⊎_elim, arith}
use Rattle.std.proofs.lemmas.Bool.{cases_eq, eqb-true}
use Rattle.network.specs.declared.message.Receipt.{Receipt}
use Rattle.logger.specs.HostSets.{nobody, with_host}
use Rattle.loggers.specs.FamilyBased.{Holding, Holdings, source_of, put}
use Rattle.loggers.specs.FamilyInvariant.{Holds, Vouched, InOrder}
use Rattle.loggers.specs.Ordered.{Step, put_same, put_other, same_holders, keeps, in_order}

abbrev pub noted : ℕ → Receipt → Holdings → Holdings
noted p x c = put c p (Some (record { source = x; holders = with_host nobody p }))

-- p is up, and whoever is up and holds something holds x
module _ (n : ℕ) (down : ℕ → Bool) (c : Holdings) (p : ℕ) (x : Receipt) (order : InOrder n down c) (host : p < n) (up : down p ≡ false) (agree : (h : ℕ) (e : Holding) → Holds n down c h e → e.source ≡ x) where
  at : (h : ℕ) → ((h ≡ p) × (noted p x c h ≡ Some (record { source = x; holders = with_host nobody p }))) ⊎ (noted p x c h ≡ c h)
  at h = ⊎_elim (λ i. inl (i, ap (noted p x c) i ∙ put_same c p _)) (λ ne. inr (put_other c p _ h ne)) (cases_eq h p)

  change : (h : ℕ) → (noted p x c h ≡ c h) ⊎ (((h < n) ⊎ (c h ≡ None)) × (source_of (noted p x c h) ≡ Some x))
  change h = ⊎_elim (λ w. inr (inl (let i = w.0 in grind arith), ap source_of w.1)) inl (at h)

  none : (h : ℕ) → down h ≡ true → noted p x c h ≡ None
  none h d = ⊎_elim (λ w. let i = ap down w.0 in grind arith) (λ i. i ∙ order.none h d) (at h)

  news : (h k : ℕ) (e : Holding) → h < n → noted p x c h ≡ Some e → e.holders k ≡ true → (c h ≡ Some e) ⊎ ((k < n) × Vouched down (noted p x c) x k)
  news h k e l i y = ⊎_elim (λ w. inr (itself (eqb-true k p (same_holders _ e (sym w.1 ∙ i) k y)))) (λ j. inl (sym j ∙ i)) (at h)
    where
      itself : k ≡ p → (k < n) × Vouched down (noted p x c) x k
      itself j = (grind arith, inr (ap (λ (h : ℕ). source_of (noted p x c h)) j ∙ ap source_of (put_same c p _)))

  pub note_step : Step n down c (noted p x c) (λ h y. (h ≡ p) × (y ≡ x))
  note_step = record {
    order = in_order n down down c (noted p x c) x order agree change (λ k l d. inl d) none news;
    keeps = keeps n down down c (noted p x c) x order agree change (λ k l d. inl d) none;
    gains = λ h y s. ⊎_elim (λ w. inr (w.0, let t = sym (ap source_of w.1) ∙ s in cc)) (λ i. inl (sym (ap source_of i) ∙ s)) (at h);
  }
