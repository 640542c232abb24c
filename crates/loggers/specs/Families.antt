-- Family-based logging stays ready, and is lawful.
use Rattle.std.specs.Prelude.{◌≡◌, ℕ, Bool, true, false, cond, ◌&&◌, ◌⊎◌, Some, None, Option, ◌==◌, refl}
use Rattle.std.proofs.Common.{sym, ap, subst, ◌∙◌, inl, inr, ⊎_elim, arith}
use Rattle.std.proofs.lemmas.Bool.Decides.{nat_tests}
use Rattle.std.proofs.lemmas.Bool.{eqb-true, eq-eqb, or_right}
use Rattle.logger.specs.declared.determinant.Determinant.{Determinant}
use Rattle.network.specs.declared.message.Receipt.{Receipt}
use Rattle.logger.specs.Meaning.{Findable, determinant}
use Rattle.logger.specs.Clauses.{Sizes, Started, Grows}
use Rattle.logger.specs.Operation.{Operation, Allowed, Lawful, start, carry, note, spread, lose, rejoin}
use Rattle.logger.specs.Sources.{source, is_source}
use Rattle.loggers.specs.FamilyBased.{Holding, Holdings, State, source_of, note_at, there, with_holdings, finds, after, means}
use Rattle.loggers.specs.FamilyInvariant.{Holds, Ready}
use Rattle.logger.proofs.Sources.{same_determinant, source_is, is_source_of, pair_is, pair_none}
use Rattle.loggers.specs.Ordered.{source_some, source_none, Step, same_step, put_same, put_other, lose_in_order}
use Rattle.loggers.specs.Noting.{note_step}
use Rattle.loggers.specs.Carrying.{carry_carries}
use Rattle.loggers.specs.Spreading.{spread_spreads}
use Rattle.loggers.specs.Rejoining.{gather_source, gather_none, rejoin_returns}

-- what host h holds is what the table says
is_held : (a : State) (h : ℕ) (d : Determinant) → (means a).held h d ≡ true → source_of (a.holdings d.receiver d.number h) ≡ Some (source d)
is_held a h d t = source_is (source_of (a.holdings d.receiver d.number h)) (source d) t

held_is : (a : State) (h : ℕ) (d : Determinant) → source_of (a.holdings d.receiver d.number h) ≡ Some (source d) → (means a).held h d ≡ true
held_is a h d s = is_source_of (source_of (a.holdings d.receiver d.number h)) (source d) s

-- An operation that only adds, at every receipt.
module _ (a : State) (t : ℕ → ℕ → Holdings) (Gets : ℕ → ℕ → ℕ → Receipt → Type 0) (steps : (q r : ℕ) → Step a.n a.down (a.holdings q r) (t q r) (Gets q r)) where
  grows : Grows (means a) (means (with_holdings a t))
  grows = record {
    same_n = refl;
    same_f = refl;
    same_down = λ h. refl;
    keeps_held = λ h d x. held_is (with_holdings a t) h d ((steps d.receiver d.number).keeps h (source d) (is_held a h d x));
    keeps_stored = λ d x. x;
  }

  gains : (h : ℕ) (d : Determinant) → (means (with_holdings a t)).held h d ≡ true → ((means a).held h d ≡ true) ⊎ Gets d.receiver d.number h (source d)
  gains h d x = ⊎_elim (λ s. inl (held_is a h d s)) inr ((steps d.receiver d.number).gains h (source d) (is_held (with_holdings a t) h d x))

abbrev Kept : Operation → State → Type 0
Kept op a = Ready (after op a) × Lawful op (means a) (means (after op a))

nothing : {A : Type 0} {e : Holding} → None ≡ Some e → A
nothing i = absurd (grind arith)

started : (n f : ℕ) (a : State) → Sizes n f → Kept (start n f) a
started n f a sizes = (
  record { sizes = sizes; receipts = λ q r. record { known = λ h k e w y. nothing w.has; one = λ h k e g w z. nothing w.has; none = λ h d. refl } },
  record { hosts = refl; bound = refl; none_down = λ h. refl; none_held = λ h d. refl; none_stored = λ d. refl },
)

carried : (s p : ℕ) (a : State) → Ready a → Allowed (carry s p) (means a) → Kept (carry s p) a
carried s p a ready may =
    let at = λ (q r : ℕ). carry_carries a.n a.f a.down (a.holdings q r) s p (ready.receipts q r) may.to_up.host may.to_up.up may.apart ready.sizes.eight may.from_up.host may.from_up.up in
    let steps = λ (q r : ℕ). (at q r).step in
    let b = after (carry s p) a in (
      record { sizes = ready.sizes; receipts = λ q r. (steps q r).order },
      record {
        allowed = may;
        grows = grows a b.holdings _ steps;
        held_gains = λ h d x. ⊎_elim inl (λ w. inr (w.0, held_is a s d w.1)) (gains a b.holdings _ steps h d x);
        stored_gains = λ d x. x;
        carried = λ d x. ⊎_elim (λ y. inl (held_is b p d y)) (λ y. inr (inr y)) ((at d.receiver d.number).carried (source d) (is_held a s d x));
      },
    )

spreaded : (p : ℕ) (a : State) → Ready a → Allowed (spread p) (means a) → Kept (spread p) a
spreaded p a ready up =
    let at = λ (q r : ℕ). spread_spreads a.n a.f a.down (a.holdings q r) p (ready.receipts q r) ready.sizes.eight ready.sizes.below up.host up.up in
    let steps = λ (q r : ℕ). (at q r).step in
    let b = after (spread p) a in (
      record { sizes = ready.sizes; receipts = λ q r. (steps q r).order },
      record {
        allowed = up;
        grows = grows a b.holdings _ steps;
        held_gains = λ h d x. ⊎_elim inl (λ w. inr (record { host = w.0; up = w.1 }, held_is a p d w.2)) (gains a b.holdings _ steps h d x);
        stored_gains = λ d x. inl x;
        covers = λ d x. inr ((at d.receiver d.number).covers (source d) (is_held a p d x));
      },
    )

lost : (p : ℕ) (a : State) → Ready a → Allowed (lose p) (means a) → Kept (lose p) a
lost p a ready up = (
  record { sizes = ready.sizes; receipts = λ q r. lose_in_order a.n a.down (a.holdings q r) p (ready.receipts q r) },
  record {
    allowed = up;
    same_n = refl;
    same_f = refl;
    falls = or_right (a.down p) _ (eq-eqb p p refl);
    same_down = λ h ne. grind (arith, nat_tests);
    emptied = λ d. ap (λ (o : Option Holding). is_source (source_of o) (source d)) (put_same (a.holdings d.receiver d.number) p None);
    same_held = λ h d ne. ap (λ (o : Option Holding). is_source (source_of o) (source d)) (put_other (a.holdings d.receiver d.number) p None h ne);
    same_stored = λ d. refl;
  },
)

rejoined : (a : State) → Ready a → Kept rejoin a
rejoined a ready =
    let at = λ (q r : ℕ). rejoin_returns a.n a.down (a.holdings q r) (ready.receipts q r) in
    let b = after rejoin a in (
      record { sizes = ready.sizes; receipts = λ q r. (at q r).order },
      record {
        same_n = refl;
        same_f = refl;
        none_down = λ h. refl;
        same_stored = λ d. refl;
        same_held = λ h d u. ap (λ (o : Option Holding). is_source (source_of o) (source d)) ((at d.receiver d.number).stays h u);
        taught = λ q d l x w.
            let e = source_some (a.holdings d.receiver d.number w.0) (source d) (is_held a w.0 d w.2) in
            inr (held_is b q d ((at d.receiver d.number).taught q w.0 e.0 l x (record { host = w.1.host; up = w.1.up; has = e.1 }) ∙ ap Some e.2));
        only_taught = λ q d l x y.
            let w = (at d.receiver d.number).only_taught q (source d) l x (is_held b q d y) in
            (w.0, record { host = w.2.host; up = w.2.up }, held_is a w.0 d (ap source_of w.2.has ∙ ap Some w.3));
      },
    )

module _ (p : ℕ) (d : Determinant) (a : State) (ready : Ready a) (may : Allowed (note p d) (means a)) where
  abbrev Gets : ℕ → ℕ → ℕ → Receipt → Type 0
  Gets q r h y = (q ≡ d.receiver) × (r ≡ d.number) × (h ≡ p) × (y ≡ source d)

  -- whoever is up and holds something of that receipt holds d
  agree : (q r : ℕ) → q ≡ d.receiver → r ≡ d.number → (h : ℕ) (e : Holding) → Holds a.n a.down (a.holdings q r) h e → e.source ≡ source d
  agree q r i j h e w =
      let f = determinant q r e.source.sender e.source.ssn in
      ap source (may.only f i j (inr (h, record { host = w.host; up = w.up }, held_is a h f (ap source_of w.has))))

  steps : (q r : ℕ) → Step a.n a.down (a.holdings q r) (there (note_at p d) d a.holdings q r) (Gets q r)
  steps q r = go (q == d.receiver) (r == d.number) refl refl
    where
      here : q ≡ d.receiver → r ≡ d.number → Step a.n a.down (a.holdings q r) (note_at p d (a.holdings q r)) (Gets q r)
      here i j =
          let w = note_step a.n a.down (a.holdings q r) p (source d) (ready.receipts q r) may.at_up.host may.at_up.up (agree q r i j) in
          record { order = w.order; keeps = w.keeps; gains = λ h y s. ⊎_elim inl (λ z. inr (i, j, z.0, z.1)) (w.gains h y s) }

      go : (x y : Bool) → (q == d.receiver) ≡ x → (r == d.number) ≡ y → Step a.n a.down (a.holdings q r) (cond (x && y) (note_at p d (a.holdings q r)) (a.holdings q r)) (Gets q r)
      go true true i j = here (eqb-true q _ i) (eqb-true r _ j)
      go true false i j = same_step a.n a.down (a.holdings q r) (Gets q r) (ready.receipts q r)
      go false y i j = same_step a.n a.down (a.holdings q r) (Gets q r) (ready.receipts q r)

  held_there : source_of (there (note_at p d) d a.holdings d.receiver d.number p) ≡ Some (source d)
  held_there = rw (eq-eqb d.receiver d.receiver refl, eq-eqb d.number d.number refl) (ap source_of (put_same (a.holdings d.receiver d.number) p _))

  noted : Kept (note p d) a
  noted =
      let b = after (note p d) a in (
        record { sizes = ready.sizes; receipts = λ q r. (steps q r).order },
        record {
          allowed = may;
          grows = grows a b.holdings Gets steps;
          noted = inl (held_is b p d held_there);
          held_gains = λ h e x. ⊎_elim inl (λ w. inr (w.2, same_determinant e d w.0 w.1 w.3)) (gains a b.holdings Gets steps h e x);
          stored_gains = λ e x. inl x;
          covers = λ e x y g z. grind arith;
        },
      )

by_rule : (op : Operation) (a : State) → Ready a → Allowed op (means a) → Kept op a
by_rule (start n f) a ready may = started n f a may
by_rule (carry s p) a ready may = carried s p a ready may
by_rule (note p d) a ready may = noted p d a ready may
by_rule (spread p) a ready may = spreaded p a ready may
by_rule (lose p) a ready may = lost p a ready may
by_rule rejoin a ready may = rejoined a ready

pub begins : (n f : ℕ) (a b : State) → Sizes n f → b ≡ after (start n f) a → Ready b × Started n f (means b)
begins n f a b sizes acts = subst (λ (x : State). Ready x × Started n f (means x)) (sym acts) (started n f a sizes)

pub lawful : (op : Operation) (a b : State) → Ready a → Allowed op (means a) → b ≡ after op a → Ready b × Lawful op (means a) (means b)
lawful op a b ready may acts = subst (λ (x : State). Ready x × Lawful op (means a) (means x)) (sym acts) (by_rule op a ready may)

pub finds_findable : (a : State) (q r s j : ℕ) → finds a q r ≡ Some (s, j) → Findable (means a) (determinant q r s j)
finds_findable a q r s j i =
    let d = determinant q r s j in
    let w = gather_source a.down (a.holdings q r) a.n (source d) (pair_is _ s j i) in
    inr (w.0, record { host = w.2.host; up = w.2.up }, held_is a w.0 d (ap source_of w.2.has ∙ ap Some w.3))

pub finds_none : (a : State) (q r : ℕ) → finds a q r ≡ None → (d : Determinant) → d.receiver ≡ q → d.number ≡ r → Findable (means a) d → ⊥
finds_none a q r i d x y (inl s) = grind arith
finds_none a q r i d x y (inr w) =
    let e = source_some (a.holdings q r w.0) (source d) (rw (x, y) at (is_held a w.0 d w.2)) in
    gather_none a.down (a.holdings q r) a.n w.0 e.0 (source_none _ (pair_none _ i)) (record { host = w.1.host; up = w.1.up; has = e.1 })
