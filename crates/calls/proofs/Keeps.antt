-- A cluster is sound when it is opened, and the calls that take nobody down keep it sound.
use Rattle.std.proofs.Common.{◌≡◌, ℕ, suc, ◌+◌, ◌<◌, ◌≤◌, true, false, not, ◌||◌, eqb, ◌⊎◌, List, [], ◌∷◌, ◌++◌, length, take, Some, sym, refl, ap, ◌∙◌, subst, inl, inr, add-one, arith, length-append}
use lib.Seq.{take-length, take-append-le}
use Rattle.std.proofs.lemmas.Bool.{cases_eq, eq-eqb, ne_eqb}
use Rattle.std.proofs.lemmas.Bool.Decides.{nat_tests}
use Rattle.std.specs.List.{slice_get}
use Rattle.workload.specs.Machine.{Machine, replaced}
use Rattle.network.specs.declared.message.Message.{Message}
use Rattle.network.specs.Host.{Host, taking}
use Rattle.network.specs.Network.{outside, bodies_to, is_sender, received, waiting, takes, with_post, with_released}
use Rattle.network.specs.World.{World, nothing, put, host_after, network, made_in, Next, start, taken}
use Rattle.network.specs.Theorems.{Prefix}
use Rattle.network.proofs.Histories.{count_from_low, front, host_snoc, length_receipts}
use Rattle.network.proofs.Made.{made_bounds, made_grown}
use Rattle.network.proofs.Messages.{Waits, waiting_parts, waiting_by_hosts, next_waits}
use Rattle.network.proofs.Origins.{made_at}
use Rattle.network.proofs.Places.{nth_last, prefix_trans, prefix_more}
use Rattle.network.proofs.Reached.{more_posts}
use Rattle.network.proofs.Runs.{added_at}
use Rattle.network.proofs.Worlds.{put_same, put_other, put_room, grown_put}
use Rattle.logger.specs.declared.determinant.Determinant.{Determinant}
use Rattle.logger.specs.declared.logger.Logger as logger
use Rattle.logger.specs.Clauses.{Sizes, Grows, MayCarry, Carry, InRange, MayNote, Note}
use Rattle.logger.specs.Events.{Events}
use Rattle.logger.specs.Invariant.{Invariant, Updated, next, FromOutside, FromHost, Agree}
use Rattle.logger.specs.Meaning.{Up, determinant}
use Rattle.logger.specs.Operation.{Operation, carry, note, spread}
use Rattle.logger.proofs.Growing.{agree_keeps, carry_keeps, receive_keeps, outside_keeps, spread_keeps}
use Rattle.logger.proofs.Meeting.{may_note_next}
use Rattle.logger.proofs.Running.{starts_sound, replayable_grows, replayable_agrees, few_grows}
use Rattle.calls.specs.Cluster.{Cluster, opened, with_network}
use Rattle.calls.specs.Calls.{next_output, next_determinant, carried, delivered, Follows}
use Rattle.calls.specs.Guarantee.{events, lengths}
use Rattle.calls.proofs.Events.{at_is, agree}
use Rattle.calls.specs.Sound.{Sound}
use Rattle.calls.proofs.Laws.{Laws}

replaced_updated : (g : ℕ → ℕ) (p x : ℕ) → Updated g (replaced g p x) p x
replaced_updated g p x = grind (arith, nat_tests)

-- operations made one after the other
pub follows_append : {L : Type 0} (log : logger.Ghosts L) (xs ys : List Operation) (l m : L) → Follows log (xs ++ ys) l m → (k : L) × Follows log xs l k × Follows log ys k m
follows_append log [] ys l m fo = (l, refl, fo)
follows_append log (op ∷ xs) ys l m fo = let w = follows_append log xs ys fo.0 m fo.2 in (w.0, (fo.0, fo.1, w.1), w.2)

-- the message t from q waits at p, and both are up
pub record Deliverable {S : Type 0} (c : Cluster S) (p q : ℕ) (t : Message) : Type 0 where
  pub host : p < c.network.n
  pub up : c.down p ≡ false
  pub sender : is_sender c.network p q ≡ true
  pub sender_up : eqb q outside || not (c.down q) ≡ true
  pub waits : waiting c.network p q ≡ Some t
  pub room : length (c.network.hosts p).receipts < 64

-- q is the outside world, or another host that is up
abbrev Sender : {S : Type 0} → Cluster S → ℕ → ℕ → Type 0
Sender c p q = (q ≡ outside) ⊎ ((q < c.network.n) × (q ≡ p → ⊥) × (c.down q ≡ false))

its_sender : {S : Type 0} {c : Cluster S} {p q : ℕ} {t : Message} → Deliverable c p q t → Sender c p q
its_sender d = grind (arith, nat_tests)

module _ {L S : Type 0} {log : logger.Ghosts L} where
  pub open_sound : Laws log → (machine : Machine S) (n f : ℕ) (l m : L) → Sizes n f → log.acts (Operation.start n f) l m → Sound log nothing (λ h. 0) (opened machine n f) m
  open_sound laws machine n f l m z a =
      let s = laws.begins n f l m z a in
      let o = starts_sound n f (log.meaning m) (events machine nothing) s.1 in
      record {
        ready = s.0;
        eight = z.eight;
        same_n = s.1.hosts;
        same_f = s.1.bound;
        same_down = s.1.none_down;
        reached = start;
        room = λ h. omega arith;
        up = λ h i e. refl;
        invariant = o.invariant;
        replayable = o.replayable;
        few = o.few;
        released = λ h i. ([], refl);
      }

  module _ {W : World} {rel : ℕ → ℕ} {c : Cluster S} {l : L} (s : Sound log W rel c l) where
    abbrev machine : Machine S
    machine = c.network.machine

    abbrev n : ℕ
    n = c.network.n

    abbrev posts : ℕ → List ℕ
    posts = c.network.posts

    abbrev released : ℕ → List ℕ
    released = c.network.released

    pub is_up : (h : ℕ) → h < n → c.down h ≡ false → Up (log.meaning l) h
    is_up h i e = record { host = rw s.same_n i; up = s.same_down h ∙ e }

    -- the outputs of a host in the world begin with what it released
    pub outputs_begin : (h : ℕ) → h < n → Prefix (released h) (host_after machine h (W h)).outputs
    outputs_begin h i = prefix_trans _ _ _ (s.released h i) (front machine h (rel h) (W h)).grows.outputs

    pub post_sound : (p b : ℕ) → Sound log W rel (with_network c (with_post c.network p b)) l
    post_sound p b = let r = more_posts machine n posts (replaced posts p (posts p ++ (b ∷ []))) (λ h. (bodies_to h ((p, b) ∷ []), added_at posts p b h)) s.reached in grind arith

    -- a logger that forgot nothing
    gained : (m : L) → log.ready m → Grows (log.meaning l) (log.meaning m) → Invariant (log.meaning m) (events machine W) (lengths W) rel → Sound log W rel c m
    gained m ok g inv =
        let r = replayable_grows (log.meaning l) (log.meaning m) (events machine W) (lengths W) (lengths W) g (λ q y. refl) s.replayable in
        let f = few_grows (log.meaning l) (log.meaning m) g s.few in
        grind arith

    pub release_sound : Laws log → (m : L) (p x : ℕ) → p < n → c.down p ≡ false → next_output c p ≡ Some x → log.acts (spread p) l m
        → Sound log W (replaced rel p (length (W p))) (with_network c (with_released c.network p x)) m
    release_sound laws m p x i e o a =
        let law = laws.lawful (spread p) l m s.ready (is_up p i e) a in
        let out = spread_keeps (log.meaning l) (log.meaning m) (events machine W) (lengths W) rel p law.1 s.invariant in
        let s₁ = gained m law.0 law.1.grows out.keeps in
        let inv = out.releases (replaced rel p (length (W p))) (replaced_updated rel p (length (W p))) in
        let r = begins in
        grind arith
      where
        there : Prefix (released p ++ (x ∷ [])) (host_after machine p (W p)).outputs
        there = prefix_more (released p) (host_after machine p (W p)).outputs x (outputs_begin p i)
            (ap (λ (y : Host S). slice_get y.outputs (length (released p))) (sym (s.up p i e)) ∙ o)

        begins : (h : ℕ) → h < n → Prefix (replaced released p (released p ++ (x ∷ [])) h) (host_after machine h (take (replaced rel p (length (W p)) h) (W h))).outputs
        begins h j = elim (cases_eq h p) [ inl k ↦ rw (eq-eqb h p k, k, take-length (W p)) there | inr ne ↦ rw (ne_eqb h p ne) (s.released h j) ]

    -- p takes t, the next message from q
    module _ (laws : Laws log) {p q : ℕ} {t : Message} (d : Deliverable c p q t) where
      -- the world with this receipt
      abbrev X : World
      X = put W p t

      abbrev v : Events
      v = events machine X

      -- k is the logger after what q holds was carried over to p, if q is a host
      abbrev Carried : L → Type 0
      Carried k = Sound log W rel c k × ((q ≡ outside) ⊎ ((q < n) × Carry (log.meaning l) (log.meaning k) q p))

      parts : Waits c.network p q t
      parts = waiting_parts c.network p q t d.waits

      pub carried_sound : (k : L) → Follows log (carried p q) l k → Carried k
      carried_sound k fo = elim (its_sender d) [
        | inl o ↦ (subst (Sound log W rel c) (rw (eq-eqb q outside o) at fo) s, inl o)
        | inr h ↦ (let ne : q ≡ outside → ⊥ = λ e. omega (arith, s.eight, h.0) in by h (rw (ne_eqb q outside ne) at fo))
      ]
        where
          by : (q < n) × (q ≡ p → ⊥) × (c.down q ≡ false) → Follows log (carry q p ∷ []) l k → Carried k
          by h f =
              let may : MayCarry (log.meaning l) q p = record { from_up = is_up q h.0 h.2; to_up = is_up p d.host d.up; apart = h.1 } in
              let law = laws.lawful (carry q p) l k s.ready may (subst (log.acts (carry q p) l) f.2 f.1) in
              (gained k law.0 law.1.grows (carry_keeps (log.meaning l) (log.meaning k) (events machine W) (lengths W) rel q p law.1 s.invariant), inr (h.0, law.1))

      long : length (c.network.hosts p).receipts ≡ length (W p)
      long = ap (λ (x : Host S). length x.receipts) (s.up p d.host d.up) ∙ length_receipts machine p (W p)

      waits : Next (network machine n posts W) p t
      waits = record {
        host = d.host;
        sender = rw parts.sender d.sender;
        waits = subst (λ (x : ℕ). waiting (network machine n posts W) p x ≡ Some t) (sym parts.sender)
            (sym (waiting_by_hosts c.network (network machine n posts W) p q refl (s.up p d.host d.up) (elim (its_sender d) [ inl o ↦ inl o | inr h ↦ inr (s.up q h.0 h.2) ]))
            ∙ d.waits);
      }

      last : slice_get (X p) (length (W p)) ≡ Some t
      last = rw (put_same W p t) (nth_last (W p) t)

      grows : Updated (lengths W) (lengths X) p (suc (length (W p)))
      grows = record { there = rw (put_same W p t, length-append (W p) (t ∷ [])) (omega arith); elsewhere = λ h ne. ap length (put_other W p t h ne) }

      new_at : next v (lengths W) p ≡ determinant p (suc (length (W p))) q (received c.network p q + 1)
      new_at = at_is machine X p (length (W p)) t last ∙ (λ i. determinant p (suc (length (W p))) (parts.sender i) (parts.ssn i))

      sender_is : (next v (lengths W) p).sender ≡ q
      sender_is = ap (λ (e : Determinant). e.sender) new_at

      agrees : Agree (log.meaning l).n (lengths W) (events machine W) v
      agrees = rw s.same_n (agree machine n posts s.reached X (grown_put W p t))

      before : Invariant (log.meaning l) v (lengths W) rel
      before = agree_keeps (log.meaning l) (events machine W) v (lengths W) rel agrees s.invariant

      noted : (m : L) → log.acts (note p (next_determinant c p q)) l m → log.ready m × Note (log.meaning l) (log.meaning m) p (next v (lengths W) p)
      noted m a = laws.lawful (note p (next v (lengths W) p)) l m s.ready may (subst (λ (e : Determinant). log.acts (note p e) l m) new_is a)
        where
          new_is : next_determinant c p q ≡ next v (lengths W) p
          new_is = rw (long, add-one (length (W p))) (sym new_at)

          range : InRange (next v (lengths W) p)
          range = rw new_at (record {
            receiver = omega (arith, d.host, s.eight);
            number_low = omega arith;
            number_high = omega (arith, long, d.room);
            sender = elim (its_sender d) [ inl o ↦ omega arith | inr h ↦ omega (arith, h.0, s.eight) ];
            ssn_low = omega arith;
            ssn_high = omega (arith, count_from_low q (c.network.hosts p).receipts, d.room);
          })

          may : MayNote (log.meaning l) p (next v (lengths W) p)
          may =
              may_note_next (log.meaning l) v (lengths W) rel p before (is_up p d.host d.up) refl refl range
              (rw (sender_is, s.same_n) (elim (its_sender d) [ inl o ↦ inl o | inr h ↦ inr h.0 ]))

      -- all but the logger's invariant
      took : (m : L) → log.ready m → Grows (log.meaning l) (log.meaning m) → Invariant (log.meaning m) v (lengths X) rel → Sound log X rel (with_network c (takes c.network p (Some t))) m
      took m ok g inv = record {
        ready = ok;
        eight = s.eight;
        same_n = g.same_n ∙ s.same_n;
        same_f = g.same_f ∙ s.same_f;
        same_down = λ h. g.same_down h ∙ s.same_down h;
        reached = taken s.reached waits;
        room = put_room 64 W p t s.room (omega (arith, long, d.room));
        up = λ h i e. elim (cases_eq h p) [
          | inl j ↦ rw (eq-eqb h p j, j) (ap (λ (x : Host S). taking machine p x t) (s.up p d.host d.up) ∙ sym (host_snoc machine p (W p) t))
          | inr ne ↦ rw (ne_eqb h p ne) (s.up h i e)
        ];
        invariant = inv;
        replayable = replayable_grows (log.meaning l) (log.meaning m) v (lengths W) (lengths X) g (λ h y. grows.elsewhere h (λ j. grind (arith, s.same_down h, d.up)))
            (replayable_agrees (log.meaning l) (events machine W) v (lengths W) agrees s.replayable);
        few = few_grows (log.meaning l) (log.meaning m) g s.few;
        released = λ h i. rw ((grown_put W p t h).1, take-append-le (rel h) (W h) (grown_put W p t h).0 (s.invariant.released_within h (rw s.same_n i))) (s.released h i);
      }

      from_outside : q ≡ outside → FromOutside (log.meaning l).n v (lengths W) p
      from_outside o = record { number = refl; sender = rw (sender_is, o, s.same_n) s.eight }

      -- q made it in one of its receipts
      from_host : q < n → FromHost v (lengths W) q p
      from_host i =
          let sent = (next_waits machine n posts W p t waits).sent in
          let made : v.made p (suc (length (W p))) ≡ made_in machine W t.sender p t.ssn =
          made_at machine X p (length (W p)) t last ∙ made_grown machine n posts W X t.sender p t.ssn t.body (grown_put W p t t.sender) sent in
          let bounds = made_bounds machine n posts W t.sender p t.ssn t.body (λ o. omega (arith, parts.sender, s.eight)) sent in
          record {
            number = refl;
            sender = sender_is;
            made_low = rw made bounds.0;
            made_high = subst (λ (x : ℕ). v.made p (suc (length (W p))) ≤ length (W x)) parts.sender (rw made bounds.1);
          }

  pub deliver_sound : {W : World} {rel : ℕ → ℕ} {c : Cluster S} {l : L} → Sound log W rel c l → Laws log → {p q : ℕ} {t : Message} → Deliverable c p q t → (m : L) → Follows log (delivered c p q) l m
      → Sound log (put W p t) rel (with_network c (takes c.network p (Some t))) m
  deliver_sound {W} {rel} {c} {l} s laws {p} {q} {t} d m fo =
      let f = follows_append log (carried p q) (note p (next_determinant c p q) ∷ []) l m fo in
      let w = carried_sound s laws d f.0 f.1 in
      let s₁ = w.0 in
      let law = noted s₁ laws d m (subst (log.acts (note p (next_determinant c p q)) f.0) f.2.2 f.2.1) in
      let v = events c.network.machine (put W p t) in
      took s₁ laws d m law.0 law.1.grows (elim w.1 [
        | inl o ↦ outside_keeps (log.meaning f.0) (log.meaning m) v (lengths W) (lengths (put W p t)) rel p law.1 (before s₁ laws d) (from_outside s₁ laws d o) (grows s laws d)
        | inr h ↦ receive_keeps (log.meaning l) (log.meaning f.0) (log.meaning m) v (lengths W) (lengths (put W p t)) rel q p h.1 law.1 (before s laws d) (from_host s laws d h.0) (grows s laws d)
      ])
