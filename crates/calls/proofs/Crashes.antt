-- A crash that leaves at most f hosts down keeps the cluster sound.
use Rattle.std.proofs.Common.{◌≡◌, ℕ, suc, ◌<◌, ◌≤◌, Bool, true, false, cond, eqb, length, take, refl, ap, ◌∙◌, inl, inr, arith, length-take, take_all, take-take}
use mathlib.Core.Path.{fun_ext}
use Rattle.std.proofs.lemmas.Bool.{cases_eq, eq-eqb, ne_eqb, leb-true}
use Rattle.workload.specs.Machine.{Machine, replaced}
use Rattle.network.specs.Host.{Host, fresh}
use Rattle.network.specs.Network.{with_host}
use Rattle.network.specs.World.{World, cut, Reached, Closed}
use Rattle.network.proofs.Origins.{made_at}
use Rattle.network.proofs.Reached.{entry, closed_exactly}
use Rattle.network.proofs.Worlds.{grown_cut}
use Rattle.logger.specs.declared.determinant.Determinant.{Determinant}
use Rattle.logger.specs.declared.logger.Logger as logger
use Rattle.logger.specs.Clauses.{Lose}
use Rattle.logger.specs.Invariant.{Left, Agree}
use Rattle.logger.specs.Meaning.{down_count, count}
use Rattle.logger.specs.Operation.{lose}
use Rattle.logger.specs.Theorems.{AfterCrash}
use Rattle.logger.proofs.Crashing.{lose_keeps, leaves_some}
use Rattle.logger.proofs.Growing.{agree_keeps}
use Rattle.logger.proofs.Running.{replayable_agrees}
use Rattle.calls.specs.Cluster.{Cluster, with_network, crashed}
use Rattle.calls.specs.Guarantee.{events, lengths}
use Rattle.calls.proofs.Events.{agree_sym, at_is, agree}
use Rattle.calls.proofs.Keeps.{is_up}
use Rattle.calls.specs.Sound.{Sound}
use Rattle.calls.proofs.Laws.{Laws}

-- a host that is up after p crashed is another, and was up
pub still_up : (down : ℕ → Bool) (p h : ℕ) → replaced down p true h ≡ false → (h ≡ p → ⊥) × (down h ≡ false)
still_up down p h e = elim (cases_eq h p) [
  | inl i ↦ absurd (let z : true ≡ false = rw (eq-eqb h p i) at e in grind arith)
  | inr ne ↦ (ne, rw (ne_eqb h p ne) at e)
]

module _ {L S : Type 0} {log : logger.Ghosts L} {W : World} {rel : ℕ → ℕ} {c : Cluster S} {l : L} (s : Sound log W rel c l) (laws : Laws log) (p : ℕ) (host : p < c.network.n) (up : c.down p ≡ false)
    (m : L) (a : log.acts (lose p) l m) (whole : (crashed c p).whole ≡ true) where
  abbrev machine : Machine S
  machine = c.network.machine

  abbrev n : ℕ
  n = c.network.n

  law : log.ready m × Lose (log.meaning l) (log.meaning m) p
  law = laws.lawful (lose p) l m s.ready (is_up s p host up) a

  same_n : (log.meaning m).n ≡ n
  same_n = law.1.same_n ∙ s.same_n

  same_f : (log.meaning m).f ≡ c.f
  same_f = law.1.same_f ∙ s.same_f

  same_down : (h : ℕ) → (log.meaning m).down h ≡ replaced c.down p true h
  same_down h = elim (cases_eq h p) [
    | inl i ↦ rw (eq-eqb h p i, i) law.1.falls
    | inr ne ↦ rw (ne_eqb h p ne) (law.1.same_down h ne ∙ s.same_down h)
  ]

  few : down_count (log.meaning m) ≤ (log.meaning m).f
  few = rw (fun_ext same_down, same_n, same_f) (leb-true (count n (replaced c.down p true)) c.f whole)

  -- what the targets leave of the world
  module _ (v : ℕ → ℕ) (left : Left (log.meaning m) (lengths W) v) (low : (q : ℕ) → v q ≤ length (W q)) where
    kept : AfterCrash (log.meaning m) (events machine W) (lengths W) v rel
    kept = lose_keeps (log.meaning l) (log.meaning m) (events machine W) (lengths W) v rel p law.1 s.invariant few left

    closed : Closed machine n c.network.posts W v
    closed q k t lt e i =
        let is = at_is machine W q k t e in
        let host : q < (log.meaning m).n = rw same_n (entry machine n c.network.posts s.reached q k t e).host in
        let sender : ((events machine W).at q (suc k)).sender ≡ t.sender = ap (λ (d : Determinant). d.sender) is in
        let w = (kept.keeps.well_formed.made q (suc k) (record { host = host; low = omega arith; high = lt }) (rw (sender, same_n) i)).high in
        rw (made_at machine W q k t e, sender) at w

    remains : Reached machine n c.network.posts (cut W v)
    remains = (closed_exactly machine n c.network.posts s.reached v).0 closed

    long : lengths (cut W v) ≡ v
    long = fun_ext (λ h. length-take (v h) (W h) ∙ omega (arith, low h))

    agrees : Agree (log.meaning m).n v (events machine W) (events machine (cut W v))
    agrees = rw same_n (agree_sym n v (events machine (cut W v)) (events machine W) (rw long at (agree machine n c.network.posts remains W (grown_cut W v))))

    after : Sound log (cut W v) rel (crashed c p) m
    after = record {
      ready = law.0;
      eight = s.eight;
      same_n = same_n;
      same_f = same_f;
      same_down = same_down;
      reached = remains;
      room = λ h. omega (arith, length-take (v h) (W h), s.room h);
      up = λ h i e. (let u = still_up c.down p h e in
          let all : take (v h) (W h) ≡ W h = take_all (v h) (W h) (omega (arith, left.up h (rw same_n i) (same_down h ∙ e))) in
          rw (ne_eqb h p u.0, all) (s.up h i u.1));
      invariant = rw long (agree_keeps (log.meaning m) (events machine W) (events machine (cut W v)) v rel agrees kept.keeps);
      replayable = rw long (replayable_agrees (log.meaning m) (events machine W) (events machine (cut W v)) v agrees kept.replayable);
      few = few;
      released = λ h i. rw (take-take (rel h) (v h) (W h) (kept.keeps.released_within h (rw same_n i))) (s.released h i);
    }

  pub crash_sound : (X : World) × Sound log X rel (crashed c p) m
  crash_sound =
      let left = leaves_some (log.meaning l) (log.meaning m) (events machine W) (lengths W) rel p law.1 s.invariant in
      (cut W left.0, after left.0 left.1 left.2)

-- what a host takes before it crashes is lost with it
pub crash_forgets : {S : Type 0} (c : Cluster S) (p : ℕ) (x : Host S) → crashed (with_network c (with_host c.network p x)) p ≡ crashed c p
crash_forgets {S} c p x = ap (λ (hosts : ℕ → Host S). record {
  network = record { n = c.network.n; machine = c.network.machine; hosts = hosts; posts = c.network.posts; released = c.network.released };
  f = c.f;
  whole = (crashed c p).whole;
  down = (crashed c p).down;
}) (fun_ext (λ h. twice (eqb h p) (fresh c.network.machine p) x (c.network.hosts h)))
  where
    twice : {A : Type 0} (b : Bool) (x y z : A) → cond b x (cond b y z) ≡ cond b x z
    twice true x y z = refl
    twice false x y z = refl
