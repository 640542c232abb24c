-- The recovery guarantee.
use Rattle.std.proofs.Common.{◌≡◌, ℕ, zero, suc, ◌<◌, ◌≤◌, Bool, true, false, cond, List, [], ◌∷◌, ◌++◌, length, Ok, Result, sym, refl, ap, ◌∙◌, subst, arith}
use mathlib.Core.Path.{fun_ext}
use native.Mathlib.Decide.{ℕ_discrete}
use Rattle.std.proofs.lemmas.Bool.{lt-ltb}
use Rattle.workload.specs.Machine.{Machine}
use Rattle.network.specs.declared.refusal.Refusal.{Refusal}
use Rattle.network.specs.Checks.{unless_refused}
use Rattle.network.specs.Host.{Host}
use Rattle.network.specs.Network.{Network, bodies_to, posting, started}
use Rattle.network.specs.Run.{crash_free, Valid, AllAccepted}
use Rattle.network.specs.World.{World, nothing, host_after, network, Reached}
use Rattle.network.proofs.Checked.{pass_checked}
use Rattle.network.proofs.Histories.{length_receipts}
use Rattle.network.proofs.Runs.{ends}
use Rattle.logger.specs.Clauses.{Sizes}
use Rattle.logger.specs.declared.logger.Logger as logger
use Rattle.logger.specs.Meaning.{count}
use Rattle.logger.proofs.Covering.{no_orphans}
use Rattle.calls.specs.declared.call.Call.TheVariants.{Recover}
use Rattle.calls.specs.declared.call.Made.{Made}
use Rattle.calls.specs.Cluster.{Cluster, down_count, opened}
use Rattle.calls.specs.Recovery.{total}
use Rattle.calls.specs.Calls.{Answer, checks, recovered, System, outcome}
use Rattle.calls.specs.Trace.{posts_of, releases_of, Trace, opens, then, Within}
use Rattle.calls.specs.Guarantee.{events, lengths, AsCrashFree, Behind, Recovers, Holds, Guarantee, Guaranteed, WholeIsWithin}
use Rattle.calls.specs.Sound.{Sound, Sounds}
use Rattle.calls.proofs.Laws.{Laws}
use Rattle.calls.proofs.Keeps.{open_sound, outputs_begin}
use Rattle.calls.proofs.Recovers.{target_is, found_is}
use Rattle.calls.proofs.Accepts.{back, recovered_is}
use Rattle.calls.proofs.Observes.{Outline, Observed, nothing_observed, observed_more}
use Rattle.calls.proofs.Steps.{was_whole, kept, stays_whole}

count_some : (n : ℕ) (P : ℕ → Bool) (h : ℕ) → h < n → P h ≡ true → 0 < count n P
count_some zero P h l e = absurd (omega arith)
count_some (suc n) P h l e = let ih = count_some n P h in grind (arith, ℕ_discrete h n)

few_down : {L S : Type 0} {log : logger.Ghosts L} {W : World} {rel : ℕ → ℕ} {c : Cluster S} {l : L} → Sound log W rel c l → down_count c ≤ c.f
few_down s = rw (s.same_n, s.same_f, fun_ext s.same_down) at s.few

module _ {L S : Type 0} (log : logger.Ghosts L) (laws : Laws log) where
  -- AFTER THE CALLS of t
  module _ (t : List Made) (a : System S L) (W : World) (rel : ℕ → ℕ) (s : Sound log W rel a.cluster a.logger) (whole : a.cluster.whole ≡ true)
      (posts : a.cluster.network.posts ≡ (λ (h : ℕ). bodies_to h (posts_of t))) (released : a.cluster.network.released ≡ (λ (h : ℕ). bodies_to h (releases_of t)))
      (fed : AllAccepted posting (started a.cluster.network.machine a.cluster.network.n) (posts_of t)) where
    abbrev c : Cluster S
    c = a.cluster

    abbrev m : Machine S
    m = c.network.machine

    abbrev n : ℕ
    n = c.network.n

    run : (pairs : List (ℕ × ℕ)) × Valid m n (posts_of t) pairs × (crash_free m n (posts_of t) pairs ≡ network m n (λ h. bodies_to h (posts_of t)) W)
    run = (ends m n (posts_of t) fed (network m n (λ h. bodies_to h (posts_of t)) W)).1 (W, subst (λ (g : ℕ → List ℕ). Reached m n g W) posts s.reached, s.room, refl)

    as_crash_free : AsCrashFree log m n c.f t a run.0
    as_crash_free = record {
      valid = run.1;
      up = λ h i e. s.up h i e ∙ sym (same h);
      released = λ h i. (let p = outputs_begin s h i in
          (p.0, ap (λ (x : Host S). x.outputs) (same h) ∙ p.1 ∙ ap (λ (g : ℕ → List ℕ). g h ++ p.0) released));
    }
      where
        same : (h : ℕ) → (crash_free m n (posts_of t) run.0).hosts h ≡ host_after m h (W h)
        same h = ap (λ (v : Network S). v.hosts h) run.2

    behind : Behind log m n c.f t a run.0 W
    behind = record { run = run.2; target = λ h i e. sym (target_is log laws W rel c a.logger s h i e); found = found_is log laws W rel c a.logger s }

    recovers : (h : ℕ) → h < n → c.down h ≡ true → Recovers log m n c.f a (outcome log a Recover).0 (outcome log a Recover).1
    recovers h i e = subst (λ (y : Answer × Cluster S). Recovers log m n c.f a y.0 y.1) (sym outcome_is) (record {
      count = total n (λ h. cond (c.down h) (length (W h)) 0);
      accepted = refl;
      all_up = λ h. refl;
      at_target = λ h i e. rw e (length_receipts m h (W h) ∙ sym (target_is log laws W rel c a.logger s h i e));
      counted = ap (total n) (fun_ext (λ h. counts h (c.down h)));
    })
      where
        outcome_is : outcome log a Recover ≡ (Ok (total n (λ h. cond (c.down h) (length (W h)) 0)), back s laws)
        outcome_is =
            ap (λ (r : Result (Unit {0}) Refusal). unless_refused r c (recovered (log.found a.logger) c))
            (pass_checked (checks c Recover) (whole, (lt-ltb 0 (down_count c) (count_some n c.down h i e), tt)))
            ∙ recovered_is s laws

        counts : (h : ℕ) (d : Bool) → cond d (length (W h)) 0 ≡ cond d (length (cond d (host_after m h (W h)) (c.network.hosts h)).receipts) 0
        counts h true = sym (length_receipts m h (W h))
        counts h false = refl

    holds : Holds log m n c.f t a
    holds = record {
      pairs = run.0;
      as_crash_free = as_crash_free;
      recovers = recovers;
      world = W;
      behind = behind;
      agrees = record { hosts = s.same_n; bound = s.same_f; down = s.same_down };
      no_orphans = no_orphans (log.meaning a.logger) (events m W) (lengths W) rel s.invariant;
    }

  -- WHOLE TRACES
  module _ (m : Machine S) (n f : ℕ) (z : Sizes n f) where
    record Good {t : List Made} {a : System S L} (T : Trace log m n f t a) : Type 0 where
      observed : Observed m n f t a.cluster
      sounds : Sounds log a.cluster a.logger
      guarantee : Guarantee log m n f T

    so_holds : (t : List Made) (a : System S L) → Observed m n f t a.cluster → Sounds log a.cluster a.logger → a.cluster.whole ≡ true → Holds log m n f t a
    so_holds t a b s w =
        subst (λ (o : Outline S). Holds log o.machine o.n o.f t a) b.is
        (holds t a s.0 s.1 s.2 w (ap (λ (o : Outline S). o.posts) b.is) (ap (λ (o : Outline S). o.released) b.is)
        (subst (λ (o : Outline S). AllAccepted posting (started o.machine o.n) (posts_of t)) (sym b.is) b.posts))

    good : {t : List Made} {a : System S L} (T : Trace log m n f t a) → a.cluster.whole ≡ true → Good T
    good (opens {l = l} {l' = k} x) w =
        let b = nothing_observed m n f (opened m n f) refl in
        let s : Sounds log (opened m n f) k = (nothing, λ h. 0, open_sound laws m n f l k z x) in
        record { observed = b; sounds = s; guarantee = so_holds [] _ b s w }
    good (then {t = t} {a = a} {b = b} {x = x} T k) w =
        let old = good T (was_whole k w) in
        let now = kept k laws old.sounds w in
        let o = observed_more m n f t x a.cluster b.cluster old.observed now.adds now.room in
        record {
          observed = o;
          sounds = now.sounds;
          guarantee = (old.guarantee, λ d h i. now.spares d h, so_holds (t ++ (x ∷ [])) b o now.sounds w);
        }

    same_bound : {t : List Made} {c : Cluster S} → Observed m n f t c → c.f ≡ f
    same_bound b = ap (λ (o : Outline S). o.f) b.is

    within_whole : {t : List Made} {a : System S L} (T : Trace log m n f t a) → Within log m n f T → a.cluster.whole ≡ true
    within_whole (opens x) few = refl
    within_whole (then T k) few =
        let w = within_whole T few.0 in
        let old = good T w in
        stays_whole k laws old.sounds w (rw (same_bound old.observed) few.1)

    whole_within : {t : List Made} {a : System S L} (T : Trace log m n f t a) → a.cluster.whole ≡ true → Within log m n f T
    whole_within (opens x) w = tt
    whole_within (then {b = b} T k) w =
        let now = good (then T k) w in
        (whole_within T (was_whole k w), rw (same_bound now.observed) at (few_down now.sounds.2))

  pub whole_is_within : (machine : ℕ → Machine S) → WholeIsWithin log machine
  whole_is_within machine n f z t a T = (whole_within (machine n) n f z T, within_whole (machine n) n f z T)

  pub guaranteed : (machine : ℕ → Machine S) → Guaranteed log machine
  guaranteed machine n f z t a T few = (good (machine n) n f z T (within_whole (machine n) n f z T few)).guarantee
