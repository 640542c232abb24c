-- Each accepted call keeps the cluster sound, adds to the posts and the releases what it says, and spares the hosts that stay up.
use Rattle.std.proofs.Common.{◌≡◌, ℕ, zero, suc, ◌+◌, ◌<◌, true, false, cond, List, [], ◌∷◌, ◌++◌, length, Ok, Option, unwrap_or, sym, refl, subst, append-nil, arith}
use Rattle.std.proofs.lemmas.Bool.{false≢true, ltb-true, le-leb, not-true, ne_eqb}
use Rattle.network.specs.declared.message.Message.{Message}
use Rattle.network.specs.Host.{taking}
use Rattle.network.specs.Network.{is_sender, received, waiting, takes, host_check, message_checks}
use Rattle.network.specs.World.{World}
use Rattle.network.proofs.Checked.{Pass}
use Rattle.network.proofs.Places.{some_from}
use Rattle.logger.specs.declared.determinant.Determinant.{Determinant}
use Rattle.logger.specs.declared.logger.Logger as logger
use Rattle.logger.specs.Operation.{Operation, note, spread, lose, rejoin}
use Rattle.calls.specs.declared.call.Call.{Call}
use Rattle.calls.specs.declared.call.Call.TheVariants.{Post, Deliver, Cut, Release, Crash, Recover, Show}
use Rattle.calls.specs.Cluster.{Cluster, with_network, crashed, nobody}
use Rattle.calls.specs.Recovery.{total}
use Rattle.calls.specs.Calls.{Answer, up_check, sender_check, checks, next_output, released_by, next_determinant, carried, told, begun, recovered, done, made, Follows}
use Rattle.calls.specs.Trace.{post_in, disturbs}
use Rattle.calls.specs.Sound.{Sound, Sounds}
use Rattle.calls.proofs.Laws.{Laws}
use Rattle.calls.proofs.Keeps.{Deliverable, follows_append, post_sound, release_sound, carried_sound, deliver_sound}
use Rattle.calls.proofs.Crashes.{still_up, crash_sound, crash_forgets}
use Rattle.calls.proofs.Observes.{outline, with_call, Room}
use Rattle.calls.proofs.Recovers.{returned, replayed_is, reached_all, rejoin_sound}

module _ {S : Type 0} where
  pub accepted_whole : (c : Cluster S) (call : Call) → Pass (checks c call) → c.whole ≡ true
  accepted_whole c (Post p b) k = k.1.0
  accepted_whole c (Deliver p s) k = k.1.1.0
  accepted_whole c (Cut p s i) k = k.1.1.1.0
  accepted_whole c (Release p) k = k.1.0
  accepted_whole c (Crash p) k = k.1.0
  accepted_whole c Recover k = k.0
  accepted_whole c (Show p) k = k.1.0

  crash_spares : (c : Cluster S) (p h : ℕ) → (crashed c p).down h ≡ false → (crashed c p).network.hosts h ≡ c.network.hosts h
  crash_spares c p h e = rw (ne_eqb h p (still_up c.down p h e).0)

  deliverable : (c : Cluster S) (p q : ℕ) → (host_check c.network p).0 ≡ true → is_sender c.network p q ≡ true
      → Pass (up_check c p ∷ sender_check c q ∷ message_checks c.network p q) → (t : Message) × Deliverable c p q t
  deliverable c p q h s k =
      let t = some_from (waiting c.network p q) k.1.1.0 in
      (t.0, record { host = ltb-true p c.network.n h; up = not-true _ k.0; sender = s; sender_up = k.1.0; waits = t.1; room = ltb-true _ 64 k.1.1.1.0 })

module _ {L S : Type 0} (log : logger.Ghosts L) where
  -- what a call leaves
  pub record Kept (c : Cluster S) (call : Call) (answer : Answer) (d : Cluster S) (m : L) : Type 0 where
    pub sounds : Sounds log d m
    pub adds : outline d ≡ with_call (outline c) call answer
    pub room : Room (outline c) (post_in call answer)
    pub spares : disturbs call ≡ true → (h : ℕ) → c.down h ≡ false → d.down h ≡ false → d.network.hosts h ≡ c.network.hosts h

module _ {L S : Type 0} {log : logger.Ghosts L} {W : World} {rel : ℕ → ℕ} {c : Cluster S} {l : L} (s : Sound log W rel c l) (laws : Laws log) where
  loses : (p : ℕ) → p < c.network.n → c.down p ≡ false → (m : L) → Follows log (lose p ∷ []) l m → (crashed c p).whole ≡ true → Sounds log (crashed c p) m
  loses p i e m fo w = let k = crash_sound s laws p i e m (subst (log.acts (lose p) l) fo.2 fo.1) w in (k.0, rel, k.1)

-- from point 2 on the logger is told of the whole delivery
told_all : (p s : ℕ) (d : Determinant) (i : ℕ) → told p s d (suc (suc i)) ≡ carried p s ++ (note p d ∷ [])
told_all p s d i = rw (le-leb 1 (suc (suc i)) (omega arith), le-leb 2 (suc (suc i)) (omega arith))

module _ {L S : Type 0} {log : logger.Ghosts L} {W : World} {rel : ℕ → ℕ} {c : Cluster S} {l : L} (s : Sound log W rel c l) (laws : Laws log) where
  -- a delivery that is cut at a point
  cut_sound : {p q : ℕ} {t : Message} → Deliverable c p q t → (i : ℕ) (k m : L) → Follows log (begun c p q i) l k → Follows log (lose p ∷ []) k m → (crashed c p).whole ≡ true → Sounds log (crashed c p) m
  cut_sound {p} d zero k m fo lo w = loses (subst (Sound log W rel c) fo s) laws p d.host d.up m lo w
  cut_sound {p} {q} d (suc zero) k m fo lo w =
      loses (carried_sound s laws d k (subst (λ (ops : List Operation). Follows log ops l k) (append-nil (carried p q)) fo)).0 laws p d.host d.up m lo w
  cut_sound {p} {q} {t} d (suc (suc i)) k m fo lo w =
      subst (λ (x : Cluster S). Sounds log x m) (crash_forgets c p (taking c.network.machine p (c.network.hosts p) t)) (loses (deliver_sound s laws d k (subst (λ (ops : List Operation). Follows log ops l k) (told_all p q (next_determinant c p q) i) fo)) laws p d.host d.up m lo w)

  -- what a recovery leaves
  abbrev pub back : Cluster S
  back = record { network = returned log laws W rel c l s; f = c.f; whole = c.whole; down = nobody }

  pub recovered_is : recovered (log.found l) c ≡ (Ok (total c.network.n (λ h. cond (c.down h) (length (W h)) 0)), back)
  recovered_is = rw (replayed_is log laws W rel c l s, reached_all log laws W rel c l s)

  pub accepted : (call : Call) → Pass (checks c call) → (m : L) → Follows log (made (log.found l) c call) l m → (done (log.found l) c call).1.whole ≡ true
      → Kept log c call (done (log.found l) c call).0 (done (log.found l) c call).1 m
  accepted (Post p b) k m fo w = record {
    sounds = (W, rel, subst (Sound log W rel _) fo (post_sound s p b));
    adds = refl;
    room = (ltb-true p c.network.n k.0, ltb-true _ 64 k.1.1.0);
    spares = λ d. absurd (false≢true d);
  }
  accepted (Deliver p q) k m fo w =
      let d = deliverable c p q k.0 k.1.0 k.1.1.1 in
      subst (λ (o : Option Message). Kept log c (Deliver p q) (Ok (received c.network p q + 1)) (with_network c (takes c.network p o)) m) (sym d.1.waits)
      (record { sounds = (_, rel, deliver_sound s laws d.1 m fo); adds = refl; room = tt; spares = λ d. absurd (false≢true d) })
  accepted (Cut p q i) k m fo w =
      let d = deliverable c p q k.0 k.1.0 k.1.1.1.1 in
      let f = follows_append log (begun c p q i) (lose p ∷ []) l m fo in
      record { sounds = cut_sound d.1 i f.0 m f.1 f.2 w; adds = refl; room = tt; spares = λ d h u. crash_spares c p h }
  accepted (Release p) k m fo w =
      let x = some_from (next_output c p) k.1.1.1.0 in
      subst (λ (o : Option ℕ). Kept log c (Release p) (Ok (unwrap_or o 0)) (with_network c (released_by c p o)) m) (sym x.1) (record {
        sounds = (W, _, release_sound s laws m p x.0 (ltb-true p c.network.n k.0) (not-true _ k.1.1.0) x.1 (subst (log.acts (spread p) l) fo.2 fo.1));
        adds = refl;
        room = tt;
        spares = λ d. absurd (false≢true d);
      })
  accepted (Crash p) k m fo w = record {
    sounds = loses s laws p (ltb-true p c.network.n k.0) (not-true _ k.1.1.0) m fo w;
    adds = refl;
    room = tt;
    spares = λ d h u. crash_spares c p h;
  }
  accepted Recover k m fo w =
      let f : Follows log (rejoin ∷ []) l m = rw (replayed_is log laws W rel c l s, reached_all log laws W rel c l s) at fo in
      subst (λ (x : Answer × Cluster S). Kept log c Recover x.0 x.1 m) (sym recovered_is) (record {
        sounds = (W, rel, rejoin_sound log laws W rel c l s m (subst (log.acts rejoin l) f.2 f.1));
        adds = refl;
        room = tt;
        spares = λ d h u v. rw u;
      })
  accepted (Show p) k m fo w = record { sounds = (W, rel, subst (Sound log W rel c) fo s); adds = refl; room = tt; spares = λ d. absurd (false≢true d) }
