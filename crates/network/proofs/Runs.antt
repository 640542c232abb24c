-- Crash-free runs, and the worlds that they come to.
use Rattle.std.proofs.Common.{◌≡◌, ℕ, ◌+◌, ◌<◌, ◌≤◌, true, ◌↔◌, List, [], ◌∷◌, ◌++◌, length, is_some, is_ok, Ok, Result, sym, refl, ap, ◌∙◌, inl, inr, append_assoc, append-nil, le_trans, arith, length-append}
use Rattle.std.proofs.lemmas.Bool.{lt-ltb, ltb-true, eq-eqb, ne_eqb, cases_eq}
use Rattle.workload.specs.Machine.{Machine, replaced}
use Rattle.network.specs.declared.message.Message.{Message}
use Rattle.network.specs.declared.refusal.Refusal.{Refusal}
use Rattle.network.specs.Host.{Host, taking}
use Rattle.network.specs.Network.{Network, bodies_to, received, waiting, with_post, with_host, takes, posting, delivering, started, host_check, post_check, pair_checks, message_checks}
use Rattle.network.specs.Run.{Feed, after, AllAccepted, crash_free, Valid}
use Rattle.network.specs.World.{World, nothing, put, host_after, network, Next, Reached, start, taken}
use Rattle.network.proofs.Checked.{accepted, accepted_parts}
use Rattle.network.proofs.Histories.{bodies_to_append, host_snoc, length_receipts}
use Rattle.network.proofs.Places.{some_from}
use Rattle.network.proofs.Messages.{waiting_parts}
use Rattle.network.proofs.Worlds.{put_same, put_room, grown_put, grown_length}

module _ {S : Type 0} (feed : Feed S) where
  pub after_append : (v : Network S) (xs ys : List (ℕ × ℕ)) → after feed v (xs ++ ys) ≡ after feed (after feed v xs) ys
  after_append v [] ys = refl
  after_append v (x ∷ xs) ys = after_append (feed v x.0 x.1).1 xs ys

  pub accepted_append : (v : Network S) (xs ys : List (ℕ × ℕ)) → AllAccepted feed v xs → AllAccepted feed (after feed v xs) ys → AllAccepted feed v (xs ++ ys)
  accepted_append v [] ys a b = b
  accepted_append v (x ∷ xs) ys a b = (a.0, accepted_append (feed v x.0 x.1).1 xs ys a.1 b)

-- one number more for p
pub added_at : (g : ℕ → List ℕ) (p b h : ℕ) → replaced g p (g p ++ (b ∷ [])) h ≡ g h ++ bodies_to h ((p, b) ∷ [])
added_at g p b h = elim (cases_eq h p) [
  | inl i ↦ rw (eq-eqb h p i, eq-eqb p h (sym i), ap g i)
  | inr ne ↦ rw (ne_eqb h p ne, ne_eqb p h (λ i. ne (sym i)), append-nil)
]

module _ {S : Type 0} where
  abbrev with_posts : Network S → List (ℕ × ℕ) → Network S
  with_posts v xs = record { n = v.n; machine = v.machine; hosts = v.hosts; posts = λ h. v.posts h ++ bodies_to h xs; released = v.released }

  -- posts that are accepted are added, and nothing else changes
  posts_added : (v : Network S) (xs : List (ℕ × ℕ)) → AllAccepted posting v xs → after posting v xs ≡ with_posts v xs
  posts_added v [] a = λ i. record { n = v.n; machine = v.machine; hosts = v.hosts; posts = λ h. sym (append-nil (v.posts h)) i; released = v.released }
  posts_added v (x ∷ xs) a =
      posts_added (posting v x.0 x.1).1 xs a.1
      ∙ ap (λ (r : Result ℕ Refusal × Network S). with_posts r.1 xs) (accepted_parts (host_check v x.0 ∷ post_check v x.0 ∷ []) v _ (with_post v x.0 x.1) a.0).1
      ∙ (λ i. record { n = v.n; machine = v.machine; hosts = v.hosts; posts = λ h. one_more h i; released = v.released })
    where
      one_more : (h : ℕ) → replaced v.posts x.0 (v.posts x.0 ++ (x.1 ∷ [])) h ++ bodies_to h xs ≡ v.posts h ++ bodies_to h (x ∷ xs)
      one_more h =
          ap (λ (ys : List ℕ). ys ++ bodies_to h xs) (added_at v.posts x.0 x.1 h) ∙ append_assoc (v.posts h) (bodies_to h (x ∷ [])) (bodies_to h xs)
          ∙ ap (λ (ys : List ℕ). v.posts h ++ ys) (sym (bodies_to_append h (x ∷ []) xs))

replaced_at : {A B : Type 0} (f : ℕ → A → B) (g : ℕ → A) (p : ℕ) (x : A) (h : ℕ) → replaced (λ k. f k (g k)) p (f p x) h ≡ f h (replaced g p x h)
replaced_at f g p x h = elim (cases_eq h p) [ inl i ↦ rw (eq-eqb h p i) (ap (λ (k : ℕ). f k x) (sym i)) | inr ne ↦ rw (ne_eqb h p ne) ]

module _ {S : Type 0} (m : Machine S) (n : ℕ) where
  pub posted : (posts : List (ℕ × ℕ)) → AllAccepted posting (started m n) posts → after posting (started m n) posts ≡ network m n (λ h. bodies_to h posts) nothing
  posted posts a = posts_added (started m n) posts a

  -- one post more, to a host that has room for it
  pub accepts_post : (posts : List (ℕ × ℕ)) (p b : ℕ) → AllAccepted posting (started m n) posts → p < n → length (bodies_to p posts) < 64
      → AllAccepted posting (started m n) (posts ++ ((p, b) ∷ []))
  accepts_post posts p b a l few =
      accepted_append posting (started m n) posts ((p, b) ∷ []) a
      (rw (posted posts a) (ap (λ (r : Result ℕ Refusal × Network S). is_ok r.0) (accepted (let v = network m n (λ h. bodies_to h posts) nothing in host_check v p ∷ post_check v p ∷ []) _ _ _ (lt-ltb p n l, (lt-ltb _ 64 few, tt))), tt))

  module _ (posts : ℕ → List ℕ) where
    -- the network of a world in which p took t
    pub network_put : (W : World) (p : ℕ) (t : Message) → with_host (network m n posts W) p (taking m p (host_after m p (W p)) t) ≡ network m n posts (put W p t)
    network_put W p t = λ i. record { n = n; machine = m; hosts = λ h. at h i; posts = posts; released = λ h. [] }
      where
        at : (h : ℕ) → replaced (λ h. host_after m h (W h)) p (taking m p (host_after m p (W p)) t) h ≡ host_after m h (put W p t h)
        at h = ap (λ (x : Host S). replaced (λ h. host_after m h (W h)) p x h) (sym (host_snoc m p (W p) t)) ∙ replaced_at (host_after m) W p (W p ++ (t ∷ [])) h

    -- a message that waits is taken, where there is room
    pub delivers : (W : World) (p : ℕ) (t : Message) → Next (network m n posts W) p t → length (W p) < 64
        → delivering (network m n posts W) p t.sender ≡ (Ok (received (network m n posts W) p t.sender + 1), network m n posts (put W p t))
    delivers W p t N few =
        let v = network m n posts W in
        accepted (pair_checks v p t.sender ++ message_checks v p t.sender) v (received v p t.sender + 1) (takes v p (waiting v p t.sender))
        (lt-ltb p n N.host, (N.sender, (ap is_some N.waits, (lt-ltb _ 64 (rw (length_receipts m p (W p)) few), tt))))
        ∙ ap (λ (w : Network S). (Ok (received v p t.sender + 1), w)) (ap (takes v p) N.waits ∙ network_put W p t)

    -- What an accepted delivery took.
    pub record Delivered (W : World) (p s : ℕ) : Type 0 where
      pub took : Message
      pub waited : Next (network m n posts W) p took
      pub room : length (W p) < 64
      pub left : (delivering (network m n posts W) p s).1 ≡ network m n posts (put W p took)

    pub delivered : (W : World) (p s : ℕ) → is_ok (delivering (network m n posts W) p s).0 ≡ true → Delivered W p s
    delivered W p s e =
        let v = network m n posts W in
        let a = (accepted_parts (pair_checks v p s ++ message_checks v p s) v (received v p s + 1) (takes v p (waiting v p s)) e).0 in
        let t = some_from (waiting v p s) a.1.1.0 in
        let is : t.0.sender ≡ s = (waiting_parts v p s t.0 t.1).sender in
        let next : Next v p t.0 = record { host = ltb-true p n a.0; sender = rw is a.1.0; waits = rw is t.1 } in
        let room : length (W p) < 64 = rw (length_receipts m p (W p)) at (ltb-true _ 64 a.1.1.1.0) in
        record {
          took = t.0;
          waited = next;
          room = room;
          left = ap (λ (k : ℕ). (delivering v p k).1) (sym is) ∙ ap (λ (r : Result ℕ Refusal × Network S). r.1) (delivers W p t.0 next room);
        }

    -- a run, and the world that it comes to
    abbrev ComesTo : Network S → Type 0
    ComesTo v = (X : World) × Reached m n posts X × ((h : ℕ) → length (X h) ≤ 64) × (network m n posts X ≡ v)

    pub run_reaches : (pairs : List (ℕ × ℕ)) (W : World) → Reached m n posts W → ((h : ℕ) → length (W h) ≤ 64) → AllAccepted delivering (network m n posts W) pairs
        → ComesTo (after delivering (network m n posts W) pairs)
    run_reaches [] W R few a = (W, R, few, refl)
    run_reaches (x ∷ pairs) W R few a =
        let d = delivered W x.0 x.1 a.0 in
        rw d.left (run_reaches pairs (put W x.0 d.took) (taken R d.waited) (put_room 64 W x.0 d.took few d.room) (rw d.left at a.1))

    pub reached_runs : {W : World} → Reached m n posts W → ((h : ℕ) → length (W h) ≤ 64)
        → (pairs : List (ℕ × ℕ)) × AllAccepted delivering (network m n posts nothing) pairs × (after delivering (network m n posts nothing) pairs ≡ network m n posts W)
    reached_runs start few = ([], tt, refl)
    reached_runs (taken {W} {p} {t} R N) few =
        let r = reached_runs R (λ h. le_trans (grown_length W (put W p t) h (grown_put W p t)) (few h)) in
        let room : length (W p) < 64 = let l : length (W p ++ (t ∷ [])) ≤ 64 = rw (put_same W p t) at (few p) in omega (arith, length-append (W p) (t ∷ [])) in
        let last = delivers W p t N room in (
          r.0 ++ ((p, t.sender) ∷ []),
          accepted_append delivering (network m n posts nothing) r.0 ((p, t.sender) ∷ []) r.1 (rw (r.2, last) (refl, tt)),
          after_append delivering (network m n posts nothing) r.0 ((p, t.sender) ∷ []) ∙ rw r.2 (ap (λ (x : Result ℕ Refusal × Network S). x.1) last),
        )

  pub ends : (posts : List (ℕ × ℕ)) → AllAccepted posting (started m n) posts → (v : Network S)
      → ((pairs : List (ℕ × ℕ)) × Valid m n posts pairs × (crash_free m n posts pairs ≡ v)) ↔ ComesTo (λ h. bodies_to h posts) v
  ends posts a v = (there, back)
    where
      there : ((pairs : List (ℕ × ℕ)) × Valid m n posts pairs × (crash_free m n posts pairs ≡ v)) → ComesTo (λ h. bodies_to h posts) v
      there r =
          let w = run_reaches (λ h. bodies_to h posts) r.0 nothing start (λ h. omega arith) (rw (posted posts a) at r.1.1) in
          (w.0, w.1, w.2, w.3 ∙ ap (λ (u : Network S). after delivering u r.0) (sym (posted posts a)) ∙ r.2)

      back : ComesTo (λ h. bodies_to h posts) v → (pairs : List (ℕ × ℕ)) × Valid m n posts pairs × (crash_free m n posts pairs ≡ v)
      back r =
          let w = reached_runs (λ h. bodies_to h posts) r.1 r.2 in
          (w.0, (a, rw (posted posts a) w.1), ap (λ (u : Network S). after delivering u w.0) (posted posts a) ∙ w.2 ∙ r.3)
