-- The worlds that crash-free runs come to: their messages, their cuts, and how hosts come back to them.
use Rattle.std.proofs.Common.{◌≡◌, ℕ, ◌<◌, ◌≤◌, ◌↔◌, List, [], ◌∷◌, ◌++◌, map, length, take, Some, sym, ap, ◌∙◌, subst, inl, inr, arith, length-append, take_all}
use mathlib.Core.Path.{fun_ext}
use native.Mathlib.Decide.{dec_lt}
use lib.Seq.{take-nil}
use Rattle.std.proofs.lemmas.Bool.{eq-eqb}
use Rattle.std.specs.List.{slice_get}
use Rattle.workload.specs.Machine.{Machine}
use Rattle.network.specs.declared.message.Message.{Message}
use Rattle.network.specs.declared.message.Receipt.{Receipt}
use Rattle.network.specs.Host.{receipt_of}
use Rattle.network.specs.Network.{Network, outside, waiting}
use Rattle.network.specs.World.{World, put, cut, network, made_in, Next, Reached, start, taken, Closed}
use Rattle.network.specs.Theorems.{Prefix, message, Entry, Ready}
use Rattle.network.proofs.Places.{none_some, some_same, nth_last, nth_take, nth_map, nth_same, prefix_itself}
use Rattle.network.proofs.Histories.{receipts_are, length_receipts}
use Rattle.network.proofs.Worlds.{put_is, put_same, put_nth, grown_put, grown_cut, grown_cuts, Grown, nth_grown, cut_short, cut_all}
use Rattle.network.proofs.Messages.{sender_cases, waiting_parts, next_waits, next_from, message_stays, message_grown}
use Rattle.network.proofs.Made.{made_within, made_grown}

-- more posts keep every world
pub more_posts :
    {S : Type 0} (m : Machine S) (n : ℕ) (posts posts' : ℕ → List ℕ) → ((h : ℕ) → Prefix (posts h) (posts' h))
    → {W : World} → Reached m n posts W → Reached m n posts' W
more_posts m n posts posts' g start = start
more_posts m n posts posts' g (taken {W} {p} {t} R N) =
    let w = next_waits m n posts W p t N in
    taken (more_posts m n posts posts' g R)
    (next_from m n posts' W p t N.host N.sender w.ssn (message_stays m n posts posts' W W t.sender p t.ssn t.body (g p) (prefix_itself (W t.sender)) w.sent))

module _ {S : Type 0} (m : Machine S) (n : ℕ) (posts : ℕ → List ℕ) where
  pub entry : {W : World} → Reached m n posts W → (q k : ℕ) (t : Message) → slice_get (W q) k ≡ Some t → Entry m n posts W q k t
  entry start q k t e = absurd (none_some t e)
  entry (taken {W} {p} {t = a} R N) q k t e =
      let stays = message_grown m n posts W (put W p a) t.sender q t.ssn t.body (grown_put W p a t.sender) in
      elim (put_nth W p a q k t e) [
        | inl r ↦ (let E = entry R q k t r.0 in
            record { host = E.host; sender = E.sender; ssn = rw r.1 E.ssn; sent = stays E.sent })
        | inr r ↦ (let w = next_waits m n posts W p a N in record {
          host = rw r.0 N.host;
          sender = rw (r.2, r.0) N.sender;
          ssn = rw (r.1, r.2, r.0) w.ssn;
          sent = stays (rw (r.2, r.0) w.sent);
        })
      ]

  -- The message of some host right behind the cut u was sent within the cut.
  record Sent (W : World) (u : ℕ → ℕ) : Type 0 where
    host : ℕ
    next : Message
    is : slice_get (W host) (u host) ≡ Some next
    sent : message (network m n posts (cut W u)) next.sender host next.ssn ≡ Some next.body

  -- the first such message in the order of the run is one
  some_sent : {W : World} → Reached m n posts W → (u : ℕ → ℕ) (h : ℕ) → u h < length (W h) → Sent W u
  some_sent start u h l = absurd (omega arith)
  some_sent (taken {W} {p} {t} R N) u h l =
      elim (dec_lt (u h) (length (W h))) [
        | yes y ↦ lift (some_sent R u h y)
        | no all-h ↦ elim (dec_lt (u s) (length (W s))) [
          | yes y ↦ lift (some_sent R u s y)
          | no all-s ↦ elim (put_is W p t h) [ inl q ↦ here all-h all-s q | inr q ↦ absurd (all-h (rw q.1 at l)) ]
        ]
      ]
    where
      s : ℕ
      s = t.sender

      lift : Sent W u → Sent (put W p t) u
      lift r = record {
        host = r.host;
        next = r.next;
        is = nth_grown W (put W p t) r.host (u r.host) r.next (grown_put W p t) r.is;
        sent = message_grown m n posts (cut W u) (cut (put W p t) u) r.next.sender r.host r.next.ssn r.next.body (grown_cuts W (put W p t) u (grown_put W p t) r.next.sender) r.sent;
      }

      here : ¬ (u h < length (W h)) → ¬ (u s < length (W s)) → (h ≡ p) × (put W p t h ≡ W h ++ (t ∷ [])) → Sent (put W p t) u
      here all-h all-s q =
          let l₁ : u h < length (W h ++ (t ∷ [])) = rw q.1 at l in
          let at-end : u h ≡ length (W h) = omega (arith, length-append (W h) (t ∷ [])) in
          let all : take (u s) (W s) ≡ W s = take_all (u s) (W s) (omega arith) in
          let sent : message (network m n posts W) s h t.ssn ≡ Some t.body = rw q.0 (next_waits m n posts W p t N).sent in
          record {
            host = h;
            next = t;
            is = rw (q.1, at-end) (nth_last (W h) t);
            sent = message_grown m n posts W (cut (put W p t) u) s h t.ssn t.body (rw all at (grown_cuts W (put W p t) u (grown_put W p t) s)) sent;
          }

  pub progress : {W : World} → Reached m n posts W → (u : ℕ → ℕ) (h : ℕ) → u h < length (W h) → Ready m n posts W u
  progress {W} R u h l =
      let r = some_sent R u h l in
      let E = entry R r.host (u r.host) r.next r.is in
      record { host = r.host; next = r.next; is = r.is; waits = next_from m n posts (cut W u) r.host r.next E.host E.sender E.ssn r.sent }

  -- what waits at q from the sender of its next message is that message
  pub faithful : {W : World} → Reached m n posts W → (u : ℕ → ℕ) (q : ℕ) (t a : Message) → slice_get (W q) (u q) ≡ Some t
      → waiting (network m n posts (cut W u)) q t.sender ≡ Some a → a ≡ t
  faithful {W} R u q t a e f =
      let E = entry R q (u q) t e in
      let w = waiting_parts (network m n posts (cut W u)) q t.sender a f in
      let ssn : a.ssn ≡ t.ssn = w.ssn ∙ sym E.ssn in
      let sent : message (network m n posts W) t.sender q t.ssn ≡ Some a.body =
      rw ssn at (message_grown m n posts (cut W u) W t.sender q a.ssn a.body (grown_cut W u t.sender) w.sent) in
      let body : a.body ≡ t.body = some_same _ _ (sym sent ∙ E.sent) in
      λ i. record { sender = w.sender i; ssn = ssn i; body = body i }

  -- what a host took was made in the same receipt, whatever is taken later
  pub made_same : {W : World} → Reached m n posts W → (X : World) → Grown W X → (q k : ℕ) (t : Message) → slice_get (W q) k ≡ Some t
      → made_in m X t.sender q t.ssn ≡ made_in m W t.sender q t.ssn
  made_same {W} R X g q k t e = made_grown m n posts W X t.sender q t.ssn t.body (g t.sender) (entry R q k t e).sent

  pub restrict : {W : World} → Reached m n posts W → (v : ℕ → ℕ) → Closed m n posts W v → Reached m n posts (cut W v)
  restrict start v c = subst (Reached m n posts) (fun_ext (λ h. sym (take-nil (v h)))) start
  restrict (taken {W} {p} {t} R N) v c =
      let R₀ : Reached m n posts (cut W v) = restrict R v (λ q k a lt e hs. rw (made_same R (put W p t) (grown_put W p t) q k a e) at (c q k a lt (nth_grown W (put W p t) q k a (grown_put W p t) e) hs)) in
      elim (dec_lt (length (W p)) (v p)) [
        | yes y ↦ rw (cut_all W p t v y) (taken R₀ (next y (take_all (v p) (W p) (omega arith))))
        | no short ↦ rw (cut_short W p t v (omega arith)) R₀
      ]
    where
      next : length (W p) < v p → take (v p) (W p) ≡ W p → Next (network m n posts (cut W v)) p t
      next y all =
          let w = next_waits m n posts W p t N in
          let made : made_in m W t.sender p t.ssn ≤ v t.sender = elim (sender_cases (network m n posts W) p t.sender N.sender) [
            | inl o ↦ rw (eq-eqb t.sender outside o) (omega arith)
            | inr hs ↦ rw (made_grown m n posts W (put W p t) t.sender p t.ssn t.body (grown_put W p t t.sender) w.sent) at (c p (length (W p)) t y (rw (put_same W p t) (nth_last (W p) t)) hs.0)
          ] in
          next_from m n posts (cut W v) p t N.host N.sender (rw all w.ssn) ((made_within m n posts W v t.sender p t.ssn t.body).1 (w.sent, made))

  pub closed_exactly : {W : World} → Reached m n posts W → (v : ℕ → ℕ) → Closed m n posts W v ↔ Reached m n posts (cut W v)
  closed_exactly {W} R v = (
    restrict R v,
    λ C q k t lt e hs. ((made_within m n posts W v t.sender q t.ssn t.body).0 (entry C q k t (nth_take (v q) (W q) k lt ∙ e)).sent).1,
  )

  -- a network is that of one world at most
  pub one_world : {W X : World} → Reached m n posts W → Reached m n posts X → network m n posts W ≡ network m n posts X → W ≡ X
  one_world {W} {X} R C e = fun_ext (λ q. nth_same (W q) (X q) (sym (length_receipts m q (W q)) ∙ ap (λ (v : Network S). length (v.hosts q).receipts) e ∙ length_receipts m q (X q)) (at q))
    where
      at : (q k : ℕ) (t a : Message) → slice_get (W q) k ≡ Some t → slice_get (X q) k ≡ Some a → t ≡ a
      at q k t a f g =
          let receipts : map receipt_of (W q) ≡ map receipt_of (X q) = sym (receipts_are m q (W q)) ∙ ap (λ (v : Network S). (v.hosts q).receipts) e ∙ receipts_are m q (X q) in
          let same : receipt_of t ≡ receipt_of a = some_same _ _ (sym (nth_map receipt_of (W q) k t f) ∙ ap (λ (r : List Receipt). slice_get r k) receipts ∙ nth_map receipt_of (X q) k a g) in
          let sent : message (network m n posts W) t.sender q t.ssn ≡ message (network m n posts X) a.sender q a.ssn = λ i. message (e i) (same i).sender q (same i).ssn in
          let body : t.body ≡ a.body = some_same _ _ (sym (entry R q k t f).sent ∙ sent ∙ (entry C q k a g).sent) in
          λ i. record { sender = (same i).sender; ssn = (same i).ssn; body = body i }
