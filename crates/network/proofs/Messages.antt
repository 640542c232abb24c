-- The messages of a world: which are sent, and which waits.
use Rattle.std.proofs.Common.{◌≡◌, ℕ, zero, suc, ◌+◌, ◌<◌, Bool, true, false, cond, eqb, ◌⊎◌, List, Some, None, Option, sym, refl, ap, ◌∙◌, inl, inr, add-one, arith}
use Rattle.std.proofs.lemmas.Bool.{eq-eqb}
use Rattle.std.specs.List.{slice_get}
use Rattle.std.specs.Option.{option_map}
use Rattle.workload.specs.Machine.{Machine}
use Rattle.network.specs.declared.message.Message.{Message}
use Rattle.network.specs.Network.{Network, outside, bodies_to, count_from, sent, received, waiting, is_sender}
use Rattle.network.specs.World.{World, network, Next}
use Rattle.network.specs.Theorems.{Prefix, message}
use Rattle.network.proofs.Places.{none_some, nth_prefix, prefix_itself}
use Rattle.network.proofs.Histories.{bodies_grow}

mapped_some : {A B : Type 0} (f : A → B) (o : Option A) (b : B) → option_map f o ≡ Some b → (a : A) × (o ≡ Some a) × (f a ≡ b)
mapped_some f None b e = absurd (none_some b e)
mapped_some f (Some a) b e = (a, refl, cc)

-- a sender is the outside world, or another host
pub sender_cases : {S : Type 0} (v : Network S) (p s : ℕ) → is_sender v p s ≡ true → (s ≡ outside) ⊎ ((s < v.n) × (s ≡ p → ⊥))
sender_cases v p s e = grind arith

module _ {S : Type 0} (v : Network S) (p : ℕ) where
  -- That t is the message from s that waits at p, part by part.
  pub record Waits (s : ℕ) (t : Message) : Type 0 where
    pub sender : t.sender ≡ s
    pub ssn : t.ssn ≡ received v p s + 1
    pub sent : message v s p t.ssn ≡ Some t.body

  pub waiting_parts : (s : ℕ) (t : Message) → waiting v p s ≡ Some t → Waits s t
  waiting_parts s t e =
      let w = mapped_some _ (slice_get (sent v s p) (received v p s)) t e in
      let ssn : t.ssn ≡ received v p s + 1 = ap (λ (x : Message). x.ssn) (sym w.2) in
      record {
        sender = ap (λ (x : Message). x.sender) (sym w.2);
        ssn = ssn;
        sent = rw (ssn, add-one) (w.1 ∙ ap (λ (x : Message). Some x.body) w.2);
      }

  pub parts_waiting : (s : ℕ) (t : Message) → Waits s t → waiting v p s ≡ Some t
  parts_waiting s t w =
      let sent : slice_get (sent v s p) (received v p s) ≡ Some t.body = rw (w.ssn, add-one) at w.sent in
      rw sent (λ i. Some (record { sender = sym w.sender i; ssn = sym w.ssn i; body = t.body }))

-- what waits at p from s depends on these two hosts alone
pub waiting_by_hosts : {S : Type 0} (v w : Network S) (p s : ℕ) → v.posts p ≡ w.posts p → v.hosts p ≡ w.hosts p → (s ≡ outside) ⊎ (v.hosts s ≡ w.hosts s)
    → waiting v p s ≡ waiting w p s
waiting_by_hosts v w p s posts host from =
    λ i. option_map (λ b. record { sender = s; ssn = count_from s (host i).receipts + 1; body = b }) (slice_get (sends i) (count_from s (host i).receipts))
  where
    sends : sent v s p ≡ sent w s p
    sends = elim from [ inl o ↦ rw (eq-eqb s outside o) posts | inr e ↦ λ i. cond (eqb s outside) (posts i) (bodies_to p (e i).sends) ]

module _ {S : Type 0} (m : Machine S) (n : ℕ) where
  -- a message that was sent stays sent, whatever is posted and taken later
  pub message_stays : (posts posts' : ℕ → List ℕ) (W X : World) (s p j b : ℕ) → Prefix (posts p) (posts' p) → Prefix (W s) (X s)
      → message (network m n posts W) s p j ≡ Some b → message (network m n posts' X) s p j ≡ Some b
  message_stays posts posts' W X s p zero b f g e = absurd (none_some b e)
  message_stays posts posts' W X s p (suc i) b f g e = nth_prefix _ _ i b (go (eqb s outside) _ _ (bodies_grow m s p (W s) (X s) g)) e
    where
      go : (o : Bool) (xs ys : List ℕ) → Prefix xs ys → Prefix (cond o (posts p) xs) (cond o (posts' p) ys)
      go true xs ys g = f
      go false xs ys g = g

  module _ (posts : ℕ → List ℕ) where
    pub message_grown : (W X : World) (s p j b : ℕ) → Prefix (W s) (X s) → message (network m n posts W) s p j ≡ Some b → message (network m n posts X) s p j ≡ Some b
    message_grown W X s p j b g e = message_stays posts posts W X s p j b (prefix_itself (posts p)) g e

    pub next_waits : (W : World) (p : ℕ) (t : Message) → Next (network m n posts W) p t → Waits (network m n posts W) p t.sender t
    next_waits W p t N = waiting_parts (network m n posts W) p t.sender t N.waits

    pub next_from : (W : World) (p : ℕ) (t : Message) → p < n → is_sender (network m n posts W) p t.sender ≡ true → t.ssn ≡ received (network m n posts W) p t.sender + 1
        → message (network m n posts W) t.sender p t.ssn ≡ Some t.body → Next (network m n posts W) p t
    next_from W p t l s number sent = record {
      host = l;
      sender = s;
      waits = parts_waiting (network m n posts W) p t.sender t (record { sender = refl; ssn = number; sent = sent });
    }
