-- The receipt in which a host made a message: which cuts keep the message.
use Rattle.std.proofs.Common.{◌≡◌, ℕ, zero, suc, ◌≤◌, Bool, true, false, cond, eqb, leb, ◌↔◌, List, length, take, Some, sym, refl, ◌∙◌, inl, inr, arith, take-take}
use native.Mathlib.Decide.{dec_lt}
use lib.Seq.{take-length, take-append-le}
use Rattle.std.proofs.lemmas.Bool.{le-leb, leb-true, eq-eqb, ne_eqb, cases_eq}
use Rattle.std.specs.List.{slice_get}
use Rattle.workload.specs.Machine.{Machine}
use Rattle.network.specs.declared.message.Message.{Message}
use Rattle.network.specs.Network.{outside, bodies_to}
use Rattle.network.specs.World.{World, cut, least, host_after, network, made_by, made_in}
use Rattle.network.specs.Theorems.{Prefix, message}
use Rattle.network.proofs.Places.{none_some, nth_lt, nth_some, nth_prefix, prefix_take}
use Rattle.network.proofs.Histories.{bodies_grow}

least_low : (b : ℕ) (P : ℕ → Bool) → least b P ≤ b
least_low zero P = omega arith
least_low (suc b) P = let ih = least_low b (λ k. P (suc k)) in grind arith

least_here : (b k : ℕ) (P : ℕ → Bool) → P k ≡ true → least b P ≤ k
least_here zero k P e = omega arith
least_here (suc b) zero P e = rw e (omega arith)
least_here (suc b) (suc k) P e = let ih = least_here b k (λ i. P (suc i)) e in grind arith

least_passes : (b k : ℕ) (P : ℕ → Bool) → k ≤ b → P k ≡ true → P (least b P) ≡ true
least_passes zero zero P l e = e
least_passes zero (suc k) P l e = absurd (omega arith)
least_passes (suc b) zero P l e = rw e e
least_passes (suc b) (suc k) P l e = go (P 0) refl (least_passes b k (λ i. P (suc i)) (omega arith) e)
  where
    go : (q : Bool) → P 0 ≡ q → P (suc (least b (λ i. P (suc i)))) ≡ true → P (cond q 0 (suc (least b (λ i. P (suc i))))) ≡ true
    go true i ih = i
    go false i ih = ih

module _ {S : Type 0} (m : Machine S) (s p : ℕ) where
  abbrev bodies : List Message → List ℕ
  bodies h = bodies_to p (host_after m s h).sends

  -- the first k messages of h made more than i messages
  abbrev enough : List Message → ℕ → ℕ → Bool
  enough h i k = leb (suc i) (length (bodies (take k h)))

  -- the first k messages of a history make a message just if the one that made it is among them
  made_exact : (h : List Message) (k i b : ℕ) → slice_get (bodies (take k h)) i ≡ Some b ↔ ((slice_get (bodies h) i ≡ Some b) × (made_by m s p h (suc i) ≤ k))
  made_exact h k i b = (
    λ e. (nth_prefix _ _ i b (bodies_grow m s p (take k h) h (prefix_take k h)) e, least_here (length h) k (enough h i) (le-leb (suc i) _ (nth_lt (bodies (take k h)) i b e))),
    λ e. back e.0 e.1,
  )
    where
      l : ℕ
      l = made_by m s p h (suc i)

      back : slice_get (bodies h) i ≡ Some b → l ≤ k → slice_get (bodies (take k h)) i ≡ Some b
      back e le =
          let whole : enough h i (length h) ≡ true = rw (take-length h) (le-leb (suc i) _ (nth_lt (bodies h) i b e)) in
          let passes : enough h i l ≡ true = least_passes (length h) (length h) (enough h i) (omega arith) whole in
          let c = nth_some (bodies (take l h)) i (leb-true (suc i) _ passes) in
          let longer : Prefix (take l h) (take k h) = rw (take-take l k h le) at (prefix_take l (take k h)) in
          let in_cut : slice_get (bodies (take k h)) i ≡ Some c.0 = nth_prefix _ _ i c.0 (bodies_grow m s p (take l h) (take k h) longer) c.1 in
          let in_all : slice_get (bodies h) i ≡ Some c.0 = nth_prefix _ _ i c.0 (bodies_grow m s p (take k h) h (prefix_take k h)) in_cut in
          in_cut ∙ sym in_all ∙ e

  made_first : (h : List Message) (i b : ℕ) → slice_get (bodies h) i ≡ Some b → 1 ≤ made_by m s p h (suc i)
  made_first h i b e = elim (dec_lt 0 (made_by m s p h (suc i))) [ yes y ↦ y | no f ↦ absurd (none_some b ((made_exact h 0 i b).1 (e, omega arith))) ]

  -- a message is made where it was made, whatever its sender takes later
  made_later : (g h : List Message) (i b : ℕ) → Prefix g h → slice_get (bodies g) i ≡ Some b → made_by m s p h (suc i) ≡ made_by m s p g (suc i)
  made_later g h i b r e =
      let k : ℕ = made_by m s p g (suc i) in
      let l : ℕ = made_by m s p h (suc i) in
      let in_g : slice_get (bodies (take k g)) i ≡ Some b = (made_exact g k i b).1 (e, omega arith) in
      let low : k ≤ length g = least_low (length g) (enough g i) in
      let le : l ≤ k = ((made_exact h k i b).0 (rw (front k low) in_g)).1 in
      let in-h : slice_get (bodies (take l h)) i ≡ Some b = (made_exact h l i b).1 (nth_prefix _ _ i b (bodies_grow m s p g h r) e, omega arith) in
      let ge : k ≤ l = ((made_exact g l i b).0 (rw (front l (omega arith)) at in-h)).1 in
      omega arith
    where
      front : (k : ℕ) → k ≤ length g → take k h ≡ take k g
      front k le = rw r.1 (take-append-le k g r.0 le)

module _ {S : Type 0} (m : Machine S) (n : ℕ) (posts : ℕ → List ℕ) where
  -- a message of the world is sent within a cut exactly if the receipt that made it lies within
  pub made_within : (W : World) (v : ℕ → ℕ) (s p j b : ℕ)
      → message (network m n posts (cut W v)) s p j ≡ Some b ↔ ((message (network m n posts W) s p j ≡ Some b) × (made_in m W s p j ≤ v s))
  made_within W v s p zero b = (λ e. absurd (none_some b e), λ e. e.0)
  made_within W v s p (suc i) b = go (eqb s outside) _ _ _ (made_exact m s p (W s) (v s) i b)
    where
      go : (o : Bool) (xs ys : List ℕ) (k : ℕ) → slice_get xs i ≡ Some b ↔ ((slice_get ys i ≡ Some b) × (k ≤ v s))
          → slice_get (cond o (posts p) xs) i ≡ Some b ↔ ((slice_get (cond o (posts p) ys) i ≡ Some b) × (cond o 0 k ≤ v s))
      go true xs ys k r = (λ e. (e, omega arith), λ e. e.0)
      go false xs ys k r = r

  -- a message from a host was made in one of its receipts
  pub made_bounds : (W : World) (s p j b : ℕ) → (s ≡ outside → ⊥) → message (network m n posts W) s p j ≡ Some b
      → (1 ≤ made_in m W s p j) × (made_in m W s p j ≤ length (W s))
  made_bounds W s p zero b ne e = absurd (none_some b e)
  made_bounds W s p (suc i) b ne e =
      let sent : slice_get (bodies m s p (W s)) i ≡ Some b = rw (ne_eqb s outside ne) at e in
      rw (ne_eqb s outside ne) (made_first m s p (W s) i b sent, least_low (length (W s)) (enough m s p (W s) i))

  -- a message is made where it was made, whatever is taken later
  pub made_grown : (W X : World) (s p j b : ℕ) → Prefix (W s) (X s) → message (network m n posts W) s p j ≡ Some b → made_in m X s p j ≡ made_in m W s p j
  made_grown W X s p zero b r e = absurd (none_some b e)
  made_grown W X s p (suc i) b r e = elim (cases_eq s outside) [
    | inl o ↦ rw (eq-eqb s outside o)
    | inr ne ↦ rw (ne_eqb s outside ne) (made_later m s p (W s) (X s) i b r (rw (ne_eqb s outside ne) at e))
  ]
