-- What a record keeps beside its lists stays true as they grow.
use Rattle.std.proofs.Common.{◌≡◌, ℕ, suc, ◌+◌, ◌<◌, ◌≤◌, cond, eqb, ltb, ◌⊎◌, List, [], ◌∷◌, ◌++◌, length, get_or, Some, None, Option, sym, refl, ap, ◌∙◌, inl, inr, arith, length-append}
use Rattle.std.proofs.lemmas.List.{get_or-set_same, get_or-set_other, append-nil}
use Rattle.std.proofs.lemmas.Bool.{cases_eq, cases_lt, eq-eqb, ne_eqb, lt-ltb, le-ltb}
use Rattle.workload.specs.Machine.{replaced}
use Rattle.network.specs.declared.message.Receipt.{Receipt}
use Rattle.network.specs.Host.{optional}
use Rattle.network.specs.Network.{count_from, bodies_to}
use Rattle.network.proofs.Histories.{bodies_to_append}
use Rattle.records.specs.Index.{Counted, FiledIn, RoomFor, one_taken, with_filed}

-- nothing is filed at first
pub nothing_filed : (sent : ℕ → List ℕ) (xs : List (ℕ × ℕ)) → sent ≡ (λ p. []) → xs ≡ [] → FiledIn sent xs
nothing_filed sent xs e f p h = rw (e, f) refl

count_more : (s : ℕ) (xs : List Receipt) (x : Receipt) → count_from s (xs ++ (x ∷ [])) ≡ cond (eqb x.sender s) (suc (count_from s xs)) (count_from s xs)
count_more s [] x = refl
count_more s (y ∷ xs) x = let ih = count_more s xs x in grind arith

-- a receipt more
pub counted_more : (taken : List ℕ) (xs : List Receipt) (x : Receipt) → length taken ≡ 9 → Counted taken xs → Counted (one_taken taken x.sender) (xs ++ (x ∷ []))
counted_more taken xs x l c s h =
    let was = c s h in
    let now-is = count_more s xs x in
    elim (cases_lt x.sender 9) [
      | inl k ↦ (rw (lt-ltb x.sender 9 k) (grind (arith, cases_eq s x.sender, get_or-set_same taken x.sender (get_or taken x.sender 0 + 1) 0 (omega arith), get_or-set_other taken x.sender s (get_or taken x.sender 0 + 1) 0)))
      | inr k ↦ (rw (le-ltb x.sender 9 k) (grind (arith, ne_eqb x.sender s)))
    ]

bodies_low : (p : ℕ) (xs : List (ℕ × ℕ)) → length (bodies_to p xs) ≤ length xs
bodies_low p [] = omega arith
bodies_low p (x ∷ xs) = let ih = bodies_low p xs in grind arith

-- a send, if there is one, finds room
pub room_for : (sent : ℕ → List ℕ) (xs : List (ℕ × ℕ)) (o : Option (ℕ × ℕ)) → FiledIn sent xs → length xs < 64 → RoomFor sent o
room_for sent xs None f l = tt
room_for sent xs (Some x) f l = λ h. let is = ap length (f x.0 h) in let low = bodies_low x.0 xs in omega arith

-- and is filed
pub filed_more : (sent : ℕ → List ℕ) (xs : List (ℕ × ℕ)) (o : Option (ℕ × ℕ)) → FiledIn sent xs → FiledIn (with_filed sent o) (xs ++ optional o)
filed_more sent xs None f p h = f p h ∙ ap (bodies_to p) (sym (append-nil xs))
filed_more sent xs (Some x) f p h = new (cases_eq p x.0) (cases_lt x.0 8) ∙ sym (bodies_to_append p xs (x ∷ []))
  where
    same : sent p ≡ bodies_to p xs ++ []
    same = f p h ∙ sym (append-nil (bodies_to p xs))

    new : (p ≡ x.0) ⊎ (p ≡ x.0 → ⊥) → (x.0 < 8) ⊎ (8 ≤ x.0) → cond (ltb x.0 8) (replaced sent x.0 (sent x.0 ++ (x.1 ∷ []))) sent p ≡ bodies_to p xs ++ cond (eqb x.0 p) (x.1 ∷ []) []
    new (inl e) k = rw (lt-ltb x.0 8 (omega arith), eq-eqb p x.0 e, eq-eqb x.0 p (sym e)) (ap (λ ys. ys ++ (x.1 ∷ [])) (ap sent (sym e) ∙ f p h))
    new (inr n) (inl k) = rw (lt-ltb x.0 8 k, ne_eqb p x.0 n, ne_eqb x.0 p (λ q. n (sym q))) same
    new (inr n) (inr k) = rw (le-ltb x.0 8 k, ne_eqb x.0 p (λ q. n (sym q))) same

-- one item more in the first list, and at most one in the second, which has no more than the first
pub still_fewer : {A B : Type 0} (xs : List A) (ys : List B) (x : A) (o : Option B) → length ys ≤ length xs → length (ys ++ optional o) ≤ length (xs ++ (x ∷ []))
still_fewer xs ys x None l = simp length-append (omega arith)
still_fewer xs ys x (Some y) l = simp length-append (omega arith)
