-- The items of a list by their places, and its prefixes.
use Rattle.std.proofs.Common.{◌≡◌, ℕ, zero, suc, ◌<◌, true, ◌⊎◌, List, [], ◌∷◌, ◌++◌, map, length, take, drop, is_some, Some, None, Option, sym, refl, ap, ◌∙◌, inl, inr, append_assoc, append-nil, arith, take-append-drop}
use Rattle.std.proofs.lemmas.Bool.{true≢false}
use Rattle.std.specs.List.{slice_get}
use Rattle.network.specs.Theorems.{Prefix}

module _ {A : Type 0} where
  pub none_some : (a : A) → ◌≡◌ {A = Option A} None (Some a) → ⊥
  none_some a e = let z : ◌≡◌ {A = ℕ} 0 1 = cc in omega arith

  pub some_same : (a b : A) → ◌≡◌ {A = Option A} (Some a) (Some b) → a ≡ b
  some_same a b e = cc

  pub some_from : (o : Option A) → is_some o ≡ true → (a : A) × (o ≡ Some a)
  some_from None e = absurd (true≢false (sym e))
  some_from (Some a) e = (a, refl)

  pub nth_lt : (xs : List A) (k : ℕ) (t : A) → slice_get xs k ≡ Some t → k < length xs
  nth_lt [] k t e = absurd (none_some t e)
  nth_lt (x ∷ xs) zero t e = omega arith
  nth_lt (x ∷ xs) (suc k) t e = let l : k < length xs = nth_lt xs k t e in omega arith

  pub nth_some : (xs : List A) (k : ℕ) → k < length xs → (t : A) × (slice_get xs k ≡ Some t)
  nth_some [] k l = absurd (omega arith)
  nth_some (x ∷ xs) zero l = (x, refl)
  nth_some (x ∷ xs) (suc k) l = nth_some xs k (omega arith)

  pub nth_append : (xs ys : List A) (k : ℕ) (t : A) → slice_get xs k ≡ Some t → slice_get (xs ++ ys) k ≡ Some t
  nth_append [] ys k t e = absurd (none_some t e)
  nth_append (x ∷ xs) ys zero t e = e
  nth_append (x ∷ xs) ys (suc k) t e = nth_append xs ys k t e

  -- an item of a list with a behind it is one of the list, or it is a
  pub nth_snoc :
      (xs : List A) (a : A) (k : ℕ) (t : A) → slice_get (xs ++ (a ∷ [])) k ≡ Some t
      → ((slice_get xs k ≡ Some t) × (take k (xs ++ (a ∷ [])) ≡ take k xs)) ⊎ ((take k (xs ++ (a ∷ [])) ≡ xs) × (t ≡ a))
  nth_snoc [] a zero t e = inr (refl, cc)
  nth_snoc [] a (suc k) t e = inl (e, cc)
  nth_snoc (x ∷ xs) a zero t e = inl (e, refl)
  nth_snoc (x ∷ xs) a (suc k) t e =
      elim (nth_snoc xs a k t e) [ inl h ↦ inl (h.0, ap (λ (l : List A). x ∷ l) h.1) | inr h ↦ inr (ap (λ (l : List A). x ∷ l) h.0, h.1) ]

  pub nth_last : (xs : List A) (a : A) → slice_get (xs ++ (a ∷ [])) (length xs) ≡ Some a
  nth_last [] a = refl
  nth_last (x ∷ xs) a = nth_last xs a

  pub nth_take : (n : ℕ) (xs : List A) (k : ℕ) → k < n → slice_get (take n xs) k ≡ slice_get xs k
  nth_take zero xs k l = absurd (omega arith)
  nth_take (suc n) [] k l = refl
  nth_take (suc n) (x ∷ xs) zero l = refl
  nth_take (suc n) (x ∷ xs) (suc k) l = nth_take n xs k (omega arith)

  -- lists with the same items at the same places
  pub nth_same : (xs ys : List A) → length xs ≡ length ys → ((k : ℕ) (a b : A) → slice_get xs k ≡ Some a → slice_get ys k ≡ Some b → a ≡ b) → xs ≡ ys
  nth_same [] [] l e = refl
  nth_same [] (y ∷ ys) l e = absurd (omega arith)
  nth_same (x ∷ xs) [] l e = absurd (omega arith)
  nth_same (x ∷ xs) (y ∷ ys) l e = λ i. e 0 x y refl refl i ∷ nth_same xs ys (omega arith) (λ k. e (suc k)) i

  pub take_snoc : (xs : List A) (k : ℕ) (t : A) → slice_get xs k ≡ Some t → take (suc k) xs ≡ take k xs ++ (t ∷ [])
  take_snoc [] k t e = absurd (none_some t e)
  take_snoc (x ∷ xs) zero t e = let is : x ≡ t = cc in rw is
  take_snoc (x ∷ xs) (suc k) t e = ap (λ (l : List A). x ∷ l) (take_snoc xs k t e)

  pub prefix_itself : (xs : List A) → Prefix xs xs
  prefix_itself xs = ([], sym (append-nil xs))

  pub prefix_append : (xs ys : List A) → Prefix xs (xs ++ ys)
  prefix_append xs ys = (ys, refl)

  pub prefix_trans : (xs ys zs : List A) → Prefix xs ys → Prefix ys zs → Prefix xs zs
  prefix_trans xs ys zs p q = (p.0 ++ q.0, q.1 ∙ ap (λ (l : List A). l ++ q.0) p.1 ∙ append_assoc xs p.0 q.0)

  pub prefix_take : (k : ℕ) (xs : List A) → Prefix (take k xs) xs
  prefix_take k xs = (drop k xs, sym (take-append-drop k xs))

  -- the items of a prefix stand at the same places
  pub nth_prefix : (xs ys : List A) (k : ℕ) (t : A) → Prefix xs ys → slice_get xs k ≡ Some t → slice_get ys k ≡ Some t
  nth_prefix xs ys k t p e = rw p.1 (nth_append xs p.0 k t e)

  pub prefix_of_take : (k : ℕ) (xs ys : List A) → Prefix xs ys → Prefix (take k xs) (take k ys)
  prefix_of_take k xs ys p = let r = take_append k xs p.0 in (r.0, rw p.1 r.1)
    where
      take_append : (k : ℕ) (xs ys : List A) → (zs : List A) × (take k (xs ++ ys) ≡ take k xs ++ zs)
      take_append zero xs ys = ([], refl)
      take_append (suc k) [] ys = (take (suc k) ys, refl)
      take_append (suc k) (x ∷ xs) ys = let r = take_append k xs ys in (r.0, ap (λ (l : List A). x ∷ l) r.1)

  -- a list that begins with xs goes on with what stands right behind xs
  pub prefix_more : (xs ys : List A) (x : A) → Prefix xs ys → slice_get ys (length xs) ≡ Some x → Prefix (xs ++ (x ∷ [])) ys
  prefix_more xs ys x p e = let r = go xs p.0 (rw p.1 at e) in (r.0, p.1 ∙ r.1)
    where
      go : (xs more : List A) → slice_get (xs ++ more) (length xs) ≡ Some x → (rest : List A) × (xs ++ more ≡ (xs ++ (x ∷ [])) ++ rest)
      go [] [] e = absurd (none_some x e)
      go [] (y ∷ more) e = let is : y ≡ x = cc in (more, rw is)
      go (y ∷ xs) more e = let r = go xs more e in (r.0, ap (λ (l : List A). y ∷ l) r.1)

pub nth_map : {A B : Type 0} (f : A → B) (xs : List A) (k : ℕ) (a : A) → slice_get xs k ≡ Some a → slice_get (map f xs) k ≡ Some (f a)
nth_map f [] k a e = absurd (none_some a e)
nth_map f (x ∷ xs) zero a e = let is : x ≡ a = cc in rw is
nth_map f (x ∷ xs) (suc k) a e = nth_map f xs k a e
