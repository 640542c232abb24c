-- How many hosts are in a set, counted over a list of them.
use Rattle.std.proofs.Common.{◌≡◌, ℕ, zero, suc, ◌+◌, Bool, true, false, cond, ◌∷◌, length, filter, refl, add-one, sym, ap, ◌∙◌, arith}
use Rattle.std.specs.List.{range_with_len}
use Rattle.logger.specs.Meaning.{count}

module _ (K : ℕ → Bool) where
  -- those from a on, and those below a
  abbrev rest : ℕ → ℕ → ℕ
  rest a n = length (filter K (range_with_len a n))

  one_more : (b : Bool) (r c m : ℕ) → r + cond b (suc c) c ≡ m → cond b (suc r) r + c ≡ m
  one_more true r c m e = omega arith
  one_more false r c m e = e

  front : (a n : ℕ) (b : Bool) → length (cond b (a ∷ filter K (range_with_len (a + 1) n)) (filter K (range_with_len (a + 1) n))) ≡ cond b (suc (rest (a + 1) n)) (rest (a + 1) n)
  front a n true = refl
  front a n false = refl

  from : (a n : ℕ) → rest a n + count a K ≡ count (a + n) K
  from a zero = let e : a + 0 ≡ a = omega arith in rw e (omega arith)
  from a (suc n) =
      let e : a + suc n ≡ a + 1 + n = omega arith in
      let ih : rest (a + 1) n + cond (K a) (suc (count a K)) (count a K) ≡ count (a + 1 + n) K = ap (λ k. rest (a + 1) n + count k K) (sym (add-one a)) ∙ from (a + 1) n in
      rw (front a n (K a), e) (one_more (K a) (rest (a + 1) n) (count a K) (count (a + 1 + n) K) ih)

  pub counted : (n : ℕ) → length (filter K (range_with_len 0 n)) ≡ count n K
  counted n = let e : 0 + n ≡ n = omega arith in let all : length (filter K (range_with_len 0 n)) + 0 ≡ count (0 + n) K = from 0 n in let back = ap (λ k. count k K) e in omega arith
