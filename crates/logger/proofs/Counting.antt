-- Bits and counts.
use Rattle.std.proofs.Common.{◌≡◌, ℕ, zero, suc, ◌+◌, ◌-◌, ◌<◌, ◌≤◌, Bool, true, false, cond, ◌⊎◌, sym, refl, ap, ◌∙◌, inl, zero-le, suc-add, zero-add, add-one, arith}
use Rattle.logger.specs.Meaning.{count}

-- if each h that passes P passes P', or else Q holds, then P' has as many, or else Q holds
pub mono_or : {Q : Type 0} (n : ℕ) (P P' : ℕ → Bool) → ((h : ℕ) → h < n → P h ≡ true → (P' h ≡ true) ⊎ Q) → (count n P ≤ count n P') ⊎ Q
mono_or zero P P' f = inl zero-le
mono_or {Q} (suc n) P P' f = let ih = mono_or {Q = Q} n P P' (λ h l. f h (omega arith)) in grind arith

-- where P has more than D, some h passes P and not D
pub more : (n : ℕ) (P D : ℕ → Bool) → count n D < count n P → (h : ℕ) × (h < n) × (P h ≡ true) × (D h ≡ false)
more zero P D l = grind arith
more (suc n) P D l = let ih = more n P D in grind arith

pub none : (n : ℕ) (P : ℕ → Bool) → ((h : ℕ) → P h ≡ false) → count n P ≡ 0
none zero P f = refl
none (suc n) P f = let ih = none n P f in grind arith

pub all : (n : ℕ) (P : ℕ → Bool) → ((h : ℕ) → h < n → P h ≡ true) → count n P ≡ n
all zero P f = refl
all (suc n) P f = let ih = all n P (λ h l. f h (omega arith)) in let t = f n (omega arith) in grind arith

pub count_more : (n : ℕ) (P : ℕ → Bool) → count (n + 1) P ≡ cond (P n) (suc (count n P)) (count n P)
count_more n P = rw add-one

-- the hosts from n on, none of which passes P, do not count
count_short : (k n : ℕ) (P : ℕ → Bool) → ((h : ℕ) → P h ≡ true → h < n) → count (k + n) P ≡ count n P
count_short zero n P f = rw zero-add
count_short (suc k) n P f = let ih = count_short k n P f in let t = f (k + n) in rw suc-add (grind arith)

pub count_eight : (n : ℕ) (P : ℕ → Bool) → n ≤ 8 → ((h : ℕ) → P h ≡ true → h < n) → count 8 P ≡ count n P
count_eight n P small f = let e : 8 - n + n ≡ 8 = omega arith in ap (λ (k : ℕ). count k P) (sym e) ∙ count_short (8 - n) n P f
