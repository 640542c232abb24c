-- A loop over the hosts below n, by what is true when those below k are done.
use Rattle.std.proofs.Common.{◌≡◌, ℕ, zero, suc, ◌+◌, ◌<◌, List, [], ◌∷◌, sym, ap, ◌∙◌, subst, arith}
use Rattle.std.specs.List.{range_with_len}

-- P holds of the first host that is left, or of n where none is
pub record UpTo (P : ℕ → Type 0) (n : ℕ) (rest : List ℕ) : Type 0 where
  pub k : ℕ
  pub m : ℕ
  pub left : rest ≡ range_with_len k m
  pub all : k + m ≡ n
  pub holds : P k

pub starts : (P : ℕ → Type 0) (n : ℕ) (rest : List ℕ) → rest ≡ range_with_len 0 n → P 0 → UpTo P n rest
starts P n rest e p = record { k = 0; m = n; left = e; all = omega arith; holds = p }

-- at a turn, host q is the first that is left; after it the others are
module _ (P : ℕ → Type 0) (n q : ℕ) (rest more : List ℕ) (e : rest ≡ q ∷ more) (u : UpTo P n rest) where
  record Turn : Type 0 where
    pub m : ℕ
    pub is : q ≡ u.k
    pub left : more ≡ range_with_len (u.k + 1) m
    pub all : u.k + suc m ≡ n

  one_turn : (m : ℕ) → rest ≡ range_with_len u.k m → u.k + m ≡ n → Turn
  one_turn zero l a = let h : q ∷ more ≡ [] = sym e ∙ l in let z : ◌≡◌ {A = ℕ} 0 1 = cc in absurd (omega arith)
  one_turn (suc m) l a = let h : q ∷ more ≡ u.k ∷ range_with_len (u.k + 1) m = sym e ∙ l in record { m = m; is = cc; left = cc; all = a }

  pub turn : (q < n) × P q
  turn = let t = one_turn u.m u.left u.all in (omega (arith, t.is, t.all), subst P (sym t.is) u.holds)

  pub next : (Q : ℕ → Type 0) → Q (q + 1) → UpTo Q n more
  next Q p =
      let t = one_turn u.m u.left u.all in
      record { k = u.k + 1; m = t.m; left = t.left; all = omega (arith, t.all); holds = subst Q (ap (λ x. x + 1) t.is) p }

pub ends : (P : ℕ → Type 0) (n : ℕ) (rest : List ℕ) → rest ≡ [] → UpTo P n rest → P n
ends P n rest e u = go u.m u.left u.all
  where
    go : (m : ℕ) → rest ≡ range_with_len u.k m → u.k + m ≡ n → P n
    go zero l a = let i : u.k ≡ n = omega arith in subst P i u.holds
    go (suc m) l a = let h : u.k ∷ range_with_len (u.k + 1) m ≡ [] = sym l ∙ e in let z : ◌≡◌ {A = ℕ} 0 1 = cc in absurd (omega arith)
