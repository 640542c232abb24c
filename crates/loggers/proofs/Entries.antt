-- What writes to the program's table do to what it stands for.
use Rattle.std.proofs.Common.{◌≡◌, ℕ, zero, suc, ◌<◌, ◌≤◌, Bool, true, false, cond, ◌&&◌, eqb, leb, List, length, get_or, replicate, set, Some, None, Option, sym, refl, ap, ◌∙◌, unwrap_or, arith}
use mathlib.Core.Path.{fun_ext}
use Rattle.std.specs.Borrow.{MutBor}
use Rattle.std.proofs.lemmas.List.{get_or-set_same, get_or-set_other, get_or_default}
use Rattle.std.proofs.lemmas.Bool.{cond-true, eqb-true}
use Rattle.std.proofs.lemmas.Bool.Decides.{nat_tests}
use Rattle.logger.specs.declared.determinant.Determinant.{Determinant}
use Rattle.logger.specs.declared.host_set.HostSet.{HostSet}
use Rattle.logger.specs.HostSets.{size, members}
use Rattle.logger.proofs.Bits.{members_high}
use Rattle.loggers.specs.declared.entry.Entry.{Entry}
use Rattle.loggers.specs.Places.{at, with_place, Leaves, Changed, EachChanged}
use Rattle.loggers.specs.FamilyBased.{Holding, Holdings, everywhere, there, put, taken, given, carry_held, carry_at, handed, gather, with_self, lose_at, rejoin_at}
use Rattle.loggers.specs.FamilyViews.{seen, holdings, row}
use Rattle.loggers.proofs.Placing.{repeated}

pub holdings_set : (xs : List (Option Entry)) (i p : ℕ) (o : Option Entry) → i ≡ p → i < length xs → holdings (set xs i o) ≡ put (holdings xs) p (seen o)
holdings_set xs i p o is l = rw is (fun_ext (λ h. grind (arith, nat_tests, get_or-set_same, get_or-set_other)))

pub holdings_read : (xs : List (Option Entry)) (i p : ℕ) (d : Option Entry) → i ≡ p → i < length xs → seen (get_or xs i d) ≡ holdings xs p
holdings_read xs i p d is l = rw (get_or_default xs i d None l, is)

pub carried_is : (c : Holdings) (f s p : ℕ) (e a b : Holding) → c s ≡ Some e → leb (size e.holders) f ≡ true → a ≡ taken (c p) e p → b ≡ given e p → put (put c p (Some a)) s (Some b) ≡ carry_at f s p c
carried_is c f s p e a b h k x y = rw (x, y) (sym (ap (carry_held f s p c) h ∙ cond-true _ _ c k))

no_member : (s : HostSet) (h : ℕ) → 8 ≤ h → members s h ≡ false
no_member s h l = let m = members_high s h in grind arith

-- hosts from 8 on get nothing
pub handed_past : (e : Holding) (s : HostSet) (h : ℕ) (o : Option Holding) → 8 ≤ h → handed e (members s) h o ≡ o
handed_past e s h o l = rw (no_member s h l)

cond_none : (t : Bool) → cond {A = Option Holding} t None None ≡ None
cond_none true = refl
cond_none false = refl

pub gather_none : (down : ℕ → Bool) (n : ℕ) → gather down (row None) n ≡ None
gather_none down zero = refl
gather_none down (suc n) = rw (gather_none down n) (cond_none (down n))

abbrev pub Row : Type 0
Row = List (Option Entry)

-- a host loses nothing where nobody holds anything, and nothing comes back
pub lose_none : (p : ℕ) → lose_at p (row None) ≡ row None
lose_none p = fun_ext (λ h. cond_none (eqb h p))

pub rejoin_none : (n : ℕ) (down : ℕ → Bool) → rejoin_at n down (row None) ≡ row None
rejoin_none n down = fun_ext (λ h. ap (λ (o : Option Holding). cond (down h) (with_self o h) None) (gather_none down n) ∙ cond_none (down h))

-- a rule was followed wherever somebody holds something, and makes nothing of nothing
pub table_changed :
    {post : MutBor Row → Unit {0} → MutBor Row → Type 0} (rule : Holdings → Holdings) (xs ys : List (Option Row))
    → rule (row None) ≡ row None
    → ((x y : Row) → Leaves post x y → holdings y ≡ rule (holdings x))
    → EachChanged post xs ys
    → (λ q r. row (at ys None q r)) ≡ everywhere rule (λ q r. row (at xs None q r))
table_changed {post = post} rule xs ys nothing follows all = fun_ext (λ q. fun_ext (λ r. go (at xs None q r) (at ys None q r) (all q r)))
  where
    go : (o w : Option Row) → Changed post o w → row w ≡ rule (row o)
    go None w e = ap row e ∙ sym nothing
    go (Some x) w e = ap row e.1 ∙ follows x e.0 e.2

-- what a host may write to where no host holds anything yet
pub row_or_none : (o : Option Row) → holdings (unwrap_or o (replicate 8 None)) ≡ row o
row_or_none None = fun_ext (λ h. ap seen (repeated None 8 h))
row_or_none (Some xs) = refl

-- the place of d was changed
pub table_set :
    (g : Holdings → Holdings) (d : Determinant) (xs ys : List (Option Row)) (x : Row)
    → at ys None ≡ with_place (at xs None) d.receiver d.number x
    → holdings x ≡ g (row (at xs None d.receiver d.number))
    → (λ q r. row (at ys None q r)) ≡ there g d (λ q r. row (at xs None q r))
table_set g d xs ys x is e = ap (λ (t : ℕ → ℕ → Option Row). λ q r. row (t q r)) is ∙ fun_ext (λ q. fun_ext (λ r. go q r (eqb q d.receiver) (eqb r d.number) refl refl))
  where
    go : (q r : ℕ) (s t : Bool) → eqb q d.receiver ≡ s → eqb r d.number ≡ t → row (cond (s && t) (Some x) (at xs None q r)) ≡ cond (s && t) (g (row (at xs None q r))) (row (at xs None q r))
    go q r true true i j = rw (eqb-true q _ i, eqb-true r _ j) e
    go q r true false i j = refl
    go q r false t i j = refl
