-- The bits of a set of hosts.
use Rattle.std.proofs.Common.{◌≡◌, ℕ, zero, suc, ◌+◌, ◌*◌, ◌/◌, ◌%◌, ◌^◌, ◌<◌, true, cond, ◌&&◌, ◌||◌, eqb, ltb, sym, ap, ◌∙◌, one-add, arith, pow_pos, w8}
use Rattle.std.specs.Int.RustNames.{bit_or}
use lib.Count.{ones}
use Rattle.std.proofs.lemmas.Nat.{mod-pow-add, ones_cat, mod_below}
use Rattle.std.proofs.lemmas.Nat.Bits.{bit_at_or, bit_at-lt, bit_at_set_same, bit_at_set_other}
use Rattle.std.proofs.lemmas.Bool.{ltb-true, and_parts, cases_eq}
use Rattle.std.proofs.lemmas.Bool.Decides.{nat_tests}
use Rattle.logger.specs.declared.host_set.HostSet.{HostSet}
use Rattle.logger.specs.Meaning.{count}
use Rattle.logger.specs.HostSets.{members}

pub insert_bit : (b p h : ℕ) → p < 8 → (ltb h 8 && eqb (bit_or b (1 * 2 ^ p % 256) / 2 ^ h % 2) 1) ≡ ((ltb h 8 && eqb (b / 2 ^ h % 2) 1) || eqb h p)
insert_bit b p h l = let same = bit_at_set_same w8 b p l in let other = bit_at_set_other w8 b p l h in grind (arith, nat_tests, cases_eq h p)

pub union_bit : (a b h : ℕ) → (ltb h 8 && eqb (bit_or a b / 2 ^ h % 2) 1) ≡ ((ltb h 8 && eqb (a / 2 ^ h % 2) 1) || (ltb h 8 && eqb (b / 2 ^ h % 2) 1))
union_bit a b h = let either = bit_at_or a b h in let x = bit_at-lt a h in let y = bit_at-lt b h in grind (arith, nat_tests)

-- a set has none but the hosts 0 to 7
pub members_high : (s : HostSet) (h : ℕ) → members s h ≡ true → h < 8
members_high s h e = ltb-true h 8 (and_parts (ltb h 8) (eqb (s.bits / 2 ^ h % 2) 1) e).0

-- the bits below n that are 1
pub ones_mod : (b n : ℕ) → ones (b % 2 ^ n) ≡ count n (λ h. eqb (b / 2 ^ h % 2) 1)
unfolding ones
ones_mod b zero = let e : b % 1 ≡ 0 = omega arith in ap ones e
ones_mod b (suc n) =
    ap (λ (k : ℕ). ones (b % 2 ^ k)) (sym (one-add n))
    ∙ ap ones (mod-pow-add b 1 n)
    ∙ ones_cat n (b / 2 ^ n % 2) (b % 2 ^ n) (mod_below b (2 ^ n) (pow_pos n))
    ∙ rw (ones_mod b n) (top (b / 2 ^ n % 2) (count n (λ h. eqb (b / 2 ^ h % 2) 1)) (omega arith))
  where
    top : (t k : ℕ) → t < 2 → ones t + k ≡ cond (eqb t 1) (suc k) k
    top zero k l = omega arith
    top (suc zero) k l = omega arith
    top (suc (suc t)) k l = absurd (omega arith)

-- the bits that are 1 in a byte, whatever it is called, if it is b
pub ones_all : (a b : ℕ) → a ≡ b → b < 256 → ones a ≡ count 8 (λ h. eqb (b / 2 ^ h % 2) 1)
ones_all a b e l = let whole : a ≡ b % 256 = omega arith in ap ones whole ∙ ones_mod b 8
