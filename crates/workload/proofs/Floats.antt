-- What the proofs of this crate cite of binary32: its finite values that are not negative, by their bits, and that a sum with a small one stays among them.
use Rattle.std.proofs.Common.{◌≡◌, ℕ, zero, suc, ◌+◌, ◌-◌, ◌*◌, ◌/◌, ◌%◌, ◌^◌, ◌<◌, ◌≤◌, Bool, true, false, cond, not, T, eqb, ltb, leb, pos, sym, refl, ap, ◌∙◌, subst, inl, inr, le_trans, le_of_eq, add-le-add, mul-le-mul_right, mul_assoc, mul_comm, add-mul, mul-le-mul, mul-pos, mul_right_comm, arith, pow_pos, pow_mono}
use Rattle.std.proofs.lemmas.Bool.{lt-leb, ne_eqb, leb-false, eqb-false, cases_lt}
use lib.Ieee.{Float, nan, inf, fin, binary32, up, down, odd, units, round, sum, add, le, fits, is_nan, of_fields, of_bits, to_bits}
use lib.Ieee.Fits.{down_pos, add-fits, round_is}
use lib.Ieee.Exact.{HasValue, odd_sign}
use lib.Ieee.Bits.{of_bits-to_bits, to_bits-lt, to_bits-of_bits}
use lib.Ieee.Order.{round_mono}
use Rattle.std.specs.Bool.{passes}
use lib.Ieee.Positive.{num, den, value→cross}

-- ---- by constructors: finite, and not negative

abbrev pub plain : Float → Bool
plain nan = false
plain (inf s) = false
plain (fin s m e) = not s

plain_odd : (d : ℕ) (s : Bool) (q k l : ℕ) → plain (odd d s q k l) ≡ not s
unfolding odd
plain_odd d s zero k l = refl
plain_odd d s (suc q) k l = refl

plain_special : (s b : Bool) → plain (cond b (inf s) nan) ≡ false
plain_special s true = refl
plain_special s false = refl

plain_fields : (s : Bool) (x t : ℕ) → plain (of_fields binary32 s x t) ≡ cond (eqb x 255) false (not s)
unfolding of_fields
plain_fields s zero t = plain_odd 24 s t 0 149
plain_fields s (suc x) t = go (eqb (suc x) 255)
  where
    go : (b : Bool) → plain (cond b (cond (eqb t 0) (inf s) nan) (odd 24 s (2 ^ 23 + t) x 149)) ≡ cond b false (not s)
    go true = plain_special s (eqb t 0)
    go false = plain_odd 24 s (2 ^ 23 + t) x 149

-- ---- by bits: at most those of the greatest finite value

is_plain : (b : ℕ) → b ≤ 0x7f7f_ffff → T (plain (of_bits binary32 b))
unfolding of_bits
is_plain b h =
    let s : leb (2 ^ 31) b ≡ false = lt-leb (2 ^ 31) b (omega arith) in
    let x : eqb (b % 2 ^ 31 / 2 ^ 23) 255 ≡ false = ne_eqb (b % 2 ^ 31 / 2 ^ 23) 255 (λ e. omega arith) in
    subst T (sym (plain_fields (leb (2 ^ 31) b) (b % 2 ^ 31 / 2 ^ 23) (b % 2 ^ 23) ∙ ap (λ (y : Bool). cond y false (not (leb (2 ^ 31) b))) x ∙ ap not s)) tt

plain_small : (b : ℕ) → b < 2 ^ 32 → T (plain (of_bits binary32 b)) → b ≤ 0x7f7f_ffff
unfolding of_bits
plain_small b lt p = go (eqb (b % 2 ^ 31 / 2 ^ 23) 255) (leb (2 ^ 31) b) refl refl (subst T (plain_fields (leb (2 ^ 31) b) (b % 2 ^ 31 / 2 ^ 23) (b % 2 ^ 23)) p)
  where
    go : (x s : Bool) → eqb (b % 2 ^ 31 / 2 ^ 23) 255 ≡ x → leb (2 ^ 31) b ≡ s → T (cond x false (not s)) → b ≤ 0x7f7f_ffff
    go true s e f t = absurd t
    go false true e f t = absurd t
    go false false e f t = let l = leb-false (2 ^ 31) b f in let n = eqb-false (b % 2 ^ 31 / 2 ^ 23) 255 e in omega (arith, below b l n)
      where
        below : (b : ℕ) → b < 2 ^ 31 → (b % 2 ^ 31 / 2 ^ 23 ≡ 255 → ⊥) → b ≤ 0x7f7f_ffff
        below b l n = elim (cases_lt 0x7f7f_ffff b) [ inl g ↦ absurd (n (omega arith)) | inr g ↦ g ]

pub finite_plain : (x : Float) → to_bits binary32 x ≤ 0x7f7f_ffff → T (plain x)
unfolding to_bits
finite_plain nan h = absurd (omega arith)
finite_plain (inf true) h = absurd (omega arith)
finite_plain (inf false) h = absurd (omega arith)
finite_plain (fin true m e) h = absurd (omega arith)
finite_plain (fin false m e) h = tt

pub plain_finite : (x : Float) → T (fits binary32 x) → T (plain x) → to_bits binary32 x ≤ 0x7f7f_ffff
plain_finite x f p = plain_small (to_bits binary32 x) (to_bits-lt binary32 x f) (subst (λ (y : Float). T (plain y)) (sym (of_bits-to_bits binary32 x f)) p)

plain_number : (x : Float) → T (plain x) → T (not (is_nan x))
unfolding is_nan
plain_number nan p = absurd p
plain_number (inf s) p = tt
plain_number (fin s m e) p = tt

pub finite_number : (x : Float) → to_bits binary32 x ≤ 0x7f7f_ffff → T (not (is_nan x))
finite_number x h = plain_number x (finite_plain x h)

pub bits_back : (b : ℕ) → b ≤ 0x7f7f_ffff → to_bits binary32 (of_bits binary32 b) ≡ b
bits_back b h = to_bits-of_bits binary32 b (omega arith) (plain_number (of_bits binary32 b) (is_plain b h))

-- ---- the size of a value, by the exponent's field of its bits

at_most : (x : Float) (a v : ℕ) → HasValue x false a (2 ^ 149) → a ≤ v → num x * 2 ^ 149 ≤ v * den x
at_most x a v h l = le_trans (le_of_eq (value→cross x a (2 ^ 149) h)) (mul-le-mul_right (den x) l)

value_fields : (F x t : ℕ) → x ≤ suc F → suc F < 255 → t < 2 ^ 23 → num (of_fields binary32 false x t) * 2 ^ 149 ≤ (2 ^ 24 - 1) * 2 ^ F * den (of_fields binary32 false x t)
unfolding of_fields
value_fields F zero t h k l = at_most (odd 24 false t 0 149) (t * 2 ^ 0) ((2 ^ 24 - 1) * 2 ^ F) (odd_sign 24 false t 0 149) (mul-le-mul (omega arith) (pow_mono {i = 0} {j = F} (omega arith)))
value_fields F (suc x) t h k l =
    subst (λ (b : Bool). num (cond b (cond (eqb t 0) (inf false) nan) (odd 24 false (2 ^ 23 + t) x 149)) * 2 ^ 149 ≤ (2 ^ 24 - 1) * 2 ^ F * den (cond b (cond (eqb t 0) (inf false) nan) (odd 24 false (2 ^ 23 + t) x 149)))
    (sym (ne_eqb (suc x) 255 (λ q. omega arith)))
    (at_most (odd 24 false (2 ^ 23 + t) x 149) ((2 ^ 23 + t) * 2 ^ x) ((2 ^ 24 - 1) * 2 ^ F) (odd_sign 24 false (2 ^ 23 + t) x 149) (mul-le-mul (omega arith) (pow_mono {i = x} {j = F} (omega arith))))

value_bits : (F b : ℕ) → b < 2 ^ 31 → b / 2 ^ 23 ≤ suc F → suc F < 255 → num (of_bits binary32 b) * 2 ^ 149 ≤ (2 ^ 24 - 1) * 2 ^ F * den (of_bits binary32 b)
unfolding of_bits
value_bits F b l h k =
    subst (λ (s : Bool). num (of_fields binary32 s (b % 2 ^ 31 / 2 ^ 23) (b % 2 ^ 23)) * 2 ^ 149 ≤ (2 ^ 24 - 1) * 2 ^ F * den (of_fields binary32 s (b % 2 ^ 31 / 2 ^ 23) (b % 2 ^ 23)))
    (sym (lt-leb (2 ^ 31) b l))
    (value_fields F (b % 2 ^ 31 / 2 ^ 23) (b % 2 ^ 23) (omega arith) k (omega arith))

value_of : (F : ℕ) (x : Float) → T (fits binary32 x) → to_bits binary32 x < 2 ^ 31 → to_bits binary32 x / 2 ^ 23 ≤ suc F → suc F < 255 → num x * 2 ^ 149 ≤ (2 ^ 24 - 1) * 2 ^ F * den x
value_of F x f l h k =
    subst (λ (y : Float). num y * 2 ^ 149 ≤ (2 ^ 24 - 1) * 2 ^ F * den y) (of_bits-to_bits binary32 x f) (value_bits F (to_bits binary32 x) l h k)

-- ---- a sum stays finite where the greatest finite value, with the other addend's bound added, still rounds to itself

-- what `round` gives of a number that is not negative is not negative
abbrev upward : Float → Bool
upward nan = false
upward (inf s) = not s
upward (fin s m e) = not s

upward_odd : (d q k l : ℕ) → T (upward (odd d false q k l))
unfolding odd
upward_odd d zero k l = tt
upward_odd d (suc q) k l = tt

upward_units : (q k : ℕ) → T (upward (units binary32 false q k))
unfolding units
upward_units q k = go (ltb (q * 2 ^ k) (2 ^ 277))
  where
    go : (b : Bool) → T (upward (cond b (odd 25 false q k 149) (inf false)))
    go true = upward_odd 25 q k 149
    go false = tt

upward_round : (a c : ℕ) → T (upward (round binary32 false a c))
upward_round a c = subst (λ (z : Float). T (upward z)) (sym (round_is binary32 false a c)) (upward_units _ _)

under_greatest : (x : Float) → T (upward x) → T (le x (fin false (2 ^ 24 - 1) (pos 104))) → T (plain x)
unfolding le
under_greatest nan u l = absurd u
under_greatest (inf true) u l = absurd u
under_greatest (inf false) u l = absurd l
under_greatest (fin s m e) u l = u

rounds_back : round binary32 false ((2 ^ 24 - 1) * 2 ^ 253 + (2 ^ 24 - 1) * 2 ^ 138) (2 ^ 149) ≡ fin false (2 ^ 24 - 1) (pos 104)
unfolding round
rounds_back = refl

sum_plain : (a c : ℕ) → 0 < c → a * 2 ^ 149 ≤ ((2 ^ 24 - 1) * 2 ^ 253 + (2 ^ 24 - 1) * 2 ^ 138) * c → T (plain (round binary32 false a c))
sum_plain a c C h =
    under_greatest (round binary32 false a c) (upward_round a c)
    (subst (λ (z : Float). T (le (round binary32 false a c) z)) rounds_back (round_mono binary32 a c ((2 ^ 24 - 1) * 2 ^ 253 + (2 ^ 24 - 1) * 2 ^ 138) (2 ^ 149) C (pow_pos 149) h))

-- x / p and y / q, put over p * q
joined : (x p y q s u v : ℕ) → x * s ≤ u * p → y * s ≤ v * q → (x * q + y * p) * s ≤ (u + v) * (p * q)
joined x p y q s u v h k =
    let a : x * q * s ≤ u * (p * q) = le_trans (le_of_eq (mul_right_comm x q s)) (le_trans (mul-le-mul_right q h) (le_of_eq (mul_assoc u p q))) in
    let b : y * p * s ≤ v * (p * q) = le_trans (le_of_eq (mul_right_comm y p s)) (le_trans (mul-le-mul_right p k) (le_of_eq (mul_assoc v q p ∙ ap (λ (z : ℕ). v * z) (mul_comm q p)))) in
    le_trans (le_of_eq (add-mul (x * q) (y * p) s)) (le_trans (add-le-add a b) (le_of_eq (sym (add-mul u v (p * q)))))

add_plain : (x y : Float) → T (plain x) → T (plain y) → num x * 2 ^ 149 ≤ (2 ^ 24 - 1) * 2 ^ 253 * den x → num y * 2 ^ 149 ≤ (2 ^ 24 - 1) * 2 ^ 138 * den y → T (plain (add binary32 x y))
unfolding add sum
add_plain nan y p q h k = absurd p
add_plain (inf s) y p q h k = absurd p
add_plain (fin true m e) y p q h k = absurd p
add_plain (fin false m e) nan p q h k = absurd q
add_plain (fin false m e) (inf t) p q h k = absurd q
add_plain (fin false m e) (fin true n d) p q h k = absurd q
add_plain (fin false m e) (fin false n d) p q h k =
    sum_plain (m * up e * down d + n * up d * down e) (down e * down d) (mul-pos (down_pos e) (down_pos d))
    (joined (m * up e) (down e) (n * up d) (down d) (2 ^ 149) ((2 ^ 24 - 1) * 2 ^ 253) ((2 ^ 24 - 1) * 2 ^ 138) h k)

-- A finite value that is not negative, and a width of at most 4096.0 added: still finite, and not negative.
pub sum_finite : (x w : Float) → fits binary32 x ≡ true → fits binary32 w ≡ true → to_bits binary32 x ≤ 0x7f7f_ffff → to_bits binary32 w ≤ 0x4580_0000 → to_bits binary32 (add binary32 x w) ≤ 0x7f7f_ffff
sum_finite x w f g h k =
    plain_finite (add binary32 x w) (add-fits binary32 x w)
    (add_plain x w (finite_plain x h) (finite_plain w (omega arith))
    (value_of 253 x (passes _ f) (omega arith) (omega arith) (omega arith))
    (value_of 138 w (passes _ g) (omega arith) (omega arith) (omega arith)))
