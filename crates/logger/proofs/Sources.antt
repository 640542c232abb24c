-- Equal determinants, and equal sources.
use Rattle.std.proofs.Common.{◌≡◌, ℕ, true, Some, None, Option, refl, arith}
use Rattle.std.proofs.lemmas.Bool.Decides.{nat_tests}
use Rattle.logger.specs.declared.determinant.Determinant.{Determinant}
use Rattle.network.specs.declared.message.Receipt.{Receipt}
use Rattle.logger.specs.Sources.{source, same_source, is_source, pair}

pub same_determinant : (e d : Determinant) → e.receiver ≡ d.receiver → e.number ≡ d.number → source e ≡ source d → e ≡ d
same_determinant e d p q s = λ i. record { receiver = p i; number = q i; sender = (s i).sender; ssn = (s i).ssn }

same_source_is : (x y : Receipt) → same_source x y ≡ true → x ≡ y
same_source_is x y t =
    let a : x.sender ≡ y.sender = grind (arith, nat_tests) in
    let b : x.ssn ≡ y.ssn = grind (arith, nat_tests) in
    λ i. record { sender = a i; ssn = b i }

pub source_is : (o : Option Receipt) (x : Receipt) → is_source o x ≡ true → o ≡ Some x
source_is None x t = grind arith
source_is (Some y) x t = let e = same_source_is y x t in cc

pub is_source_of : (o : Option Receipt) (x : Receipt) → o ≡ Some x → is_source o x ≡ true
is_source_of o x e = rw e (grind (arith, nat_tests))

pub pair_is : (o : Option Receipt) (s j : ℕ) → pair o ≡ Some (s, j) → o ≡ Some (record { sender = s; ssn = j })
pair_is None s j e = grind arith
pair_is (Some x) s j e = let p : ◌≡◌ {A = ℕ × ℕ} (x.sender, x.ssn) (s, j) = cc in λ i. Some (record { sender = (p i).0; ssn = (p i).1 })

pub pair_none : (o : Option Receipt) → pair o ≡ None → o ≡ None
pair_none None e = refl
pair_none (Some x) e = grind arith
