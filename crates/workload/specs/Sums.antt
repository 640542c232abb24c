-- A float sum depends on its order.
use Rattle.std.specs.Prelude.{◌≡◌, ℕ, List, [], ◌∷◌, to_bits}
use Rattle.std.specs.Float.{binary32}
use Rattle.workload.specs.declared.spacing.placement.Placement.{Placement}
use Rattle.workload.specs.Spacing.{spacing, at_margin, width_body}

-- host 0 of two, after it took the widths with these bits from outside
abbrev pub after_widths : Placement → List ℕ → Placement
after_widths x [] = x
after_widths x (a ∷ more) = after_widths ((spacing 2).rule 0 x 8 (width_body a)).state more

abbrev pub position_bits : List ℕ → ℕ
position_bits widths = to_bits binary32 (after_widths at_margin widths).position

-- 4,096.0 swallows each of two widths of 2^-12 that come after it, and not their sum.
pub record OrderMatters : Type 0 where
  pub widest_first : position_bits (0x4580_0000 ∷ 0x3980_0000 ∷ 0x3980_0000 ∷ []) ≡ 0x4580_0000
  pub widest_last : position_bits (0x3980_0000 ∷ 0x3980_0000 ∷ 0x4580_0000 ∷ []) ≡ 0x4580_0001
