-- Spacing: each host adds widths to a position, rounding once for each, and keeps the greatest width.
use Rattle.std.specs.Prelude.{ℕ, ◌+◌, ◌*◌, ◌^◌, ◌<◌, ◌≤◌, cond, ◌&&◌, List, Some, None, Option, ◌==◌, from_bits, nat_le, nat_lt, slice_index_or, to_bits, Float}
use Rattle.std.specs.Float.{binary32}
use Rattle.std.specs.Float.Ieee.{add, le}
use Rattle.workload.specs.declared.fields.Fields.{Fields}
use Rattle.workload.specs.declared.reaction.Reaction.{Reaction}
use Rattle.workload.specs.declared.spacing.mark.Mark.{Mark}
use Rattle.workload.specs.declared.spacing.mark.Mark.TheVariants.{Width, Bar}
use Rattle.workload.specs.declared.spacing.placement.Placement.{Placement}
use Rattle.workload.specs.Body.{fields, when}
use Rattle.workload.specs.Machine.{Machine, Step, no_reaction}

-- the kind byte of each mark
abbrev pub kind : Mark → ℕ
kind (Width w) = 1
kind Bar = 2

-- the bits of 4,096.0, the widest that is taken: all negative numbers, infinities and NaNs have larger ones
abbrev pub widest : ℕ
widest = 0x4580_0000

-- The mark in a body. The low 32 bits of a width are those of a binary32 float.
abbrev pub mark_in : Fields → Option Mark
mark_in b =
    when (b.kind == kind (Width (from_bits binary32 b.low)) && nat_le b.low widest) (Width (from_bits binary32 b.low))
    (when (b.kind == kind Bar) Bar None)

-- the body of a width, by the bits of its float
abbrev pub width_body : ℕ → ℕ
width_body bits = kind (Width (from_bits binary32 bits)) * 2 ^ 56 + bits

-- a float that is finite and not negative, by its bits
abbrev pub FiniteNonnegative : Float → Type 0
FiniteNonnegative x = to_bits binary32 x ≤ 0x7f7f_ffff

abbrev pub Steady : Placement → Type 0
Steady x = FiniteNonnegative x.position × FiniteNonnegative x.greatest

-- each of the eight records of a table
abbrev pub AllSteady : List Placement → Type 0
AllSteady xs = (h : ℕ) (d : Placement) → h < 8 → Steady (slice_index_or xs h d)

-- a width that mark_in gives
abbrev pub TakenWidth : Option Mark → Type 0
TakenWidth None = Unit {0}
TakenWidth (Some (Width w)) = to_bits binary32 w ≤ widest
TakenWidth (Some Bar) = Unit {0}

abbrev pub at_margin : Placement
at_margin = record { position = from_bits binary32 0; greatest = from_bits binary32 0 }

-- the record of each host in a table
abbrev pub placement_at : List Placement → ℕ → Placement
placement_at xs h = slice_index_or xs h at_margin

abbrev pub larger : Float → Float → Float
larger x w = cond (le w x) x w

abbrev pub widened : Placement → Float → Placement
widened x w = record { position = add binary32 x.position w; greatest = larger x.greatest w }

abbrev pub placed : Placement → Option Mark → Placement
placed x None = x
placed x (Some (Width w)) = widened x w
placed x (Some Bar) = x

-- the bits of the greatest width, then those of the position
abbrev pub both_bits : Placement → ℕ
both_bits x = to_bits binary32 x.greatest * 2 ^ 32 + to_bits binary32 x.position

-- any host but the last sends the same body on to the next
abbrev pub onward : ℕ → ℕ → ℕ → Option (ℕ × ℕ)
onward n p body = cond (nat_lt (p + 1) n) (Some (p + 1, body)) None

-- on a barline the last host puts out its numbers
abbrev pub barline_output : ℕ → ℕ → Placement → Option ℕ
barline_output n p x = cond (nat_lt (p + 1) n) None (Some (both_bits x))

-- what host p, of n, in the state x, sends and puts out when it takes a body with this mark
abbrev pub reacted : ℕ → ℕ → Placement → ℕ → Option Mark → Reaction
reacted n p x body None = no_reaction
reacted n p x body (Some (Width w)) = record { send = onward n p body; output = None }
reacted n p x body (Some Bar) = record { send = onward n p body; output = barline_output n p x }

abbrev pub spaced : ℕ → ℕ → Placement → ℕ → Option Mark → Step Placement
spaced n p x body mark = record { state = placed x mark; reaction = reacted n p x body mark }

-- The spacing of n hosts.
abbrev pub spacing : ℕ → Machine Placement
spacing n = record { first = λ p. at_margin; rule = λ p x s body. spaced n p x body (mark_in (fields body)); shown = both_bits }
