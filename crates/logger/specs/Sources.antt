-- Which message a receipt took.
use Rattle.std.specs.Prelude.{ℕ, Bool, false, ◌&&◌, Some, None, Option, ◌==◌}
use Rattle.logger.specs.declared.determinant.Determinant.{Determinant}
use Rattle.network.specs.declared.message.Receipt.{Receipt}

abbrev pub source : Determinant → Receipt
source d = record { sender = d.sender; ssn = d.ssn }

abbrev pub same_source : Receipt → Receipt → Bool
same_source x y = x.sender == y.sender && x.ssn == y.ssn

-- there is a source, and it is x
abbrev pub is_source : Option Receipt → Receipt → Bool
is_source None x = false
is_source (Some y) x = same_source y x

-- the sender and the ssn
abbrev pub pair : Option Receipt → Option (ℕ × ℕ)
pair None = None
pair (Some x) = Some (x.sender, x.ssn)
