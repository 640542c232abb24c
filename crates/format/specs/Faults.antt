-- The number of each fault: that of the check that fails.
use Rattle.std.specs.Prelude.{ℕ}
use Rattle.network.specs.Checks.{number}
use Rattle.format.specs.declared.fault.ListFault.{ListFault}
use Rattle.format.specs.declared.fault.ListFault.TheVariants.{Full}
use Rattle.format.specs.declared.fault.ReadFault.{ReadFault}
use Rattle.format.specs.declared.fault.ReadFault.TheVariants.{TooLong, NoOpen, NoSuchKind, CutShort, NoSuchChoice}
use Rattle.format.specs.declared.fault.RunFault.{RunFault}
use Rattle.format.specs.declared.fault.RunFault.TheVariants.{Reader, Cluster, Listing}

abbrev pub read_number : ReadFault → ℕ
read_number TooLong = 15
read_number NoOpen = 16
read_number NoSuchKind = 17
read_number CutShort = 18
read_number NoSuchChoice = 19

abbrev pub list_number : ListFault → ℕ
list_number Full = 20

-- the layer that a fault comes from, and its number there
abbrev pub layer : RunFault → ℕ
layer (Reader e) = 1
layer (Cluster e) = 2
layer (Listing e) = 3

abbrev pub fault_number : RunFault → ℕ
fault_number (Reader e) = read_number e
fault_number (Cluster e) = number e
fault_number (Listing e) = list_number e
