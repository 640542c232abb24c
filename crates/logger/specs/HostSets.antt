-- Sets of hosts, as tests, and how the program keeps them.
use Rattle.std.specs.Prelude.{ℕ, ◌/◌, ◌%◌, ◌^◌, Bool, false, ◌&&◌, ◌||◌, ◌==◌, nat_lt}
use Rattle.logger.specs.declared.host_set.HostSet.{HostSet}
use Rattle.logger.specs.Meaning.{count}

abbrev pub nobody : ℕ → Bool
nobody h = false

abbrev pub with_host : (ℕ → Bool) → ℕ → ℕ → Bool
with_host K p h = K h || h == p

abbrev pub either : (ℕ → Bool) → (ℕ → Bool) → ℕ → Bool
either K L h = K h || L h

-- how many of the hosts 0 to 7 are in the set
abbrev pub size : (ℕ → Bool) → ℕ
size K = count 8 K

-- the hosts below 8 whose bit is 1
abbrev pub members : HostSet → ℕ → Bool
members s h = nat_lt h 8 && s.bits / 2 ^ h % 2 == 1
