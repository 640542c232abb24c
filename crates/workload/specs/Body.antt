-- The parts of a message body of 64 bits. Byte 7 is the highest.
use Rattle.std.specs.Prelude.{ℕ, ◌/◌, ◌%◌, ◌^◌, Bool, cond, Some, Option}
use Rattle.workload.specs.declared.fields.Fields.{Fields}

-- byte 7, byte 4 and the low 32 bits
abbrev pub fields : ℕ → Fields
fields body = record { kind = body / 2 ^ 56; target = body / 2 ^ 32 % 2 ^ 8; low = body % 2 ^ 32 }

-- x where the test passes, else the other
abbrev pub when : {A : Type 0} → Bool → A → Option A → Option A
when b x other = cond b (Some x) other
