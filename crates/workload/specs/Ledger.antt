-- The licence ledger: each host keeps a balance of licences.
use Rattle.std.specs.Prelude.{ℕ, ◌+◌, ◌-◌, ◌*◌, ◌%◌, ◌^◌, Bool, cond, not, ◌&&◌, List, Some, None, Option, ◌==◌, nat_le, nat_lt, slice_index}
use Rattle.workload.specs.declared.fields.Fields.{Fields}
use Rattle.workload.specs.declared.ledger.order.Order.{Order}
use Rattle.workload.specs.declared.ledger.order.Order.TheVariants.{Credit, Transfer, Arrival, Statement}
use Rattle.workload.specs.Body.{fields, when}
use Rattle.workload.specs.Machine.{Machine, Step, silently}

-- the kind byte of each order
abbrev pub kind : Order → ℕ
kind (Credit a) = 1
kind (Transfer t a) = 2
kind (Arrival a) = 3
kind Statement = 4

-- this order where the kind byte is its own
abbrev if_kind : ℕ → Order → Option Order → Option Order
if_kind k o other = when (k == kind o) o other

-- The order in a body: an arrival comes from a host, the others come from outside.
abbrev pub order_in : Bool → Fields → Option Order
order_in from_outside b =
    cond from_outside
    (if_kind b.kind (Credit b.low) (if_kind b.kind (Transfer b.target b.low) (if_kind b.kind Statement None)))
    (if_kind b.kind (Arrival b.low) None)

-- the body of an order: its kind, its target and its amount, all other bytes 0
abbrev pub body_of : Order → ℕ
body_of (Credit a) = kind (Credit a) * 2 ^ 56 + a
body_of (Transfer t a) = kind (Transfer t a) * 2 ^ 56 + t * 2 ^ 32 + a
body_of (Arrival a) = kind (Arrival a) * 2 ^ 56 + a
body_of Statement = kind Statement * 2 ^ 56

abbrev pub credited : ℕ → ℕ → ℕ
credited x a = (x + a) % 2 ^ 64

-- may p, with the balance x, hand a licences to t
abbrev pub may_transfer : ℕ → ℕ → ℕ → ℕ → ℕ → Bool
may_transfer n p x t a = nat_lt t n && not (t == p) && nat_le 1 a && nat_le a x

-- What host p, of n, with the balance x, makes of an order.
abbrev pub settled : ℕ → ℕ → ℕ → Option Order → Step ℕ
settled n p x None = silently x
settled n p x (Some (Credit a)) = silently (credited x a)
settled n p x (Some (Transfer t a)) =
    cond (may_transfer n p x t a) (record { state = x - a; reaction = record { send = Some (t, body_of (Arrival a)); output = None } }) (silently x)
settled n p x (Some (Arrival a)) = silently (credited x a)
settled n p x (Some Statement) = record { state = x; reaction = record { send = None; output = Some x } }

-- the balance of each host in a table
abbrev pub balance_at : List ℕ → ℕ → ℕ
balance_at xs h = slice_index xs h

-- The ledger of n hosts: a balance is first 0, and is shown as it is.
abbrev pub ledger : ℕ → Machine ℕ
ledger n = record { first = λ p. 0; rule = λ p x s body. settled n p x (order_in (s == 8) (fields body)); shown = λ x. x }
