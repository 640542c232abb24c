-- Family-based logging: a determinant travels with messages until f + 1 hosts are known to hold it. The stable store stays empty.
-- A host keeps, with each determinant that it holds, the hosts that it knows to hold it; one that goes down stays among them.
-- Each rule is stated for one receipt, and then made at all of them.
use Rattle.std.specs.Prelude.{ℕ, zero, suc, Bool, false, cond, not, ◌&&◌, Some, None, Option, ◌==◌, nat_le}
use Rattle.logger.specs.declared.determinant.Determinant.{Determinant}
use Rattle.network.specs.declared.message.Receipt.{Receipt}
use Rattle.logger.specs.Meaning.{Meaning}
use Rattle.logger.specs.Operation.{Operation, start, carry, note, spread, lose, rejoin}
use Rattle.logger.specs.Sources.{source, is_source, pair}
use Rattle.logger.specs.HostSets.{nobody, with_host, either, size}

-- what a host holds of a receipt: which message was taken, and the hosts that it knows to hold that
pub record Holding : Type 0 where
  pub source : Receipt
  pub holders : ℕ → Bool

-- the same determinant, with other known holders
abbrev pub knowing : Holding → (ℕ → Bool) → Holding
knowing e K = record { source = e.source; holders = K }

abbrev pub source_of : Option Holding → Option Receipt
source_of None = None
source_of (Some e) = Some e.source

abbrev pub holders_of : Option Holding → ℕ → Bool
holders_of None = nobody
holders_of (Some e) = e.holders

-- of one receipt: what each host holds of it
abbrev pub Holdings : Type 0
Holdings = ℕ → Option Holding

abbrev pub put : Holdings → ℕ → Option Holding → Holdings
put c p o h = cond (h == p) o (c h)

-- NOTE: p holds d, and knows of no other holder
abbrev pub note_at : ℕ → Determinant → Holdings → Holdings
note_at p d c = put c p (Some (record { source = source d; holders = with_host nobody p }))

-- CARRY e from s to p: what p, which held o, then holds
abbrev pub taken : Option Holding → Holding → ℕ → Holding
taken o e p = knowing e (with_host (either (holders_of o) e.holders) p)

-- and what s then holds
abbrev pub given : Holding → ℕ → Holding
given e p = knowing e (with_host e.holders p)

-- it is carried if s knows at most f holders
abbrev pub carry_held : ℕ → ℕ → ℕ → Holdings → Option Holding → Holdings
carry_held f s p c None = c
carry_held f s p c (Some e) = cond (nat_le (size e.holders) f) (put (put c p (Some (taken (c p) e p))) s (Some (given e p))) c

abbrev pub carry_at : ℕ → ℕ → ℕ → Holdings → Holdings
carry_at f s p c = carry_held f s p c (c s)

-- SPREAD: h joins the holders K if it is up, is not one of them, and they are at most f
abbrev pub join_one : ℕ → (ℕ → Bool) → (ℕ → Bool) → ℕ → ℕ → Bool
join_one f down K h = cond (nat_le (size K) f && (not (down h) && not (K h))) (with_host K h) K

-- K after hosts 0 to n - 1, in this order, could join
abbrev pub join : ℕ → (ℕ → Bool) → (ℕ → Bool) → ℕ → ℕ → Bool
join f down K zero = K
join f down K (suc n) = join_one f down (join f down K n) n

-- h joined the known holders of e, which are now K
abbrev pub joined : Holding → (ℕ → Bool) → ℕ → Bool
joined e K h = K h && not (e.holders h)

-- what h, which held o, then holds: a host that joined gets the determinant, and adds K to the holders that it knows
abbrev pub handed : Holding → (ℕ → Bool) → ℕ → Option Holding → Option Holding
handed e K h o = cond (joined e K h) (Some (knowing e (either (holders_of o) K))) o

-- p, which held e, knows K from now on
abbrev pub hand_out : ℕ → Holding → (ℕ → Bool) → Holdings → Holdings
hand_out p e K c = put (λ h. handed e K h (c h)) p (Some (knowing e K))

-- if p knows at most f holders, hosts join until it knows f + 1 or none is left
abbrev pub spread_held : ℕ → ℕ → (ℕ → Bool) → ℕ → Holdings → Option Holding → Holdings
spread_held n f down p c None = c
spread_held n f down p c (Some e) = cond (nat_le (size e.holders) f) (hand_out p e (join f down e.holders n) c) c

abbrev pub spread_at : ℕ → ℕ → (ℕ → Bool) → ℕ → Holdings → Holdings
spread_at n f down p c = spread_held n f down p c (c p)

-- LOSE: p holds nothing any more
abbrev pub lose_at : ℕ → Holdings → Holdings
lose_at p c = put c p None

-- REJOIN: what two hosts hold, with the holders that either knows
abbrev pub merge : Option Holding → Option Holding → Option Holding
merge None o = o
merge (Some e) None = Some e
merge (Some e) (Some g) = Some (knowing e (either e.holders g.holders))

-- what the hosts below n that are up hold, with all the holders that they know
abbrev pub gather : (ℕ → Bool) → Holdings → ℕ → Option Holding
gather down c zero = None
gather down c (suc n) = cond (down n) (gather down c n) (merge (gather down c n) (c n))

-- what h holds of that when it returns
abbrev pub with_self : Option Holding → ℕ → Option Holding
with_self None h = None
with_self (Some e) h = Some (knowing e (with_host e.holders h))

-- what h, which held o, then holds: what was gathered, if it was down
abbrev pub returned : (ℕ → Bool) → Option Holding → ℕ → Option Holding → Option Holding
returned down all h o = cond (down h) (with_self all h) o

abbrev pub rejoin_at : ℕ → (ℕ → Bool) → Holdings → Holdings
rejoin_at n down c h = returned down (gather down c n) h (c h)

-- The hosts, those that are down, and of a receiver and a receipt number what each host holds.
pub record State : Type 0 where
  pub n : ℕ
  pub f : ℕ
  pub down : ℕ → Bool
  pub holdings : ℕ → ℕ → Holdings

-- n hosts that have done nothing
abbrev pub fresh : ℕ → ℕ → State
fresh n f = record { n = n; f = f; down = nobody; holdings = λ q r h. None }

-- a rule for one receipt, made at all of them
abbrev pub everywhere : (Holdings → Holdings) → (ℕ → ℕ → Holdings) → ℕ → ℕ → Holdings
everywhere rule t q r = rule (t q r)

-- a rule for one receipt, made at that of d
abbrev pub there : (Holdings → Holdings) → Determinant → (ℕ → ℕ → Holdings) → ℕ → ℕ → Holdings
there rule d t q r = cond (q == d.receiver && r == d.number) (rule (t q r)) (t q r)

abbrev pub with_holdings : State → (ℕ → ℕ → Holdings) → State
with_holdings a t = record { n = a.n; f = a.f; down = a.down; holdings = t }

-- what an operation does
abbrev pub after : Operation → State → State
after (start n f) a = fresh n f
after (carry s p) a = with_holdings a (everywhere (carry_at a.f s p) a.holdings)
after (note p d) a = with_holdings a (there (note_at p d) d a.holdings)
after (spread p) a = with_holdings a (everywhere (spread_at a.n a.f a.down p) a.holdings)
after (lose p) a = record { n = a.n; f = a.f; down = with_host a.down p; holdings = everywhere (lose_at p) a.holdings }
after rejoin a = record { n = a.n; f = a.f; down = nobody; holdings = everywhere (rejoin_at a.n a.down) a.holdings }

abbrev pub means : State → Meaning
means a = record {
  n = a.n;
  f = a.f;
  down = a.down;
  held = λ h d. is_source (source_of (a.holdings d.receiver d.number h)) (source d);
  stored = λ d. false;
}

-- FIND: of a receiver and a receipt number, what the hosts that are up hold
abbrev pub finds : State → ℕ → ℕ → Option (ℕ × ℕ)
finds a q r = pair (source_of (gather a.down (a.holdings q r) a.n))
