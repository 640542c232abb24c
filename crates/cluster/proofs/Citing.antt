-- How the code of a call comes to what is promised of it.
use Rattle.std.proofs.Common.{◌≡◌, ℕ, Bool, true, false, cond, leb, List, [], ◌∷◌, ◌++◌, Ok, Err, Result, sym, refl, ap, ◌∙◌, subst, arith}
use mathlib.Core.Path.{fun_ext}
use Rattle.workload.specs.Machine.{replaced}
use Rattle.network.specs.declared.refusal.Refusal.{Refusal}
use Rattle.network.specs.Checks.{checked, unless_refused}
use Rattle.network.specs.Host.{fresh}
use Rattle.network.specs.Network.{Network, with_host}
use Rattle.logger.specs.declared.logger.Logger as logger
use Rattle.logger.specs.HostSets.{with_host as joined}
use Rattle.logger.specs.Meaning.{count}
use Rattle.calls.specs.declared.call.Call.{Call}
use Rattle.calls.specs.Calls.{System, checks, done, made, if_accepted, Follows, Called}
use Rattle.calls.specs.Cluster.{Cluster, crashed}

-- checks that fail, or hold, at the front of more
checked_front : (xs ys : List (Bool × Refusal)) (e : Refusal) → checked xs ≡ Err e → checked (xs ++ ys) ≡ Err e
checked_front [] ys e h = let z : ◌≡◌ {A = ℕ} 0 1 = cc in absurd (omega arith)
checked_front (x ∷ xs) ys e h = go x.0 h (checked_front xs ys e)
  where
    go : (b : Bool) → cond b (checked xs) (Err x.1) ≡ Err e → (checked xs ≡ Err e → checked (xs ++ ys) ≡ Err e) → cond b (checked (xs ++ ys)) (Err x.1) ≡ Err e
    go true i ih = ih i
    go false i ih = i

checked_past : (xs ys : List (Bool × Refusal)) → checked xs ≡ Ok tt → checked (xs ++ ys) ≡ checked ys
checked_past [] ys h = refl
checked_past (x ∷ xs) ys h = go x.0 h (checked_past xs ys)
  where
    go : (b : Bool) → cond b (checked xs) (Err x.1) ≡ Ok tt → (checked xs ≡ Ok tt → checked (xs ++ ys) ≡ checked ys) → cond b (checked (xs ++ ys)) (Err x.1) ≡ checked ys
    go true i ih = ih i
    go false i ih = let z : ◌≡◌ {A = ℕ} 0 1 = cc in absurd (omega arith)

-- A call with checks xs and then ys leaves everything as it was where one of xs fails, or where all of those hold and one of ys fails.
module _ {L S : Type 0} (log : logger.Ghosts L) (a : System S L) (call : Call) (xs ys : List (Bool × Refusal)) (are : checks a.cluster call ≡ xs ++ ys) (e : Refusal) where
  refused : checked (xs ++ ys) ≡ Err e → Called log a call (Err e) a
  refused h =
      let fails : checked (checks a.cluster call) ≡ Err e = ap checked are ∙ h in
      record {
        cluster = ap (λ (r : Result (Unit {0}) Refusal). unless_refused r a.cluster (done (log.found a.logger) a.cluster call)) fails;
        logger = subst (λ (r : Result (Unit {0}) Refusal). Follows log (if_accepted r (made (log.found a.logger) a.cluster call)) a.logger a.logger) (sym fails) refl;
      }

  pub refused_first : checked xs ≡ Err e → Called log a call (Err e) a
  refused_first h = refused (checked_front xs ys e h)

  pub refused_later : checked xs ≡ Ok tt → checked ys ≡ Err e → Called log a call (Err e) a
  refused_later h i = refused (checked_past xs ys h ∙ i)

-- the tables of a cluster in which p went down
pub crashed_is :
    {S : Type 0} (c : Cluster S) (p k : ℕ) (v : Network S) (d : ℕ → Bool) → v ≡ with_host c.network p (fresh c.network.machine p) → d ≡ joined c.down p → k ≡ count v.n d
    → ◌≡◌ {A = Cluster S} (record { network = v; f = c.f; whole = leb k c.f; down = d }) (crashed c p)
crashed_is c p k v d ev ed ek =
    let same : d ≡ replaced c.down p true = ed ∙ fun_ext (λ h. grind arith) in
    let all : k ≡ count c.network.n (replaced c.down p true) = ek ∙ (λ i. count (ev i).n (same i)) in
    λ i. record { network = ev i; f = c.f; whole = leb (all i) c.f; down = same i }
