-- Without crashes a cluster does what its network does, whatever the logger.
use Rattle.std.proofs.Common.{◌≡◌, ℕ, ◌<◌, true, eqb, List, [], ◌∷◌, ◌++◌, map, length, is_ok, Ok, Err, Result, sym, refl, ap, ◌∙◌, append-nil, arith}
use Rattle.std.proofs.lemmas.Bool.{or_right}
use Rattle.workload.specs.Machine.{Machine}
use Rattle.network.specs.declared.refusal.Refusal.{Refusal}
use Rattle.network.specs.Checks.{unless_refused}
use Rattle.network.specs.Network.{Network, outside, posting, delivering, started}
use Rattle.network.specs.Run.{Feed, after, AllAccepted, crash_free}
use Rattle.logger.specs.declared.logger.Logger as logger
use Rattle.calls.specs.declared.call.Call.{Call}
use Rattle.calls.specs.declared.call.Call.TheVariants.{Post, Deliver}
use Rattle.calls.specs.declared.call.Made.{Made}
use Rattle.calls.specs.Cluster.{Cluster, nobody, opened}
use Rattle.calls.specs.Calls.{Answer, System, outcome, Called}
use Rattle.calls.specs.Trace.{Trace, opens, then}
use Rattle.calls.specs.Alike.{NoneRefused, NoLoggerShows}

no_calls : (x : Call) (xs : List Call) → ◌≡◌ {A = List Call} [] (x ∷ xs) → ⊥
no_calls x xs e = let z : 0 ≡ length (x ∷ xs) = ap length e in omega arith

abbrev calls_of : List Made → List Call
calls_of t = map (λ (x : Made). x.call) t

abbrev post : ℕ × ℕ → Call
post x = Post x.0 x.1

abbrev delivery : ℕ × ℕ → Call
delivery x = Deliver x.0 x.1

module _ {S : Type 0} (f : ℕ) where
  -- all hosts are up, and the cluster is whole
  abbrev calm : Network S → Cluster S
  calm v = record { network = v; f = f; whole = true; down = nobody }

  abbrev calmly : Answer × Network S → Answer × Cluster S
  calmly r = (r.0, calm r.1)

  done_calmly : (r : Result (Unit {0}) Refusal) (v w : Network S) (k : ℕ) → unless_refused r (calm v) (Ok k, calm w) ≡ calmly (unless_refused r v (Ok k, w))
  done_calmly (Ok u) v w k = refl
  done_calmly (Err e) v w k = refl

module _ {L S : Type 0} (log : logger.Ghosts L) (f : ℕ) where
  -- on such a cluster, a call does what a feed does to its network
  abbrev Alike : Feed S → (ℕ × ℕ → Call) → Type 0
  Alike feed call = (a : System S L) (v : Network S) (x : ℕ × ℕ) → a.cluster ≡ calm f v → outcome log a (call x) ≡ calmly f (feed v x.0 x.1)

  posts_alike : Alike posting post
  posts_alike a v x e = rw e (done_calmly f _ v _ _)

  deliveries_alike : Alike delivering delivery
  deliveries_alike a v x e = rw (e, or_right (eqb x.1 outside) true refl) (done_calmly f _ v _ _)

  -- the calls of a trace, from the first on
  abbrev Goes : System S L → List Made → System S L → Type 0
  Goes a [] b = a ≡ b
  Goes a (x ∷ t) b = (d : System S L) × Called log a x.call x.answer d × Goes d t b

  goes_on : (t : List Made) (a b d : System S L) (x : Made) → Goes a t b → Called log b x.call x.answer d → Goes a (t ++ (x ∷ [])) d
  goes_on [] a b d x g k = (d, rw g k, refl)
  goes_on (y ∷ t) a b d x g k = (g.0, g.1, goes_on t g.0 b d x g.2 k)

  of_trace : (m : Machine S) (n : ℕ) {t : List Made} {a : System S L} → Trace log m n f t a → (l : L) × Goes (record { cluster = opened m n f; logger = l }) t a
  of_trace m n (opens {l' = l} s) = (l, refl)
  of_trace m n (then {t = t} {a = a} {b = b} {x = x} T k) = let w = of_trace m n T in (w.0, goes_on t (record { cluster = opened m n f; logger = w.0 }) a b x w.1 k)

  -- what is fed first is accepted; so the whole is, if what comes then is
  module _ (feed : Feed S) (call : ℕ × ℕ → Call) (alike : Alike feed call) (b : System S L) (then-calls : List Call) (R : Type 0) where
    feeding :
        (xs : List (ℕ × ℕ)) (t : List Made) (a : System S L) (v : Network S)
        → a.cluster ≡ calm f v
        → AllAccepted feed v xs
        → Goes a t b
        → calls_of t ≡ map call xs ++ then-calls
        → ((t : List Made) (a : System S L) → a.cluster ≡ calm f (after feed v xs) → Goes a t b → calls_of t ≡ then-calls → NoneRefused t × R)
        → NoneRefused t × R
    feeding [] t a v e ok g i rest = rest t a e g i
    feeding (x ∷ xs) [] a v e ok g i rest = absurd (no_calls (call x) (map call xs ++ then-calls) i)
    feeding (x ∷ xs) (y ∷ t) a v e ok g i rest =
        let head : y.call ≡ call x = cc in
        let tail : calls_of t ≡ map call xs ++ then-calls = cc in
        let is : (y.answer, g.0.cluster) ≡ calmly f (feed v x.0 x.1) = sym g.1.cluster ∙ ap (outcome log a) head ∙ alike a v x e in
        let r = feeding xs t g.0 (feed v x.0 x.1).1 (ap (λ (o : Answer × Cluster S). o.1) is) ok.1 g.2 tail rest in
        ((ap (λ (o : Answer × Cluster S). is_ok o.0) is ∙ ok.0, r.0), r.1)

pub no_logger_shows : {L S : Type 0} (log : logger.Ghosts L) (machine : ℕ → Machine S) → NoLoggerShows log machine
no_logger_shows {L} {S} log machine n f sizes posts pairs valid t a T i =
    let w = of_trace log f (machine n) n T in
    feeding log f posting post (posts_alike log f) a (map delivery pairs) Same posts t (record { cluster = opened (machine n) n f; logger = w.0 }) (started (machine n) n) refl valid.0 w.1 i
    (λ t b e g i. feeding log f delivering delivery (deliveries_alike log f) a [] Same pairs t b (after posting (started (machine n) n) posts) e valid.1 g (i ∙ sym (append-nil _)) last)
  where
    Same : Type 0
    Same = (h : ℕ) → h < n → a.cluster.network.hosts h ≡ (crash_free (machine n) n posts pairs).hosts h

    last : (t : List Made) (b : System S L) → b.cluster ≡ calm f (crash_free (machine n) n posts pairs) → Goes log f b t a → calls_of t ≡ [] → NoneRefused t × Same
    last [] b e g i = (tt, λ h l. ap (λ (c : Cluster S). c.network.hosts h) (ap (λ (x : System S L). x.cluster) (sym g) ∙ e))
    last (y ∷ t) b e g i = absurd (no_calls y.call (calls_of t) (sym i))
