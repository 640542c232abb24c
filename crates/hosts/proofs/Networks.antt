-- The network that tables stand for, when some of them change.
use Rattle.std.proofs.Common.{◌≡◌, ℕ, Bool, true, false, cond, eqb, List, refl, ap, ◌∙◌}
use mathlib.Core.Path.{fun_ext}
use Rattle.workload.specs.Machine.{Machine, replaced}
use Rattle.workload.specs.declared.reaction.Reaction.{Reaction}
use Rattle.network.specs.declared.message.Message.{Message}
use Rattle.network.specs.Host.{Host, taking}
use Rattle.network.specs.Network.{Network, with_host}
use Rattle.records.specs.View.{Lists, with_taken}
use Rattle.hosts.specs.View.{host_of}

module _ {S : Type 0} where
  abbrev network_of : ℕ → Machine S → (ℕ → Host S) → (ℕ → List ℕ) → (ℕ → List ℕ) → Network S
  network_of n m hosts posts released = record { n = n; machine = m; hosts = hosts; posts = posts; released = released }

  abbrev pub assembled : ℕ → Machine S → (ℕ → S) → (ℕ → Lists) → (ℕ → List ℕ) → (ℕ → List ℕ) → Network S
  assembled n m x l posts released = network_of n m (λ h. host_of (x h) (l h)) posts released

  pub assembled_is :
      (n : ℕ) (m m' : Machine S) (x x' : ℕ → S) (l l' : ℕ → Lists) (a a' b b' : ℕ → List ℕ) → m ≡ m' → x ≡ x' → l ≡ l' → a ≡ a' → b ≡ b'
      → assembled n m x l a b ≡ assembled n m' x' l' a' b'
  assembled_is n m m' x x' l l' a a' b b' em ex el ea eb = λ i. assembled n (em i) (ex i) (el i) (ea i) (eb i)

  -- a host's state and lists replaced, is the host replaced
  pub host_replaced : (x : ℕ → S) (l : ℕ → Lists) (p : ℕ) (y : S) (k : Lists)
      → (λ (h : ℕ). host_of (replaced x p y h) (replaced l p k h)) ≡ replaced (λ h. host_of (x h) (l h)) p (host_of y k)
  host_replaced x l p y k = fun_ext (λ h. go h (eqb h p))
    where
      go : (h : ℕ) (b : Bool) → host_of (cond b y (x h)) (cond b k (l h)) ≡ cond b (host_of y k) (host_of (x h) (l h))
      go h true = refl
      go h false = refl

  -- a host replaced, whatever the machine is called
  pub replaced_is :
      (n : ℕ) (m m' : Machine S) (x x' : ℕ → S) (l l' : ℕ → Lists) (a b : ℕ → List ℕ) (p : ℕ) (y : S) (k : Lists) → m' ≡ m → x' ≡ replaced x p y → l' ≡ replaced l p k
      → assembled n m' x' l' a b ≡ with_host (assembled n m x l a b) p (host_of y k)
  replaced_is n m m' x x' l l' a b p y k em ex el =
      assembled_is n m' m x' (replaced x p y) l' (replaced l p k) a a b b em ex el refl refl
      ∙ ap (λ (hosts : ℕ → Host S). network_of n m hosts a b) (host_replaced x l p y k)

  -- p took t, with the reaction r
  pub taken_is :
      (n : ℕ) (m m' : Machine S) (x x' : ℕ → S) (l l' : ℕ → Lists) (a b : ℕ → List ℕ) (p : ℕ) (t : Message) (r : Reaction) → m' ≡ m
      → x' ≡ replaced x p (m.rule p (x p) t.sender t.body).state
      → l' ≡ replaced l p (with_taken (l p) t r)
      → r ≡ (m.rule p (x p) t.sender t.body).reaction
      → assembled n m' x' l' a b ≡ with_host (assembled n m x l a b) p (taking m p (host_of (x p) (l p)) t)
  taken_is n m m' x x' l l' a b p t r em ex el er =
      let did = m.rule p (x p) t.sender t.body in
      replaced_is n m m' x x' l l' a b p did.state (with_taken (l p) t did.reaction) em ex
      (el ∙ ap (λ (r : Reaction). replaced l p (with_taken (l p) t r)) er)
