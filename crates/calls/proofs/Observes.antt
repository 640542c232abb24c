-- What an outside observer has of a trace is what the cluster has of it.
use Rattle.std.proofs.Common.{◌≡◌, ℕ, ◌<◌, List, [], ◌∷◌, ◌++◌, length, Some, None, Option, sym, refl, ap, ◌∙◌, append_assoc, append-nil}
use mathlib.Core.Path.{fun_ext}
use Rattle.workload.specs.Machine.{Machine, replaced}
use Rattle.network.specs.Host.{optional}
use Rattle.network.specs.Network.{bodies_to, posting, started}
use Rattle.network.specs.Run.{AllAccepted}
use Rattle.network.proofs.Histories.{bodies_to_append}
use Rattle.network.proofs.Runs.{accepts_post, added_at}
use Rattle.calls.specs.declared.call.Call.{Call}
use Rattle.calls.specs.declared.call.Made.{Made}
use Rattle.calls.specs.Cluster.{Cluster}
use Rattle.calls.specs.Calls.{Answer}
use Rattle.calls.specs.Trace.{post_in, release_in, posts_of, releases_of}

-- What calls leave as it was, or add to: the hosts, what they do, the bound, the posts and the released outputs.
pub record Outline (S : Type 0) : Type 0 where
  pub n : ℕ
  pub machine : Machine S
  pub f : ℕ
  pub posts : ℕ → List ℕ
  pub released : ℕ → List ℕ

-- lists by host, with one item more, if there is one
abbrev pub with_one : (ℕ → List ℕ) → Option (ℕ × ℕ) → ℕ → List ℕ
with_one g None = g
with_one g (Some x) = replaced g x.0 (g x.0 ++ (x.1 ∷ []))

module _ {S : Type 0} where
  abbrev pub outline : Cluster S → Outline S
  outline c = record { n = c.network.n; machine = c.network.machine; f = c.f; posts = c.network.posts; released = c.network.released }

  -- with what an accepted call adds
  abbrev pub with_call : Outline S → Call → Answer → Outline S
  with_call o call answer = record {
    n = o.n;
    machine = o.machine;
    f = o.f;
    posts = with_one o.posts (post_in call answer);
    released = with_one o.released (release_in call answer);
  }

  -- there is room for a post, if there is one
  abbrev pub Room : Outline S → Option (ℕ × ℕ) → Type 0
  Room o None = Unit {0}
  Room o (Some x) = (x.0 < o.n) × (length (o.posts x.0) < 64)

-- what the last call gives stands at the end
snoc : {A B : Type 0} (all : List A → List B) (one : A → Option B) → all [] ≡ [] → ((x : A) (xs : List A) → all (x ∷ xs) ≡ optional (one x) ++ all xs) → (t : List A) (x : A)
    → all (t ++ (x ∷ [])) ≡ all t ++ optional (one x)
snoc all one none more [] x = more x [] ∙ rw none (append-nil (optional (one x)))
snoc all one none more (y ∷ t) x = more y (t ++ (x ∷ [])) ∙ rw (more y t, snoc all one none more t x) (sym (append_assoc (optional (one y)) (all t) (optional (one x))))

posts_snoc : (t : List Made) (x : Made) → posts_of (t ++ (x ∷ [])) ≡ posts_of t ++ optional (post_in x.call x.answer)
posts_snoc = snoc posts_of (λ x. post_in x.call x.answer) refl (λ x xs. refl)

releases_snoc : (t : List Made) (x : Made) → releases_of (t ++ (x ∷ [])) ≡ releases_of t ++ optional (release_in x.call x.answer)
releases_snoc = snoc releases_of (λ x. release_in x.call x.answer) refl (λ x xs. refl)

-- one more at the end, by host
by_host : (xs ys : List (ℕ × ℕ)) (o : Option (ℕ × ℕ)) → ys ≡ xs ++ optional o → with_one (λ h. bodies_to h xs) o ≡ (λ (h : ℕ). bodies_to h ys)
by_host xs ys None e = rw (e, append-nil)
by_host xs ys (Some x) e = fun_ext (λ h. added_at (λ h. bodies_to h xs) x.0 x.1 h ∙ rw e (sym (bodies_to_append h xs (x ∷ []))))

module _ {S : Type 0} (m : Machine S) (n f : ℕ) where
  -- n hosts, with the posts and the releases of a trace
  abbrev seen : List Made → Outline S
  seen t = record { n = n; machine = m; f = f; posts = λ h. bodies_to h (posts_of t); released = λ h. bodies_to h (releases_of t) }

  pub record Observed (t : List Made) (c : Cluster S) : Type 0 where
    pub is : outline c ≡ seen t
    pub posts : AllAccepted posting (started m n) (posts_of t)

  pub nothing_observed : (c : Cluster S) → outline c ≡ seen [] → Observed [] c
  nothing_observed c e = record { is = e; posts = tt }

  -- one call more
  pub observed_more : (t : List Made) (x : Made) (c d : Cluster S) → Observed t c → outline d ≡ with_call (outline c) x.call x.answer → Room (outline c) (post_in x.call x.answer)
      → Observed (t ++ (x ∷ [])) d
  observed_more t x c d b adds room = record {
    is = adds ∙ ap (λ (o : Outline S). with_call o x.call x.answer) b.is ∙ λ i. record {
      n = n;
      machine = m;
      f = f;
      posts = by_host (posts_of t) (posts_of (t ++ (x ∷ []))) (post_in x.call x.answer) (posts_snoc t x) i;
      released = by_host (releases_of t) (releases_of (t ++ (x ∷ []))) (release_in x.call x.answer) (releases_snoc t x) i;
    };
    posts = rw (posts_snoc t x) (posted (post_in x.call x.answer) (rw b.is at room));
  }
    where
      posted : (o : Option (ℕ × ℕ)) → Room (seen t) o → AllAccepted posting (started m n) (posts_of t ++ optional o)
      posted None r = rw append-nil b.posts
      posted (Some y) r = accepts_post m n (posts_of t) y.0 y.1 b.posts r.0 r.1
