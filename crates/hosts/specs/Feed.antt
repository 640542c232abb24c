-- What a whole crash-free run leaves in the caller's lists: each post and each delivery has its answer beside it.
use Rattle.std.specs.Prelude.{ℕ, List, [], ◌∷◌, map, Ok, Err, Result}
use Rattle.workload.specs.Machine.{Machine}
use Rattle.workload.specs.declared.Workload as workload
use Rattle.network.specs.declared.refusal.Refusal.{Refusal}
use Rattle.network.specs.Network.{Network, started, starting, posting, delivering}
use Rattle.network.specs.Run.{Feed, after, crash_free}
use Rattle.hosts.specs.declared.crash_free.feed.Delivery.{Delivery}
use Rattle.hosts.specs.declared.crash_free.feed.Post.{Post}

module _ {S : Type 0} (feed : Feed S) where
  -- items that hold such pairs, each with its answer noted
  abbrev pub answered : {X : Type 0} → (X → ℕ × ℕ) → (X → Result ℕ Refusal → X) → Network S → List X → List X
  answered pair note v [] = []
  answered pair note v (x ∷ xs) = note x (feed v (pair x).0 (pair x).1).0 ∷ answered pair note (feed v (pair x).0 (pair x).1).1 xs

abbrev pub post_pair : Post → ℕ × ℕ
post_pair x = (x.host, x.body)

abbrev pub post_answer : Post → Result ℕ Refusal → Post
post_answer x r = record { host = x.host; body = x.body; answer = r }

abbrev pub delivery_pair : Delivery → ℕ × ℕ
delivery_pair x = (x.host, x.sender)

abbrev pub delivery_answer : Delivery → Result ℕ Refusal → Delivery
delivery_answer x r = record { host = x.host; sender = x.sender; answer = r }

-- What a run leaves: the network, and the items with their answers.
pub record Fed (S : Type 0) : Type 0 where
  pub network : Network S
  pub posts : List Post
  pub deliveries : List Delivery

abbrev pub fed : {S : Type 0} → Machine S → ℕ → List Post → List Delivery → Fed S
fed m n posts deliveries = record {
  network = crash_free m n (map post_pair posts) (map delivery_pair deliveries);
  posts = answered posting post_pair post_answer (started m n) posts;
  deliveries = answered delivering delivery_pair delivery_answer (after posting (started m n) (map post_pair posts)) deliveries;
}

-- A run of n hosts: a start that is refused leaves everything as it was.
abbrev pub run_once : {S : Type 0} → Result ℕ Refusal → Machine S → ℕ → Fed S → Result ℕ Refusal × Fed S
run_once (Ok k) m n old = (Ok k, fed m n old.posts old.deliveries)
run_once (Err e) m n old = (Err e, old)

abbrev pub running : {W S : Type 0} → workload.Ghosts W S → Fed S → ℕ → Result ℕ Refusal × Fed S
running work old n = run_once (starting work old.network n).0 (work.machine n) n old
