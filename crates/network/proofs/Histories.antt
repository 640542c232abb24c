-- One host: what it has after a history, and after a prefix of that history.
use Rattle.std.proofs.Common.{◌≡◌, ℕ, ◌≤◌, Bool, true, false, cond, eqb, List, [], ◌∷◌, ◌++◌, map, length, take, drop, sym, refl, ap, ◌∙◌, append_assoc, append-nil, arith, take-append-drop}
use Rattle.std.proofs.lemmas.List.{length-map}
use Rattle.workload.specs.Machine.{Machine}
use Rattle.network.specs.declared.message.Message.{Message}
use Rattle.network.specs.declared.message.Receipt.{Receipt}
use Rattle.network.specs.Host.{Host, receipt_of, fresh, taking}
use Rattle.network.specs.Network.{bodies_to, count_from}
use Rattle.network.specs.World.{taking_all, host_after}
use Rattle.network.specs.Theorems.{Prefix, Grows, Front}
use Rattle.network.proofs.Places.{prefix_itself, prefix_append, prefix_trans, prefix_take}

pub bodies_to_append : (p : ℕ) (xs ys : List (ℕ × ℕ)) → bodies_to p (xs ++ ys) ≡ bodies_to p xs ++ bodies_to p ys
bodies_to_append p [] ys = refl
bodies_to_append p (x ∷ xs) ys = rw (bodies_to_append p xs ys) (go (eqb x.0 p))
  where
    go : (b : Bool) → cond b (x.1 ∷ (bodies_to p xs ++ bodies_to p ys)) (bodies_to p xs ++ bodies_to p ys) ≡ cond b (x.1 ∷ bodies_to p xs) (bodies_to p xs) ++ bodies_to p ys
    go true = refl
    go false = refl

pub count_from_low : (s : ℕ) (xs : List Receipt) → count_from s xs ≤ length xs
count_from_low s [] = omega arith
count_from_low s (x ∷ xs) = let ih = count_from_low s xs in grind arith

module _ {S : Type 0} (m : Machine S) (p : ℕ) where
  pub taking_append : (x : Host S) (g h : List Message) → taking_all m p x (g ++ h) ≡ taking_all m p (taking_all m p x g) h
  taking_append x [] h = refl
  taking_append x (t ∷ g) h = taking_append (taking m p x t) g h

  -- one message more
  pub host_snoc : (h : List Message) (t : Message) → host_after m p (h ++ (t ∷ [])) ≡ taking m p (host_after m p h) t
  host_snoc h t = taking_append (fresh m p) h (t ∷ [])

  taking_grows : (x : Host S) (h : List Message) → Grows x (taking_all m p x h)
  taking_grows x [] = record { receipts = prefix_itself _; sends = prefix_itself _; outputs = prefix_itself _ }
  taking_grows x (t ∷ h) =
      let g = taking_grows (taking m p x t) h in
      record {
        receipts = prefix_trans _ _ _ (prefix_append x.receipts _) g.receipts;
        sends = prefix_trans _ _ _ (prefix_append x.sends _) g.sends;
        outputs = prefix_trans _ _ _ (prefix_append x.outputs _) g.outputs;
      }

  pub host_grows : (g h : List Message) → Prefix g h → Grows (host_after m p g) (host_after m p h)
  host_grows g h q = rw (q.1, taking_append) (taking_grows (host_after m p g) q.0)

  -- the bodies of the messages that it sent to q
  pub bodies_grow : (q : ℕ) (g h : List Message) → Prefix g h → Prefix (bodies_to q (host_after m p g).sends) (bodies_to q (host_after m p h).sends)
  bodies_grow q g h r =
      let more = (host_grows g h r).sends in
      (bodies_to q more.0, ap (bodies_to q) more.1 ∙ bodies_to_append q _ more.0)

  pub front : (k : ℕ) (h : List Message) → Front m p k h
  front k h = record {
    goes_on = rw take-append-drop at (taking_append (fresh m p) (take k h) (drop k h));
    grows = host_grows (take k h) h (prefix_take k h);
  }

  -- the receipts are those of the history
  pub receipts_are : (h : List Message) → (host_after m p h).receipts ≡ map receipt_of h
  receipts_are = go (fresh m p)
    where
      go : (x : Host S) (h : List Message) → (taking_all m p x h).receipts ≡ x.receipts ++ map receipt_of h
      go x [] = sym (append-nil x.receipts)
      go x (t ∷ h) = go (taking m p x t) h ∙ append_assoc x.receipts (receipt_of t ∷ []) (map receipt_of h)

  pub length_receipts : (h : List Message) → length (host_after m p h).receipts ≡ length h
  length_receipts h = ap length (receipts_are h) ∙ length-map h receipt_of
