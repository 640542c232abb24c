-- A replay, one receipt after the other.
use Rattle.std.proofs.Common.{◌≡◌, ℕ, suc, ◌+◌, ◌-◌, ◌<◌, ◌≤◌, Bool, Some, None, Option, sym, ap, ◌∙◌, add-zero, zero-add, arith}
use Rattle.network.specs.declared.message.Message.{Message}
use Rattle.network.specs.Network.{Network, takes}
use Rattle.calls.specs.Recovery.{Finder, lowest, replayable, replay_on, replay}

module _ {S : Type 0} (found : Finder) (returning : ℕ → Bool) where
  -- count receipts are replayed and v is reached in t of at most k turns: the rest leads where all of it does from v₀
  abbrev pub Replaying : ℕ → Network S → ℕ → ℕ → Network S → Type 0
  Replaying k v₀ t count v = replay found returning k v₀ ≡ ((replay found returning (k - t) v).0 + count, (replay found returning (k - t) v).1)

  pub replaying_starts : (k : ℕ) (v : Network S) → Replaying k v 0 0 v
  replaying_starts k v = let e : k - 0 ≡ k = omega arith in rw (e, add-zero)

  -- one turn of those that are left
  turn : (k t : ℕ) (v : Network S) → t < k → replay found returning (k - t) v ≡ replay_on (lowest v.n (replayable found returning v)) v (λ w. replay found returning (k - (t + 1)) w)
  unfolding replay
  turn k t v l = let e : k - t ≡ suc (k - (t + 1)) = omega arith in ap (λ (j : ℕ). replay found returning j v) e

  pub replaying_more :
      (k t count q : ℕ) (v₀ v w : Network S) (a : Message) → t < k → lowest v.n (replayable found returning v) ≡ Some (q, a) → w ≡ takes v q (Some a)
      → Replaying k v₀ t count v → Replaying k v₀ (t + 1) (count + 1) w
  replaying_more k t count q v₀ v w a l e ew r =
      let j = k - (t + 1) in
      let taken : replay found returning (k - t) v ≡ ((replay found returning j w).0 + 1, (replay found returning j w).1) =
      turn k t v l ∙ ap (λ (o : Option (ℕ × Message)). replay_on o v (λ w. replay found returning j w)) e
      ∙ ap (λ (u : Network S). ((replay found returning j u).0 + 1, (replay found returning j u).1)) (sym ew) in
      let counted : (replay found returning j w).0 + 1 + count ≡ (replay found returning j w).0 + (count + 1) = omega arith in
      r ∙ ap (λ (x : ℕ × Network S). (x.0 + count, x.1)) taken ∙ ap (λ (c : ℕ). (c, (replay found returning j w).1)) counted

  -- how a replay ends, whatever its answer is called, if that is the count
  pub replaying_stops :
      (k t count answer : ℕ) (v₀ v : Network S) → t < k → lowest v.n (replayable found returning v) ≡ None → count ≡ answer → Replaying k v₀ t count v
      → replay found returning k v₀ ≡ (answer, v)
  replaying_stops k t count answer v₀ v l e a r =
      r ∙ ap (λ (x : ℕ × Network S). (x.0 + count, x.1)) (turn k t v l ∙ ap (λ (o : Option (ℕ × Message)). replay_on o v (λ w. replay found returning (k - (t + 1)) w)) e)
      ∙ ap (λ (c : ℕ). (c, v)) (zero-add count ∙ a)

  pub replaying_ends : (k t count answer : ℕ) (v₀ v : Network S) → k ≤ t → count ≡ answer → Replaying k v₀ t count v → replay found returning k v₀ ≡ (answer, v)
  unfolding replay
  replaying_ends k t count answer v₀ v l a r =
      let e : k - t ≡ 0 = omega arith in
      r ∙ ap (λ (j : ℕ). ((replay found returning j v).0 + count, (replay found returning j v).1)) e ∙ ap (λ (c : ℕ). (c, v)) (zero-add count ∙ a)
