-- A replay brings each returning host back to its whole history, if that is what is found of it.
use Rattle.std.proofs.Common.{◌≡◌, ℕ, zero, suc, ◌+◌, ◌<◌, min, Bool, true, cond, ltb, length, take, Some, None, Option, sym, refl, ap, ◌∙◌, add-one, arith, length-take}
use Rattle.std.proofs.lemmas.Bool.{eq-eqb, lt-ltb}
use Rattle.std.proofs.lemmas.Bool.Decides.{nat_tests}
use Rattle.std.specs.List.{slice_get}
use Rattle.network.specs.declared.message.Message.{Message}
use Rattle.network.specs.Host.{Host}
use Rattle.network.specs.Network.{Network, received, waiting, is_sender}
use Rattle.network.specs.World.{World}
use Rattle.network.proofs.Places.{none_some, nth_lt, nth_some}
use Rattle.network.proofs.Histories.{length_receipts}
use Rattle.calls.specs.Recovery.{Finder, target, targets, total, lowest, replayable, replay, replayed, all_reached}
use Rattle.calls.proofs.Sums.{total_same, all_true, lowest_is, lowest_none}
use Rattle.calls.proofs.Returning.{part_way, brought_back, left, further, ComesNext, takes_next, left_less, WorldBehind, brought_back_is, next_entry, next_ssn, only_next, some_waits, all_taken}

-- of a returning host its history is found, and no more
pub record Finds {S : Type 0} (found : Finder) (v : Network S) (returning : ℕ → Bool) (W : World) : Type 0 where
  pub targets : (h : ℕ) → h < v.n → returning h ≡ true → target found h ≡ length (W h)
  pub entries : (h k : ℕ) (x : Message) → h < v.n → returning h ≡ true → slice_get (W h) k ≡ Some x → found h (suc k) ≡ Some (x.sender, x.ssn)

module _ {S : Type 0} (found : Finder) (v : Network S) (returning : ℕ → Bool) (W : World) (behind : WorldBehind v returning W) (finds : Finds found v returning W) where
  module _ (u : ℕ → ℕ) where
    abbrev now : Network S
    now = part_way v returning W u

    received_long : (q : ℕ) → returning q ≡ true → length (now.hosts q).receipts ≡ min (u q) (length (W q))
    received_long q returns = rw returns (length_receipts v.machine q (take (u q) (W q)) ∙ length-take (u q) (W q))

    -- a returning host can take what waits from the sender of the message that comes next
    replayable_is : (q : ℕ) (t : Message) → ComesNext v returning W u q t → replayable found returning now q ≡ waiting now q t.sender
    replayable_is q t next =
        let more = nth_lt (W q) (u q) t next.is in
        let long : length (now.hosts q).receipts ≡ u q = received_long q next.returns ∙ omega arith in
        let below : ltb (u q) (target found q) ≡ true = lt-ltb (u q) (target found q) (rw (finds.targets q next.host next.returns) more) in
        let is : found q (u q + 1) ≡ Some (t.sender, t.ssn) = rw add-one (finds.entries q (u q) t next.host next.returns next.is) in
        let sender : is_sender now q t.sender ≡ true = (next_entry v returning W behind u q t next).sender in
        let ssn = eq-eqb t.ssn (received now q t.sender + 1) (next_ssn v returning W behind u q t next) in
        rw (long, below, is, sender, ssn, next.returns)

    below_target : (q : ℕ) (a : Message) → replayable found returning now q ≡ Some a → (returning q ≡ true) × (length (now.hosts q).receipts < target found q)
    below_target q a e = grind (arith, nat_tests)

    -- so it takes the message that comes next
    replayable_next : (q : ℕ) (a : Message) → q < v.n → replayable found returning now q ≡ Some a → ComesNext v returning W u q a
    replayable_next q a lt e =
        let below = below_target q a e in
        let t = nth_some (W q) (u q) (omega (arith, received_long q below.0, finds.targets q lt below.0)) in
        let next : ComesNext v returning W u q t.0 = record { host = lt; returns = below.0; is = t.1 } in
        rw (only_next v returning W behind u q t.0 next a (sym (replayable_is q t.0 next) ∙ e)) next

    -- while something is left, the lowest host that can go on does
    goes_on : 0 < left v returning W u → (q : ℕ) × (t : Message) × ComesNext v returning W u q t × (lowest v.n (replayable found returning now) ≡ Some (q, t))
    goes_on more = go (lowest v.n (replayable found returning now)) refl
      where
        go : (o : Option (ℕ × Message)) → lowest v.n (replayable found returning now) ≡ o → (q : ℕ) × (t : Message) × ComesNext v returning W u q t × (o ≡ Some (q, t))
        go None i =
            let w = some_waits v returning W behind u more in
            let none = lowest_none v.n (replayable found returning now) i w.0 w.2.host in
            absurd (none_some w.1 (sym none ∙ replayable_is w.0 w.1 w.2 ∙ w.3))
        go (Some x) i = let has = lowest_is v.n (replayable found returning now) x i in (x.0, x.1, replayable_next x.0 x.1 has.0 has.1, refl)

  replay_is : (k : ℕ) (u : ℕ → ℕ) → left v returning W u ≡ k → replay found returning k (part_way v returning W u) ≡ (k, brought_back v returning W)
  unfolding replay
  replay_is zero u e = λ i. (0, all_taken v returning W behind u e i)
  replay_is (suc k) u e =
      let w = goes_on u (omega arith) in
      let ih = replay_is k (further u w.0) (omega (arith, left_less v returning W u w.0 w.1 w.2)) in
      rw (w.3, takes_next v returning W u w.0 w.1 w.2, ih, add-one)

  abbrev in_all : ℕ
  in_all = total v.n (λ h. cond (returning h) (length (W h)) 0)

  pub replayed_is : replayed found returning v ≡ (in_all, brought_back v returning W)
  replayed_is = rw enough (replay_is in_all (λ h. 0) (total_same v.n _ _ (λ h lt. grind arith)))
    where
      enough : targets found returning v.n ≡ in_all
      enough = total_same v.n _ _ (λ h lt. let t = finds.targets h lt in grind arith)

  pub reached_all : all_reached found returning (brought_back v returning W) ≡ true
  reached_all = all_true v.n _ (λ h lt.
      let long = ap (λ (x : Host S). length x.receipts) (brought_back_is v returning W behind h lt) ∙ length_receipts v.machine h (W h) in
      let t = finds.targets h lt in
      grind (arith, nat_tests))
