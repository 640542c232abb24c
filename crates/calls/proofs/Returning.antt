-- Hosts that return: each has taken a part of its history, and takes the rest of it, in whatever order.
use Rattle.std.proofs.Common.{◌≡◌, ℕ, suc, ◌+◌, ◌-◌, ◌<◌, Bool, true, false, cond, length, take, Some, sym, refl, ap, ◌∙◌, subst, inl, inr, arith, take_all}
use lib.Seq.{take-length}
use Rattle.std.proofs.lemmas.Bool.{eq-eqb, ne_eqb, cases_eq, cases_lt}
use Rattle.std.specs.List.{slice_get}
use Rattle.workload.specs.Machine.{replaced}
use Rattle.network.specs.declared.message.Message.{Message}
use Rattle.network.specs.Host.{Host}
use Rattle.network.specs.Network.{Network, received, waiting, is_sender, takes}
use Rattle.network.specs.World.{World, cut, host_after, network, Reached}
use Rattle.network.specs.Theorems.{Entry, Ready}
use Rattle.network.proofs.Places.{nth_lt, nth_some, take_snoc}
use Rattle.network.proofs.Histories.{host_snoc}
use Rattle.network.proofs.Messages.{sender_cases, waiting_by_hosts}
use Rattle.network.proofs.Reached.{entry, progress, faithful}
use Rattle.calls.specs.Recovery.{total}
use Rattle.calls.proofs.Sums.{total_less, total_some}

-- one more at q
abbrev pub further : (ℕ → ℕ) → ℕ → ℕ → ℕ
further u q = replaced u q (suc (u q))

module _ {S : Type 0} (v : Network S) where
  abbrev with_hosts : (ℕ → Host S) → Network S
  with_hosts hosts = record { n = v.n; machine = v.machine; hosts = hosts; posts = v.posts; released = v.released }

  same_hosts : (x y : ℕ → Host S) → ((h : ℕ) → x h ≡ y h) → with_hosts x ≡ with_hosts y
  same_hosts x y e = λ i. with_hosts (λ h. e h i)

module _ {S : Type 0} (v : Network S) (returning : ℕ → Bool) (W : World) where
  -- a returning host h has taken the first u h messages of its history
  abbrev pub part_way : (ℕ → ℕ) → Network S
  part_way u = with_hosts v (λ h. cond (returning h) (host_after v.machine h (take (u h) (W h))) (v.hosts h))

  -- the returning hosts have their whole histories
  abbrev pub brought_back : Network S
  brought_back = with_hosts v (λ h. cond (returning h) (host_after v.machine h (W h)) (v.hosts h))

  -- how many messages a host has yet to take
  abbrev yet : (ℕ → ℕ) → ℕ → ℕ
  yet u h = cond (returning h) (length (W h) - u h) 0

  abbrev pub left : (ℕ → ℕ) → ℕ
  left u = total v.n (yet u)

  -- t comes next in the history of q, a returning host
  pub record ComesNext (u : ℕ → ℕ) (q : ℕ) (t : Message) : Type 0 where
    pub host : q < v.n
    pub returns : returning q ≡ true
    pub is : slice_get (W q) (u q) ≡ Some t

  module _ (u : ℕ → ℕ) (q : ℕ) (t : Message) (next : ComesNext u q t) where
    pub takes_next : takes (part_way u) q (Some t) ≡ part_way (further u q)
    takes_next = same_hosts v (takes (part_way u) q (Some t)).hosts (part_way (further u q)).hosts (λ h. elim (cases_eq h q) [
      | inl i ↦ subst (λ (h : ℕ). (takes (part_way u) q (Some t)).hosts h ≡ (part_way (further u q)).hosts h) (sym i)
          (rw (eq-eqb q q refl, next.returns, take_snoc (W q) (u q) t next.is) (sym (host_snoc v.machine q (take (u q) (W q)) t)))
      | inr ne ↦ rw (ne_eqb h q ne)
    ])

    pub left_less : left u ≡ suc (left (further u q))
    left_less =
        total_less v.n (yet u) (yet (further u q)) q next.host
        (rw (eq-eqb q q refl, next.returns) (omega (arith, nth_lt (W q) (u q) t next.is)))
        (λ h ne. rw (ne_eqb h q ne))

  -- W is a world that runs come to, and the other hosts have their histories in it.
  pub record WorldBehind : Type 0 where
    pub reached : Reached v.machine v.n v.posts W
    pub others : (h : ℕ) → h < v.n → returning h ≡ false → v.hosts h ≡ host_after v.machine h (W h)

  module _ (behind : WorldBehind) where
    pub brought_back_is : (h : ℕ) → h < v.n → brought_back.hosts h ≡ host_after v.machine h (W h)
    brought_back_is h lt = let e = behind.others h lt in grind arith

    module _ (u : ℕ → ℕ) where
      -- the world so far
      abbrev heights : ℕ → ℕ
      heights h = cond (returning h) (u h) (length (W h))

      abbrev so_far : Network S
      so_far = network v.machine v.n v.posts (cut W heights)

      hosts_are : (h : ℕ) → h < v.n → (part_way u).hosts h ≡ so_far.hosts h
      hosts_are h lt = let e = behind.others h lt in let all = take-length (W h) in grind arith

      waiting_is : (q s : ℕ) → q < v.n → is_sender v q s ≡ true → waiting (part_way u) q s ≡ waiting so_far q s
      waiting_is q s lt ok =
          waiting_by_hosts (part_way u) so_far q s refl (hosts_are q lt) (elim (sender_cases v q s ok) [ inl o ↦ inl o | inr h ↦ inr (hosts_are s h.0) ])

      module _ (q : ℕ) (t : Message) (next : ComesNext u q t) where
        pub next_entry : Entry v.machine v.n v.posts W q (u q) t
        next_entry = entry v.machine v.n v.posts behind.reached q (u q) t next.is

        pub next_ssn : t.ssn ≡ received (part_way u) q t.sender + 1
        next_ssn = rw next.returns next_entry.ssn

        -- only the message that comes next can wait from its sender
        pub only_next : (a : Message) → waiting (part_way u) q t.sender ≡ Some a → a ≡ t
        only_next a e =
            faithful v.machine v.n v.posts behind.reached heights q t a (rw next.returns next.is) (sym (waiting_is q t.sender next.host next_entry.sender) ∙ e)

      -- while something is left, some message that comes next waits
      pub some_waits : 0 < left u → (q : ℕ) × (t : Message) × ComesNext u q t × (waiting (part_way u) q t.sender ≡ Some t)
      some_waits more = go (progress v.machine v.n v.posts behind.reached heights w.0 (let l = w.2 in grind arith))
        where
          w : (h : ℕ) × (h < v.n) × (0 < yet u h)
          w = total_some v.n (yet u) more

          go : Ready v.machine v.n v.posts W heights → (q : ℕ) × (t : Message) × ComesNext u q t × (waiting (part_way u) q t.sender ≡ Some t)
          go R =
              let l = nth_lt (W R.host) (heights R.host) R.next R.is in
              let returns : returning R.host ≡ true = grind arith in (
                R.host,
                R.next,
                record { host = R.waits.host; returns = returns; is = rw returns at R.is },
                waiting_is R.host R.next.sender R.waits.host R.waits.sender ∙ R.waits.waits,
              )

      -- where nothing is left, all are back; a host that is not among the n has no history
      pub all_taken : left u ≡ 0 → part_way u ≡ brought_back
      all_taken none = same_hosts v (part_way u).hosts brought_back.hosts (λ h. go h (returning h) refl)
        where
          go : (h : ℕ) (b : Bool) → returning h ≡ b → cond b (host_after v.machine h (take (u h) (W h))) (v.hosts h) ≡ cond b (host_after v.machine h (W h)) (v.hosts h)
          go h false i = refl
          go h true i = elim (cases_lt (u h) (length (W h))) [
            | inl lt ↦ (let t = nth_some (W h) (u h) lt in
                let host = (entry v.machine v.n v.posts behind.reached h (u h) t.0 t.1).host in
                absurd (omega (arith, left_less u h t.0 (record { host = host; returns = i; is = t.1 }))))
            | inr le ↦ ap (host_after v.machine h) (take_all (u h) (W h) le)
          ]
