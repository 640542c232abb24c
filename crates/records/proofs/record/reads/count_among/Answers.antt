use Rattle.std.proofs.Common.{◌≡◌, ℕ, suc, ◌+◌, Bool, true, false, cond, eqb, count_by, refl, sym, ◌∙◌, rules, arith}
use Rattle.std.proofs.iter.runs.Made.{chains}
use Rattle.std.proofs.lemmas.List.Recursion.{is_count_by}
use Rattle.network.specs.Network.{count_from}
use Rattle.records.proofs.record.reads.count_among.Goals as goal

one_more : (b : Bool) (n : ℕ) → cond b (suc n) n ≡ cond b (1 + n) n
one_more true n = omega arith
one_more false n = refl

pub returns : goal.returns
returns c =
    let s = c.args.s in
    let chain : c.count.result ≡ count_by (λ r. eqb r.sender s) c.args.receipts.now = search (rules, chains) in
    chain ∙ sym (is_count_by (count_from s) (λ r. eqb r.sender s) refl (λ x xs. one_more (eqb x.sender s) (count_from s xs)) c.args.receipts.now)
