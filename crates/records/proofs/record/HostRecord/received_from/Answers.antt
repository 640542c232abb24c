use Rattle.std.proofs.Common.{length, ap, ◌∙◌, arith}
use Rattle.network.proofs.Histories.{count_from_low}
use Rattle.network.specs.Network.{count_from}
use Rattle.records.proofs.record.HostRecord.received_from.Goals as goal

pub returns-then-s-lt9 : goal.returns-then-s-lt9
returns-then-s-lt9 c =
    let r = c.args.self.now in
    let is = r.counted c.args.s (omega arith) in
    let low = count_from_low c.args.s r.receipts.items in
    let long = ap length c.as_slice-receipts.ensures.value in
    record { value = is; few = omega (arith, c.as_slice-receipts.ensures.fits); low = omega arith }

pub overflow_cast-result-else-s-lt9 : goal.overflow_cast-result-else-s-lt9
overflow_cast-result-else-s-lt9 c =
    let low = count_from_low c.args.s c.as_slice-receipts.result.now in
    omega (arith, c.as_slice-receipts.ensures.fits, c.count_among.ensures)

pub returns-else-s-lt9 : goal.returns-else-s-lt9
returns-else-s-lt9 c =
    let low = count_from_low c.args.s c.as_slice-receipts.result.now in
    let e = c.as_slice-receipts.ensures in
    let long = ap length e.value in
    record { value = c.count_among.ensures ∙ ap (count_from c.args.s) e.value; few = omega (arith, e.fits, c.count_among.ensures); low = omega (arith, c.count_among.ensures) }
