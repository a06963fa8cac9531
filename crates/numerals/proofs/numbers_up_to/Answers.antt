-- `numerals::numbers_up_to` reads one number after the other: `Parts` has the step.
use Rattle.std.proofs.Common.{◌≡◌, ◌<◌, min, length, arith}
use Rattle.numerals.proofs.Digits.{read_none, read_some}
use Rattle.numerals.proofs.Parts.{read_full, read_bad, read_more, last_bad, last_good}
use Rattle.numerals.proofs.numbers_up_to.Goals as goal

pub returns-in_err-number_in-clause-value : goal.returns-in_err-number_in-clause-value
returns-in_err-number_in-clause-value g c =
    rw (c.from_residual.ensures, last_bad c.loop.invariant.0 c.in_default.ensures (min c.args.most g.row.N) (read_none _ c.in_err-number_in.ensures))

pub returns-in_default-clause-value : goal.returns-in_default-clause-value
returns-in_default-clause-value g c =
    let number = read_some _ _ c.in_ok-number_in.ensures in
    let room : length c.loop.numbers.items < min c.args.most g.row.N = omega arith in
    rw c.push.ensures.items (last_good c.loop.invariant.0 c.in_default.ensures _ _ number.0 number.1 room)

pub returns-in_err-number_in-2-clause-value : goal.returns-in_err-number_in-2-clause-value
returns-in_err-number_in-2-clause-value g c =
    rw (c.from_residual-in_err-number_in-2.ensures, read_bad c.loop.invariant.0 c.in-Some.ensures (min c.args.most g.row.N) (read_none _ c.in_err-number_in-2.ensures))

pub loop-preserved : goal.loop-preserved
loop-preserved g c =
    let number = read_some _ _ c.in_ok-number_in-2.ensures in
    let more = read_more c.loop.invariant.0 c.in-Some.ensures _ number.0 number.1 in
    (rw c.push-in-loop.ensures.items more, omega arith)

pub returns-clause-value : goal.returns-clause-value
returns-clause-value g c =
    let full : length c.loop.numbers.items ≡ min c.args.most g.row.N = omega arith in
    rw (read_full c.loop.invariant.0 (min c.args.most g.row.N) full)
