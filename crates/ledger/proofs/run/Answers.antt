-- `ledger::run` reads, answers and writes record after record: `Progress` says what is left.
use Rattle.std.proofs.Common.{sym, ◌∙◌, arith, ◌≡◌, ◌<◌, ◌/◌, length}
use Rattle.records.specs.Records.{record_length}
use Rattle.ledger.proofs.Decoding.{left_after, left_long, left_short, record_at}
use Rattle.ledger.proofs.Records.{not_read}
use Rattle.ledger.proofs.Progress.{started, ended, stopped, advance}
use Rattle.ledger.proofs.run.Goals as goal

pub loop-answered-init : goal.loop-answered-init
loop-answered-init c = started _ _ _ _ _

pub returns-in_default : goal.returns-in_default
returns-in_default c =
    let k : c.loop-answered.answered < length c.args.calls.now / record_length = omega (arith, c.as_chunks.ensures.front_len, c.loop-answered-test.true) in
    let words = record_at _ c.args.calls.now _ k c.as_chunks.ensures.front in
    stopped
    c.loop-answered.invariant
    (left_long c.args.calls.now _ k)
    (rw (← words) (not_read _ (sym c.call_at.ensures ∙ c.in_default.is)))
    c.ran_to.ensures

pub loop-answered-preserved : goal.loop-answered-preserved
loop-answered-preserved c =
    let k : c.loop-answered.answered < length c.args.calls.now / record_length = omega (arith, c.as_chunks.ensures.front_len, c.loop-answered-test.true) in
    advance
    c.loop-answered.invariant
    _
    c.in-Some.call
    (left_long c.args.calls.now _ k)
    (record_at _ c.args.calls.now _ k c.as_chunks.ensures.front)
    (left_after c.args.calls.now _)
    (sym c.call_at.ensures ∙ c.in-Some.is)
    c.readings-from_delivered.ensures.delivered
    c.readings_taken.ensures.front
    c.readings_taken.ensures.rest
    c.readings-from_delivered.ensures.received
    c.readings_taken-in-loop-answered.ensures.front
    c.readings_taken-in-loop-answered.ensures.rest
    c.answer_call-step.ensures
    c.row_of-row.ensures
    c.write_at.ensures
    c.write_at.auto.buffer

pub returns : goal.returns
returns c =
    let e : c.loop-answered.answered ≡ length c.as_chunks.result.0.now = omega (arith, c.loop-answered-test.false, c.loop-answered.auto.answered-end) in
    ended c.loop-answered.invariant
    (left_short c.args.calls.now _ (omega (arith, e, c.as_chunks.ensures.front_len)))
    (rw (← e) at c.ran_to-2.ensures)
