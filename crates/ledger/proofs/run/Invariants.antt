use Rattle.std.proofs.Common.{◌*◌, drop}
use Rattle.records.specs.Records.{record_length}
use Rattle.ledger.proofs.Progress.{Running}
use Rattle.ledger.proofs.run.Given as goal

abbrev pub invariant-loop-answered : goal.invariant-loop-answered
invariant-loop-answered l =
    Running l.initial.account l.calls l.delivered l.received l.initial.answers l.answers l.account l.answered
    (drop (record_length * l.answered) l.calls)
    l.delivered_left l.received_left
