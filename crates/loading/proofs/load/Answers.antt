-- `loading::load` stores the rows where all lines are good: `Reading` has what the definitions say then.
use Rattle.std.proofs.Common.{sym, ◌∙◌}
use Rattle.loading.proofs.Reading.{load_other, load_bad, load_good, rows_absent, rows_present, refused_number}
use Rattle.loading.proofs.load.Goals as goal

pub returns-then-table-ne-SCHEDULE_LENGTH : goal.returns-then-table-ne-SCHEDULE_LENGTH
returns-then-table-ne-SCHEDULE_LENGTH c =
    let answer = load_other c.args.text.now c.args.table.now c.if-table-ne-SCHEDULE_LENGTH.true in
    record { value = answer.0; table_after = answer.1 }

pub returns-in_err-rows : goal.returns-in_err-rows
returns-in_err-rows c =
    let bad = rows_absent _ _ _ c.rows_in.ensures _ (sym c.ok_or.ensures.value ∙ c.in_err-rows.was) in
    let answer = load_bad c.args.text.now c.args.table.now c.if-table-ne-SCHEDULE_LENGTH.false bad in
    record { value = refused_number _ c.from_residual.ensures.0 ∙ answer.0; table_after = answer.1 }

pub returns : goal.returns
returns c =
    let rows = rows_present _ _ _ c.rows_in.ensures _ (sym c.ok_or.ensures.value ∙ c.in_ok-rows.was) in
    let answer = load_good c.args.text.now c.args.table.now c.if-table-ne-SCHEDULE_LENGTH.false rows.good in
    record { value = answer.0; table_after = c.copy_from_slice.ensures.after ∙ c.as_flattened.ensures.value ∙ rows.given ∙ answer.1 }
