-- `Account::bill` asks the rows that need no reading, tallies both registers, asks all rows, and bills: `Tallied` has what joins them.
use Rattle.std.proofs.Common.{◌≡◌, sym, ap, ◌∙◌}
use Rattle.std.proofs.lemmas.Result.{err_from_is_err_and}
use Rattle.refusals.specs.Numbers.{number_of}
use Rattle.refusals.specs.Table.{billing_row}
use Rattle.account.specs.Refusals.{billing_number}
use Rattle.account.proofs.Tallied.{schedule_is, number_found, bill_found, early_number, delivered_number, received_number}
use Rattle.account.proofs.Account.bill.Goals as goal
use Rattle.account.proofs.Account.bill.Goals.{After-faults_of-faults}

-- The rows asked of what was found to be wrong are those of the account's billing.
asked : (c : After-faults_of-faults) →
    let args = c.args in
    billing_row c.condition-condition.result.fresh c.condition-condition.result.unusable args.self.next args.month c.faults_of-faults.result
    ≡ billing_number args.self args.month args.delivered.now args.received.now args.critical_days
asked c =
    number_found
    _ _ _ _ _ _ _ _ _ _ _
    c.condition-condition.ensures
    (c.fixed_schedule-schedule.ensures ∙ sym (schedule_is _))
    (sym c.in_ok-taken.ensures.ok_part ∙ c.tally_of.ensures.value)
    (sym c.in_ok-given.ensures.ok_part ∙ c.tally_of-2.ensures.value)
    c.critical_refused-wrongdays.ensures
    c.faults_of-faults.ensures

pub returns-in_err-billing_row-clause-number : goal.returns-in_err-billing_row-clause-number
returns-in_err-billing_row-clause-number c =
    let p = err_from_is_err_and c.from_residual.result c.from_residual.ensures.1 in
    rw (p.1, p.2) (early_number _ _ _ _ _ _ _ _ c.condition-condition.ensures c.default.ensures c.in_err-billing_row.ensures)

pub returns-in_err-taken-clause-number : goal.returns-in_err-taken-clause-number
returns-in_err-taken-clause-number c =
    let p = err_from_is_err_and c.from_residual-in_err-taken.result c.from_residual-in_err-taken.ensures.1 in
    let none = c.in_err-taken.ensures.ok_part in
    rw (p.1, p.2)
    (ap number_of (rw none at c.in_err-taken.ensures.value)
    ∙ delivered_number _ _ _ _ _ _ _ _ c.condition-condition.ensures c.default.ensures c.in_ok-billing_row.ensures (sym none ∙ c.tally_of.ensures.value))

pub returns-in_err-given-clause-number : goal.returns-in_err-given-clause-number
returns-in_err-given-clause-number c =
    let p = err_from_is_err_and c.from_residual-in_err-given.result c.from_residual-in_err-given.ensures.1 in
    let none = c.in_err-given.ensures.ok_part in
    rw (p.1, p.2)
    (ap number_of (rw none at c.in_err-given.ensures.value)
    ∙ received_number _ _ _ _ _ _ _ _ c.condition-condition.ensures c.default.ensures c.in_ok-billing_row.ensures (sym none ∙ c.tally_of-2.ensures.value))

pub returns-in_err-billing_row-2-clause-number : goal.returns-in_err-billing_row-2-clause-number
returns-in_err-billing_row-2-clause-number c =
    let p = err_from_is_err_and c.from_residual-in_err-billing_row-2.result c.from_residual-in_err-billing_row-2.ensures.1 in
    rw (p.1, p.2) (c.in_err-billing_row-2.ensures ∙ asked (goal.at.returns-in_err-billing_row-2-clause-number c).After-faults_of-faults)

pub returns-clause-number : goal.returns-clause-number
returns-clause-number c = c.in_ok-billing_row-2.ensures ∙ asked (goal.at.returns-clause-number c).After-faults_of-faults

pub returns-clause-bill : goal.returns-clause-bill
returns-clause-bill c =
    (rw (c.agreement.ensures.terms, c.agreement.ensures.prices) at c.bill_from.ensures)
    ∙ bill_found
    _ _ _ _ _ _ _ _
    (c.fixed_schedule-schedule.ensures ∙ sym (schedule_is _))
    (sym c.in_ok-taken.ensures.ok_part ∙ c.tally_of.ensures.value)
    (sym c.in_ok-given.ensures.ok_part ∙ c.tally_of-2.ensures.value)
    (c.in_ok-billing_row-2.ensures ∙ asked (goal.at.returns-clause-bill c).After-faults_of-faults)
