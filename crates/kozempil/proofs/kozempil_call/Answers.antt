-- `kozempil::kozempil_call` writes the answer, where there is one.
use Rattle.std.proofs.Common.{sym, ap, ◌∙◌}
use Rattle.std.proofs.lemmas.List.Edits.{sets}
use Rattle.records.specs.Rows.{row_of}
use Rattle.kozempil.proofs.Calls.{is_answered_lem, answer_is, account_is, not_answered}
use Rattle.kozempil.proofs.kozempil_call.Goals as goal

pub returns-in_default : goal.returns-in_default
returns-in_default c =
    let no = not_answered c.args.account.now c.args.call.now c.args.delivered.now c.args.received.now (sym c.answer_to.ensures ∙ c.in_default.is) in
    record {
      value = rw no;
      answer_after = rw no;
      after_after = rw no;
    }

pub returns : goal.returns
returns c =
    let at = c.args in
    let told = sym c.answer_to.ensures ∙ c.in-Some.is in
    let yes = is_answered_lem at.account.now at.call.now at.delivered.now at.received.now c.in-Some.answered told in
    let answer = at.answer.now in
    record {
      value = rw yes;
      answer_after = rw yes
          (c.write_at.ensures ∙ ap (λ row. sets answer 0 row) (c.row_of-row.ensures ∙ ap row_of (answer_is at.account.now at.call.now at.delivered.now at.received.now c.in-Some.answered told)));
      after_after =
          rw (yes, ← (account_is at.account.now at.call.now at.delivered.now at.received.now c.in-Some.answered told), ← c.account_row.ensures) c.write_at-2.ensures;
    }
