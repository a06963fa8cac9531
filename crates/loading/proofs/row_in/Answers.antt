-- `loading::row_in` reads the first line by its key: `Reading` has what that says of all lines.
use Rattle.std.proofs.Common.{◌≡◌, length, refl, sym, ◌∙◌, arith}
use Rattle.grammar.proofs.Texts.{keyed_yes, keyed_no}
use Rattle.loading.specs.Loading.{periods_in}
use Rattle.loading.proofs.Reading.{row_none, row_bad, row_good, first_found}
use Rattle.loading.proofs.row_in.Goals as goal

pub returns-then-is_empty : goal.returns-then-is_empty
returns-then-is_empty c = row_none _ _ (grind arith)

pub returns-in_err-after_key : goal.returns-in_err-after_key
returns-in_err-after_key c =
    let first = first_found c.args.text _ c.split_once.result c.unwrap_or.result (grind arith) c.unwrap_or.ensures refl c.split_once.ensures in
    rw c.from_residual.ensures (row_bad c.args.key.now _ _ _ first (keyed_no _ periods_in _ (sym c.in_err-after_key.ensures.begins)))

pub returns-in_err-row : goal.returns-in_err-row
returns-in_err-row c =
    let first = first_found c.args.text _ c.split_once.result c.unwrap_or.result (grind arith) c.unwrap_or.ensures refl c.split_once.ensures in
    let key = keyed_yes _ periods_in _ (sym c.in_ok-after_key.ensures.begins) in
    let none = key ∙ rw (← c.in_ok-after_key.ensures.rest) (sym c.in_err-row.ensures) in
    rw c.from_residual-in_err-row.ensures (row_bad c.args.key.now _ _ _ first none)

pub returns : goal.returns
returns c =
    let long : length c.in_ok-row.row ≡ 96 = omega arith in
    let first = first_found c.args.text _ c.split_once.result c.unwrap_or.result (grind arith) c.unwrap_or.ensures refl c.split_once.ensures in
    let key = keyed_yes _ periods_in _ (sym c.in_ok-after_key.ensures.begins) in
    let row = key ∙ rw (← c.in_ok-after_key.ensures.rest) (sym c.in_ok-row.ensures) in
    row_good c.args.key.now _ _ _ first c.in_ok-row.row row long
