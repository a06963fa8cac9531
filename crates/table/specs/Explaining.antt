-- What `statement --explain` prints for a printed line: what is wrong and what to do, where it tells a refusal or a stop.
use Rattle.std.specs.Prelude.{cond, List, [], ◌∷◌, ◌++◌, ℕ, eqb, get_or}
use Rattle.text.specs.Text.{bytes_of}
use Rattle.printing.specs.Text.{decimal}
use Rattle.table.specs.Numbers.{numbers_of, kind_of, opening, stop, refusal_of}
use Rattle.table.specs.Reasons.{row_of, explained_at}
use Rattle.table.specs.Table.{joined, month_parts}

-- The front of the line, and the row of the table of refusals.
unfoldable pub explanation_for : ℕ → List ℕ → ℕ → List ℕ
explanation_for kind ns n =
    let reason = bytes_of ": " ∷ explained_at (row_of kind n) ∷ bytes_of "\n" ∷ [] in
    cond (eqb kind stop) (joined (bytes_of "line=" ∷ decimal (get_or ns 0 0) ∷ reason))
    (cond (eqb n 0) []
    (cond (eqb kind opening) (joined (bytes_of "open=" ∷ decimal (get_or ns 0 0) ∷ reason))
    (joined (bytes_of "bill=" ∷ month_parts ns ++ (bytes_of " answer=" ∷ decimal (get_or ns 2 0) ∷ reason)))))

unfoldable pub explanation_of : List ℕ → List ℕ
explanation_of l = explanation_for (kind_of l) (numbers_of l) (refusal_of (kind_of l) (numbers_of l))
