-- What the private functions promise each other. No public contract cites this file.
use Rattle.std.specs.Prelude.{◌≡◌, true, false, List, [], ◌∷◌, ◌++◌, ℕ}
use Rattle.std.specs.List.{flat_map}
use Rattle.text.specs.Text.{lines_from}
use Rattle.grammar.specs.Grammar.{keyed}
use Rattle.loading.specs.Loading.{periods_in, schedule_lines, all_good, all_given}

-- The first line of a text isn't good by a key, whatever the lines behind it are; or it gives a row, and a rest of the text is behind it.
abbrev pub RowRefused : List ℕ → List ℕ → Type 0
RowRefused key text = (reads : List (List ℕ → List ℕ)) → all_good (keyed key periods_in ∷ reads) (lines_from [] text) ≡ false

pub record RowRead (key text row rest : List ℕ) : Type 0 where
  pub good : (reads : List (List ℕ → List ℕ)) → all_good (keyed key periods_in ∷ reads) (lines_from [] text) ≡ all_good reads (lines_from [] rest)
  pub given : (reads : List (List ℕ → List ℕ)) → all_given (keyed key periods_in ∷ reads) (lines_from [] text) ≡ row ++ all_given reads (lines_from [] rest)

-- The lines of a text aren't those of a schedule, or they are and give rows.
abbrev pub RowsRefused : List ℕ → Type 0
RowsRefused text = all_good schedule_lines (lines_from [] text) ≡ false

pub record RowsRead (text : List ℕ) (rows : List (List ℕ)) : Type 0 where
  pub good : all_good schedule_lines (lines_from [] text) ≡ true
  pub given : flat_map (λ row. row) rows ≡ all_given schedule_lines (lines_from [] text)
