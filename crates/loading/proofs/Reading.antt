-- One row read after the other.
use mathlib.Core.Path.{◌≡◌, refl, sym, ◌∙◌, subst}
use mathlib.Core.Bool.{Bool, true, false}
use mathlib.Core.List.{List, [], ◌∷◌}
use Prim.Native.Nat.{ℕ, ◌<◌}
use native.Mathlib.Omega.{arith}
use borrow.Author.Tests.{eq-eqb, ne_eqb}
use lib.Dec.{eqb}
use lib.ListN.{length, drop}
use Rattle.std.specs.Prelude.{Option, None, Some, Result}
use Rattle.std.specs.Prelude.Result.{Ok, Err}
use Rattle.std.proofs.Common.{Bor}
use Rattle.std.specs.Option.{MatchOption, ok_or, unwrap_or}
use Rattle.std.specs.Result.{IsErr}
use Rattle.std.specs.Bool.{then_some}
use Rattle.text.specs.Text.{bytes_of, lines_from}
use Rattle.text.specs.Splitting.{Whole, Split}
use Rattle.text.proofs.Laws.{first_line, line_last}
use Rattle.grammar.specs.Grammar.{keyed}
use Rattle.loading.specs.Loading.{periods_in, schedule_lines, all_good, all_given, load_refused, load_number, table_after}
use Rattle.loading.specs.Reading.{RowRefused, RowRead, RowsRefused, RowsRead}
use Rattle.loading.specs.Numbers.{number_of}
use Rattle.loading.specs.declared.ScheduleRefused.{ScheduleRefused}

-- A text has no line,
pub row_none : (key text : List ℕ) → length text ≡ 0 → RowRefused key text
unfolding all_good lines_from
row_none key [] h reads = refl
row_none key (b ∷ text) h reads = absurd (omega arith)

-- or its first one is bad or good by a key.
module _ (key text line rest : List ℕ) (first : lines_from [] text ≡ line ∷ lines_from [] rest) where
  pub row_bad : keyed key periods_in line ≡ [] → RowRefused key text
  unfolding all_good
  row_bad f reads = rw (first, f)

  pub row_good : (row : List ℕ) → keyed key periods_in line ≡ row → length row ≡ 96 → RowRead key text row rest
  unfolding all_good all_given
  row_good row f n =
      record {
        good = λ reads. rw (first, f, ne_eqb (length row) 0 (λ z. omega arith));
        given = λ reads. rw (first, f);
      }

-- The first one ends at a newline, or where the text ends: then an empty text is behind it.
pub first_found : (text empty : Bor (List ℕ)) (o : Option (Bor (List ℕ) × Bor (List ℕ))) (read : Bor (List ℕ) × Bor (List ℕ))
    → 0 < length text.now → read ≡ unwrap_or o (text, empty) → empty.now ≡ []
    → MatchOption o (Whole 10 text.now) (λ parts. Split 10 text.now parts.0.now parts.1.now)
    → lines_from [] text.now ≡ read.0.now ∷ lines_from [] read.1.now
unfolding lines_from
first_found text empty None read h is e whole = rw (is, e) (line_last text.now whole h)
first_found text empty (Some parts) read h is e split = rw (is, split.before, split.behind) (first_line [] text.now (omega (arith, split.within)))

-- No line is left where nothing of a text is.
end_good : (text : List ℕ) → all_good [] (lines_from [] text) ≡ eqb (length text) 0
unfolding all_good lines_from
end_good [] = refl
end_good (b ∷ text) = rw (first_line [] (b ∷ text) (omega arith)) (sym (ne_eqb (length (b ∷ text)) 0 (λ e. omega arith)))

-- Four rows were read one after the other.
module _ {text first second third rest a b c d : List ℕ}
    (p : RowRead (bytes_of "winter-weekday=") text a first) (q : RowRead (bytes_of "winter-weekend=") first b second)
    (r : RowRead (bytes_of "summer-weekday=") second c third) (s : RowRead (bytes_of "summer-weekend=") third d rest) where
  good : all_good schedule_lines (lines_from [] text) ≡ eqb (length rest) 0
  good = p.good (drop 1 schedule_lines) ∙ q.good (drop 2 schedule_lines) ∙ r.good (drop 3 schedule_lines) ∙ s.good [] ∙ end_good rest

  pub rows_all : (t : Bool) → t ≡ eqb (length rest) 0 → MatchOption (then_some t (a ∷ b ∷ c ∷ d ∷ [])) (RowsRefused text) (RowsRead text)
  unfolding all_good all_given
  rows_all true e =
      record {
        good = good ∙ sym e;
        given = sym (p.given (drop 1 schedule_lines) ∙ rw (q.given (drop 2 schedule_lines), r.given (drop 3 schedule_lines), s.given []));
      }
  rows_all false e = good ∙ sym e

-- Whether the lines of a text give rows.
module _ (text : List ℕ) (o : Option (List (List ℕ))) (e : ScheduleRefused) (m : MatchOption o (RowsRefused text) (RowsRead text)) where
  pub rows_absent : (f : ScheduleRefused) → ok_or o e ≡ Err f → RowsRefused text
  rows_absent f h = by o m h
    where
      by : (o : Option (List (List ℕ))) → MatchOption o (RowsRefused text) (RowsRead text) → ok_or o e ≡ Err f → RowsRefused text
      by None m h = m
      by (Some rows) m h = absurd (cc)

  pub rows_present : (rows : List (List ℕ)) → ok_or o e ≡ Ok rows → RowsRead text rows
  rows_present rows h = by o m h
    where
      by : (o : Option (List (List ℕ))) → MatchOption o (RowsRefused text) (RowsRead text) → ok_or o e ≡ Ok rows → RowsRead text rows
      by None m h = absurd (cc)
      by (Some other) m h = let same : other ≡ rows = cc in subst (RowsRead text) same m

pub refused_number : (r : Result (Unit {0}) ScheduleRefused) → IsErr r → number_of r ≡ 15
refused_number (Ok loaded) h = absurd (cc)
refused_number (Err refused) h = refl

-- What a load answers, and the table after it: one of another length, and lines that are bad or good.
module _ (text table : List ℕ) where
  pub load_other : (length table ≡ 384 → ⊥) → (15 ≡ load_number text table) × (table ≡ table_after text table)
  unfolding load_number table_after load_refused
  load_other h = (rw (ne_eqb (length table) 384 h), rw (ne_eqb (length table) 384 h))

  pub load_bad : length table ≡ 384 → all_good schedule_lines (lines_from [] text) ≡ false → (15 ≡ load_number text table) × (table ≡ table_after text table)
  unfolding load_number table_after load_refused
  load_bad h e = (rw (eq-eqb (length table) 384 h, e), rw (eq-eqb (length table) 384 h, e))

  pub load_good : length table ≡ 384 → all_good schedule_lines (lines_from [] text) ≡ true
      → (0 ≡ load_number text table) × (all_given schedule_lines (lines_from [] text) ≡ table_after text table)
  unfolding load_number table_after load_refused
  load_good h e = (rw (eq-eqb (length table) 384 h, e), rw (eq-eqb (length table) 384 h, e))
