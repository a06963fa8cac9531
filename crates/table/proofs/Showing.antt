-- Each table and explanation is a template filled in.
use mathlib.Core.Path.{◌≡◌, refl, sym, ◌∙◌}
use mathlib.Core.Bool.{Bool, true, false, cond}
use mathlib.Core.List.{List, [], ◌∷◌, ◌++◌, append_assoc}
use Prim.Native.Nat.{ℕ, zero, suc, ◌-◌, ◌/◌, ◌%◌, ◌≤◌, ◌<◌}
use native.Mathlib.Omega.{arith}
use lib.Dec.{eqb, ltb, lit≤}
use lib.ListN.{get_or, take, drop}
use Rattle.text.specs.Text.{bytes_of}
use Rattle.printing.specs.Text.{digit_byte}
use Rattle.printing.specs.Writing.{PutIn}
use Rattle.table.specs.Numbers.{opening, month, stop, numbers_of, kind_of, refusal_of}
use Rattle.table.specs.Reasons.{stop_row, wrong_at, row_of, explained_at}
use Rattle.table.specs.Table.{joined, month_parts, energy, due, grouped, right_in, shown_numbers, any_wide, width_of, month_table, table_for, table_of, table_room}
use Rattle.table.specs.Explaining.{explanation_for, explanation_of}
use Rattle.table.specs.declared.Kind.{Kind}
use Rattle.table.specs.Filling.{kind_by, row_by, to_do_at, cell_at, column, plain_value, shown_of, marked_by, filled_by, month_template, table_template, table_first, explanation_template}
use Rattle.table.proofs.Numbers.{Held, numbers_held}
use Rattle.table.proofs.Telling.{by_kind}
use Rattle.table.proofs.Cells.{up_to}
use Rattle.table.proofs.Fitting.{Stands, blanks, cells_stand}

-- The table of a month, from the blanks before each heading, its numbers and the digits of its cents.
abbrev shaped : List ℕ → List ℕ → List (List ℕ) → List (List ℕ) → List ℕ
shaped ns blank cells cents =
    joined
    (month_parts ns
    ++ (bytes_of " " ∷ blank ∷ bytes_of "        3 own" ∷ blank ∷ bytes_of "        4 out" ∷ blank ∷ bytes_of "         5 in"
    ∷ blank ∷ bytes_of "       6 paid" ∷ blank ∷ bytes_of "  7 forfeited" ∷ blank ∷ bytes_of "     8 billed"
    ∷ blank ∷ bytes_of "       9 left" ∷ [])
    ++ (bytes_of "\ncritical" ∷ take 7 cells)
    ++ (bytes_of "\non-peak " ∷ take 7 (drop 7 cells))
    ++ (bytes_of "\noff-peak" ∷ take 7 (drop 14 cells))
    ++ (bytes_of "\ndiscount" ∷ take 7 (drop 21 cells))
    ++ (bytes_of "\nsum     " ∷ take 7 (drop 28 cells))
    ++ (bytes_of "\nenergy  " ∷ get_or cells 35 [] ∷ bytes_of "." ∷ take 2 cents)
    ++ (bytes_of "\ndue     " ∷ get_or cells 36 [] ∷ bytes_of "." ∷ drop 2 cents)
    ++ (bytes_of "\n\n" ∷ []))

-- Its numbers, and in dollars the last two, each put into so many bytes.
abbrev cells_by : (ℕ → ℕ → List ℕ) → List ℕ → ℕ → ℕ → List ℕ
cells_by put ns w k = cond (ltb k 35) (put w (cell_at ns k)) (put (w - 3) (cell_at ns k / 100))

-- The digits of its cents.
abbrev cents_by : (ℕ → List ℕ) → List ℕ → List (List ℕ)
cents_by last ns = last (energy ns / 10) ∷ last (energy ns) ∷ last (due ns / 10) ∷ last (due ns) ∷ []

-- In columns they are the same.
same_cells : (ns : List ℕ) (w : ℕ) → ((k : ℕ) → k < 37 → Stands w (cell_at ns k)) → (m : ℕ) → m ≤ 37
    → up_to (cells_by (λ v n. right_in v (grouped n)) ns w) m ≡ up_to (cells_by (λ v n. column v 0 n) ns w) m
same_cells ns w f zero h = refl
same_cells ns w f (suc m) h =
    let one = f m (omega arith) in
    rw (same_cells ns w f m (omega arith), one.0, one.1)

same_cents : (ns : List ℕ) → cents_by (λ n. digit_byte (n % 10) ∷ []) ns ≡ cents_by (λ n. column 1 0 n) ns
unfolding column
same_cents ns = refl

same_shape : (ns : List ℕ) {b c : List ℕ} {x y z u : List (List ℕ)} → b ≡ c → x ≡ y → z ≡ u → shaped ns b x z ≡ shaped ns c y u
same_shape ns p q r = rw (p, q, r)

-- What is wrong and what to do, with what stands between them and after them.
reason_is : (r : ℕ) (rest : List ℕ) → explained_at r ++ rest ≡ wrong_at r ++ (bytes_of "; " ++ (to_do_at r ++ rest))
unfolding explained_at to_do_at
reason_is r rest =
    append_assoc (wrong_at r ++ bytes_of "; ") (to_do_at r) rest ∙ append_assoc (wrong_at r) (bytes_of "; ") (to_do_at r ++ rest)

-- The template of a table, filled in for columns of w bytes.
abbrev tabled : List ℕ → List ℕ → List ℕ → ℕ → List ℕ
tabled ns what then w = filled_by (marked_by ns w) what then 4 month_template

module _ (ns what then : List ℕ) where
  month_wide : ((k : ℕ) → k < 37 → Stands 28 (cell_at ns k)) → month_table ns 28 ≡ tabled ns what then 28
  unfolding month_table month_template filled_by marked_by shown_of plain_value cell_at
  month_wide f = same_shape ns (sym (blanks 15 1 (lit≤ tt))) (same_cells ns 28 f 37 (lit≤ tt)) (same_cents ns)

  month_narrow : ((k : ℕ) → k < 37 → Stands 13 (cell_at ns k)) → month_table ns 13 ≡ tabled ns what then 13
  unfolding month_table month_template filled_by marked_by shown_of plain_value cell_at
  month_narrow f = same_shape ns (sym (blanks 0 1 (lit≤ tt))) (same_cells ns 13 f 37 (lit≤ tt)) (same_cents ns)

  month_is : Held ns → month_table ns (width_of ns) ≡ tabled ns what then (width_of ns)
  unfolding width_of
  month_is f = by (any_wide (shown_numbers ns)) (cells_stand ns f)
    where
      by : (t : Bool) → ((k : ℕ) → k < 37 → Stands (cond t 28 13) (cell_at ns k)) → month_table ns (cond t 28 13) ≡ tabled ns what then (cond t 28 13)
      by true = month_wide
      by false = month_narrow

-- A template filled in for a line with numbers ns, whose first byte is b, is what is shown of it: a table,
module _ (ns : List ℕ) where
  abbrev row : ℕ → ℕ
  row b = row_by (kind_by b ns)

  abbrev Tabled : ℕ → Type 0
  Tabled b =
      filled_by (marked_by ns (width_of ns)) (wrong_at (row b)) (to_do_at (row b)) (table_first (kind_by b ns)) (table_template (kind_by b ns))
      ≡ table_for b ns (refusal_of b ns)

  stop_tabled : Tabled stop
  unfolding table_first table_template filled_by marked_by plain_value table_for
  stop_tabled = refl

  opening_tabled : (z : Bool) → eqb (get_or ns 0 0) 0 ≡ z → Tabled opening
  unfolding table_first table_template filled_by marked_by plain_value table_for refusal_of row_of
  opening_tabled true e = rw e
  opening_tabled false e = rw e

  month_tabled : Held ns → (z : Bool) → eqb (get_or ns 2 0) 0 ≡ z → Tabled month
  unfolding table_first table_template filled_by marked_by plain_value table_for refusal_of row_of
  month_tabled f true e = rw e (sym (month_is ns (wrong_at (row month)) (to_do_at (row month)) f))
  month_tabled f false e = rw e

  other_tabled : (b : ℕ) → eqb b stop ≡ false → eqb b opening ≡ false → eqb b month ≡ false → Tabled b
  unfolding table_first table_template filled_by table_for
  other_tabled b s o m = rw (s, o, m)

  table_by : Held ns → (b : ℕ) → Tabled b
  table_by f = by_kind Tabled stop_tabled (opening_tabled _ refl) (month_tabled f _ refl) other_tabled

-- or an explanation.
module _ (ns : List ℕ) (w : ℕ) where
  abbrev Explained : ℕ → Type 0
  Explained b =
      filled_by (marked_by ns w) (wrong_at (row ns b)) (to_do_at (row ns b)) 0 (explanation_template (kind_by b ns))
      ≡ explanation_for b ns (refusal_of b ns)

  stop_explained : Explained stop
  unfolding explanation_template filled_by marked_by plain_value explanation_for row_of
  stop_explained = rw (reason_is stop_row (10 ∷ []))

  opening_explained : (z : Bool) → eqb (get_or ns 0 0) 0 ≡ z → Explained opening
  unfolding explanation_template filled_by marked_by plain_value explanation_for refusal_of row_of
  opening_explained true e = rw e
  opening_explained false e = rw (e, reason_is (row ns opening) (10 ∷ []))

  month_explained : (z : Bool) → eqb (get_or ns 2 0) 0 ≡ z → Explained month
  unfolding explanation_template filled_by marked_by plain_value explanation_for refusal_of row_of
  month_explained true e = rw e
  month_explained false e = rw (e, reason_is (row ns month) (10 ∷ []))

  other_explained : (b : ℕ) → eqb b stop ≡ false → eqb b opening ≡ false → eqb b month ≡ false → Explained b
  unfolding explanation_template filled_by explanation_for refusal_of
  other_explained b s o m = rw (s, o, m)

  explanation_by : (b : ℕ) → Explained b
  explanation_by = by_kind Explained stop_explained (opening_explained _ refl) (month_explained _ refl) other_explained

-- So it is for every line,
module _ (line : List ℕ) where
  abbrev kind : Kind
  kind = kind_by (kind_of line) (numbers_of line)

  pub table_is :
      filled_by (marked_by (numbers_of line) (width_of (numbers_of line))) (wrong_at (row_by kind)) (to_do_at (row_by kind)) (table_first kind)
      (table_template kind)
      ≡ table_of line
  unfolding table_of
  table_is = table_by (numbers_of line) (numbers_held line) (kind_of line)

  pub explanation_is : (w : ℕ)
      → filled_by (marked_by (numbers_of line) w) (wrong_at (row_by kind)) (to_do_at (row_by kind)) 0 (explanation_template kind)
      ≡ explanation_of line
  unfolding explanation_of
  explanation_is w = explanation_by (numbers_of line) w (kind_of line)

  -- and what the code writes is that.
  module _ {o o1 ns t : List ℕ} {i j first : ℕ} {k : Kind} (ek : k ≡ kind_by (kind_of line) ns) (en : ns ≡ numbers_of line) where
    pub table_shown : {w : ℕ} → w ≡ width_of ns → t ≡ table_template k → first ≡ table_first k
        → PutIn table_room o i (filled_by (marked_by ns w) (wrong_at (row_by k)) (to_do_at (row_by k)) first t) o1 j
        → PutIn table_room o i (table_of line) o1 j
    table_shown ew et ef p = rw (et, ef, ew, ek, en, table_is) at p

    pub explanation_shown : (w : ℕ) → t ≡ explanation_template k → first ≡ 0
        → PutIn table_room o i (filled_by (marked_by ns w) (wrong_at (row_by k)) (to_do_at (row_by k)) first t) o1 j
        → PutIn table_room o i (explanation_of line) o1 j
    explanation_shown w et ef p = rw (et, ef, ek, en, explanation_is w) at p
