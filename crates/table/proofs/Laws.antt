-- What other crates may use: a table or an explanation that was written ends within its buffer.
use mathlib.Core.Path.{◌≡◌, refl}
use mathlib.Core.Bool.{Bool, true, false, cond}
use mathlib.Core.List.{List, [], ◌∷◌, ◌++◌}
use Prim.Native.Nat.{ℕ, suc, ◌+◌, ◌≤◌}
use native.Mathlib.Omega.{arith}
use borrow.Author.Tests.{leb-true}
use lib.Dec.{eqb, leb, lit≤}
use lib.ListN.{length, length-append}
use Rattle.printing.specs.Writing.{fits, PutIn}
use Rattle.table.specs.Numbers.{numbers_of}
use Rattle.table.specs.Reasons.{wrong_at}
use Rattle.table.specs.Table.{shown_numbers, any_wide, width_of, table_of, table_room}
use Rattle.table.specs.Explaining.{explanation_of}
use Rattle.table.specs.Filling.{to_do_at, marked_by, filled_by, most_filled}
use Rattle.table.proofs.Filling.{marked_length}
use Rattle.table.proofs.Showing.{table_is, explanation_is}
use Rattle.table.proofs.Texts.{wrong_short, to_do_short, table_most, explanation_most}

filled_length : (f : ℕ → List ℕ) (what then : List ℕ) → ((k : ℕ) → length (f k) ≤ 28) → length what ≤ 80 → length then ≤ 80
    → (k : ℕ) (t : List ℕ) → length (filled_by f what then k t) ≤ most_filled t
unfolding filled_by most_filled
filled_length f what then h s u k [] = lit≤ tt
filled_length f what then h s u k (b ∷ t) =
    by (eqb b 35) (eqb b 126) (eqb b 33) (filled_length f what then h s u (suc k) t) (filled_length f what then h s u k t)
  where
    by : (m r d : Bool) → length (filled_by f what then (suc k) t) ≤ most_filled t → length (filled_by f what then k t) ≤ most_filled t
        → length
        (cond m (f k ++ filled_by f what then (suc k) t)
        (cond r (what ++ filled_by f what then k t) (cond d (then ++ filled_by f what then k t) (b ∷ filled_by f what then k t))))
        ≤ cond m 28 (cond r 80 (cond d 80 1)) + most_filled t
    by true r d next same = rw length-append (let a = h k in omega arith)
    by false true d next same = rw length-append (omega arith)
    by false false true next same = rw length-append (omega arith)
    by false false false next same = omega arith

-- So a template that is filled in for a row of the reasons is as short as the longest.
pub text_short : (ns : List ℕ) (w row first : ℕ) (t : List ℕ) → w ≤ 28 → most_filled t ≤ 2048
    → length (filled_by (marked_by ns w) (wrong_at row) (to_do_at row) first t) ≤ 2048
text_short ns w row first t h l =
    let filled =
    filled_length (marked_by ns w) (wrong_at row) (to_do_at row) (λ m. marked_length ns w m h) (wrong_short row) (to_do_short row) first t in
    omega arith

width_most : (t : Bool) → cond t 28 13 ≤ 28
width_most true = lit≤ tt
width_most false = lit≤ tt

pub table_short : (l : List ℕ) → length (table_of l) ≤ 2048
unfolding width_of
table_short l = rw (← table_is l) (text_short _ _ _ _ _ (width_most (any_wide (shown_numbers (numbers_of l)))) (table_most _))

pub explanation_short : (l : List ℕ) → length (explanation_of l) ≤ 2048
explanation_short l = rw (← (explanation_is l 13)) (text_short _ 13 _ _ _ (lit≤ tt) (explanation_most _))

-- What was put from the front of a buffer on ends within it.
pub put_within : {before text after : List ℕ} {j : ℕ} → PutIn table_room before 0 text after j → length text ≤ table_room → j ≤ length before
unfolding fits
put_within {before} {text} {after} {j} put short = by (leb table_room (length before)) refl put.end
  where
    by : (t : Bool) → leb table_room (length before) ≡ t → j ≡ cond t (0 + length text) 0 → j ≤ length before
    by true e end = let room = leb-true table_room (length before) e in omega arith
    by false e end = omega arith
