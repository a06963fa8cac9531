-- No template is too long, and no reason.
use mathlib.Core.Path.{◌≡◌, refl}
use mathlib.Core.Bool.{Bool, true, false, cond, ◌&&◌}
use mathlib.Core.List.{List, [], ◌∷◌}
use Prim.Native.Nat.{ℕ, zero, suc, ◌≤◌}
use borrow.Author.Tests.{leb-true}
use lib.Dec.{eqb, leb, lit≤}
use lib.ListN.{length, get_or}
use Rattle.std.proofs.lemmas.Bool.{and_parts}
use Rattle.text.specs.Text.{bytes_of}
use Rattle.table.specs.Reasons.{wrong, to_do, wrong_at}
use Rattle.table.specs.declared.Kind.{Kind}
use Rattle.table.specs.declared.Kind.TheVariants.{Opening, Month, Stop, Other}
use Rattle.table.specs.Filling.{to_do_at, most_filled, month_template, table_template, table_first, explanation_template}

-- Whether each of some texts has at most m bytes, and what follows for one of them.
all_within : ℕ → List (List ℕ) → Bool
all_within m [] = true
all_within m (x ∷ l) = leb (length x) m && all_within m l

each_within : (m : ℕ) (l : List (List ℕ)) (k : ℕ) → all_within m l ≡ true → 0 ≤ m → length (get_or l k []) ≤ m
unfolding all_within
each_within m [] k e h = h
each_within m (x ∷ l) zero e h = leb-true (length x) m (and_parts (leb (length x) m) (all_within m l) e).0
each_within m (x ∷ l) (suc k) e h = each_within m l k (and_parts (leb (length x) m) (all_within m l) e).1 h

pub wrong_short : (row : ℕ) → length (wrong_at row) ≤ 80
unfolding wrong_at all_within
wrong_short row = each_within 80 wrong row refl (lit≤ tt)

pub to_do_short : (row : ℕ) → length (to_do_at row) ≤ 80
unfolding to_do_at all_within
to_do_short row = each_within 80 to_do row refl (lit≤ tt)

-- A template that is filled in has room, and so has one of two.
abbrev Short : List ℕ → Type 0
Short t = most_filled t ≤ 2048

one_short : (x y : List ℕ) (z : Bool) → Short x → Short y → Short (cond z x y)
one_short x y true h l = h
one_short x y false h l = l

pub table_most : (k : Kind) → Short (table_template k)
unfolding table_template month_template most_filled
table_most Stop = lit≤ tt
table_most (Opening n) = one_short (bytes_of "account opened\n\n") (bytes_of "opening refused, #: ~\n\n") (eqb n 0) (lit≤ tt) (lit≤ tt)
table_most (Month n) = one_short month_template (bytes_of "#-##  refused, #: ~\n\n") (eqb n 0) (lit≤ tt) (lit≤ tt)
table_most Other = lit≤ tt

pub table_few : (k : Kind) → table_first k ≤ 4
unfolding table_first
table_few Stop = lit≤ tt
table_few (Opening n) = lit≤ tt
table_few (Month n) = by (eqb n 0)
  where
    by : (z : Bool) → cond z 4 0 ≤ 4
    by true = lit≤ tt
    by false = lit≤ tt
table_few Other = lit≤ tt

pub explanation_most : (k : Kind) → Short (explanation_template k)
unfolding explanation_template most_filled
explanation_most Stop = lit≤ tt
explanation_most (Opening n) = one_short [] (bytes_of "open=#: ~; !\n") (eqb n 0) (lit≤ tt) (lit≤ tt)
explanation_most (Month n) = one_short [] (bytes_of "bill=#-## answer=#: ~; !\n") (eqb n 0) (lit≤ tt) (lit≤ tt)
explanation_most Other = lit≤ tt
