-- A number written byte by byte from the right is the number grouped by thousands, where all of it fits its column: as every number of a
-- table does.
use mathlib.Core.Path.{◌≡◌, refl, sym, ◌∙◌, ap}
use mathlib.Core.Bool.{Bool, true, false, cond}
use mathlib.Core.List.{List, [], ◌∷◌, ◌++◌, append_assoc}
use Prim.Native.Nat.{ℕ, zero, suc, ◌+◌, ◌-◌, ◌*◌, ◌/◌, ◌%◌, ◌^◌, ◌≤◌, ◌<◌}
use native.Mathlib.Nat.{pow-suc}
use native.Mathlib.Numerals.{add-one, sub-one}
use native.Mathlib.Omega.{arith}
use borrow.Author.Tests.{eq-eqb, ne_eqb, eqb-false, lt-ltb, le-ltb, ltb-true, ltb-false}
use lib.Dec.{eqb, ltb, lit≤}
use lib.ListN.{length, get_or, replicate, length-append, replicate-append-replicate}
use Rattle.printing.specs.Text.{digit_byte, digits, decimal}
use Rattle.table.specs.Table.{amount, total, shown_numbers, any_wide, width_of, last_digits, thousands, grouped, right_in}
use Rattle.table.specs.Filling.{cell_at, column_byte, column_rest, column}
use Rattle.table.proofs.Numbers.{Held}
use Rattle.table.proofs.Cells.{cells_are, each_narrow}

-- What is left of a number before w bytes of it, after which j follow.
left_over : ℕ → ℕ → ℕ → ℕ
left_over zero j n = n
left_over (suc w) j n = left_over w (suc j) (column_rest j n)

-- A byte more at the right end.
right_more : (w : ℕ) (text : List ℕ) (b : ℕ) → right_in w text ++ b ∷ [] ≡ right_in (suc w) (text ++ b ∷ [])
right_more w text b =
    let size : suc w - length (text ++ b ∷ []) ≡ w - length text = rw length-append (omega arith) in
    rw (size, append_assoc)

-- Once no digit is left there are blanks.
blank_more : (w b : ℕ) → replicate w b ++ b ∷ [] ≡ replicate (suc w) b
blank_more w b = replicate-append-replicate w 1 b ∙ rw add-one

rest_none : (j : ℕ) → column_rest j 0 ≡ 0
rest_none j = by (eqb (j % 4) 3)
  where
    by : (t : Bool) → cond t 0 (0 / 10) ≡ 0
    by true = refl
    by false = refl

pub blanks : (w j : ℕ) → 0 < j → column w j 0 ≡ replicate w 32
unfolding column
blanks zero j h = refl
blanks (suc w) j h = rw (rest_none j, blanks w (suc j) (omega arith), ne_eqb j 0 (λ e. omega arith)) (blank_more w 32)

-- A number after which j bytes follow has a text, in any column that it fits.
abbrev Right : ℕ → ℕ → List ℕ → Type 0
Right j n text = (w : ℕ) → 0 < w → left_over w j n ≡ 0 → column w j n ≡ right_in w text

-- A number of which nothing is left has a byte at least.
has_byte : (w j n : ℕ) → 0 < n → left_over w j n ≡ 0 → 0 < w
unfolding left_over
has_byte zero j n h e = omega arith
has_byte (suc w) j n h e = omega arith

-- A digit is the last byte of a number that is not 0, and of any that nothing follows.
digit_last : (j n : ℕ) → (j % 4 ≡ 3 → ⊥) → (0 < j → 0 < n) → column_byte j n ≡ digit_byte (n % 10)
digit_last j n d h = by (eqb j 0) refl
  where
    by : (t : Bool) → eqb j 0 ≡ t
        → cond t (digit_byte (n % 10)) (cond (eqb n 0) 32 (cond (eqb (j % 4) 3) 44 (digit_byte (n % 10)))) ≡ digit_byte (n % 10)
    by true e = refl
    by false e = let some = h (let l = eqb-false j 0 e in omega arith) in rw (ne_eqb n 0 (λ z. omega arith), ne_eqb (j % 4) 3 d)

-- It is the only one, or others come before it; before a group there is a comma.
module _ (j n : ℕ) where
  digit_only : (j % 4 ≡ 3 → ⊥) → (0 < j → 0 < n) → n < 10 → Right j n (digit_byte n ∷ [])
  unfolding column
  digit_only d h s zero l e = absurd (omega arith)
  digit_only d h s (suc w) l e =
      let none : n / 10 ≡ 0 = omega arith in
      let all : n % 10 ≡ n = omega arith in
      rw (digit_last j n d h, ne_eqb (j % 4) 3 d, none, all, blanks w (suc j) (omega arith), sub-one)

  digit_more : (text : List ℕ) → (j % 4 ≡ 3 → ⊥) → 10 ≤ n → Right (suc j) (n / 10) text → Right j n (text ++ digit_byte (n % 10) ∷ [])
  unfolding column left_over
  digit_more text d h f zero l e = absurd (omega arith)
  digit_more text d h f (suc w) l e =
      let left = rw (ne_eqb (j % 4) 3 d) at e in
      let before = f w (has_byte w (suc j) (n / 10) (omega arith) left) left in
      rw (digit_last j n d (λ i. omega arith), ne_eqb (j % 4) 3 d, before) (right_more w text (digit_byte (n % 10)))

  comma_more : (text : List ℕ) → j % 4 ≡ 3 → 0 < n → Right (suc j) n text → Right j n (text ++ 44 ∷ [])
  unfolding column left_over
  comma_more text d h f zero l e = absurd (omega arith)
  comma_more text d h f (suc w) l e =
      let left = rw (eq-eqb (j % 4) 3 d) at e in
      let before = f w (has_byte w (suc j) n h left) left in
      rw (ne_eqb j 0 (λ z. omega arith), ne_eqb n 0 (λ z. omega arith), eq-eqb (j % 4) 3 d, before) (right_more w text 44)

-- The digits of a number, of which m more can come before the next comma.
few_digits : (m k j n : ℕ) → j % 4 + m ≤ 2 → m ≤ k → (0 < j → 0 < n) → n < 10 ^ suc m → Right j n (digits (suc k) n)
unfolding digits
few_digits zero k j n d f h s = rw (lt-ltb n 10 s) (digit_only j n (λ c. omega arith) h s)
few_digits (suc m) zero j n d f h s = absurd (omega arith)
few_digits (suc m) (suc k) j n d f h s =
    let p : n < 10 ^ suc m * 10 = rw pow-suc at s in
    by (ltb n 10) refl (λ (o : 10 ≤ n). few_digits m k (suc j) (n / 10) (omega arith) (omega arith) (λ i. omega arith) (omega arith))
  where
    by : (t : Bool) → ltb n 10 ≡ t → (10 ≤ n → Right (suc j) (n / 10) (digits (suc k) (n / 10)))
        → Right j n (cond t (digit_byte n ∷ []) (digits (suc k) (n / 10) ++ digit_byte (n % 10) ∷ []))
    by true q r = digit_only j n (λ c. omega arith) h (ltb-true n 10 q)
    by false q r = let o = ltb-false n 10 q in digit_more j n (digits (suc k) (n / 10)) (λ c. omega arith) o (r o)

-- Three digits, with a comma before them.
group_more : (j n : ℕ) (text : List ℕ) → j % 4 ≡ 0 → 1000 ≤ n → Right (suc (suc (suc (suc j)))) (n / 1000) text
    → Right j n (text ++ 44 ∷ last_digits 3 n)
group_more j n text d h f =
    let rest : n / 1000 ≡ n / 10 / 10 / 10 = omega arith in
    let t0 = text ++ 44 ∷ [] in
    let t1 = t0 ++ digit_byte (n / 10 / 10 % 10) ∷ [] in
    let t2 = t1 ++ digit_byte (n / 10 % 10) ∷ [] in
    let same : t2 ++ digit_byte (n % 10) ∷ [] ≡ text ++ 44 ∷ last_digits 3 n = rw (append_assoc, append_assoc, append_assoc) in
    let comma = comma_more (suc (suc (suc j))) (n / 10 / 10 / 10) text (omega arith) (omega arith) (rw rest at f) in
    let third = digit_more (suc (suc j)) (n / 10 / 10) t0 (λ c. omega arith) (omega arith) comma in
    let second = digit_more (suc j) (n / 10) t1 (λ c. omega arith) (omega arith) third in
    rw same at (digit_more j n t2 (λ c. omega arith) (omega arith) second)

-- The first group of a number, or one before which others come.
first_group : (k n : ℕ) → n < 1000 → thousands (suc k) n ≡ decimal n
unfolding thousands
first_group k n h = rw (lt-ltb n 1000 h)

next_group : (k n : ℕ) → 1000 ≤ n → thousands (suc k) n ≡ thousands k (n / 1000) ++ 44 ∷ last_digits 3 n
unfolding thousands
next_group k n h = rw (le-ltb n 1000 h, append_assoc)

groups : (k j n : ℕ) → j % 4 ≡ 0 → (0 < j → 0 < n) → n < 1000 ^ suc k → Right j n (thousands (suc k) n)
groups zero j n d h s = rw (first_group zero n s) (few_digits 2 19 j n (omega arith) (lit≤ tt) h s)
groups (suc k) j n d h s =
    let p : n < 1000 ^ suc k * 1000 = rw pow-suc at s in
    by (ltb n 1000) refl (λ (o : 1000 ≤ n). groups k (suc (suc (suc (suc j)))) (n / 1000) (omega arith) (λ i. omega arith) (omega arith))
  where
    by : (t : Bool) → ltb n 1000 ≡ t → (1000 ≤ n → Right (suc (suc (suc (suc j)))) (n / 1000) (thousands (suc k) (n / 1000)))
        → Right j n (thousands (suc (suc k)) n)
    by true q r = let s = ltb-true n 1000 q in rw (first_group (suc k) n s) (few_digits 2 19 j n (omega arith) (lit≤ tt) h s)
    by false q r = let o = ltb-false n 1000 q in rw (next_group (suc k) n o) (group_more j n (thousands (suc k) (n / 1000)) d o (r o))

grouped_right : (n : ℕ) → n ≤ 18446744073709551615 → Right 0 n (grouped n)
grouped_right n h = groups 6 0 n (omega arith) (λ i. omega arith) (omega arith)

-- Nine digits fit a narrow column, and all of a number of 64 bits a wide one; dollars have three bytes less.
abbrev pub Stands : ℕ → ℕ → Type 0
Stands w n = (column w 0 n ≡ right_in w (grouped n)) × (column (w - 3) 0 (n / 100) ≡ right_in (w - 3) (grouped (n / 100)))

narrow_stands : (ns : List ℕ) (n : ℕ) → any_wide (shown_numbers ns) ≡ false → n ≤ 999999999 → Stands (width_of ns) n
unfolding width_of left_over
narrow_stands ns n e h =
    rw e (grouped_right n (omega arith) _ (lit≤ tt) (omega arith), grouped_right (n / 100) (omega arith) _ (lit≤ tt) (omega arith))

wide_stands : (ns : List ℕ) (n : ℕ) → any_wide (shown_numbers ns) ≡ true → n ≤ 18446744073709551615 → Stands (width_of ns) n
unfolding width_of left_over
wide_stands ns n e h =
    rw e (grouped_right n h _ (lit≤ tt) (omega arith), grouped_right (n / 100) (omega arith) _ (lit≤ tt) (omega arith))

-- So every number of a table stands in its column.
cell_held : (ns : List ℕ) → Held ns → (k : ℕ) → cell_at ns k ≤ 18446744073709551615
unfolding cell_at
cell_held ns f k = by (ltb k 28) (ltb k 35)
  where
    by : (s t : Bool) → cond s (amount ns (k / 7) (k % 7)) (cond t (total ns (k % 7)) (get_or ns (k - 4) 0)) ≤ 18446744073709551615
    by true t = f _
    by false true = omega arith
    by false false = f _

pub cells_stand : (ns : List ℕ) → Held ns → (k : ℕ) → k < 37 → Stands (width_of ns) (cell_at ns k)
cells_stand ns f k h = by (any_wide (shown_numbers ns)) refl
  where
    by : (t : Bool) → any_wide (shown_numbers ns) ≡ t → Stands (width_of ns) (cell_at ns k)
    by true e = wide_stands ns (cell_at ns k) e (cell_held ns f k)
    by false e = narrow_stands ns (cell_at ns k) e (each_narrow ns 37 k h (ap any_wide (sym (cells_are ns)) ∙ e))
