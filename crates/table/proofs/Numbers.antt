-- The numbers of a line, digit after digit and number after number.
use mathlib.Core.Path.{◌≡◌, refl, sym, ◌∙◌, ap}
use mathlib.Core.Bool.{Bool, true, false, cond, not}
use mathlib.Core.List.{List, [], ◌∷◌, ◌++◌, map}
use Prim.Native.Nat.{ℕ, zero, suc, ◌+◌, ◌≤◌}
use native.Mathlib.Omega.{arith}
use borrow.Author.Tests.{ne_eqb}
use lib.Dec.{eqb, lit≤}
use lib.ListN.{length, get_or, take, set}
use Rattle.std.proofs.lemmas.List.{length-map, map-append}
use Rattle.std.specs.List.{fold, filter, enumerate_from, slice_split, onto_first}
use Rattle.numerals.specs.Numerals.{is_digit}
use Rattle.table.specs.Numbers.{with_digit, numbers_after, first_of, numbers_of}
use Rattle.table.specs.Filling.{value_of}

-- A number that digits are read of fits 64 bits.
digit_held : (v b : ℕ) → with_digit v b ≤ 18446744073709551615
unfolding with_digit
digit_held v b = omega arith

-- A line is cut at each byte that is no digit, and a part is a run of digits unless it is empty.
abbrev pub cuts : ℕ → Bool
cuts b = not (is_digit b)

abbrev pub is_run : List ℕ → Bool
is_run part = not (eqb (length part) 0)

-- The values of the runs among some parts,
abbrev pub values : List (List ℕ) → List ℕ
values parts = map value_of (filter is_run parts)

-- and where the first part goes on with a run whose digits so far have value v.
abbrev values_on : ℕ → List (List ℕ) → List ℕ
values_on v [] = v ∷ []
values_on v (part ∷ parts) = fold with_digit v part ∷ values parts

-- The first part has a digit more.
digit_on : (b v : ℕ) (parts : List (List ℕ)) → values_on (with_digit v b) parts ≡ values_on v (onto_first b parts)
digit_on b v [] = refl
digit_on b v (part ∷ parts) = refl

digit_first : (b : ℕ) (parts : List (List ℕ)) → values_on (with_digit 0 b) parts ≡ values (onto_first b parts)
digit_first b [] = refl
digit_first b (part ∷ parts) = rw (ne_eqb (suc (length part)) 0 (λ e. omega arith))

-- The numbers of a line are the values of its runs, before a run and inside one.
read_both : (l : List ℕ)
    → (numbers_after false 0 l ≡ values (slice_split cuts l)) × ((v : ℕ) → numbers_after true v l ≡ values_on v (slice_split cuts l))
unfolding numbers_after
read_both [] = (refl, λ v. refl)
read_both (b ∷ l) = by (is_digit b) (read_both l).0 (read_both l).1
  where
    by : (d : Bool) → numbers_after false 0 l ≡ values (slice_split cuts l)
        → ((v : ℕ) → numbers_after true v l ≡ values_on v (slice_split cuts l))
        → (cond d (numbers_after true (with_digit 0 b) l) (numbers_after false 0 l)
        ≡ values (cond (not d) ([] ∷ slice_split cuts l) (onto_first b (slice_split cuts l))))
        × ((v : ℕ) → cond d (numbers_after true (with_digit v b) l) (v ∷ numbers_after false 0 l)
        ≡ values_on v (cond (not d) ([] ∷ slice_split cuts l) (onto_first b (slice_split cuts l))))
    by true e f = (f (with_digit 0 b) ∙ digit_first b (slice_split cuts l), λ v. f (with_digit v b) ∙ digit_on b v (slice_split cuts l))
    by false e f = (e, λ v. ap (λ (ns : List ℕ). v ∷ ns) e)

-- One number more is stored, behind the others.
first_next : (k : ℕ) (ns : List ℕ) (n : ℕ) → set (first_of k ns) (length ns) n ≡ first_of k (ns ++ n ∷ [])
unfolding first_of
first_next zero ns n = refl
first_next (suc k) [] n = refl
first_next (suc k) (m ∷ ns) n = ap (λ (ms : List ℕ). m ∷ ms) (first_next k ns n)

pub stored_next : {stored : List ℕ} {place : ℕ} (found : List (ℕ × ℕ)) (n : ℕ) → place ≡ length found
    → stored ≡ first_of 33 (map (λ p. p.1) found)
    → set stored place n ≡ first_of 33 (map (λ p. p.1) (found ++ (place, n) ∷ []))
stored_next found n e s =
    rw (e, s, map-append (λ (p : ℕ × ℕ). p.1) found, ← length-map found (λ (p : ℕ × ℕ). p.1)) (first_next 33 (map (λ p. p.1) found) n)

-- Those behind the first k do not count, and all that count are stored.
first_take : (k : ℕ) (ns : List ℕ) → first_of k (take k ns) ≡ first_of k ns
unfolding first_of
first_take zero ns = refl
first_take (suc k) [] = refl
first_take (suc k) (n ∷ ns) = ap (λ (ms : List ℕ). n ∷ ms) (first_take k ns)

without_places : (k : ℕ) (ns : List ℕ) → map (λ p. p.1) (enumerate_from k ns) ≡ ns
without_places k [] = refl
without_places k (n ∷ ns) = ap (λ (ms : List ℕ). n ∷ ms) (without_places (k + 1) ns)

pub stored_all : {stored : List ℕ} {found : List (ℕ × ℕ)} (line : List ℕ) → stored ≡ first_of 33 (map (λ p. p.1) found)
    → found ≡ enumerate_from 0 (take 33 (values (slice_split cuts line)))
    → stored ≡ numbers_of line
unfolding numbers_of
stored_all line s e =
    s ∙ rw (e, without_places) (first_take 33 (values (slice_split cuts line)) ∙ ap (first_of 33) (sym (read_both line).0))

-- No number of a line is larger than 64 bits hold.
abbrev pub Held : List ℕ → Type 0
Held ns = (k : ℕ) → get_or ns k 0 ≤ 18446744073709551615

held_none : Held []
held_none k = lit≤ tt

held_one : (n : ℕ) (ns : List ℕ) → n ≤ 18446744073709551615 → Held ns → Held (n ∷ ns)
held_one n ns h f zero = h
held_one n ns h f (suc k) = f k

held_after : (l : List ℕ) (inside : Bool) (v : ℕ) → v ≤ 18446744073709551615 → Held (numbers_after inside v l)
unfolding numbers_after
held_after [] inside v h = by inside
  where
    by : (t : Bool) → Held (cond t (v ∷ []) [])
    by true = held_one v [] h held_none
    by false = held_none
held_after (b ∷ l) inside v h = by (is_digit b) inside (held_after l true (with_digit v b) (digit_held v b)) (held_after l false 0 (lit≤ tt))
  where
    by : (d t : Bool) → Held (numbers_after true (with_digit v b) l) → Held (numbers_after false 0 l)
        → Held (cond d (numbers_after true (with_digit v b) l) (cond t (v ∷ numbers_after false 0 l) (numbers_after false 0 l)))
    by true t f g = f
    by false true f g = held_one v (numbers_after false 0 l) h g
    by false false f g = g

held_first : (k : ℕ) (ns : List ℕ) → Held ns → Held (first_of k ns)
unfolding first_of
held_first zero ns f = held_none
held_first (suc k) [] f = held_one 0 (first_of k []) (lit≤ tt) (held_first k [] held_none)
held_first (suc k) (n ∷ ns) f = held_one n (first_of k ns) (f 0) (held_first k ns (λ i. f (suc i)))

pub numbers_held : (l : List ℕ) → Held (numbers_of l)
unfolding numbers_of
numbers_held l = held_first 33 (numbers_after false 0 l) (held_after l false 0 (lit≤ tt))
