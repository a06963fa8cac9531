-- What the progress promises of the opening's lines, over plain values.
use mathlib.Core.Path.{◌≡◌, refl, ◌∙◌, ap}
use mathlib.Core.Bool.{Bool, true, false, cond}
use mathlib.Core.Logic.{⊎_elim}
use mathlib.Core.List.{List, [], ◌∷◌}
use Prim.Native.Nat.{ℕ, ◌+◌, ◌≤◌, ◌<◌}
use native.Mathlib.Omega.{arith}
use borrow.Author.Tests.{eqb-true, eqb-false, ne_eqb}
use lib.Dec.{eqb}
use lib.ListN.{length, get_or, take, drop}
use Rattle.tariff.specs.declared.Terms.{Terms}
use Rattle.tariff.specs.declared.Rider.{Rider}
use Rattle.tariff.specs.declared.Rider.TheVariants.{Banked, Bridge}
use Rattle.tariff.specs.declared.Class.{Class}
use Rattle.tariff.specs.declared.Class.TheVariants.{Home, Business}
use Rattle.tariff.specs.Tariff.{eight_at}
use Rattle.tariff.proofs.Laws.{eight_back}
use Rattle.account.specs.declared.Account.{Account}
use Rattle.account.specs.Account.{PlainReply, opening_reply}
use Rattle.text.specs.Text.{bytes_of}
use Rattle.grammar.specs.Grammar.{opening_line, keyed, choice_in, is_text, begins_with}
use Rattle.lines.specs.Opening.{width_of_line, nameplate_line, kept_of_line, opening_terms, opening_prices, rider_of, class_of}
use Rattle.lines.specs.Statement.{State, state, with_line, account_reply}
use Rattle.lines.proofs.Opening.{width_within, line_gives}
use Rattle.progress.specs.declared.opening.Opening.{Opening}
use Rattle.progress.specs.Values.{rider_word, class_word, values_of, values_with}

-- All but the line of nameplates.
other_line : (k : ℕ) → (k ≡ 3 → ⊥) → eqb (k + 1) nameplate_line ≡ false
other_line k n = ne_eqb (k + 1) nameplate_line (λ e. n (omega arith))

-- As many numbers as there are of up to four.
front_is : (v : List ℕ) → length v ≤ 4 → take (length v) (eight_at v 0 0) ≡ v
front_is [] h = refl
front_is (x ∷ []) h = refl
front_is (x ∷ y ∷ []) h = refl
front_is (x ∷ y ∷ z ∷ []) h = refl
front_is (x ∷ y ∷ z ∷ w ∷ []) h = refl
front_is (x ∷ y ∷ z ∷ w ∷ u ∷ v) h = absurd (omega (arith, h))

-- The numbers of a readable line of the opening are put where the definition puts them.
line_kept : (s : State) (l xs : List ℕ) → s.expected < 14 → (length (opening_line s.expected l) ≡ 0 → ⊥)
    → xs ≡ values_with s.values s.expected (opening_line s.expected l)
    → state s.lines (s.expected + 1) xs s.account s.entered ≡ with_line (opening_line s.expected l) s
unfolding values_with kept_of_line
line_kept s l xs h some put = by (eqb s.expected 3) refl
  where
    by : (t : Bool) → eqb s.expected 3 ≡ t
        → state s.lines (s.expected + 1) xs s.account s.entered ≡ with_line (opening_line s.expected l) s
    by true f = rw (put, eqb-true s.expected 3 f)
    by false f =
        let m = eqb-false s.expected 3 f in
        let v = opening_line s.expected l in
        let wide : length v ≡ width_of_line s.expected = ⊎_elim (λ q. absurd (some q)) (λ q. q) (line_gives s.expected l h m) in
        rw (put, other_line s.expected m, ← wide, front_is v (omega (arith, wide, width_within s.expected h m)))

-- The same by the line's place k, and the numbers v that it gave.
pub place_kept : (s : State) (k n : ℕ) (l v xs : List ℕ) → s.expected ≡ k → n ≡ k + 1 → k < 14 → v ≡ opening_line k l → (length v ≡ 0 → ⊥)
    → xs ≡ values_with s.values k v → state s.lines n xs s.account s.entered ≡ with_line v s
place_kept s k n l v xs same next h e some put =
    rw (next, e, ← same) (line_kept s l xs (omega arith) (rw (same, ← e) some) (rw (same, ← e) put))

-- A line of two words gives 0 or 1.
choice_small : (first second l : List ℕ) → get_or (choice_in first second l) 0 0 ≤ 1
unfolding choice_in
choice_small first second l = by (is_text first l) (is_text second l)
  where
    by : (a b : Bool) → get_or (cond a (0 ∷ []) (cond b (1 ∷ []) [])) 0 0 ≤ 1
    by true b = omega arith
    by false true = omega arith
    by false false = omega arith

keyed_small : (key first second l : List ℕ) → get_or (keyed key (choice_in first second) l) 0 0 ≤ 1
unfolding keyed
keyed_small key first second l = by (begins_with key l)
  where
    by : (b : Bool) → get_or (cond b (choice_in first second (drop (length key) l)) []) 0 0 ≤ 1
    by true = choice_small first second (drop (length key) l)
    by false = omega arith

module _ (l v : List ℕ) (k : ℕ) (e : v ≡ opening_line k l) where
  pub rider_small : k ≡ 1 → get_or v 0 0 ≤ 1
  unfolding opening_line
  rider_small h = rw (e, h) (keyed_small (bytes_of "rider=") (bytes_of "banked") (bytes_of "bridge") l)

  pub class_small : k ≡ 2 → get_or v 0 0 ≤ 1
  unfolding opening_line
  class_small h = rw (e, h) (keyed_small (bytes_of "class=") (bytes_of "home") (bytes_of "business") l)

  pub assisted_small : k ≡ 5 → get_or v 0 0 ≤ 1
  unfolding opening_line
  assisted_small h = rw (e, h) (keyed_small (bytes_of "assisted=") (bytes_of "no") (bytes_of "yes") l)

-- The terms and prices that the numbers stand for are those that are kept.
rider_back : (r : Rider) → rider_of (rider_word r) ≡ r
rider_back Banked = refl
rider_back Bridge = refl

class_back : (c : Class) → class_of (class_word c) ≡ c
class_back Home = refl
class_back Business = refl

assisted_back : (b : Bool) → eqb (cond b 1 0) 1 ≡ b
assisted_back true = refl
assisted_back false = refl

module _ (t : Terms) where
  abbrev made : Rider → Class → List ℕ → Bool → Terms
  made r c l b = record { rider = r; class = c; count = t.count; nameplates = l; limit = t.limit; assisted = b }

  pub made_back : length t.nameplates ≡ 8
      → made (rider_of (rider_word t.rider)) (class_of (class_word t.class)) (eight_at t.nameplates 0 0) (eqb (cond t.assisted 1 0) 1) ≡ t
  made_back h =
      ap (λ (r : Rider). made r (class_of (class_word t.class)) (eight_at t.nameplates 0 0) (eqb (cond t.assisted 1 0) 1)) (rider_back t.rider)
      ∙ ap (λ (c : Class). made t.rider c (eight_at t.nameplates 0 0) (eqb (cond t.assisted 1 0) 1)) (class_back t.class)
      ∙ ap (λ (l : List ℕ). made t.rider t.class l (eqb (cond t.assisted 1 0) 1)) (eight_back t.nameplates h)
      ∙ ap (made t.rider t.class t.nameplates) (assisted_back t.assisted)

terms_back : (o : Opening) → length o.agreement.terms.nameplates ≡ 8 → opening_terms (values_of o) ≡ o.agreement.terms
unfolding opening_terms
terms_back o h = made_back o.agreement.terms h

prices_back : (o : Opening) → opening_prices (values_of o) ≡ o.agreement.prices
unfolding opening_prices
prices_back o = refl

-- What an account answers to an opening's numbers.
pub account_answers : (a : Account) (o : Opening) (r : PlainReply) → length o.agreement.terms.nameplates ≡ 8
    → r ≡ opening_reply a o.agreement.terms o.agreement.prices o.month → r ≡ account_reply a (values_of o)
account_answers a o r h e = e ∙ rw (terms_back o h, prices_back o)
