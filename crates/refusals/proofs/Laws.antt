-- What callers know of an opening's checks of what an account holds. They cite these laws and never open the list of them.
use mathlib.Core.Path.{◌≡◌, refl, ◌∙◌, sym}
use mathlib.Core.Bool.{Bool, true, false, cond, not, ◌||◌}
use mathlib.Core.List.{List, [], ◌∷◌, ◌++◌}
use Prim.Native.Nat.{ℕ, zero, suc, ◌<◌}
use native.Mathlib.Omega.{arith}
use borrow.Author.Tests.{eq-eqb, ne_eqb}
use lib.Dec.{eqb}
use Rattle.std.proofs.lemmas.Bool.{or_parts}
use Rattle.tariff.specs.declared.Terms.{Terms}
use Rattle.tariff.specs.declared.PriceList.{PriceList}
use Rattle.tariff.specs.Tariff.{prices_refused, nameplates_refused, capacity_refused, bridge_refused}
use Rattle.std.specs.Prelude.{Result, Ok, Err}
use Rattle.std.specs.Result.{is_err}
use Rattle.refusals.specs.declared.Refusal.{Refusal}
use Rattle.refusals.specs.Numbers.{number, number_of}
use Rattle.refusals.proofs.Numbers.{number_above}
use Rattle.refusals.specs.Table.{Row, first_of, some_applies, contents_rows}

-- No row has the number of an accepted call.
abbrev Numbered : List Row → Type 0
Numbered [] = Unit {0}
Numbered (r ∷ rs) = (0 < r.number) × Numbered rs

-- So a number other than 0 says that one applies.
one_applies : (b s : Bool) (n rest : ℕ) → 0 < n → s ≡ not (eqb rest 0) → (b || s) ≡ not (eqb (cond b n rest) 0)
one_applies true s n rest h e = rw (ne_eqb n 0 (omega arith))
one_applies false s n rest h e = e

applies_is : (rs : List Row) → Numbered rs → some_applies rs ≡ not (eqb (first_of rs) 0)
applies_is [] n = refl
applies_is (r ∷ rs) n = one_applies r.applies (some_applies rs) r.number (first_of rs) n.0 (applies_is rs n.1)

-- Rows in two parts: the second is asked where the first answers 0.
one_in_turn : (b : Bool) (n first later both : ℕ) → 0 < n → both ≡ cond (eqb first 0) later first
    → cond b n both ≡ cond (eqb (cond b n first) 0) later (cond b n first)
one_in_turn true n first later both h e = rw (ne_eqb n 0 (omega arith))
one_in_turn false n first later both h e = e

in_turn_lem : (rs later : List Row) → Numbered rs → first_of (rs ++ later) ≡ cond (eqb (first_of rs) 0) (first_of later) (first_of rs)
in_turn_lem [] later n = refl
in_turn_lem (r ∷ rs) later n =
    one_in_turn r.applies r.number (first_of rs) (first_of later) (first_of (rs ++ later)) n.0 (in_turn_lem rs later n.1)

none_in_turn : (first later : ℕ) → cond (eqb first 0) later first ≡ 0 → (first ≡ 0) × (later ≡ 0)
none_in_turn zero later e = (refl, e)
none_in_turn (suc first) later e = absurd (omega (arith, rw (ne_eqb (suc first) 0 (omega arith)) at e))

-- Terms and a price list that no check refuses.
pub record Contents (t : Terms) (l : PriceList) : Type 0 where
  pub prices : prices_refused l ≡ false
  pub nameplates : nameplates_refused t ≡ false
  pub capacity : capacity_refused t ≡ false
  pub bridge : bridge_refused t ≡ false

module _ (t : Terms) (l : PriceList) where
  numbered : Numbered (contents_rows t l)
  unfolding contents_rows
  numbered = (omega arith, (omega arith, (omega arith, (omega arith, tt))))

  pub contents_hold : some_applies (contents_rows t l) ≡ false → Contents t l
  unfolding contents_rows
  contents_hold e =
      let (prices, e12) = or_parts (prices_refused l) _ e in
      let (nameplates, e5) = or_parts (nameplates_refused t) _ e12 in
      let (capacity, e6) = or_parts (capacity_refused t) _ e5 in
      let (bridge, _) = or_parts (bridge_refused t) _ e6 in
      record { prices = prices; nameplates = nameplates; capacity = capacity; bridge = bridge }

  pub contents_free : Contents t l → some_applies (contents_rows t l) ≡ false
  unfolding contents_rows
  contents_free k = rw (k.prices, k.nameplates, k.capacity, k.bridge)

  -- With another price list they hold where that isn't refused.
  pub contents_repriced : Contents t l → (new : PriceList) → prices_refused new ≡ false → Contents t new
  contents_repriced k new e = record { prices = e; nameplates = k.nameplates; capacity = k.capacity; bridge = k.bridge }

  -- One of the checks refuses where they answer a number.
  contents_refuse : not (eqb (first_of (contents_rows t l)) 0) ≡ some_applies (contents_rows t l)
  contents_refuse = sym (applies_is (contents_rows t l) numbered)

  pub contents_err : (r : Result (Unit {0}) Refusal) → number_of r ≡ first_of (contents_rows t l) → is_err r ≡ some_applies (contents_rows t l)
  contents_err (Ok v) e = rw (← contents_refuse, ← e)
  contents_err (Err r) e = rw (← contents_refuse, ← e, ne_eqb (number r) 0 (omega (arith, number_above r)))

  -- What follows them is asked where they answer none.
  pub contents_passed : (later : List Row) → first_of (contents_rows t l ++ later) ≡ 0 → Contents t l × (first_of later ≡ 0)
  contents_passed later e =
      let (none, rest) = none_in_turn _ _ (sym (in_turn_lem (contents_rows t l) later numbered) ∙ e) in
      (contents_hold (sym contents_refuse ∙ rw (eq-eqb (first_of (contents_rows t l)) 0 none)), rest)
