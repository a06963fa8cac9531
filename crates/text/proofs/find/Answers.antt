-- `text::find` asks std for the first place: the definition is that place, or the length.
use Rattle.std.proofs.Common.{◌≡◌, ℕ, Bool, true, false, cond, not, eqb, ltb, List, length, Some, None, rules, tests, arith, refl}
use borrow.Author.Tests.{ltb-false}
use Rattle.std.specs.Option.{unwrap_or}
use Rattle.std.specs.List.{position_or_len}
use Rattle.std.proofs.lemmas.List.Sums.{prefix_len-le-length}
use Rattle.std.proofs.lemmas.Iterator.{YieldsList-from_slice}
use Rattle.std.proofs.lemmas.Iterator.Search.{position_from_yields_List}
use Rattle.text.proofs.Laws.{place_is}
use Rattle.text.proofs.find.Goals as goal

found_or_end : (p : ℕ → Bool) (l : List ℕ) → unwrap_or (cond (ltb (position_or_len p l) (length l)) (Some (position_or_len p l)) None) (length l) ≡ position_or_len p l
found_or_end p l = by (ltb (position_or_len p l) (length l)) refl
  where
    by : (t : Bool) → ltb (position_or_len p l) (length l) ≡ t → unwrap_or (cond t (Some (position_or_len p l)) None) (length l) ≡ position_or_len p l
    by true e = refl
    by false e = omega (arith, ltb-false (position_or_len p l) (length l) e, prefix_len-le-length (λ x. not (p x)) l)

pub returns-clause-place : goal.returns-clause-place
returns-clause-place c =
    let byte = c.args.byte in
    let text = c.args.text.now in
    let found = position_from_yields_List (λ x. eqb x byte) _ _ c.position.result c.position.ensures.ran (YieldsList-from_slice text cc) (λ x b q k. search (rules, tests)) in
    rw (found, place_is byte text) (found_or_end (λ x. eqb x byte) text)
