-- `loading::periods_in` takes 48 from each digit: a call for each element of the array, which gives one of the list.
use Rattle.std.proofs.Common.{rules, arith, ap, refl, sym, ◌∙◌, ◌≡◌, ◌≤◌, ◌-◌, List, ℕ, length, get_or, true}
use Rattle.std.proofs.lemmas.Grind.{same_number_lists}
use Rattle.std.proofs.lemmas.List.{length-map, get_or-map}
use Rattle.std.proofs.lemmas.List.Sums.{AllPass-from_list_all}
use Rattle.std.proofs.lemmas.Bool.Decides.{nat_tests}
use Rattle.std.proofs.lemmas.Iterator.{YieldsList}
use Rattle.std.proofs.lemmas.Iterator.Adapters.{serves_from_places}
use Rattle.std.proofs.lemmas.Iterator.Consumers.{YieldsList-from_shown}
use Rattle.std.specs.Array.{list_steps}
use Rattle.loading.specs.Loading.{is_period_digit}
use Rattle.loading.proofs.Periods.{digits_each, periods_other, periods_bad, periods_are}
use Rattle.loading.proofs.periods_in.Goals as goal

-- A list gives its elements, and a digit of a period isn't below 48.
elements : (l : List ℕ) → YieldsList list_steps (λ x. x) l l
elements = YieldsList-from_shown list_steps (λ x. x) (λ l. l) (λ s t h. ap length h) (λ s x t h. h)

low : (b : ℕ) → is_period_digit b ≡ true → 48 ≤ b
low b e = grind (arith, nat_tests)

pub returns-in_err-digits : goal.returns-in_err-digits
returns-in_err-digits c = rw (c.from_residual.ensures, periods_other c.args.digits.now (search rules))

pub returns-then-not-all_periods : goal.returns-then-not-all_periods
returns-then-not-all_periods c = grind (arith, digits_each, periods_bad)

pub map-requires : goal.map-requires
map-requires c =
    let each = AllPass-from_list_all is_period_digit c.in_ok-digits.digits (sym c.all_periods.ensures ∙ c.if-not-all_periods.false) in
    (omega arith, (omega arith, (omega arith, serves_from_places (elements _) (λ x q r. refl) (λ x k h e _ _ _ _ _. low x (ap is_period_digit e ∙ each k x h)))))

pub returns : goal.returns
returns c =
    let digits = c.args.digits.now in
    let same : c.in_ok-digits.digits ≡ digits = search rules in
    let wide : length digits ≡ 96 = search rules in
    let long : length c.map.result ≡ 96 = c.map.ensures.items.long in
    rw (periods_are digits wide (grind (arith, digits_each)))
    (same_number_lists _ _ (long ∙ sym wide ∙ sym (length-map digits (λ b. b - 48))) (λ k h.
    let at = c.map.ensures.items.at k 0 0 (omega (arith, long)) in
    let value : get_or c.map.result k 0 ≡ get_or c.in_ok-digits.digits k 0 - 48 = search (rules, at.2.met) in
    value ∙ rw same (sym (get_or-map (λ b. b - 48) digits k 0 0 (omega (arith, long, wide))))))
