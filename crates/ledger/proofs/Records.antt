-- What is read of a record is its call, with the readings that it takes.
use Rattle.std.proofs.Common.{◌≡◌, ℕ, Bool, true, false, cond, List, Some, None, refl, arith}
use Rattle.std.proofs.lemmas.Option.{cond_some}
use Rattle.std.proofs.lemmas.Bool.Decides.{nat_tests}
use borrow.Author.Tests.{eq-eqb, ne_eqb}
use Rattle.std.specs.Option.{option_map}
use lib.ListN.{length}
use Rattle.account.specs.declared.Account.{Account}
use Rattle.records.specs.declared.Call.{Call}
use Rattle.records.specs.Records.{record_length, delivered_place, received_place, count_at, is_call}
use Rattle.records.specs.Reading.{said_by, call_read, delivered_said, received_said}
use Rattle.balances.specs.Calls.{answer_of, account_after}
use Rattle.ledger.specs.Encoding.{call_of, answered_of}
use Rattle.ledger.specs.Running.{step_of, with_readings}

module _ (w : List ℕ) where
  said_is : (delivered received : List ℕ) → with_readings (said_by w) delivered received ≡ call_of w delivered received
  unfolding said_by call_of
  said_is delivered received = grind (arith, nat_tests)

  delivered_is : delivered_said (said_by w) ≡ count_at w delivered_place
  unfolding said_by count_at
  delivered_is = grind (arith, nat_tests)

  received_is : received_said (said_by w) ≡ count_at w received_place
  unfolding said_by count_at
  received_is = grind (arith, nat_tests)

  module _ (c : Call) (e : call_read w ≡ Some c) where
    said : (is_call w ≡ true) × (said_by w ≡ c)
    unfolding call_read
    said = cond_some _ _ _ e

    pub is_read : is_call w ≡ true
    is_read = said.0

    pub call_is : (delivered received : List ℕ) → with_readings c delivered received ≡ call_of w delivered received
    call_is delivered received = rw (← said.1) (said_is delivered received)

    pub delivered_count : delivered_said c ≡ count_at w delivered_place
    delivered_count = rw (← said.1) delivered_is

    pub received_count : received_said c ≡ count_at w received_place
    received_count = rw (← said.1) received_is

  pub not_read : call_read w ≡ None → is_call w ≡ false
  unfolding call_read
  not_read e = by (is_call w) refl
    where
      by : (b : Bool) → is_call w ≡ b → is_call w ≡ false
      by true i = let s : Some (said_by w) ≡ None = rw i at e in absurd (cc)
      by false i = i

-- The answer to a record goes by what is read of it, where it has a record's length.
module _ (a : Account) (w delivered received : List ℕ) where
  pub too_long : (length w ≡ record_length → ⊥) → answered_of a w delivered received ≡ None
  unfolding answered_of
  too_long h = simp (ne_eqb _ _ h)

  pub answered_by : length w ≡ record_length
      → answered_of a w delivered received ≡ option_map (λ c. step_of a (with_readings c delivered received)) (call_read w)
  unfolding answered_of step_of call_read
  answered_by h = rw (eq-eqb _ _ h) (by (is_call w))
    where
      by : (b : Bool)
          → cond b (Some (record { account = account_after a (call_of w delivered received); answer = answer_of a (call_of w delivered received) })) None
          ≡ option_map (λ c. step_of a (with_readings c delivered received)) (cond b (Some (said_by w)) None)
      by true = rw (said_is w delivered received)
      by false = refl
