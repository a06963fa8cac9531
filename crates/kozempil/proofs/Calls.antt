-- Whether a call on a given account is answered, and its answer.
use Rattle.std.proofs.Common.{◌≡◌, Bool, true, false, List, ℕ, Some, None, refl}
use Rattle.std.proofs.lemmas.Option.{cond_some}
use Rattle.ledger.specs.declared.Answered.{Answered}
use Rattle.balances.specs.Calls.{answer_of, account_after}
use Rattle.ledger.specs.Encoding.{call_of}
use Rattle.kozempil.specs.Interface.{account_at, is_answered, answer_to}

module _ (w call delivered received : List ℕ) where
  module _ (x : Answered) (e : answer_to w call delivered received ≡ Some x) where
    answered : (is_answered w call ≡ true)
        × (◌≡◌ {A = Answered} (record { account = account_after (account_at w) (call_of call delivered received); answer = answer_of (account_at w) (call_of call delivered received) }) x)
    unfolding answer_to
    answered = cond_some _ _ _ e

    pub is_answered_lem : is_answered w call ≡ true
    is_answered_lem = answered.0

    pub answer_is : x.answer ≡ answer_of (account_at w) (call_of call delivered received)
    answer_is = rw (← answered.1)

    pub account_is : x.account ≡ account_after (account_at w) (call_of call delivered received)
    account_is = rw (← answered.1)

  pub not_answered : answer_to w call delivered received ≡ None → is_answered w call ≡ false
  unfolding answer_to
  not_answered e = by (is_answered w call) refl
    where
      by : (b : Bool) → is_answered w call ≡ b → is_answered w call ≡ false
      by true i = let s : Some _ ≡ None = rw i at e in absurd (cc)
      by false i = i
