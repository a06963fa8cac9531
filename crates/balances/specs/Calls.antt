-- Demand 3: a list of calls, and the answers and the last account that document 01's steps and table give for the calls alone.
use Rattle.std.specs.Prelude.{List, [], ◌∷◌, ℕ}
use Rattle.tariff.specs.declared.Terms.{Terms}
use Rattle.tariff.specs.declared.PriceList.{PriceList}
use Rattle.billing.specs.Billing.{no_bill}
use Rattle.account.specs.declared.Account.{Account}
use Rattle.account.specs.Account.{no_amounts, opening_reply, repricing_reply, billing_reply, closing_reply}
use Rattle.records.specs.declared.Answer.{Answer}

-- A call: an opening with terms, price list and first month; a repricing; a billing with month, delivered, received and critical days;
-- a closing.
pub data Call : Type 0 where
  opening : Terms → PriceList → ℕ → Call
  repricing : PriceList → Call
  billing : ℕ → List ℕ → List ℕ → ℕ → Call
  closing : Call

-- The answer to a call on an account: its number and every amount. Our reading: a call has 0 in the amounts that it
-- doesn't return.
unfoldable pub answer_of : Account → Call → Answer
answer_of a (opening t l m) = record { number = (opening_reply a t l m).number; bill = no_bill; amounts = no_amounts }
answer_of a (repricing l) = record { number = (repricing_reply a l).number; bill = no_bill; amounts = no_amounts }
answer_of a (billing m delivered received x) =
    record {
      number = (billing_reply a m delivered received x).number;
      bill = (billing_reply a m delivered received x).bill;
      amounts = no_amounts;
    }
answer_of a closing = record { number = (closing_reply a).number; bill = no_bill; amounts = (closing_reply a).amounts }

-- The account after a call.
unfoldable pub account_after : Account → Call → Account
account_after a (opening t l m) = (opening_reply a t l m).account
account_after a (repricing l) = (repricing_reply a l).account
account_after a (billing m delivered received x) = (billing_reply a m delivered received x).account
account_after a closing = (closing_reply a).account

-- The answers to a list of calls that starts from account a, and the account after it.
unfoldable pub answers_of : Account → List Call → List Answer
answers_of a [] = []
answers_of a (c ∷ cs) = answer_of a c ∷ answers_of (account_after a c) cs

unfoldable pub last_of : Account → List Call → Account
last_of a [] = a
last_of a (c ∷ cs) = last_of (account_after a c) cs
