-- Document 01, "Account and price list": the four calls, each of which takes the account as it is and hands it back with the answer.
use Rattle.std.specs.Prelude.{false, cond, List, ℕ, ◌+◌, eqb, replicate}
use Rattle.hours.specs.Hours.{fixed_schedule, by_period}
use Rattle.registers.specs.Registers.{sum_of, demand_power}
use Rattle.tariff.specs.declared.Rider.TheVariants.{Banked}
use Rattle.tariff.specs.declared.Class.TheVariants.{Home}
use Rattle.tariff.specs.declared.Terms.{Terms}
use Rattle.tariff.specs.declared.PriceList.{PriceList}
use Rattle.tariff.specs.Tariff.{most_nameplates}
use Rattle.account.specs.declared.Stage.TheVariants.{Fresh, Open, Closed}
use Rattle.account.specs.declared.Account.{Account}
use Rattle.account.specs.declared.ClosingAmounts.{ClosingAmounts}
use Rattle.account.specs.Refusals.{opening_number, repricing_number, billing_number, closing_number}
use Rattle.billing.specs.Billing.{none, bill_from, no_bill}
use Rattle.billing.specs.declared.Bill.{Bill}

-- "The fresh account that a list starts from has 0 carried and 0 standing"; our reading: every other number is 0 too.
abbrev pub fresh_account : Account
fresh_account =
    record {
      stage = Fresh;
      terms =
          record {
            rider = Banked;
            class = Home;
            count = 0;
            nameplates = replicate most_nameplates 0;
            limit = 0;
            assisted = false;
          };
      prices =
          record {
            energy = none;
            demand = 0;
            standby = 0;
            bypass = 0;
            credit = 0;
            distribution = 0;
            basic = 0;
            minimum = 0;
          };
      next = 0;
      carried = none;
      standing = 0;
    }

-- "Opening gives terms, price list and first month, which becomes the next month; carried and standing start at 0."
abbrev pub opened : Terms → PriceList → ℕ → Account
opened t l m = record { stage = Open; terms = t; prices = l; next = m; carried = none; standing = 0 }

-- "Repricing replaces the price list for the months billed afterwards."
abbrev pub repriced : Account → PriceList → Account
repriced a l =
    record {
      stage = a.stage;
      terms = a.terms;
      prices = l;
      next = a.next;
      carried = a.carried;
      standing = a.standing;
    }

-- "The hours are kept as a fixed schedule": the one that an account is billed by.
unfoldable pub schedule_of : Account → List ℕ
schedule_of a = fixed_schedule

-- Steps 1 to 8 on an account. Step 2: "Delivered and exported for each period are the sums of the two registers over its quarters." Step 6, with 02 No. 6:
-- the demand is that of the delivered register.
unfoldable pub bill_of : Account → ℕ → List ℕ → List ℕ → ℕ → Bill
bill_of a m delivered received x =
    bill_from a.terms a.prices a.carried a.standing m
    (by_period (sum_of (schedule_of a) m x delivered))
    (by_period (sum_of (schedule_of a) m x received))
    (demand_power (schedule_of a) m x delivered)

-- Steps 5, 8 and 9: the carried Wh are those left, the standing money that of the bill, and "The next month rises by one."
abbrev pub after_bill : Account → Bill → Account
after_bill a b =
    record {
      stage = a.stage;
      terms = a.terms;
      prices = a.prices;
      next = a.next + 1;
      carried = b.left;
      standing = b.charges.standing;
    }

-- "Closing forfeits all carried Wh, refunds all standing money and returns both".
abbrev pub closing_amounts : Account → ClosingAmounts
closing_amounts a = record { forfeited = a.carried; refunded = a.standing }

-- "A refusal returns zeros in every amount": those of a refused closing.
abbrev pub no_amounts : ClosingAmounts
no_amounts = record { forfeited = none; refunded = 0 }

-- "the account is then closed, with both at 0"; our reading: all else stays as it was.
abbrev pub closed : Account → Account
closed a =
    record {
      stage = Closed;
      terms = a.terms;
      prices = a.prices;
      next = a.next;
      carried = none;
      standing = 0;
    }

-- What the calls answer: a number in the table, 0 where accepted, what a billing or a closing returns, and the account after the call.
pub record PlainReply : Type 0 where
  pub number : ℕ
  pub account : Account

pub record BillingReply : Type 0 where
  pub number : ℕ
  pub bill : Bill
  pub account : Account

pub record ClosingReply : Type 0 where
  pub number : ℕ
  pub amounts : ClosingAmounts
  pub account : Account

-- The four calls: the number 0 with the amounts and the account after the call, or a refusal with "zeros in every amount, and the account
-- as it came".
unfoldable pub opening_reply : Account → Terms → PriceList → ℕ → PlainReply
opening_reply a t l m =
    let n : ℕ = opening_number a t l m in
    record { number = n; account = cond (eqb n 0) (opened t l m) a }

unfoldable pub repricing_reply : Account → PriceList → PlainReply
repricing_reply a l =
    let n : ℕ = repricing_number a l in
    record { number = n; account = cond (eqb n 0) (repriced a l) a }

unfoldable pub billing_reply : Account → ℕ → List ℕ → List ℕ → ℕ → BillingReply
billing_reply a m delivered received x =
    let n : ℕ = billing_number a m delivered received x in
    let b : Bill = bill_of a m delivered received x in
    record { number = n; bill = cond (eqb n 0) b no_bill; account = cond (eqb n 0) (after_bill a b) a }

unfoldable pub closing_reply : Account → ClosingReply
closing_reply a =
    let n : ℕ = closing_number a in
    record {
      number = n;
      amounts = cond (eqb n 0) (closing_amounts a) no_amounts;
      account = cond (eqb n 0) (closed a) a;
    }
