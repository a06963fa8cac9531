-- What holds where a call answers 0: the rows of its table don't apply.
use mathlib.Core.Path.{◌≡◌, refl}
use mathlib.Core.Bool.{Bool, true, false, cond, not, ◌||◌}
use mathlib.Core.List.{List}
use Prim.Native.Nat.{ℕ, suc, ◌≤◌}
use native.Mathlib.Omega.{arith}
use borrow.Author.Tests.{ltb-false, eqb-true, not-false}
use lib.Dec.{eqb, ltb}
use Rattle.calendar.specs.Calendar.{last_month}
use Rattle.std.proofs.lemmas.Bool.{or_parts}
use Rattle.hours.specs.CriticalDays.{critical_refused}
use Rattle.registers.specs.Registers.{length_refused, reading_refused}
use Rattle.tariff.specs.declared.Terms.{Terms}
use Rattle.tariff.specs.declared.PriceList.{PriceList}
use Rattle.tariff.specs.Tariff.{some_over, prices_refused}
use Rattle.charges.specs.Charges.{carried_limit, standing_limit}
use Rattle.billing.specs.Billing.{amounts_of}
use Rattle.refusals.specs.Table.{opening_row, repricing_row, billing_row}
use Rattle.refusals.proofs.Laws.{Contents, contents_hold, contents_free, contents_repriced, contents_passed}
use Rattle.account.specs.declared.Stage.{Stage}
use Rattle.account.specs.declared.Stage.TheVariants.{Fresh, Open, Closed}
use Rattle.account.specs.declared.Account.{Account}
use Rattle.account.specs.Refusals.{is_fresh, is_open, is_closed, highest_next, contents_refused, cant_arise, unusable}
use Rattle.account.specs.Refusals.{opening_number, repricing_number, billing_number}

-- A row that would answer a number doesn't apply, and the rows after it answer 0.
pass : (b : Bool) (n rest : ℕ) → cond b (suc n) rest ≡ 0 → (b ≡ false) × (rest ≡ 0)
pass true n rest e = absurd (omega arith)
pass false n rest e = (refl, e)

open_stage : (s : Stage) → is_fresh s ≡ false → is_closed s ≡ false → s ≡ Open
open_stage Fresh e f = cc
open_stage Open e f = refl
open_stage Closed e f = cc

-- What an account that can arise has.
pub record Arises (a : Account) : Type 0 where
  pub carried : some_over carried_limit (amounts_of a.carried) ≡ false
  pub standing : a.standing ≤ standing_limit
  pub next : a.next ≤ highest_next

pub arises : (a : Account) → cant_arise a ≡ false → Arises a
unfolding cant_arise
arises a e =
    let (front, _) = or_parts _ _ e in
    let (amounts, next) = or_parts (some_over carried_limit (amounts_of a.carried) || ltb standing_limit a.standing) (ltb highest_next a.next) front in
    let (carried, standing) = or_parts (some_over carried_limit (amounts_of a.carried)) (ltb standing_limit a.standing) amounts in
    record { carried = carried; standing = ltb-false _ _ standing; next = ltb-false _ _ next }

-- What an open account that can arise holds.
contents : (t : Terms) (l : PriceList) → contents_refused t l ≡ false → Contents t l
unfolding contents_refused
contents t l e = contents_hold t l e

pub contents_accepted : (t : Terms) (l : PriceList) → Contents t l → contents_refused t l ≡ false
unfolding contents_refused
contents_accepted t l k = contents_free t l k

-- An account that rows 1 and 3 don't refuse is open, can arise, and holds what an opening accepts.
pub record Usable (a : Account) : Type 0 where
  pub stage : a.stage ≡ Open
  pub possible : Arises a
  pub holds : Contents a.terms a.prices

pub usable : (a : Account) → is_fresh a.stage ≡ false → unusable a ≡ false → Usable a
unfolding unusable cant_arise
usable a f u =
    let (closed, possible) = or_parts (is_closed a.stage) (cant_arise a) u in
    let stage : a.stage ≡ Open = open_stage a.stage f closed in
    let (_, held) =
    or_parts
    (some_over carried_limit (amounts_of a.carried) || ltb standing_limit a.standing || ltb highest_next a.next)
    _
    possible in
    record { stage = stage; possible = arises a possible; holds = contents a.terms a.prices (rw stage at held) }

-- An accepted opening.
pub record OpeningAccepted (a : Account) (t : Terms) (l : PriceList) (m : ℕ) : Type 0 where
  pub stage : a.stage ≡ Fresh
  pub holds : Contents t l
  pub month : m ≤ last_month

fresh_stage : (s : Stage) → is_open s ≡ false → is_closed s ≡ false → s ≡ Fresh
fresh_stage Fresh e f = refl
fresh_stage Open e f = cc
fresh_stage Closed e f = cc

pub opening_accepted : (a : Account) (t : Terms) (l : PriceList) (m : ℕ) → opening_number a t l m ≡ 0 → OpeningAccepted a t l m
unfolding opening_number opening_row unusable
opening_accepted a t l m e =
    let (not_open, e3) = pass (is_open a.stage) 1 _ e in
    let (able, e4) = pass (is_closed a.stage || cant_arise a) 2 _ e3 in
    let (holds, e7) = contents_passed t l _ e4 in
    let (month, _) = pass (ltb last_month m) 6 0 e7 in
    record {
      stage = fresh_stage a.stage not_open (or_parts (is_closed a.stage) (cant_arise a) able).0;
      holds = holds;
      month = ltb-false _ _ month;
    }

-- An accepted repricing: the new price list is one that an opening accepts beside the account's terms.
pub repricing_accepted : (a : Account) (l : PriceList) → repricing_number a l ≡ 0 → Usable a × Contents a.terms l
unfolding repricing_number repricing_row
repricing_accepted a l e =
    let (f, e3) = pass (is_fresh a.stage) 0 _ e in
    let (u, e4) = pass (unusable a) 2 _ e3 in
    let k : Usable a = usable a f u in
    (k, contents_repriced a.terms a.prices k.holds l (pass (prices_refused l) 3 0 e4).0)

-- An accepted billing.
pub record BillingAccepted (a : Account) (m : ℕ) (delivered received : List ℕ) (x : ℕ) : Type 0 where
  pub account : Usable a
  pub month : m ≡ a.next
  pub next : a.next ≤ last_month
  pub delivered_length : length_refused m delivered ≡ false
  pub received_length : length_refused m received ≡ false
  pub delivered_readings : reading_refused delivered ≡ false
  pub received_readings : reading_refused received ≡ false

pub billing_accepted : (a : Account) (m : ℕ) (delivered received : List ℕ) (x : ℕ) → billing_number a m delivered received x ≡ 0
    → BillingAccepted a m delivered received x
unfolding billing_number billing_row
billing_accepted a m delivered received x e =
    let (f, e3) = pass (is_fresh a.stage) 0 _ e in
    let (u, e11) = pass (unusable a) 2 _ e3 in
    let (n, e7) = pass (ltb last_month a.next) 10 _ e11 in
    let (month, e8) = pass (not (eqb m a.next)) 6 _ e7 in
    let (lengths, e9) = pass (length_refused m delivered || length_refused m received) 7 _ e8 in
    let (_, e10) = pass (critical_refused m x) 8 _ e9 in
    let (readings, _) = pass (reading_refused delivered || reading_refused received) 9 _ e10 in
    let (dl, rl) = or_parts (length_refused m delivered) (length_refused m received) lengths in
    let (dr, rr) = or_parts (reading_refused delivered) (reading_refused received) readings in
    record {
      account = usable a f u;
      month = eqb-true _ _ (not-false _ month);
      next = ltb-false _ _ n;
      delivered_length = dl;
      received_length = rl;
      delivered_readings = dr;
      received_readings = rr;
    }
