-- What is left to do: the calls still to be answered, from the account reached, end where the whole list does.
use mathlib.Core.Path.{◌≡◌, refl, sym, ◌∙◌}
use mathlib.Core.Bool.{true, false}
use mathlib.Core.List.{List, [], ◌∷◌}
use Prim.Native.Nat.{ℕ, ◌+◌, ◌*◌, ◌≤◌, ◌<◌}
use native.Mathlib.Omega.{arith}
use lib.ListN.{length, take, drop, length-drop}
use lib.Seq.{sets}
use Rattle.std.specs.Prelude.{Some}
use Rattle.account.specs.declared.Account.{Account}
use Rattle.records.specs.declared.Call.{Call as Said}
use Rattle.records.specs.Records.{record_length, delivered_place, received_place, count_at, is_call}
use Rattle.records.specs.Reading.{call_read, delivered_said, received_said}
use Rattle.records.specs.Rows.{row_length, row_of}
use Rattle.text.proofs.Lists.{sets-append}
use Rattle.ledger.specs.declared.Ran.{Ran}
use Rattle.ledger.specs.declared.Answered.{Answered}
use Rattle.balances.specs.Calls.{Call, answer_of, account_after, answers_of, last_of}
use Rattle.ledger.specs.Encoding.{call_of, rows_of, calls_in}
use Rattle.ledger.specs.Running.{step_of, with_readings, ran_to}
use Rattle.ledger.specs.DemandThree.{Holds, DemandThree}
use Rattle.balances.proofs.Balances.{balanced}
use Rattle.balances.proofs.Reachable.{reachable}
use Rattle.ledger.proofs.Decoding.{calls_none, calls_stop, calls_next}
use Rattle.ledger.proofs.Records.{is_read, call_is, delivered_count, received_count}
use Rattle.ledger.proofs.Roundtrip.{read_back}

-- The whole list from its first account, and what its answers leave in the buffer; the calls that are left, the account, the next row's place
-- and the buffer now.
pub record Progress (first : Account) (all : List Call) (before : List ℕ) (rest : List Call) (a : Account) (row : ℕ) (buffer : List ℕ) : Type 0 where
  pub last : last_of a rest ≡ last_of first all
  pub answers : sets buffer row (rows_of (answers_of a rest)) ≡ sets before 0 (rows_of (answers_of first all))

module _ (first : Account) (all : List Call) (before : List ℕ) where
  pub start : Progress first all before all first 0 before
  start = record { last = refl; answers = refl }

  pub next : (c : Call) (rest : List Call) (a : Account) (row : ℕ) (buffer after : List ℕ) (s : Answered) (xs : List ℕ)
      → Progress first all before (c ∷ rest) a row buffer → s ≡ step_of a c → xs ≡ row_of s.answer → after ≡ sets buffer row xs
      → Progress first all before rest s.account (row + row_length) after
  unfolding step_of last_of answers_of rows_of
  next c rest a row buffer after s xs p e f g =
      record {
        last = rw e p.last;
        answers = rw (g, f, e) (sym (sets-append buffer row (row_of (answer_of a c)) (rows_of (answers_of (account_after a c) rest))) ∙ p.answers);
      }

  pub finish : (a : Account) (row : ℕ) (buffer : List ℕ) (n : ℕ) (r : Ran) → Progress first all before [] a row buffer
      → n ≡ length all → r ≡ ran_to a n (length before) → Holds first all before buffer r
  unfolding last_of answers_of rows_of
  finish a row buffer n r p k e =
      record {
        account = rw e p.last;
        answers = p.answers;
        answered = rw (e, k);
        written = rw (e, k);
        balances = λ f. balanced first f all;
        arises = λ f h. rw (e, p.last) (reachable first f h all);
      }

-- The loop's state: how many calls are answered, and what is left of the records and of the registers.
pub record Running (first : Account) (calls delivered received before answers : List ℕ) (a : Account) (answered : ℕ) (ws ds rs : List ℕ) : Type 0 where
  pub records : record_length * answered + length ws ≡ length calls
  pub same : length answers ≡ length before
  pub count : answered + length (calls_in ws ds rs) ≡ length (calls_in calls delivered received)
  pub progress : Progress first (calls_in calls delivered received) before (calls_in ws ds rs) a (answered * row_length) answers

-- Before the first record nothing is answered.
pub started : (first : Account) (calls delivered received before : List ℕ)
    → Running first calls delivered received before before first 0 calls delivered received
started first calls delivered received before =
    record {
      records = omega arith;
      same = refl;
      count = omega arith;
      progress = start first (calls_in calls delivered received) before;
    }

-- The calls read back are those that were lent.
whole : (first : Account) (calls delivered received before after : List ℕ) (r : Ran)
    → Holds first (calls_in calls delivered received) before after r → DemandThree first calls delivered received before after r
whole first calls delivered received before after r h =
    record {
      lent = h;
      every = λ cs fit e f g. rw (e, f, g, read_back cs fit) at h;
    }

module _ {first : Account} {calls delivered received before answers : List ℕ} {a : Account} {answered : ℕ} {ws ds rs : List ℕ}
    (g : Running first calls delivered received before answers a answered ws ds rs) where
  -- Where no call is left, all is answered: at the end of the list, and at a record that is no call.
  over : (r : Ran) → calls_in ws ds rs ≡ [] → r ≡ ran_to a answered (length before) → DemandThree first calls delivered received before answers r
  over r e k =
      whole first calls delivered received before answers r
      (finish first (calls_in calls delivered received) before a _ answers answered r (rw e at g.progress) (omega (arith, rw e at g.count)) k)

  pub ended : {r : Ran} → length ws < record_length → r ≡ ran_to a answered (length before) → DemandThree first calls delivered received before answers r
  ended {r} h = over r (calls_none ws ds rs h)

  pub stopped : {r : Ran} → record_length ≤ length ws → is_call (take record_length ws) ≡ false → r ≡ ran_to a answered (length before)
      → DemandThree first calls delivered received before answers r
  stopped {r} h e = over r (calls_stop ws ds rs h e)

  -- A record that is a call is answered and written, and the next one follows it.
  pub advance : (w : List ℕ) (c : Said) {m n : ℕ} {more taken given ds_left rs_left : List ℕ} {s : Answered} {xs after : List ℕ}
      → record_length ≤ length ws → w ≡ take record_length ws → more ≡ drop record_length ws → call_read w ≡ Some c
      → m ≡ delivered_said c → taken ≡ take m ds → ds_left ≡ drop m ds → n ≡ received_said c → given ≡ take n rs → rs_left ≡ drop n rs
      → s ≡ step_of a (with_readings c taken given) → xs ≡ row_of s.answer → after ≡ sets answers (answered * row_length) xs
      → length after ≡ length answers
      → Running first calls delivered received before after s.account (answered + 1) more ds_left rs_left
  advance w c {m} {n} {more} {taken} {given} {ds_left} {rs_left} {s} {xs} {after} h i e k dm dt dl rn rt rl j o q l =
      let known : is_call (take record_length ws) ≡ true = rw (← i) (is_read w c k) in
      let many : m ≡ count_at (take record_length ws) delivered_place = dm ∙ (rw (← i) (delivered_count w c k)) in
      let much : n ≡ count_at (take record_length ws) received_place = rn ∙ (rw (← i) (received_count w c k)) in
      let one : with_readings c taken given
      ≡ call_of
      (take record_length ws)
      (take (count_at (take record_length ws) delivered_place) ds)
      (take (count_at (take record_length ws) received_place) rs) =
      rw (call_is w c k taken given, i, dt, many, rt, much) in
      let left = calls_next ws ds rs h known in
      let place : (answered + 1) * row_length ≡ answered * row_length + row_length = omega arith in
      rw (e, dl, many, rl, much)
      (record {
        records = omega (arith, g.records, length-drop record_length ws);
        same = l ∙ g.same;
        count = omega (arith, rw left at g.count);
        progress =
            rw place
            (next first (calls_in calls delivered received) before _ _ a (answered * row_length) answers after s xs
            (rw left at g.progress)
            (rw one at j)
            o
            q);
      })
