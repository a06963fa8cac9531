-- How records are read one after the other: a record that is a call takes its readings from the front of what is left of the registers.
use Rattle.std.proofs.Common.{◌≡◌, sym, ℕ, suc, ◌+◌, ◌*◌, ◌≤◌, ◌<◌, ◌/◌, true, false, List, [], ◌∷◌, length, take, drop, slice_index_or, arith, length-drop}
use Rattle.std.proofs.lemmas.List.{drop-drop}
use Rattle.std.specs.Simd.{first_chunks}
use Rattle.records.specs.Records.{record_length, delivered_place, received_place, count_at, is_call}
use Rattle.hours.proofs.Chunks.{chunk_at}
use Rattle.ledger.specs.Encoding.{call_of, decode, calls_in}

module _ (ws delivered received : List ℕ) where
  pub calls_none : length ws < record_length → calls_in ws delivered received ≡ []
  unfolding calls_in decode
  calls_none h = let e : length ws / record_length ≡ 0 = omega arith in rw e

  pub calls_stop : record_length ≤ length ws → is_call (take record_length ws) ≡ false → calls_in ws delivered received ≡ []
  unfolding calls_in decode
  calls_stop h e =
      let n : length ws / record_length ≡ suc (length (drop record_length ws) / record_length) = omega (arith, length-drop record_length ws) in
      rw (n, e)

  pub calls_next : record_length ≤ length ws → is_call (take record_length ws) ≡ true
      → calls_in ws delivered received
      ≡ call_of
      (take record_length ws)
      (take (count_at (take record_length ws) delivered_place) delivered)
      (take (count_at (take record_length ws) received_place) received)
      ∷ calls_in
      (drop record_length ws)
      (drop (count_at (take record_length ws) delivered_place) delivered)
      (drop (count_at (take record_length ws) received_place) received)
  unfolding calls_in decode
  calls_next h e =
      let n : length ws / record_length ≡ suc (length (drop record_length ws) / record_length) = omega (arith, length-drop record_length ws) in
      rw (n, e)

-- The records that are lent, each as a chunk: which numbers it has, and what is left before and after it.
module _ (ws : List ℕ) where
  pub left_after : (n : ℕ) → drop (record_length * (n + 1)) ws ≡ drop record_length (drop (record_length * n) ws)
  left_after n =
      let e : record_length * (n + 1) ≡ record_length * n + record_length = omega arith in
      rw e (sym (drop-drop record_length (record_length * n) ws))

  pub left_long : (n : ℕ) → n < length ws / record_length → record_length ≤ length (drop (record_length * n) ws)
  left_long n h = omega (arith, length-drop (record_length * n) ws)

  pub left_short : (n : ℕ) → length ws / record_length ≤ n → length (drop (record_length * n) ws) < record_length
  left_short n h = omega (arith, length-drop (record_length * n) ws)

pub record_at : (n : ℕ) (ws : List ℕ) (chunks : List (List ℕ)) → n < length ws / record_length
    → chunks ≡ first_chunks record_length (length ws / record_length) ws
    → slice_index_or chunks n [] ≡ take record_length (drop (record_length * n) ws)
record_at n ws chunks h e = rw e (chunk_at record_length (length ws / record_length) n ws h)
