-- What is still to be added of the text.
use mathlib.Core.Path.{◌≡◌, refl, sym, ◌∙◌, ap}
use mathlib.Core.Bool.{true}
use mathlib.Core.List.{List, ◌++◌, append_assoc}
use Prim.Native.Nat.{ℕ, ◌≤◌}
use native.Mathlib.Omega.{arith}
use lib.ListN.{length, take, drop, take-append-drop}
use lib.Seq.{sets, length-sets}
use Rattle.std.proofs.lemmas.List.{nil_from_length}
use Rattle.lines.specs.Statement.{last_number, has_stopped, statement_of}
use Rattle.lines.specs.Feeding.{SoFar, nothing_read, after, printed, ending}
use Rattle.lines.proofs.Streams.{streams, cut_text, cut_state}
use Rattle.whole.specs.Adding.{Adds, FeedsSome}
use Rattle.whole.specs.Whole.{length_of}
use Rattle.whole.proofs.Adding.{then}

-- What is printed from here on.
abbrev left : SoFar → List ℕ → List ℕ
left x bytes = printed x bytes ++ ending (after x bytes)

left_cut : (x : SoFar) (bytes more : List ℕ) → left x (bytes ++ more) ≡ printed x bytes ++ left (after x bytes) more
left_cut x bytes more = rw (cut_text x bytes more, cut_state x bytes more, append_assoc)

-- Where what is left of the bytes is added, the whole statement is.
pub record Going (input text rest : List ℕ) (current : SoFar) (text_current : List ℕ) (place : ℕ) : Type 0 where
  pub whole : (text_later : List ℕ) (j : ℕ) → Adds text_current place (left current rest) text_later j
      → Adds text 0 (statement_of input) text_later j

pub going_start : (input text : List ℕ) (x : SoFar) → x ≡ nothing_read → Going input text input x text 0
going_start input text x e =
    let all : left x input ≡ statement_of input = ap (λ (y : SoFar). left y input) e ∙ streams.whole input in
    record { whole = λ text_later j a. rw all at a }

-- A text keeps its length.
pub same_long : {input text rest text_current : List ℕ} {place : ℕ} {current : SoFar} → Going input text rest current text_current place
    → length text_current ≡ length text
same_long {input} {text} {rest} {text_current} {place} {current} g =
    let e = (g.whole (sets text_current place (left current rest)) _ (record { bytes = refl; end = refl })).bytes in
    sym (length-sets text_current place (left current rest)) ∙ ap length e ∙ length-sets text 0 (statement_of input)

-- Some bytes more are taken, and what they print is added.
pub going_more : {input text rest text_current text_later : List ℕ} {place t j : ℕ} {current later : SoFar} → length text ≤ last_number
    → Going input text rest current text_current place → FeedsSome current rest text_current place t later text_later j
    → Going input text (drop t rest) later text_later j
going_more {rest = rest} {t = t} {current = current} {later = later} h g made =
    let both : left current rest ≡ printed current (take t rest) ++ left later (drop t rest)
    = ap (λ (l : List ℕ). left current l) (sym (take-append-drop t rest)) ∙ left_cut current (take t rest) (drop t rest) ∙ rw made.stands in
    record { whole = λ end k a. g.whole end k (rw both (then (omega (arith, same_long g)) made.adds a)) }

module _ {input text rest text_current : List ℕ} {place : ℕ} {current : SoFar} (g : Going input text rest current text_current place) where
  -- After a fault nothing is left.
  pub going_stopped : has_stopped current.state ≡ true → place ≤ last_number → Adds text 0 (statement_of input) text_current place
  going_stopped h small =
      g.whole text_current place (rw (streams.quiet current rest h) (record { bytes = refl; end = omega arith }))

  -- At the end of the input its ending is.
  pub going_all : {text_later : List ℕ} {j : ℕ} → length rest ≡ 0 → Adds text_current place (ending current) text_later j
      → Adds text 0 (statement_of input) text_later j
  unfolding printed after
  going_all h a = g.whole _ _ (rw (nil_from_length rest h) a)

-- All was added from the front: the place after it is its length.
pub whole_long : {text part text_later : List ℕ} {j : ℕ} → Adds text 0 part text_later j → j ≡ length_of part
unfolding length_of
whole_long a = let e = a.end in omega arith
