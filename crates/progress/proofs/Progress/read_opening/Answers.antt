-- `progress::Progress::read_opening` is at fault at an unreadable line, and opens the account after the fourteenth.
use mathlib.Core.Path.{◌≡◌, refl, ◌∙◌, ap, sym}
use mathlib.Core.List.{List, []}
use Prim.Native.Nat.{ℕ, ◌<◌}
use native.Mathlib.Omega.{arith}
use lib.ListN.{length}
use Rattle.lines.specs.Statement.{outcome, opened, opening_read}
use Rattle.lines.proofs.Laws.{opening_no, opening_more, opening_last}
use Rattle.progress.specs.Expected.{line_place, number_of}
use Rattle.progress.specs.Progressing.{state_of}
use Rattle.progress.proofs.Expecting.{line_below, not_bill}
use Rattle.progress.proofs.Kept.{rider_small, class_small, assisted_small, place_kept}
use Rattle.progress.proofs.Lines.{faulty, steps}
use Rattle.progress.proofs.Progress.read_opening.Goals as goal

pub returns-in_err-numbers : goal.returns-in_err-numbers
returns-in_err-numbers c =
    let s = state_of c.args.self.now in
    let read = rw c.place.ensures at c.in_err-numbers.ensures.value in
    rw c.from_residual.ensures (faulty c.args.self.now _ (ap (λ (v : List ℕ). opening_read v s) (sym read) ∙ opening_no s))

pub keep-requires : goal.keep-requires
keep-requires c =
    let l = c.args.line.now in
    let read = c.as_slice.ensures.value ∙ (rw c.place.ensures at c.in_ok-numbers.ensures.value) in record {
      rider = λ h. rider_small l _ (line_place c.args.opening) read (ap line_place h);
      class = λ h. class_small l _ (line_place c.args.opening) read (ap line_place h);
      assisted = λ h. assisted_small l _ (line_place c.args.opening) read (ap line_place h);
    }

pub returns-in-Bill : goal.returns-in-Bill
returns-in-Bill c =
    let s = state_of c.args.self.now in
    let l = c.args.line.now in
    let k = line_place c.args.opening in
    let inside = line_below c.args.opening in
    let same : s.expected ≡ k = ap number_of c.requires in
    let last : number_of c.next-self.result ≡ 14 = ap number_of c.in-Bill.is in
    let next = c.next-self.ensures in
    let v = c.as_slice.result.now in
    let read = c.as_slice.ensures.value ∙ (rw c.place.ensures at c.in_ok-numbers.ensures.value) in
    let some : 0 < length v = omega (arith, c.in_ok-numbers.ensures.some, ap length c.as_slice.ensures.value) in
    let kept = place_kept s k _ l v _ same next inside read (λ h. omega arith) c.keep.ensures in
    steps c.args.self.now _ _ _
    (ap (λ (v : List ℕ). opening_read v s) (sym read) ∙ opening_last v some s (omega arith) ∙ ap opened (sym kept) ∙ sym c.open.ensures.outcome)
    c.open.ensures.registers

pub returns : goal.returns
returns c =
    let s = state_of c.args.self.now in
    let l = c.args.line.now in
    let k = line_place c.args.opening in
    let inside = line_below c.args.opening in
    let same : s.expected ≡ k = ap number_of c.requires in
    let next = c.next-self.ensures in
    let more = not_bill c.next-self.result c.in_default.not-Bill (omega arith) in
    let v = c.as_slice.result.now in
    let read = c.as_slice.ensures.value ∙ (rw c.place.ensures at c.in_ok-numbers.ensures.value) in
    let some : 0 < length v = omega (arith, c.in_ok-numbers.ensures.some, ap length c.as_slice.ensures.value) in
    let kept = place_kept s k _ l v _ same next inside read (λ h. omega arith) c.keep.ensures in
    steps _ _ _ _
    (ap (λ (v : List ℕ). opening_read v s) (sym read) ∙ opening_more v some s (omega arith) ∙ ap (outcome []) (sym kept)) refl
