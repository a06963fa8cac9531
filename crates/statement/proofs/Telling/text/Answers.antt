-- `statement::Telling::text` goes through the lines of a text: `Lines` has the step.
use Rattle.std.proofs.Common.{◌∙◌, sym, rules, arith, eqb}
use Rattle.std.proofs.lemmas.List.Sorted.{answers_always}
use Rattle.statement.specs.Ending.{number_of}
use Rattle.statement.proofs.Lines.{status_line, status_empty}
use Rattle.statement.proofs.Telling.text.Goals as goal

pub loop-line-preserved : goal.loop-line-preserved
loop-line-preserved c = let steps = c.in-Some.ensures.steps in
    let place = steps.1.2 (λ b. eqb b 10) (answers_always _ _ _ (λ f a r f' k. search rules)) in
    rw c.after-self.ensures
    (sym (status_line (number_of c.loop-line.self.verdict) _ _ _ _ steps.0 steps.1.1 steps.2 place.1) ∙ c.loop-line.invariant)

pub returns : goal.returns
returns c = grind (arith, status_empty)
