-- `kozempil::kozempil_day_view` writes the place of the day that `registers::day_view` hands back.
use Rattle.kozempil.proofs.Parts.{shown_numbers}
use Rattle.kozempil.proofs.kozempil_day_view.Goals as goal

pub returns : goal.returns
returns c =
    let at = c.args in
    rw (shown_numbers at.delivered at.received at.month at.day at.number, ← c.part_shown-shown.ensures, ← c.unwrap_or-start.ensures) c.write_at.ensures
