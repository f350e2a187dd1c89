use Rattle.bac_poll_laws.specs.Laws.{Whichever}
use Rattle.bac_site_laws.specs.Rows.{IsNumbered}
use Rattle.bac_site_laws.proofs.RowsOn.{any_steps, numbered, rows_on}
use Rattle.bac_site_laws.proofs.laws.rows_go_on.Goals as goal

pub returns : goal.returns
returns c = λ log epoch next full p steps there stands are.
    rows_on IsNumbered Whichever numbered c.each_shown_once.ensures tt log epoch next full p steps there stands (any_steps p steps are)
