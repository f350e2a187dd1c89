use Rattle.bac_poll_laws.specs.Laws.{IsAmong, IsOneOf}
use Rattle.bac_site_laws.specs.Rows.{IsNumbered}
use Rattle.bac_site_laws.proofs.RowsOn.{rows_on}
use Rattle.bac_site_laws.proofs.Standing.{each_all}
use Rattle.bac_site_laws.proofs.laws.gaps_are_told.Goals as goal

pub returns : goal.returns
returns c = λ shown fronts numbers one log epoch next full p steps there stands are.
    rows_on (IsAmong shown) (IsOneOf fronts) (each_all IsNumbered shown numbers) c.each_shown_once.ensures one log epoch next full p steps there stands are
