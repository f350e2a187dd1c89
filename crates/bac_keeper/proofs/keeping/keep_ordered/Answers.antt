use Rattle.std.proofs.Common.{inr, sym}
use Rattle.bac_keeper.proofs.keeping.keep_ordered.Goals as goal

pub returns-in-Ok-clause-runs : goal.returns-in-Ok-clause-runs
returns-in-Ok-clause-runs g c =
    inr (c.in-Ok.place, rw (sym c.as_str-name.ensures) c.in-Ok.ensures.placed, c.place_of.new.files, c.in-Ok.ensures.untouched, c.keep_placed.ensures.runs)
