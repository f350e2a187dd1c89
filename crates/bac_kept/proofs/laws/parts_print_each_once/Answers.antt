use Rattle.bac_kept.proofs.RisingLemmas.{each_once, each_printed}
use Rattle.bac_kept.proofs.laws.parts_print_each_once.Goals as goal

pub returns-clause-once : goal.returns-clause-once
returns-clause-once c = each_once

pub returns-clause-each : goal.returns-clause-each
returns-clause-each c = each_printed
