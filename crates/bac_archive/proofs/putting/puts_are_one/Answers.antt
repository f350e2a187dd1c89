use Rattle.bac_archive.proofs.LawLemmas.{join, keep_version, lose_nothing}
use Rattle.bac_archive.proofs.putting.puts_are_one.Goals as goal

pub returns-clause-join : goal.returns-clause-join
returns-clause-join c = join

pub returns-clause-lose_nothing : goal.returns-clause-lose_nothing
returns-clause-lose_nothing c = lose_nothing

pub returns-clause-keep_version : goal.returns-clause-keep_version
returns-clause-keep_version c = keep_version
