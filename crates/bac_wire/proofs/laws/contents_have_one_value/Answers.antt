use Rattle.bac_wire.proofs.Contents.{contents_take, contents_again}
use Rattle.bac_wire.proofs.laws.contents_have_one_value.Goals as goal

pub returns-clause-found : goal.returns-clause-found
returns-clause-found c = λ tag contents value le e. let t = contents_take tag contents value le e in (t.tagged, t.stands)

pub returns-clause-only : goal.returns-clause-only
returns-clause-only c = contents_again
