use Rattle.std.specs.Prelude.{map}
use Rattle.std.specs.String.{string_bytes}
use Rattle.bac_run.specs.Setup.{setup}
use Rattle.bac_run_tests.proofs.Jobs.{mistaken_alone, wrong_alone}
use Rattle.bac_run_tests.proofs.callers.answer_words.Goals as goal

pub returns-clause-mistaken : goal.returns-clause-mistaken
returns-clause-mistaken g c mistaken =
    let old = setup g.I.Read.remaining g.O.Write.contents g.E.Write.contents c.args.machine.now c.args.console.now in
    let new = setup g.I.Read.remaining g.O.Write.contents g.E.Write.contents c.run.new.machine c.run.new.console in
    mistaken_alone (map string_bytes c.args.words.now) old new c.run.result (c.run.ensures.explained mistaken)

pub returns-clause-wrong : goal.returns-clause-wrong
returns-clause-wrong g c word wrong =
    let old = setup g.I.Read.remaining g.O.Write.contents g.E.Write.contents c.args.machine.now c.args.console.now in
    let new = setup g.I.Read.remaining g.O.Write.contents g.E.Write.contents c.run.new.machine c.run.new.console in
    wrong_alone (map string_bytes c.args.words.now) old new c.run.result word (c.run.ensures.bad_value word wrong)
