use Rattle.bac_files.specs.Parts.{Listing, part_rules}
use Rattle.bac_reading.specs.Checking.{RunsCheck}
use Rattle.bac_reading.specs.Scene.{Scene, scene}
use Rattle.bac_run.proofs.Ran.{checks_named, lists_before}
use Rattle.bac_run.proofs.reading.check_and_tell.Goals as goal

pub returns : goal.returns
returns g c =
    let rules = part_rules g.Q.Parts.lists g.Q.Parts.holds g.Q.Parts.bars in
    let done = c.run_check-done in
    let output = g.O.Write.contents c.args.output.now in
    let errors = g.E.Write.contents c.args.errors.now in
    let to = scene done.new.parts (g.O.Write.contents done.new.output) (g.E.Write.contents done.new.errors) in
    let did = lists_before rules c.args.folders.now c.wait_for.new.self c.wait_for.ensures c.as_str.result.now
    (λ (listing : Listing) (from : Scene g.row.Q.Denot). RunsCheck rules c.as_str.result.now listing from done.result to) output errors done.ensures in
    checks_named rules c.as_str.result.now c.args.asked.now.file c.as_str.ensures (scene c.args.folders.now output errors)
    (scene done.new.parts (g.O.Write.contents done.new.output) (g.E.Write.contents c.ended.new.errors)) done.result (g.E.Write.contents done.new.errors) c.ended.result did c.ended.ensures
