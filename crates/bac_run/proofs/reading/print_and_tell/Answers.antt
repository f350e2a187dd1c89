use Rattle.std.proofs.Common.{◌≡◌, ℕ, List, ap, inr, option_map, subst}
use Rattle.bac_keep_command_line.specs.Printing.{device_as}
use Rattle.bac_run.specs.Reading.{AskedAs}
use Rattle.bac_run.proofs.reading.print_and_tell.Goals as goal

pub returns-in-Ok : goal.returns-in-Ok
returns-in-Ok g c =
    let (listing, listed, lists, runs) = c.run_kept-done.ensures in
    let asked = c.asked_of-asked in
    let file : asked.result.file.now ≡ c.args.kept.now.file = ap (λ (a : AskedAs). a.file) asked.ensures in
    let before = c.wait_for.ensures asked.result.file.now listing listed lists in
    inr (
      option_map device_as c.in-Ok.device,
      c.in-Ok.ensures,
      asked.result,
      asked.ensures,
      (
        listing,
        listed,
        subst (λ (name : List ℕ). g.Q.Parts.lists c.args.folders.now name listing listed) file before,
        c.run_kept-done.result,
        g.E.Write.contents c.run_kept-done.new.errors,
        runs,
        c.ended.ensures,
      ),
    )
