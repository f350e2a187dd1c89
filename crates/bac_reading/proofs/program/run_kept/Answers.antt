use Rattle.std.proofs.Common.{inl, inr, map, subst}
use Rattle.std.specs.String.{string_bytes}
use Rattle.bac_files.specs.Parts.{part_rules}
use Rattle.bac_reading.specs.Kept.{PrintsArchive}
use Rattle.bac_reading.specs.Scene.{scene}
use Rattle.bac_reading.proofs.program.run_kept.Goals as goal

pub returns-else-asked : goal.returns-else-asked
returns-else-asked g c =
    let it = c.in-Ok.ensures in
    let paths = map string_bytes c.in-Ok.archive.paths.items in (
      it.0,
      c.archive_of.new.parts,
      it.1,
      inr (
        paths,
        it.2.0,
        inl (
          c.if-asked.false,
          subst (λ f. PrintsArchive (part_rules g.P.Parts.lists g.P.Parts.holds g.P.Parts.bars) c.args.asked.now f paths (scene c.archive_of.new.parts (g.O.Write.contents c.args.output.now) (g.E.Write.contents c.args.errors.now)) c.print_archive.result
              (scene c.print_archive.new.parts (g.O.Write.contents c.print_archive.new.output) (g.E.Write.contents c.print_archive.new.errors))) it.2.1 c.print_archive.ensures,
        ),
      ),
    )
