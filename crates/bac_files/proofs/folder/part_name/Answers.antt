use Rattle.std.specs.String.{string_bytes}
use Rattle.bac_files.proofs.FolderLemmas.{names_part}
use Rattle.bac_files.proofs.folder.part_name.Goals as goal

pub returns-in-Ok : goal.returns-in-Ok
returns-in-Ok c =
    names_part c.args.number c.laid_out.result (string_bytes c.new-name.result) (string_bytes c.write.new.self)
    c.in-Ok.ensures.bytes c.laid_out.ensures c.new-name.ensures.bytes
