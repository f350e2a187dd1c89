use Rattle.std.proofs.Common.{arith}
use Rattle.bac_files.proofs.FolderLemmas.{follows}
use Rattle.bac_files.proofs.folder.last_path.Goals as goal

pub returns : goal.returns
returns c = follows c.args.folder.now c.args.parts c.in_ok-part_path.field-0 (omega (arith, c.if-parts-eq0.false)) c.in_ok-part_path.ensures
