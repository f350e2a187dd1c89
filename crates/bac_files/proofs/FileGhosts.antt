-- What is known of a file of the machine that held what a `Start` says, and gets no longer than it may.
use denote.RattleType.{RattleType}
use mir.Syntax.{Dict}
use Rattle.sqlite_disk.specs.contracts.modelled.Modelled.{the_row as modelled_row}
use Rattle.sqlite_disk.specs.contracts.modelled.ModelledDisk.TheImpl as modelled
use Rattle.sqlite_disk.specs.declared.Disk as disk
use Rattle.sqlite_disk.specs.declared.start.Start as start
use Rattle.sqlite_std_file.specs.contracts.host.Host.{the_row}
use Rattle.sqlite_std_file.specs.contracts.host.HostCalls.TheImpl as host
use Rattle.bac_files.specs.Files.{FileOf}
use Rattle.bac_files.specs.contracts.limited.LimitedDisk.TheImpl as limited

abbrev pub file_ghosts : (row : RattleType) → (s : start.Ghosts row.Denot) → Dict → Dict → disk.Ghosts (FileOf s)
file_ghosts row s starts drops =
    limited.ghosts (modelled_row the_row row host.ghosts s)
    (modelled.ghosts the_row row host.ghosts host.dict s starts drops) host.dict
