use Rattle.sqlite_wal.specs.Files.{image_at}
use Rattle.bac_files.proofs.FileGhosts.{file_ghosts}
use Rattle.bac_site_poller.specs.SiteLaws.{site_acts}
use Rattle.bac_historian.proofs.Remains.{loses_nothing}
use Rattle.bac_historian.proofs.laws.kill_loses_nothing.Goals as goal

pub returns : goal.returns
returns g c = λ run before parts by found left.
    loses_nothing (site_acts g.P.Port.sends g.P.Port.receives_within g.C.Clock.reads) run by c.puts_keep_ids.ensures c.puts_are_one.ensures.lose_nothing c.puts_are_one.ensures.join c.runs_put.ensures.put
    (file_ghosts g.row.G g.G.Start g.G.Start-dict g.G.Destruct-dict) (image_at g.G.Start) before parts found left
