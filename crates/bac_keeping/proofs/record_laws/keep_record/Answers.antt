use Rattle.bac_site_poller.specs.SiteLaws.{site_acts}
use Rattle.bac_keeping.proofs.Losing.{keep_record}
use Rattle.bac_keeping.proofs.record_laws.keep_record.Goals as goal

pub returns : goal.returns
returns g c = keep_record (site_acts g.P.Port.sends g.P.Port.receives_within g.C.Clock.reads) c.puts_keep_ids.ensures c.runs_put.ensures.put
