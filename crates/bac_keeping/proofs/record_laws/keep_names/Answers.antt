use Rattle.bac_keeping.proofs.Records.{keep_names}
use Rattle.bac_keeping.proofs.record_laws.keep_names.Goals as goal

pub returns : goal.returns
returns c = keep_names c.named_are_told.ensures c.named_are_polled.ensures c.named_logs_are_asked.ensures c.fresh_logs_are_asked.ensures c.told_have_own_ids.ensures.told
