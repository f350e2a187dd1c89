use Rattle.bac_keeping.proofs.Records.{polls_all}
use Rattle.bac_keeping.proofs.record_laws.keep_polls_all.Goals as goal

pub returns : goal.returns
returns c = polls_all c.each_is_polled_once.ensures c.told_have_own_ids.ensures.rise c.told_have_own_ids.ensures.told
