use Rattle.bac_device_poller.proofs.PutLemmas.{no_more, one_more}
use Rattle.bac_device_poller.proofs.putting.Putting.push_records.Goals as goal

pub loop-held-preserved : goal.loop-held-preserved
loop-held-preserved c =
    one_more c.loop-held.self c.push_record.new.self _ c.args.records.now c.loop-held.held-index _ c.loop-held-test.true c.in_ok-push_record.ensures c.loop-held.invariant

pub returns : goal.returns
returns c = no_more c.loop-held.self _ c.args.records.now c.loop-held.held-index c.loop-held-test.false c.loop-held.invariant
