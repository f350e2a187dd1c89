use Rattle.bac_check.specs.Lines.{place_if}
use Rattle.bac_check.proofs.EachLemmas.{text_more}
use Rattle.bac_check.proofs.lines.push_place_of.Goals as goal

pub loop-device-preserved : goal.loop-device-preserved
loop-device-preserved c =
    text_more (place_if c.args.id) c.args.devices.now c.loop-device.device-index c.device-item.result c.args.text.now.items c.loop-device.text.items c.push_place_if.new.text.items
    c.loop-device-test.true c.device-item.is c.loop-device.invariant c.in_ok-push_place_if.ensures
