use Rattle.std.proofs.Common.{arith, map}
use Rattle.bac_objects.specs.Properties.{slot_value}
use Rattle.bac_objects.proofs.Encodings.{done, at_end, slot_more, slot_long}
use Rattle.bac_objects.proofs.reading.all_slots.Goals as goal

pub returns-in-Err : goal.returns-in-Err
returns-in-Err c =
    let w = c.in-Err.ensures {u = tt} in
    slot_long slot_value c.args.slots.now c.loop-slot.slot-index _ _ c.loop-slot.out c.in-Err.fault (omega (arith, c.loop-slot-test.true)) c.loop-slot.invariant.whole c.slot_value.ensures.value w.0 w.1

pub loop-slot-preserved : goal.loop-slot-preserved
loop-slot-preserved c =
    let w = c.in_default.ensures {u = tt} in
    record { whole = slot_more slot_value c.args.slots.now c.loop-slot.slot-index _ _ c.loop-slot.out c.add.new.out _ (omega (arith, c.loop-slot-test.true)) c.loop-slot.invariant.whole c.slot_value.ensures.value w.0; fits = w.1 }

pub returns : goal.returns
returns c = done (map slot_value c.args.slots.now) c.loop-slot.out (at_end slot_value c.args.slots.now c.loop-slot.slot-index c.loop-slot.out _ (omega (arith, c.loop-slot-test.false)) c.loop-slot.invariant.whole) c.loop-slot.invariant.fits
