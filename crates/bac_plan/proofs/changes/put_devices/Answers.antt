use Rattle.std.proofs.Common.{map}
use Rattle.bac_archive.specs.declared.row.DeviceRow.{DeviceRow}
use Rattle.bac_device_poller.specs.Puts.{put_as}
use Rattle.bac_device_poller.specs.Rows.{device_as}
use Rattle.bac_plan.specs.Changes.{device_change}
use Rattle.bac_plan.proofs.Shares.{flat_taken}
use Rattle.bac_plan.proofs.changes.put_devices.Goals as goal

pub loop-device-preserved : goal.loop-device-preserved
loop-device-preserved c =
    flat_taken (λ (d : DeviceRow). device_change c.args.named.now (device_as d)) (map put_as c.args.puts.now.items) (map put_as c.loop-device.puts.items)
    (map put_as c.put_device.new.puts.items) c.args.devices.now c.loop-device.device-index c.device-item.result c.loop-device-test.true c.device-item.is
    c.in_ok-put_device.ensures c.loop-device.invariant
