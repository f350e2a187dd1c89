use Rattle.std.proofs.Common.{map, ap}
use Rattle.bac_device_poller.specs.Puts.{put_as}
use Rattle.bac_plan.proofs.NamingLemmas.{all_rows}
use Rattle.bac_plan.proofs.naming.rows_of.Goals as goal

pub returns : goal.returns
returns c =
    all_rows c.args.told.now c.args.named.now c.as_slice.result.now c.as_slice-2.result.now c.as_slice-3.result.now c.args.devices.items c.args.logs.now
    (map put_as c.new-puts.result.items) (map put_as c.put_devices.new.puts.items) (map put_as c.put_new_devices.new.puts.items) (map put_as c.put_logs.new.puts.items)
    (map put_as c.put_new_logs.new.puts.items) c.as_slice.ensures.value c.as_slice-2.ensures.value c.as_slice-3.ensures.value (ap (map put_as) c.new-puts.ensures.items)
    c.in_ok-put_devices.ensures c.in_ok-put_new_devices.ensures c.in_ok-put_logs.ensures c.in_ok-put_new_logs.ensures
