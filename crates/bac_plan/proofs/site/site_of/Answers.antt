use Rattle.std.proofs.Common.{◌≡◌, List, rules, subst, ◌∙◌, length}
use Rattle.std.specs.List.{AllZip, Contains, filter}
use Rattle.std.proofs.IntoIterSteps.{All-taken}
use Rattle.std.proofs.lemmas.Iterator.Adapters.{YieldsList-from_vec}
use Rattle.std.proofs.lemmas.Iterator.Consumers.{YieldsList-turn}
use Rattle.bac_archive.specs.declared.row.DeviceRow.{DeviceRow}
use Rattle.bac_plan.specs.Devices.{is_polled}
use Rattle.bac_plan.specs.Site.{IsSeatOf, IsSiteFault}
use Rattle.bac_plan.proofs.SiteLemmas.{all_seated, is_there, one_seated, site_fault}
use Rattle.bac_plan.proofs.site.site_of.Goals as goal

pub loop-device-preserved : goal.loop-device-preserved
loop-device-preserved c =
    one_seated c.args.options.now c.in_ok-rows.rows.items c.as_slice-in-loop-device.result.now c.in_ok-groups.groups.items c.as_slice.result.now c.args.told.next_log
    c.loop-device.yielded c.in-Some.device c.loop-device.site c.add.new.site c.as_slice-in-loop-device.ensures.value c.as_slice.ensures.value c.in_ok-add.ensures.few
    c.loop-device.invariant c.in_ok-add.ensures.ok

pub returns-in_err-add-clause-err : goal.returns-in_err-add-clause-err
returns-in_err-add-clause-err c =
    let gives = YieldsList-from_vec {s = c.into_iter-device-iterator.result} c.in_ok-device-items.device-items.items c.into_iter-device-iterator.ensures.into_iter_gives.0
    (c.into_iter-device-iterator.ensures.into_iter_gives.1 ∙ c.in_ok-device-items.device-items.ok.0) in
    let at = YieldsList-turn gives c.loop-device.yielded c.loop-device.device-iterator c.loop-device.yielded_by c.next.result c.next.new.self c.in-Some.device c.in-Some.is c.next.ensures.steps in
    let there : Contains c.args.told.devices.items c.in-Some.device =
    is_there c.args.told.devices.items c.in_ok-device-items.device-items.items (length c.loop-device.yielded) c.in-Some.device c.in_ok-device-items.ensures.0 at in
    let fault : IsSiteFault c.args.told c.in_err-add.field-0.0 =
    site_fault c.args.told c.as_slice.result.now c.in_ok-groups.groups.items c.in_ok-by_instance.field-0.items c.in-Some.device c.in_err-add.field-0.0
    c.as_slice.ensures.value c.in_ok-groups.ensures c.in_ok-by_instance.ensures.0 c.in_err-add.ensures.few there c.in_err-add.ensures.err in
    search rules

pub returns-clause-ok : goal.returns-clause-ok
returns-clause-ok c =
    let all : c.loop-device.yielded ≡ c.in_ok-device-items.device-items.items =
    All-taken c.into_iter-device-iterator.result c.loop-device.yielded (c.next.new.self, (c.loop-device.device-iterator, c.loop-device.yielded_by, c.in-None.ensures.steps))
    ∙ c.into_iter-device-iterator.ensures.into_iter_gives.0 in
    record {
      devices = c.in_ok-device-items.device-items.items;
      logs = c.in_ok-by_instance.field-0.items;
      told = c.in_ok-rows.rows.items;
      seats = c.loop-device.invariant.0;
      each_device = c.in_ok-device-items.ensures.0;
      devices_rise = c.in_ok-device-items.ensures.1;
      each_log = c.in_ok-by_instance.ensures.0;
      logs_rise = c.in_ok-by_instance.ensures.1;
      told_is = c.in_ok-rows.ensures;
      seats_are = subst (λ (ds : List DeviceRow). AllZip (IsSeatOf c.args.options.now c.in_ok-rows.rows.items c.in_ok-by_instance.field-0.items) (filter is_polled ds) c.loop-device.invariant.0) all
          (all_seated c.args.options.now c.in_ok-rows.rows.items c.in_ok-groups.groups.items c.in_ok-by_instance.field-0.items (filter is_polled c.loop-device.yielded) c.loop-device.invariant.0
          c.in_ok-groups.ensures c.loop-device.invariant.1);
      is = c.loop-device.invariant.2;
    }
