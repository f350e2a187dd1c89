use Rattle.std.proofs.Common.{refl, rules, map, subst, sym}
use Rattle.bac_archive.specs.Known.{AreRowsOf}
use Rattle.bac_archive.specs.Put.{beginning_columns, device_columns, log_columns}
use Rattle.bac_archive.specs.declared.asking.Question.TheVariants.{Beginnings, Devices, Logs}
use Rattle.bac_archive.proofs.KnownLemmas.{rising_rows, turned_rows}
use Rattle.bac_archive.proofs.ReadLemmas.{unread_in}
use Rattle.bac_archive.proofs.RowsLemmas.{because}
use Rattle.bac_archive.proofs.known.known_of.Goals as goal

pub returns-clause-known : goal.returns-clause-known
returns-clause-known c trees are =
    let logs = turned_rows 10 9 log_columns (trees 3) c.args.logs.now c.in_ok-logs.logs.items (λ r. refl) are.1.each c.in_ok-logs.ensures.read are.1.order in
    let beginnings = turned_rows 3 2 beginning_columns (trees 6) c.args.beginnings.now c.in_ok-beginnings.beginnings.items (λ r. refl) are.2.each c.in_ok-beginnings.ensures.read are.2.order in
    record {
      devices = rising_rows 11 10 device_columns (trees 1) c.args.devices.now c.in_ok-devices.devices.items (λ r. refl) are.0.each c.in_ok-devices.ensures.read are.0.order;
      logs = subst (λ l. AreRowsOf 9 (trees 3) (map log_columns l)) (sym c.reverse.ensures.items) logs;
      beginnings = subst (λ l. AreRowsOf 2 (trees 6) (map beginning_columns l)) (sym c.reverse-2.ensures.items) beginnings;
    }

pub returns-in_err-devices-clause-cause : goal.returns-in_err-devices-clause-cause
returns-in_err-devices-clause-cause c trees are =
    because c.from_residual.result c.in_err-devices.field-0.0 _ (search rules) (Devices, tt, unread_in Devices trees c.args.devices.now c.in_err-devices.field-0.0 are.0 c.in_err-devices.ensures.cause)

pub returns-in_err-logs-clause-cause : goal.returns-in_err-logs-clause-cause
returns-in_err-logs-clause-cause c trees are =
    because c.from_residual-in_err-logs.result c.in_err-logs.field-0.0 _ (search rules) (Logs, tt, unread_in Logs trees c.args.logs.now c.in_err-logs.field-0.0 are.1 c.in_err-logs.ensures.cause)

pub returns-in_err-beginnings-clause-cause : goal.returns-in_err-beginnings-clause-cause
returns-in_err-beginnings-clause-cause c trees are =
    because c.from_residual-in_err-beginnings.result c.in_err-beginnings.field-0.0 _ (search rules) (Beginnings, tt, unread_in Beginnings trees c.args.beginnings.now c.in_err-beginnings.field-0.0 are.2 c.in_err-beginnings.ensures.cause)
