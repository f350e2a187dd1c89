use Rattle.std.proofs.Common.{Err, ap, inr, refl}
use Rattle.bac_tools.proofs.finding.search_for.Goals as goal

pub returns-in-Err-found : goal.returns-in-Err-found
returns-in-Err-found g c =
    let finds = rw c.as_slice-asked.ensures at c.find_devices-found.ensures in
    let told = rw (c.unanswered.ensures, c.as_slice-asked.ensures) at c.of_find.ensures in
    inr (
      c.in-Ok.port,
      _,
      c.find_devices-found.new.port,
      rw (c.unwrap_or.ensures, c.in-Ok.is) at c.open.ensures,
      (c.find_devices-found.result, finds, rw c.in-Err-found.is (ap Err told)),
      c.close.ensures,
    )

pub returns-in-Ok-found : goal.returns-in-Ok-found
returns-in-Ok-found g c =
    let finds = rw c.as_slice-asked.ensures at c.find_devices-found.ensures in
    inr (
      c.in-Ok.port,
      _,
      c.find_devices-found.new.port,
      rw (c.unwrap_or.ensures, c.in-Ok.is) at c.open.ensures,
      (c.find_devices-found.result, finds, rw c.in-Ok-found.is refl),
      c.close.ensures,
    )
