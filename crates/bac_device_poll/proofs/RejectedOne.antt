-- A rejection ends the poll of a device.
use Rattle.std.proofs.Common.{refl}
use Rattle.bac_device_poll.specs.Laws.{RejectsEndOne}
use Rattle.bac_device_poll.proofs.Foreign.{told_all}

pub rejects_end_one : RejectsEndOne
rejects_end_one p reject = record {
  told = refl;
  unput = (refl, told_all p.logs);
  ended = refl;
  unasked = refl;
  logs = refl;
}
