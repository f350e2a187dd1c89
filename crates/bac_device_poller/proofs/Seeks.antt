-- The question of a log is no Who-Is.
use Rattle.std.proofs.Common.{◌≡◌, refl, false, Option, None, Some}
use Rattle.bac_device_poll.specs.Poll.{asks_log}
use Rattle.bac_device_poll.specs.declared.task.Polled.{Polled}
use Rattle.bac_device_poller.specs.Poller.{is_who_is}

pub log_is_asked : (polled : Option Polled) → is_who_is (asks_log polled) ≡ false
log_is_asked None = refl
log_is_asked (Some polled) = refl
