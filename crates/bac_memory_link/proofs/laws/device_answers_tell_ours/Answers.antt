use Rattle.bac_memory_link.proofs.Asks.{asked}
use Rattle.bac_memory_link.proofs.laws.device_answers_tell_ours.Goals as goal

pub returns : goal.returns
returns c = λ old new octets answer id r M H extent path invoke ahead asks is.
    asked old.device.now new.device.now old.events.now new.events.now id r M H extent path invoke octets answer is.3 ahead asks is.0 is.1 is.2
