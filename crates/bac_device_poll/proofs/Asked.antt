-- A turn with which the next question is asked.
use Rattle.std.proofs.Common.{◌≡◌, ◌∙◌, List, [], ap}
use Rattle.bac_device_poll.specs.State.{DeviceState}
use Rattle.bac_device_poll.specs.Turns.{Turned, asks}
use Rattle.bac_answers.specs.declared.entry.Entry.{Entry}

-- without entries
pub asked : (p : DeviceState) (es : List Entry) (t : Turned) → t ≡ asks p es → es ≡ [] → t ≡ asks p []
asked p es t is none = is ∙ ap (asks p) none
