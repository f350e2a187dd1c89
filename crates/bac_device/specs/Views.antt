-- What the code has heard, apart from where it lies in memory. Only private calls cite this.
use Rattle.bac_apdu.specs.Apdu.{apdu_of}
use Rattle.bac_apdu.specs.Npdu.{maybe_place_of}
use Rattle.bac_device.specs.Receiving.{ReceivedApdu}
use Rattle.bac_device.specs.declared.receiving.Heard.{Heard as Code}

-- an APDU that was heard, with the place that it is from
abbrev pub heard_of : Code → ReceivedApdu
heard_of heard = record { to_all = heard.to_all; source = maybe_place_of heard.source; apdu = apdu_of heard.apdu }
