-- The moments of a day, computed.
use Rattle.std.proofs.Common.{◌≡◌, refl, ℕ, List}
use Rattle.bac_wire.specs.Level.{token_at, close_at}
use Rattle.bac_wire.specs.Primitive.{Id}
use Rattle.bac_wire.specs.Reading as reading
use Rattle.bac_apdu.specs.Apdu.{apdu_at, apdu_behind, confirmed_at, segment_at}
use Rattle.bac_apdu.specs.FormReading.{form_at, row_at, optional_at}
use Rattle.bac_apdu.specs.Frame.{frame_at, body_at}
use Rattle.bac_apdu.specs.Npdu.{header_at, maybe_place_at, place_at, hops_at}
use Rattle.bac_apdu.specs.Octets.{word_at, octets_at}
use Rattle.bac_apdu.specs.Service.WriteProperty.{write_property_at}
use Rattle.bac_objects.specs.declared.lines.DeviceLine.{DeviceLine}
use Rattle.bac_device.specs.Answer.{answer}
use Rattle.bac_device.specs.Receiving.{heard_at}
use Rattle.bac_memory_link.specs.Ahead.{moments_ahead}
use Rattle.bac_client_tests.specs.Day.{day, day_moments, plant}

pub day_is : (device : DeviceLine) (name : List ℕ) (source : Id) → moments_ahead (plant device name source) 1 day ≡ day_moments
unfolding answer heard_at write_property_at frame_at body_at header_at maybe_place_at place_at hops_at word_at octets_at apdu_at apdu_behind confirmed_at segment_at form_at row_at optional_at token_at close_at reading.number_at reading.length_at reading.value_in reading.tagged_at reading.value_at reading.context_at reading.mark_at reading.contents_as
day_is device name source = refl
