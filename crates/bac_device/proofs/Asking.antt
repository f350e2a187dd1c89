-- What a ReadProperty and an accepted WriteProperty are answered.
use Rattle.std.proofs.Common.{◌≡◌, refl, ℕ, min, false, List, Option, Some, None, Ok}
use Rattle.std.proofs.lemmas.Option.{none-some}
use Rattle.bac_apdu.specs.Apdu.{Confirmed, Simple}
use Rattle.bac_apdu.specs.Frame.{Frame, Unicast, Broadcast, Forwarded, Function, frame_at}
use Rattle.bac_apdu.specs.Npdu.{Place}
use Rattle.bac_apdu.specs.declared.service.read_property.ReadProperty.{ReadProperty}
use Rattle.bac_objects.specs.State.{State}
use Rattle.bac_apdu.specs.Service.ReadProperty.{read_property_at}
use Rattle.bac_apdu.specs.Service.WriteProperty.{PropertyWrite, write_property_at}
use Rattle.bac_objects.specs.Reading.{read_of}
use Rattle.bac_objects.specs.Writing.{write_of}
use Rattle.bac_device.specs.Answer.{ack, answer_frame, answer}
use Rattle.bac_device.specs.Reply.{limited, reply}
use Rattle.bac_device.specs.History.{heard_in}
use Rattle.bac_device.specs.declared.reply.Receiver.{Receiver}
use Rattle.bac_device.specs.declared.reply.Receiver.TheVariants.{Sender, Address}

answered : (d : State) (f : Option Frame) (source : Option Place) (size invoke : ℕ) (parameters : List ℕ) (r : ReadProperty) (values : List ℕ)
    → heard_in f ≡ Some (record { to_all = false; source = source; apdu = Confirmed false size invoke 12 parameters }) → read_property_at parameters ≡ Ok r → read_of d r ≡ Ok values
    → (to : Receiver) × ((answer_frame d f).0 ≡ Some (reply (record { to = to; place = source }) (limited (min size d.reply_size) invoke (ack invoke d r values))))
answered d None source size invoke parameters r values h e v = absurd (none-some _ h)
answered d (Some (Unicast npdu)) source size invoke parameters r values h e v = (Sender, rw (h, e, v) refl)
answered d (Some (Broadcast npdu)) source size invoke parameters r values h e v = (Sender, rw (h, e, v) refl)
answered d (Some (Forwarded address npdu)) source size invoke parameters r values h e v = (Address address, rw (h, e, v) refl)
answered d (Some (Function function rest)) source size invoke parameters r values h e v = absurd (none-some _ h)

pub read_answered : (d : State) (datagram : List ℕ) (source : Option Place) (size invoke : ℕ) (parameters : List ℕ) (r : ReadProperty) (values : List ℕ)
    → heard_in (frame_at datagram) ≡ Some (record { to_all = false; source = source; apdu = Confirmed false size invoke 12 parameters }) → read_property_at parameters ≡ Ok r → read_of d r ≡ Ok values
    → (to : Receiver) × ((answer d datagram).0 ≡ Some (reply (record { to = to; place = source }) (limited (min size d.reply_size) invoke (ack invoke d r values))))
unfolding answer
read_answered d datagram source size invoke parameters r values h e v = answered d (frame_at datagram) source size invoke parameters r values h e v

written : (d new : State) (f : Option Frame) (source : Option Place) (size invoke : ℕ) (parameters : List ℕ) (w : PropertyWrite)
    → heard_in f ≡ Some (record { to_all = false; source = source; apdu = Confirmed false size invoke 15 parameters }) → write_property_at parameters ≡ Ok w → write_of d w ≡ Ok new
    → (to : Receiver) × (answer_frame d f ≡ (Some (reply (record { to = to; place = source }) (Simple invoke 15)), new))
written d new None source size invoke parameters w h e v = absurd (none-some _ h)
written d new (Some (Unicast npdu)) source size invoke parameters w h e v = (Sender, rw (h, e, v) refl)
written d new (Some (Broadcast npdu)) source size invoke parameters w h e v = (Sender, rw (h, e, v) refl)
written d new (Some (Forwarded address npdu)) source size invoke parameters w h e v = (Address address, rw (h, e, v) refl)
written d new (Some (Function function rest)) source size invoke parameters w h e v = absurd (none-some _ h)

pub write_answered : (d new : State) (datagram : List ℕ) (source : Option Place) (size invoke : ℕ) (parameters : List ℕ) (w : PropertyWrite)
    → heard_in (frame_at datagram) ≡ Some (record { to_all = false; source = source; apdu = Confirmed false size invoke 15 parameters }) → write_property_at parameters ≡ Ok w → write_of d w ≡ Ok new
    → (to : Receiver) × (answer d datagram ≡ (Some (reply (record { to = to; place = source }) (Simple invoke 15)), new))
unfolding answer
write_answered d new datagram source size invoke parameters w h e v = written d new (frame_at datagram) source size invoke parameters w h e v
