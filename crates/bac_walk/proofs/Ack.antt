-- What a reply by the standard is to its question.
use Rattle.std.proofs.Common.{◌≡◌, ℕ, Bool, true, false, ◌==◌, if◌then◌else◌, Option, Some, None, List, refl}
use Rattle.bac_wire.specs.Primitive.{Id}
use Rattle.bac_apdu.specs.Apdu.{Apdu, Confirmed, Unconfirmed, Simple, Complex, SegmentAck, Error, Reject, Abort}
use Rattle.bac_apdu.specs.declared.service.extent.Extent.{Extent}
use Rattle.bac_link.specs.declared.exchanges.Verdict.TheVariants as verdict
use Rattle.bac_link.specs.Exchanges.{verdict_of}
use Rattle.bac_link.specs.Heard.{AckParameters, heard_from, parameters_in}
use Rattle.bac_link.specs.Links.{question}

acked : (log : Id) (extent : Extent) (invoke service : ℕ) (parameters : List ℕ) (b : Bool) → (service == 26) ≡ b → (h : AckParameters) →
    heard_from log (if b then Some parameters else None) ≡ Some h → verdict_of (question log extent) (Some (Complex false invoke service parameters)) ≡ verdict.Ack
acked log extent invoke service parameters true is h heard = rw is refl
acked log extent invoke service parameters false is h heard = absurd (cc)

pub is_ack : (log : Id) (extent : Extent) (o : Option Apdu) (h : AckParameters) → heard_from log (parameters_in o) ≡ Some h → verdict_of (question log extent) o ≡ verdict.Ack
is_ack log extent None h heard = absurd (cc)
is_ack log extent (Some (Confirmed segmented size invoke service parameters)) h heard = absurd (cc)
is_ack log extent (Some (Unconfirmed service parameters)) h heard = absurd (cc)
is_ack log extent (Some (Simple invoke service)) h heard = absurd (cc)
is_ack log extent (Some (Complex true invoke service parameters)) h heard = absurd (cc)
is_ack log extent (Some (Complex false invoke service parameters)) h heard = acked log extent invoke service parameters (service == 26) refl h heard
is_ack log extent (Some (SegmentAck invoke)) h heard = absurd (cc)
is_ack log extent (Some (Error invoke service class code)) h heard = absurd (cc)
is_ack log extent (Some (Reject invoke reason)) h heard = absurd (cc)
is_ack log extent (Some (Abort by_server invoke reason)) h heard = absurd (cc)
