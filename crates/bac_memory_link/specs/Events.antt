-- What happens at a link straight to a device, and what it makes of the device.
use Rattle.std.specs.Prelude.{◌≡◌, ◌+◌, min, ℕ, Bool, true, false, if◌then◌else◌, List, [], ◌∷◌, Option, None, Some}
use Rattle.std.specs.Prelude.{Result}
use Rattle.std.specs.Result.{result_ok}
use Rattle.bac_wire.specs.OptionChain.{◌>>=◌}
use Rattle.bac_apdu.specs.Frame.{Frame, Unicast, Broadcast, Forwarded, Function, frame_at}
use Rattle.bac_apdu.specs.Npdu.{Header, header_at, is_there}
use Rattle.bac_link.specs.declared.link.Lost.{Lost}
use Rattle.bac_objects.specs.Sound.{IsSound}
use Rattle.bac_objects.specs.State.{State}
use Rattle.bac_device.specs.Answer.{answer}
use Rattle.bac_device.specs.Run as run
use Rattle.bac_device.specs.Run.{step}
use Rattle.bac_device.specs.declared.reply.Reply.{Reply}
use Rattle.bac_memory_link.specs.declared.event.LinkEvent.{LinkEvent}
use Rattle.bac_memory_link.specs.declared.event.LinkEvent.TheVariants.{Sample, Advance, Handle, Answer, Lose}

-- ---- one event

-- the device after an event, as a run of the device has it: one that is refused changes nothing, nor does an answer or
-- a loss
abbrev pub happens : LinkEvent → State → State
happens (Sample instance) d = (step d (run.Sample instance)).1
happens (Advance moment) d = (step d (run.Advance moment)).1
happens (Handle datagram) d = (step d (run.Datagram datagram)).1
happens Answer d = d
happens Lose d = d

-- ---- up to the next answer

-- the device, the events that are left, and whether the next answer is lost
pub record Played : Type 0 where
  pub device : State
  pub rest : List LinkEvent
  pub lost : Bool

-- events are played up to and with the next answer or loss; after the last the device answers
abbrev pub played : State → List LinkEvent → Played
played d [] = record { device = d; rest = []; lost = false }
played d (Answer ∷ events) = record { device = d; rest = events; lost = false }
played d (Lose ∷ events) = record { device = d; rest = events; lost = true }
played d (event ∷ events) = played (happens event d) events

-- ---- one ask

-- the NPDU of a frame that has one (Annex J.2)
abbrev pub npdu_in : Option Frame → Option (List ℕ)
npdu_in (Some (Unicast npdu)) = Some npdu
npdu_in (Some (Broadcast npdu)) = Some npdu
npdu_in (Some (Forwarded address npdu)) = Some npdu
npdu_in (Some (Function function rest)) = None
npdu_in None = None

-- whether there is a header and it names a destination
abbrev pub has_dest : Option (Header × List ℕ) → Bool
has_dest None = false
has_dest (Some header) = is_there header.0.dest

-- whether a datagram names a destination on another network, or on all (6.2.2): a link straight to a device has no
-- router
unfoldable pub goes_on : List ℕ → Bool
goes_on datagram = has_dest (do
  npdu ← npdu_in (frame_at datagram)
  header_at npdu)

-- what a request meets: one that goes on is lost, and nothing is played
abbrev pub meets : State → List LinkEvent → List ℕ → Played
meets d events request = if goes_on request then record { device = d; rest = events; lost = true } else played d events

-- the datagram of a reply, if there is one
abbrev pub datagram_in : Option Reply → Option (List ℕ)
datagram_in None = None
datagram_in (Some reply) = Some reply.datagram

-- one failure more, up to the greatest count
abbrev pub one_more : ℕ → ℕ
one_more failures = min (failures + 1) 18446744073709551615

-- the count after an ask that brought this
abbrev pub failures_after : ℕ → Option Reply → ℕ
failures_after failures (Some reply) = failures
failures_after failures None = one_more failures

-- what the device answers to the request, or nothing if the answer is lost, and the device after it
abbrev pub told : Played → List ℕ → Option Reply × State
told p request = if p.lost then (None, p.device) else answer p.device request

-- an ask: the answer, the device after it, and the events that are left; what the events lead to is a sound device
abbrev pub IsAnswered : State → List LinkEvent → List ℕ → Result (List ℕ) Lost → State → List LinkEvent → Type 0
IsAnswered device events request answered new left =
    let next = meets device events request in
    (result_ok answered ≡ datagram_in (told next request).0) × (new ≡ (told next request).1) × (left ≡ next.rest)
    × IsSound next.device
