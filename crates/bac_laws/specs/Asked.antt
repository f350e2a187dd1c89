-- What `bac rp` and `bac wp` do: one request, and what its answer comes to. Read `WritesOnce`, `ReadsOnce` and
-- `PrintsWhatCame`.
use Rattle.std.specs.Prelude.{◌≡◌, ◌≢◌, ◌⊎◌, ℕ, List, [], ◌∷◌, ◌++◌, Option, Some, None, option_map, codes}
use Rattle.std.specs.Io.KnownBytes.{Appends, Keeps}
use Rattle.bac_apdu.specs.Service.WriteProperty.{write_of_code}
use Rattle.bac_apdu.specs.declared.service.write_property.WriteProperty.{WriteProperty}
use Rattle.bac_socket_notes.specs.Ports.{Event}
use Rattle.bac_laws.specs.Events.{Exchanged, came}
use Rattle.bac_link.specs.Datagrams.{apdu_in}
use Rattle.bac_link.specs.Exchanges.{verdict_of}
use Rattle.bac_link.specs.Requests.{request_octets}
use Rattle.bac_link.specs.declared.exchanges.Verdict.{Verdict}
use Rattle.bac_link.specs.declared.exchanges.Verdict.TheVariants.{Ack, Refused, BadReply}
use Rattle.bac_link.specs.declared.request.Request.{Request}
use Rattle.bac_link.specs.declared.request.Request.TheVariants as request
use Rattle.bac_print.specs.Output.{AppendsPart, Held}
use Rattle.bac_query.specs.Answers.{values_in}
use Rattle.bac_query.specs.Values.{IsShown}
use Rattle.bac_tools.specs.Run.{question, reals_of, setting}
use Rattle.bac_command_line.specs.declared.job.Asked.{Asked}
use Rattle.bac_command_line.specs.declared.job.PropertyReading.{PropertyReading}
use Rattle.bac_command_line.specs.declared.job.PropertyWriting.{PropertyWriting}

-- ---- one request

-- What an answer comes to, and its status: what `done` says; the device refuses, 3; a reply that doesn't belong to the
-- request, 4; no answer, 2. But for `done` nothing is printed.
abbrev pub ComesTo : Option Verdict → (ℕ → Type 0) → Held → Held → ℕ → Type 0
ComesTo (Some Ack) done before after status = done status
ComesTo (Some (Refused refusal)) done before after status = Keeps before after × (status ≡ 3)
ComesTo (Some BadReply) done before after status = Keeps before after × (status ≡ 4)
ComesTo None done before after status = Keeps before after × (status ≡ 2)

-- The status where nothing is asked: 1, the words are wrong; 2, there is no socket; 5, there is no memory.
abbrev pub IsUnasked : ℕ → Type 0
IsUnasked status = (status ≡ 1) ⊎ ((status ≡ 2) ⊎ (status ≡ 5))

-- One such request is made, by invoke ID 1, of the device that the words name, and nothing else is sent; and what its
-- answer comes to is the end, but that the status of a fault is 5 where there is no memory to tell of it. Or nothing is
-- sent, and nothing printed, and the status says so.
abbrev pub AsksOnce : Asked → (Request → Type 0) → (ℕ → Type 0) → List Event → Held → Held → ℕ → Type 0
AsksOnce asked is done es before after status =
    ((es ≡ []) × Keeps before after × IsUnasked status)
    ⊎ ((r : Request) × is r × (answer : Option (List ℕ))
    × Exchanged (request_octets (record { dest = asked.route; source = None }) 1 r) asked.address asked.retries es
    answer
    × (ending : ℕ) × ((status ≡ ending) ⊎ ((ending ≢ 0) × (status ≡ 5)))
    × ComesTo (option_map (λ datagram. verdict_of r (apdu_in datagram)) answer) done before after ending)

-- ---- bac wp

-- The one WriteProperty that is made has the object, property, index, value and priority of the words. Behind a
-- SimpleACK of it, and only there, the line `written` is printed, 0; or the output refuses it, or a part of it, 2.
abbrev pub WritesOnce : PropertyWriting → List Event → Held → Held → ℕ → Type 0
WritesOnce said es before after status =
    AsksOnce said.asked (λ r. (w : WriteProperty) × (r ≡ request.WriteProperty w) × (write_of_code w ≡ setting said))
    (λ ending. ((ending ≡ 0) × Appends before after (codes "written" ++ 10 ∷ []))
    ⊎ ((ending ≡ 2) × AppendsPart before after (codes "written" ++ 10 ∷ []))) es before after status

-- ---- bac rp

-- The one ReadProperty that is made has the object, property and index of the words. Behind a ComplexACK of it, and
-- only there, something may be printed, 0; or it can't be read, 4, or the output refuses it, or a part of it, 2, or
-- there is no memory for it, 5.
abbrev pub ReadsOnce : PropertyReading → List Event → Held → Held → ℕ → Type 0
ReadsOnce said es before after status =
    AsksOnce said.asked (λ r. r ≡ request.ReadProperty (question said))
    (λ ending. (ending ≡ 0) ⊎ (((ending ≡ 2) × (text : List ℕ) × AppendsPart before after text)
    ⊎ (Keeps before after × ((ending ≡ 4) ⊎ (ending ≡ 5))))) es before after status

-- Behind the status 0 what is printed are the values of the last datagram that came, from the device of the words: a
-- line each, or their octets where they aren't values alone.
abbrev pub PrintsWhatCame : PropertyReading → List Event → Held → Held → Type 0
PrintsWhatCame said es before after =
    (earlier : List Event) × (datagram : List ℕ) × (es ≡ earlier ++ came said.asked.address datagram ∷ [])
    × (values : List ℕ) × (values_in (apdu_in datagram) ≡ Some values)
    × (text : List ℕ) × IsShown (reals_of said.numbers) values text × Appends before after text
