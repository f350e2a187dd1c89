-- What `bac logs` prints of the logs that its words name. Read `ListsWhatCame`.
use Rattle.std.specs.Prelude.{◌≡◌, ◌⊎◌, ℕ, List, [], ◌∷◌, ◌++◌, map, Option, Some, None, decimal}
use Rattle.std.specs.Io.KnownBytes.{Appends, Keeps}
use Rattle.bac_apdu.specs.declared.service.read_property.ReadProperty.{ReadProperty}
use Rattle.bac_socket_notes.specs.Ports.{Event}
use Rattle.bac_laws.specs.Asked.{IsUnasked}
use Rattle.bac_laws.specs.Events.{Exchanged}
use Rattle.bac_link.specs.Datagrams.{apdu_in}
use Rattle.bac_link.specs.Exchanges.{verdict_of}
use Rattle.bac_link.specs.Requests.{request_octets}
use Rattle.bac_link.specs.declared.exchanges.Verdict.{Verdict}
use Rattle.bac_link.specs.declared.exchanges.Verdict.TheVariants.{Ack, Refused, BadReply}
use Rattle.bac_link.specs.declared.request.Request.TheVariants as request
use Rattle.bac_print.specs.Output.{AppendsPart, Held}
use Rattle.bac_query.specs.Answers.{values_in}
use Rattle.bac_query.specs.Cells.{ShowsAck, refused, unread}
use Rattle.bac_query.specs.Tables.{columns, head_line, property_of}
use Rattle.bac_tools.specs.Run.{trend_log}
use Rattle.bac_wire.specs.Primitive.{Id}
use Rattle.bac_command_line.specs.declared.job.Asked.{Asked}
use Rattle.bac_command_line.specs.declared.job.LogListing.{LogListing}

-- the cell of an answer: the value of its ACK, `-` where the device refuses, `?` where it can't be read
abbrev pub IsCellOf : ℕ → List ℕ → Verdict → List ℕ → Type 0
IsCellOf property datagram Ack cell = ShowsAck property (values_in (apdu_in datagram)) cell
IsCellOf property datagram (Refused refusal) cell = cell ≡ refused
IsCellOf property datagram BadReply cell = cell ≡ unread

-- a property is asked for, by an invoke ID, of the device that the words name, and this is the cell of its answer
abbrev pub AsksCell : Asked → ReadProperty → List Event → List ℕ → Type 0
AsksCell asked q es cell = (invoke : ℕ) × (datagram : List ℕ)
    × Exchanged (request_octets (record { dest = asked.route; source = None }) invoke (request.ReadProperty q))
    asked.address asked.retries es (Some datagram)
    × IsCellOf q.property datagram (verdict_of (request.ReadProperty q) (apdu_in datagram)) cell

-- these properties of a log, one after the other, each cell behind a tab (9)
abbrev pub AsksCells : Asked → Id → List ℕ → List Event → List ℕ → Type 0
AsksCells asked log [] es text = (es ≡ []) × (text ≡ [])
AsksCells asked log (property ∷ properties) es text =
    (first : List Event) × (rest : List Event) × (cell : List ℕ) × (more : List ℕ) × (es ≡ first ++ rest)
    × (text ≡ (9 ∷ cell) ++ more) × AsksCell asked (property_of log property) first cell
    × AsksCells asked log properties rest more

-- these logs, one after the other, each a line: its instance and its cells (10 is the line's end)
abbrev pub AsksLogs : Asked → List Id → List Event → List ℕ → Type 0
AsksLogs asked [] es text = (es ≡ []) × (text ≡ [])
AsksLogs asked (log ∷ logs) es text =
    (first : List Event) × (rest : List Event) × (cells : List ℕ) × (more : List ℕ) × (es ≡ first ++ rest)
    × (text ≡ ((decimal log.instance ++ cells) ++ 10 ∷ []) ++ more) × AsksCells asked log columns first cells
    × AsksLogs asked logs rest more

-- ---- where it ends before

-- of these properties of a log the first ones, and to the question for the next one nothing that came was an answer
abbrev pub StopsAt : Asked → Id → List ℕ → List Event → Type 0
StopsAt asked log [] es = ⊥
StopsAt asked log (property ∷ properties) es = ((invoke : ℕ)
    × Exchanged (request_octets (record { dest = asked.route; source = None }) invoke
    (request.ReadProperty (property_of log property))) asked.address asked.retries es None)
    ⊎ ((first : List Event) × (rest : List Event) × (cell : List ℕ) × (es ≡ first ++ rest)
    × AsksCell asked (property_of log property) first cell × StopsAt asked log properties rest)

-- of these properties of a log the first ones, and perhaps the next one, whatever came to its question
abbrev pub AsksSome : Asked → Id → List ℕ → List Event → Type 0
AsksSome asked log [] es = es ≡ []
AsksSome asked log (property ∷ properties) es = (es ≡ []) ⊎ (((invoke : ℕ) × (answer : Option (List ℕ))
    × Exchanged (request_octets (record { dest = asked.route; source = None }) invoke
    (request.ReadProperty (property_of log property))) asked.address asked.retries es answer)
    ⊎ ((first : List Event) × (rest : List Event) × (cell : List ℕ) × (es ≡ first ++ rest)
    × AsksCell asked (property_of log property) first cell × AsksSome asked log properties rest))

-- the same of the first of these logs
abbrev pub AsksNext : Asked → List Id → List Event → Type 0
AsksNext asked [] es = es ≡ []
AsksNext asked (log ∷ logs) es = AsksSome asked log columns es

-- and that it stops there
abbrev pub StopsNext : Asked → List Id → List Event → Type 0
StopsNext asked [] es = ⊥
StopsNext asked (log ∷ logs) es = StopsAt asked log columns es

-- How a table ends, by what was done behind the text of its first lines. It is whole, 0; the output refuses it, or a
-- part of it, 2; no answer came to a question for the next line, 2; or there is no memory, 5, or the question is too
-- long, 1. The status of a fault is 5, too, where there is no memory to tell of it.
abbrev pub EndsTable : Asked → List Id → List Event → List ℕ → Held → Held → ℕ → Type 0
EndsTable asked more last text before after status =
    (Appends before after text × (status ≡ 0) × (more ≡ []) × (last ≡ []))
    ⊎ ((AppendsPart before after text × ((status ≡ 2) ⊎ (status ≡ 5)) × (last ≡ []))
    ⊎ ((Appends before after text × ((status ≡ 2) ⊎ (status ≡ 5)) × StopsNext asked more last)
    ⊎ (Appends before after text × ((status ≡ 5) ⊎ (status ≡ 1)) × AsksNext asked more last)))

-- Nothing is asked, nothing printed, and the status says so. Or the names of the columns are printed, and of the first
-- logs that the words name a line each, in their order; and nothing was sent but the questions for their cells, one
-- behind the other, and what is said of the end. With the status 0 these are all of them.
abbrev pub ListsWhatCame : LogListing → List Event → Held → Held → ℕ → Type 0
ListsWhatCame said es before after status = ((es ≡ []) × Keeps before after × IsUnasked status)
    ⊎ ((logs : List Id) × (more : List Id) × (map trend_log said.instances ≡ logs ++ more)
    × (first : List Event) × (last : List Event) × (es ≡ first ++ last)
    × (text : List ℕ) × AsksLogs said.asked logs first text
    × EndsTable said.asked more last (head_line ++ text) before after status)
