-- What `bac log` prints of a log is what came, each number once. Read `PrintsLog`; how often is asked, `AsksFew`.
use Rattle.std.specs.Prelude.{◌≡◌, ◌⊎◌, ◌≤◌, ◌+◌, ◌*◌, ℕ, Bool, true, false, List, [], ◌∷◌, ◌++◌, length}
use Rattle.std.specs.Prelude.{Option, None, Some, IsSome, Ok}
use Rattle.std.specs.Io.KnownBytes.{Appends, Keeps}
use Rattle.std.specs.List.{Contains}
use Rattle.bac_apdu.specs.declared.service.read_range.ReadRange.{ReadRange}
use Rattle.bac_socket_notes.specs.Ports.{Event}
use Rattle.bac_laws.specs.Asked.{IsUnasked}
use Rattle.bac_laws.specs.Events.{Exchanged, sent_in}
use Rattle.bac_link.specs.Datagrams.{apdu_in}
use Rattle.bac_link.specs.Exchanges.{verdict_of}
use Rattle.bac_link.specs.Heard.{AckParameters, heard_in}
use Rattle.bac_link.specs.Laws.{CoversEach}
use Rattle.bac_link.specs.Ordinals.{is_ahead}
use Rattle.bac_link.specs.Requests.{request_octets}
use Rattle.bac_link.specs.Standard.{IsCount}
use Rattle.bac_link.specs.declared.exchanges.Verdict.TheVariants as verdict
use Rattle.bac_link.specs.declared.item.Item.{Item}
use Rattle.bac_link.specs.declared.item.Item.TheVariants.{Gap, Logged}
use Rattle.bac_link.specs.declared.request.Request.{Request}
use Rattle.bac_link.specs.declared.request.Request.TheVariants as request
use Rattle.bac_log.specs.TrendLog.{sequence_number}
use Rattle.bac_log.specs.declared.entry.Entry.{Entry}
use Rattle.bac_ports.specs.Port.{Opening, Receiving, Sending}
use Rattle.bac_ports.specs.Sockets.{SocketRules}
use Rattle.bac_ports.specs.declared.port.Heard.{Heard}
use Rattle.bac_print.specs.Output.{AppendsPart, Held}
use Rattle.bac_query.specs.Ends.{end_line}
use Rattle.bac_query.specs.Items.{items_text}
use Rattle.bac_tools.specs.Run.{IsOutside, trend_log}
use Rattle.bac_tools.specs.Status.{walk_status}
use Rattle.bac_walk.specs.Walks.{shown_from}
use Rattle.bac_walk.specs.declared.outcome.WalkFault.{WalkFault}
use Rattle.bac_walk.specs.declared.outcome.WalkFault.TheVariants.{Lost, Refused, BadReply}
use Rattle.bac_walk.specs.declared.outcome.Why.{Why}
use Rattle.bac_walk.specs.declared.outcome.Why.TheVariants.{CaughtUp, StepLimit, Fault, Memory}
use Rattle.bac_wire.specs.Primitive.{Id}
use Rattle.bac_command_line.specs.declared.job.LogReading.{LogReading}

-- ---- what came

-- A ledger of sockets and of each port that they open, in which a datagram stands with its sender, or doesn't. What a
-- port receives stands in its ledger from then on, and what stands there when it is closed in that of the sockets.
pub record Ledger {S P : Type 0} (rules : SocketRules S P) (changes : S → S → Type 0) : Type 0 where
  pub sockets : S → List ℕ → List ℕ → Bool
  pub port : P → List ℕ → List ℕ → Bool
  pub hears : (old new : P) (heard : Heard) (datagram : List ℕ) → heard.datagram ≡ Some datagram
      → rules.receives old (Ok heard) new → port new heard.from datagram ≡ true
  pub sends : (old new : P) (octets to : List ℕ) (answer : Sending) (from datagram : List ℕ)
      → port old from datagram ≡ true → rules.sends old octets to answer new → port new from datagram ≡ true
  pub receives : (old new : P) (answer : Receiving) (from datagram : List ℕ) → port old from datagram ≡ true
      → rules.receives old answer new → port new from datagram ≡ true
  pub closes : (old new : S) (last : P) (from datagram : List ℕ)
      → (sockets old from datagram ≡ true) ⊎ (port last from datagram ≡ true) → rules.closes old last new
      → sockets new from datagram ≡ true
  pub opens : (old new : S) (address : List ℕ) (wait : ℕ) (answer : Opening P) (from datagram : List ℕ)
      → sockets old from datagram ≡ true → rules.opens old address wait answer new → sockets new from datagram ≡ true
  pub changed : (old new : S) (from datagram : List ℕ) → sockets old from datagram ≡ true → changes old new
      → sockets new from datagram ≡ true

-- a datagram came from this sender: whatever the ledger, it stands there
abbrev pub CameFrom : {S P : Type 0} → SocketRules S P → (S → S → Type 0) → S → List ℕ → List ℕ → Type 0
CameFrom rules changes sockets from datagram =
    (ledger : Ledger rules changes) → ledger.sockets sockets from datagram ≡ true

-- a datagram is an ACK of ReadRange for the records of this log, and has this record under this number
abbrev pub HasRecord : Id → List ℕ → ℕ → Entry → Type 0
HasRecord log datagram number entry = (said : AckParameters) × (heard_in log datagram ≡ Some said)
    × (first : ℕ) × (said.first ≡ Some first) × Contains (shown_from first said.entries) (Logged number entry)

-- no record is behind this number: there is none, or the first isn't ahead of it
abbrev pub AreBehind : ℕ → Option ℕ → List Entry → Type 0
AreBehind next first [] = Unit {0}
AreBehind next None (entry ∷ entries) = ⊥
AreBehind next (Some first) (entry ∷ entries) = is_ahead next first ≡ false

-- a datagram is such an ACK, and has no record from this number on
abbrev pub HasNoMore : Id → List ℕ → ℕ → Type 0
HasNoMore log datagram next =
    (said : AckParameters) × (heard_in log datagram ≡ Some said) × AreBehind next said.first said.entries

-- ---- what is printed

-- items begin at this ordinal: at the number of the words, or if they have none, at that of the first item
abbrev pub BeginAt : Option ℕ → List Item → ℕ → Type 0
BeginAt (Some number) items s = number ≡ sequence_number s
BeginAt None [] s = 1 ≡ sequence_number s
BeginAt None (Gap first before ∷ items) s = first ≡ sequence_number s
BeginAt None (Logged number entry ∷ items) s = number ≡ sequence_number s

-- from where they begin each number is in one of them, up to the next one
abbrev pub HaveEachOnce : Option ℕ → List Item → ℕ → Type 0
HaveEachOnce from items next =
    (s : ℕ) → BeginAt from items s → (t : ℕ) × (next ≡ sequence_number t) × CoversEach s items t

-- ---- how a run ends

-- The last of what was done: a ReadRange for the log of the words was made of their device, sent as often again as they
-- say while no answer came, and this came of it, an answer or none.
abbrev pub AskedLast : LogReading → List Event → (Request → Option (List ℕ) → Type 0) → Type 0
AskedLast said es is = (earlier : List Event) × (last : List Event) × (es ≡ earlier ++ last)
    × (asked : ReadRange) × (asked.object ≡ trend_log said.instance) × (invoke : ℕ) × (answer : Option (List ℕ))
    × Exchanged (request_octets (record { dest = said.asked.route; source = None }) invoke (request.ReadRange asked))
    said.asked.address said.asked.retries last answer × is (request.ReadRange asked) answer

-- this fault came of a request: no answer, a refusal, or an answer that isn't taken
abbrev pub ComesToFault : WalkFault → Request → Option (List ℕ) → Type 0
ComesToFault Lost r answer = answer ≡ None
ComesToFault (Refused refusal) r answer =
    (datagram : List ℕ) × (answer ≡ Some datagram) × (verdict_of r (apdu_in datagram) ≡ verdict.Refused refusal)
ComesToFault BadReply r answer = IsSome answer

-- The end of a run is right. It is caught up, where in this run the device of the words said that it has no more; at
-- the limit of steps of the words, behind as many items; at a fault, that of the request that was made last.
abbrev pub EndsRight : (List ℕ → Type 0) → LogReading → List Event → List Item → Why → ℕ → Type 0
EndsRight came said es items CaughtUp next =
    (datagram : List ℕ) × came datagram × HasNoMore (trend_log said.instance) datagram next
EndsRight came said es items StepLimit next = said.steps ≤ length items
EndsRight came said es items (Fault fault) next = AskedLast said es (ComesToFault fault)
EndsRight came said es items Memory next = Unit {0}

-- all of a text is written, and this is the status; or it, or a front part, where the output refused the rest, 2, or
-- there is no memory for it, or to tell a fault, 5
abbrev pub IsWritten : Held → Held → List ℕ → ℕ → ℕ → Type 0
IsWritten before after text ending status = (Appends before after text × (status ≡ ending))
    ⊎ (AppendsPart before after text × ((status ≡ 2) ⊎ (status ≡ 5)))

-- the words mean no walk of a log: no log has this instance, no request this count, or no record this number
abbrev pub AreWrong : LogReading → Type 0
AreWrong said = IsOutside 20 said.instance ⊎ ((IsCount said.count → ⊥) ⊎ (said.from ≡ Some 0))

-- Nothing is asked or printed, and the status says so, by 1 only of words that are wrong. Or a line for each of these
-- items, and the line of the end, which is right, and so is the status. Each number from where they begin is in one
-- item, a record or a gap; and each record came in this run from the device of the words.
abbrev pub PrintsLog : (List ℕ → Type 0) → LogReading → List Event → Held → Held → ℕ → Type 0
PrintsLog came said es before after status =
    ((es ≡ []) × Keeps before after × IsUnasked status × (status ≡ 1 → AreWrong said))
    ⊎ ((items : List Item) × (why : Why) × (next : ℕ)
    × IsWritten before after (items_text items ++ end_line why next) (walk_status why) status
    × EndsRight came said es items why next
    × HaveEachOnce said.from items next
    × ((number : ℕ) (entry : Entry) → Contains items (Logged number entry) → (datagram : List ℕ)
    × came datagram × HasRecord (trend_log said.instance) datagram number entry))

-- ---- how often is asked

-- No more is sent than twice for each step that the words allow, and twice more, each as often again as they say.
abbrev pub AsksFew : LogReading → List Event → Type 0
AsksFew said es = length (sent_in es) ≤ (2 * said.steps + 2) * (said.asked.retries + 1)
