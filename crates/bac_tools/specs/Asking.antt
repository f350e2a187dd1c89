-- What `bac rp`, `wp`, `log` and `logs` do: one socket, and over it what they ask one device for. Read from the end.
use Rattle.std.specs.Prelude.{◌≡◌, ℕ, ◌*◌, ◌≤◌, ◌⊎◌, Bool, true, false, List, length, Ok, Err}
use Rattle.bac_apdu.specs.declared.service.read_property.ReadProperty.{ReadProperty}
use Rattle.bac_link.specs.Path.{towards}
use Rattle.bac_link.specs.declared.item.Item.{Item}
use Rattle.bac_link.specs.declared.request.Request.{Request}
use Rattle.bac_link.specs.declared.transactions.Transactions.{Transactions}
use Rattle.bac_ports.specs.Sockets.{SocketRules, link_over, own_address, socket_asks}
use Rattle.bac_ports.specs.declared.udp_link.UdpLink.{UdpLink}
use Rattle.bac_print.specs.Output.{AppendsPart, Held}
use Rattle.bac_query.specs.Ahead.{Errand, FetchesAhead}
use Rattle.bac_query.specs.Fetching.{Fetching, TellsRun, course}
use Rattle.bac_query.specs.Flaws.{TellsFlaw}
use Rattle.bac_query.specs.Layouts.{BeginsWith}
use Rattle.bac_query.specs.Reading.{Answer, Printing, ReadsOver, next_way, printing}
use Rattle.bac_query.specs.Tables.{ListsLogs, client}
use Rattle.bac_query.specs.Writing.{WritesOver}
use Rattle.bac_query.specs.declared.fault.QueryFault.{QueryFault}
use Rattle.bac_form.specs.declared.form.Form.{Form}
use Rattle.bac_query.specs.declared.reals.Reals.{Reals}
use Rattle.bac_tools.specs.Ending.{Ending}
use Rattle.bac_tools.specs.Faults.{of_query}
use Rattle.bac_tools.specs.LogEnds.{ended_as, of_why}
use Rattle.bac_tools.specs.Sockets.{Opens, Outlets, Outside, binding, outside, transactions_with}
use Rattle.bac_tools.specs.Texts.{more_line}
use Rattle.bac_walk.specs.Collects.{Goes}
use Rattle.bac_walk.specs.Place.{WalkPlace}
use Rattle.bac_walk.specs.Told.{Told}
use Rattle.bac_walk.specs.declared.outcome.Ended.{Ended}
use Rattle.bac_walk.specs.declared.outcome.Ended.TheVariants.{StepLimit}
use Rattle.bac_wire.specs.Primitive.{Id}
use Rattle.bac_command_line.specs.declared.job.Asked.{Asked}

-- ---- any of the four

-- What is done over a link: the link before it and what the output held, what it answers, and the link after it and
-- what the output holds now.
abbrev pub OverLink : Type 0 → Type 0 → Type 1
OverLink P A = Printing (UdpLink P) Held → A → Printing (UdpLink P) Held → Type 0

-- A socket is opened as the words say, this is done over a link to the device that they name, its answer is the end,
-- and the socket is closed as the link left it.
abbrev pub AsksDevice : {S P A : Type 0} → SocketRules S P → Asked → OverLink P A → (A → Ending) →
    Outside S → Ending → Outside S → Type 0
AsksDevice {P = P} {A = A} rules asked does ends old result new =
    Opens rules (binding (own_address asked.local) asked.timeout) old result new
    (λ port last. (answer : A) × (left : UdpLink P)
    × does (printing (link_over asked.address port) old.output) answer (printing left new.output) × (last ≡ left.port)
    × (result ≡ ends answer))

-- ---- bac rp and wp

-- done, or a fault of the query to this address
abbrev pub of_answer : List ℕ → Answer → Ending
of_answer address (Ok done) = Ok 0
of_answer address (Err fault) = Err (of_query address fault)

-- ReadProperty: an exchange with the device, and the values of its ACK, with REALs and Doubles shown so
abbrev pub Reads : {S P : Type 0} → SocketRules S P →
    Asked → ReadProperty → Reals → Outside S → Ending → Outside S → Type 0
Reads rules asked question reals old result new =
    AsksDevice rules asked (ReadsOver (socket_asks rules) (next_way (transactions_with asked)) question reals)
    (of_answer asked.address) old result new

-- WriteProperty, likewise
abbrev pub Writes : {S P : Type 0} → SocketRules S P → Asked → Request → Outside S → Ending → Outside S → Type 0
Writes rules asked question old result new =
    AsksDevice rules asked (WritesOver (socket_asks rules) (next_way (transactions_with asked)) question)
    (of_answer asked.address) old result new

-- ---- bac logs

-- The table of these trend logs, or of each that the device lists: each cell is of what came to the question for it,
-- which the next transaction of a client asked that had begun none before.
abbrev pub Lists : {S P : Type 0} → SocketRules S P → Asked → List Id → Outside S → Ending → Outside S → Type 0
Lists rules asked logs old result new =
    AsksDevice rules asked
    (λ before answer after. (last : Transactions)
    × ListsLogs (socket_asks rules) logs
    (printing (client before.asker (transactions_with asked)) before.printed) answer
    (printing (client after.asker last) after.printed))
    (of_answer asked.address) old result new

-- ---- bac log

-- the line of a walk's end is printed, whatever it says; what there is to say beside it is a fault
abbrev pub of_fetching : Form → List ℕ → Fetching → Ending
of_fetching layout address (Ok fetched) = ended_as layout fetched.why (of_why address fetched.why fetched.flaw)
of_fetching layout address (Err fault) = Err (of_query address fault)

-- a device that contradicted itself is told so, by the line or a front part of it, and of any other nothing is written
abbrev pub SaysMore : Bool → Held → Held → Type 0
SaysMore true old new = AppendsPart old new more_line
SaysMore false old new = new ≡ old

-- the same of what was fetched: the walk is caught up, and yet the last reply with records said that more is there
abbrev pub SaysOf : Fetching → Held → Held → Type 0
SaysOf (Ok fetched) old new = SaysMore fetched.said_more old new
SaysOf (Err fault) old new = new ≡ old

-- The items cover the numbers from the walk's on up to the next one. Each step brought at most 100 records and one gap,
-- and a record at least if the run ended since there were so many; the last exchange told why it ended.
abbrev pub FetchesRun : {S P : Type 0} → SocketRules S P → Asked → Errand → OverLink P Fetching
FetchesRun rules asked wanted old fetching new =
    (items : List Item) × (n : ℕ) × (ended : Ended) × (after : WalkPlace)
    × TellsRun wanted.layout (λ cause. Unit {0}) wanted.steps (course items n ended after) fetching
    old.printed new.printed
    × ((s : ℕ) → Goes wanted.walk.fresh wanted.walk.next s items after.fresh after.next)
    × (length items ≤ 101 * n) × (ended ≡ StepLimit → n ≤ length items)
    × Told (socket_asks rules) (towards asked.route) asked.retries ended after new.asker

-- A log is fetched over a link: replies came, one after the other, each to the next transaction of the client, which
-- has begun none before, and begins two a step at most; what is printed is the text of the items that they brought, and
-- the end of their run; and if they say what one log holds, those are what it held. Of a bad reply, and of nothing
-- else, it is told what is wrong with it.
abbrev pub FetchesOn : {S P : Type 0} → SocketRules S P → Asked → Errand → OverLink P Fetching
FetchesOn rules asked wanted old fetching new =
    ((last : Transactions)
    × FetchesAhead wanted (socket_asks rules)
    (printing (client old.asker (transactions_with asked)) old.printed) fetching
    (printing (client new.asker last) new.printed)
    × (last.begun ≤ 2 * wanted.steps))
    × FetchesRun rules asked wanted old fetching new
    × TellsFlaw (socket_asks rules) (towards asked.route) asked.retries wanted.walk.log fetching new.asker

-- what stands before the items is printed, and then they are fetched; or it can't be, and nothing is asked
abbrev pub FetchesOver : {S P : Type 0} → SocketRules S P → Asked → Errand → OverLink P Fetching
FetchesOver rules asked wanted old fetching new =
    ((fault : QueryFault) × BeginsWith wanted.layout (Err fault) old.printed new.printed
    × (fetching ≡ Err fault) × (new.asker ≡ old.asker))
    ⊎ ((mid : Held) × BeginsWith wanted.layout (Ok tt) old.printed mid
    × FetchesOn rules asked wanted (printing old.asker mid) fetching new)

-- A log is fetched; and of a walk that is caught up it is told, on the errors, that the last reply with records said
-- that more is there.
abbrev pub Fetches : {S P : Type 0} → SocketRules S P → Asked → Errand → Outlets S → Ending → Outlets S → Type 0
Fetches rules asked wanted old result new =
    AsksDevice rules asked
    (λ before fetching after.
    FetchesOver rules asked wanted before fetching after × SaysOf fetching old.errors new.errors)
    (of_fetching wanted.layout asked.address)
    (outside old.sockets old.output) result (outside new.sockets new.output)
