-- What is printed while an answer is waited for, and what fetching a log so prints. Read from the end.
use Rattle.std.specs.Prelude.{◌≡◌, ◌≢◌, ℕ, ◌*◌, ◌<◌, ◌≤◌, Bool, true, false, ◌⊎◌, List, [], length, Result, Ok, Err}
use Rattle.std.specs.Io.KnownBytes.{Keeps}
use Rattle.bac_link.specs.Delivery.{History, Moment}
use Rattle.bac_link.specs.Exchanges.{Ask, Client, Failures}
use Rattle.bac_link.specs.Path.{towards}
use Rattle.bac_link.specs.declared.transactions.Transactions.{Transactions}
use Rattle.bac_link.specs.declared.item.Item.{Item}
use Rattle.bac_link.specs.declared.link.Lost.{Lost}
use Rattle.bac_ports.specs.Asking.{Asks, to_peer}
use Rattle.bac_ports.specs.Port.{Receiving, Sending}
use Rattle.bac_ports.specs.declared.udp_link.UdpLink.{UdpLink}
use Rattle.bac_query.specs.Layouts.{AppendsItems, AppendsItemsPart}
use Rattle.bac_walk.specs.Came.{Came}
use Rattle.bac_walk.specs.Transacted.{BroughtBy, walk_by}
use Rattle.bac_walk.specs.Place.{WalkPlace}
use Rattle.bac_walk.specs.Sinks.{IsRun, ours_around}
use Rattle.bac_walk.specs.Told.{Told}
use Rattle.bac_walk.specs.declared.outcome.Ended.{Ended}
use Rattle.bac_walk.specs.declared.outcome.Ended.TheVariants.{StepLimit, Stopped}
use Rattle.bac_walk.specs.declared.outcome.Why.{Why}
use Rattle.bac_walk.specs.Collects.{losses_of}
use Rattle.bac_walk.specs.declared.outcome.Why.TheVariants as why
use Rattle.bac_query.specs.Fetching.{Course, EndsAs, Fetching, IsFetched, IsHeadline, PrintsEnd, PrintsItems, TellsRun}
use Rattle.bac_query.specs.Fetching.{course}
use Rattle.bac_query.specs.More.{TellsMore, more_after, said_more}
use Rattle.bac_query.specs.Reading.{Held, Session}
use Rattle.bac_form.specs.declared.form.Form.{Form}
use Rattle.bac_query.specs.declared.fault.QueryFault.{QueryFault}
use Rattle.bac_query.specs.declared.fault.QueryFault.TheVariants.{Exchange, Write, Memory}

-- ---- beside one exchange

-- in which layout, what is left to be printed, and what the output holds; or a write was refused
pub record Pending : Type 0 where
  pub layout : Form
  pub is_refused : Bool
  pub left : List Item
  pub held : Held

-- the four together
abbrev pub pending : Form → Bool → List Item → Held → Pending
pending layout refused left held = record { layout = layout; is_refused = refused; left = left; held = held }

-- a write of the text of what was left was refused; or it was written; or none of it yet
abbrev pub PrintsTo : Form → Bool → List Item → Held → List Item → Held → Type 0
PrintsTo layout true left old rest new = AppendsItemsPart layout left old new
PrintsTo layout false left old rest new =
    ((rest ≡ left) × Keeps old new) ⊎ ((rest ≡ []) × AppendsItems layout left old new)

-- once a write was refused nothing more is written
abbrev pub PrintsFrom : Form → Bool → List Item → Held → Pending → Type 0
PrintsFrom layout true left old new = (new.is_refused ≡ true) × (new.left ≡ left) × Keeps old new.held
PrintsFrom layout false left old new = PrintsTo layout new.is_refused left old new.left new.held

-- what was left is printed, once, as far as no write is refused; or it is left still
abbrev pub PrintsOn : Pending → Pending → Type 0
PrintsOn old new = (new.layout ≡ old.layout) × PrintsFrom old.layout old.is_refused old.left old.held new

-- an ask over a port: the request is sent once to the peer, and at most 16 datagrams are taken, up to the first one
-- that comes from the peer and answers it
abbrev pub port_asks : {P : Type 0} → (P → List ℕ → List ℕ → Sending → P → Type 0) → (P → Receiving → P → Type 0) →
    UdpLink P → List ℕ → Result (List ℕ) Lost → UdpLink P → Type 0
port_asks sends receives old octets answer new =
    Asks sends receives (to_peer old.peer octets) 16 old.port answer new.port × (new.peer ≡ old.peer)

-- the text of what was left was written; or a write was refused; or there was no memory for it
abbrev pub PrintsLeft : {A : Type 0} → Form → List Item → Result A QueryFault → Held → Held → Type 0
PrintsLeft layout left (Ok done) old new = AppendsItems layout left old new
PrintsLeft layout left (Err Write) old new = AppendsItemsPart layout left old new
PrintsLeft layout left (Err Memory) old new = (0 < length left) × Keeps old new
PrintsLeft layout left (Err (Exchange fault)) old new = ⊥

-- ---- a run

-- of a link that is claimed to be ours for no log
abbrev pub never : ℕ → List Moment → History → Type 0
never r M H = ⊥

-- A run of a client from this place on: what it brought, by which transactions, and whether the last reply with records
-- said that more is there, before it and now; and that its items, all of them if it wasn't stopped, cover all between
-- the places, and how many they are; and what it was told last.
abbrev pub IsRunOver : {S : Type 0} → Ask S → Client S → WalkPlace → Course → Client S → Bool → Bool → Type 0
IsRunOver {S = S} asks old before run new was said =
    ((came : List Came)
    × BroughtBy asks (walk_by old.link old.transactions before) run.steps came run.items run.ended
    (walk_by new.link new.transactions run.place)
    × (said ≡ more_after was came))
    × ((covered : List Item) × (run.ended ≢ Stopped → covered ≡ run.items)
    × IsRun (ours_around never never) (losses_of old.transactions.retries 0 0) before run.place run.steps run.ended
    covered
    × (length covered ≤ 101 * run.steps) × (run.ended ≡ StepLimit → run.steps ≤ length covered))
    × Told asks (towards old.transactions.route) old.transactions.retries run.ended run.place new.link

-- What is to be printed at the end of a run: the lines that are left, why it ended and the number that comes next, and
-- the number before those lines.
pub record Closing : Type 0 where
  pub left : List Item
  pub why : Why
  pub next : ℕ
  pub before : ℕ

-- the four together
abbrev pub closing : List Item → Why → ℕ → ℕ → Closing
closing left cause next before = record { left = left; why = cause; next = next; before = before }

-- The lines that were left, and then the end line; or without memory for those lines the end line that says so, with
-- the number before them; or a write of them was refused.
abbrev pub PrintsLast : Form → Closing → Fetching → Held → Held → Type 0
PrintsLast layout end result old new =
    ((mid : Held) × AppendsItems layout end.left old mid × PrintsEnd layout end.why end.next result mid new)
    ⊎ (((mid : Held) × (0 < length end.left) × Keeps old mid × PrintsEnd layout why.Memory end.before result mid new)
    ⊎ ((result ≡ Err Write) × AppendsItemsPart layout end.left old new))

-- The link and the transactions after a run that left the walk here and ended for this. They are as the run left them;
-- but if there was no memory for the lines of a reply, that reply came too, and the one after it, if there was memory
-- for its records: they are at most two steps further than the lines.
abbrev pub IsLeftAhead : {S : Type 0} → (S → List ℕ → Result (List ℕ) Lost → S → Type 0) →
    Transactions → S → WalkPlace → Transactions → S → Why → Type 0
IsLeftAhead asks half mid here last new why.CaughtUp = (new ≡ mid) × (last ≡ half)
IsLeftAhead asks half mid here last new why.StepLimit = (new ≡ mid) × (last ≡ half)
IsLeftAhead asks half mid here last new (why.Fault fault) = (new ≡ mid) × (last ≡ half)
IsLeftAhead asks half mid here last new why.Memory =
    (steps : ℕ) × (came : List Came) × (items : List Item) × (ended : Ended) × (after : WalkPlace) × (steps ≤ 2)
    × BroughtBy asks (walk_by mid half here) steps came items ended (walk_by new last after)

-- What is to be fetched: in which layout, from which place of a log on, and in how many steps at most.
pub record Errand : Type 0 where
  pub layout : Form
  pub walk : WalkPlace
  pub steps : ℕ

-- the three together
abbrev pub errand : Form → WalkPlace → ℕ → Errand
errand layout walk steps = record { layout = layout; walk = walk; steps = steps }

-- Fetching from a place on, over any link, each question asked before the lines of the reply before it are printed:
-- replies came, one after the other, from this link on, each to the next of these transactions; what is printed are the
-- lines of the items that they brought, and the end of their run; and if they say what one log holds, those are the
-- headline's; and it is told whether the last of them with records said that more is there, and yet the walk is caught
-- up.
abbrev pub FetchesAhead : {S : Type 0} → Errand → Ask S → Session S → Fetching → Session S → Type 0
FetchesAhead {S = S} wanted asks old result new =
    (came : List Came) × (items : List Item) × (n : ℕ) × (ended : Ended) × (after : WalkPlace)
    × (half : Transactions) × (mid : S)
    × BroughtBy asks (walk_by old.asker.link old.asker.transactions wanted.walk) n came items ended
    (walk_by mid half after)
    × TellsRun wanted.layout (λ cause. IsLeftAhead asks half mid after new.asker.transactions new.asker.link cause)
    wanted.steps (course items n ended after) result old.printed new.printed
    × IsHeadline wanted.walk came items ended after × TellsMore (said_more came) result

-- The items are those of a run of this walk, at most so many steps, over a link that nobody claims to be ours; the
-- last exchange over the link told why it ended.
abbrev pub PrintsRun : {S : Type 0} → Errand → Ask S → Failures → Session S → Fetching → Session S → Type 0
PrintsRun {S = S} wanted asks failures old result new =
    (items : List Item) × PrintsItems wanted.layout items result old.printed new.printed
    × ((n : ℕ) × (ended : Ended) × (after : WalkPlace)
    × EndsAs wanted.layout wanted.steps (course items n ended after) result old.printed new.printed
    × IsFetched never old.asker.transactions.retries failures wanted.walk (course items n ended after)
    × Told asks (towards old.asker.transactions.route) old.asker.transactions.retries ended after new.asker.link)
