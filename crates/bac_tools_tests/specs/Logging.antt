-- What `bac log` prints.
use Rattle.std.specs.Prelude.{◌≡◌, ℕ, ◌+◌, ◌-◌, ◌<◌, ◌≤◌, List, [], ◌∷◌, ◌++◌, max}
use Rattle.std.specs.Io.KnownBytes.{Appends}
use Rattle.bac_link.specs.Delivery.{History, Moment, Brings}
use Rattle.bac_link.specs.Path.{towards}
use Rattle.bac_link.specs.declared.item.Item.{Item}
use Rattle.bac_link.specs.declared.transactions.Transactions.{Transactions}
use Rattle.bac_log.specs.TrendLog.{sequence_number}
use Rattle.bac_ports.specs.declared.udp_link.UdpLink.{UdpLink}
use Rattle.bac_print.specs.Output.{AppendsPart, Held}
use Rattle.bac_query.specs.Fetching.{Course, IsHeadline, course}
use Rattle.bac_query.specs.Finding.{Console}
use Rattle.bac_query.specs.Ends.{end_line}
use Rattle.bac_query.specs.Items.{items_text}
use Rattle.bac_ports.specs.Sockets.{SocketRules, link_over, socket_asks}
use Rattle.bac_tools.specs.Sockets.{transactions_with}
use Rattle.bac_tools.specs.Texts.{told_text}
use Rattle.bac_tools.specs.declared.fault.Fault.TheVariants.{Flawed}
use Rattle.bac_walk.specs.Came.{AreSaidAt, Brought, Came, walk_over, reaching}
use Rattle.bac_walk.specs.Transacted.{BroughtBy, walk_by}
use Rattle.bac_walk.specs.Delivers.{NoneFrom}
use Rattle.bac_walk.specs.Flaws.{ToldFlaw}
use Rattle.bac_link.specs.Moments.{IsInWindow}
use Rattle.bac_walk.specs.Place.{WalkPlace}
use Rattle.bac_walk.specs.declared.flaw.ReplyFlaw.{ReplyFlaw}
use Rattle.bac_walk.specs.declared.outcome.Ended.{Ended}
use Rattle.bac_walk.specs.declared.outcome.Why.{Why}
use Rattle.bac_walk.specs.declared.outcome.Why.TheVariants.{CaughtUp}
use Rattle.bac_command_line.specs.declared.job.Asked.{Asked}

-- over this socket replies came, one after the other, to this run of a walk
abbrev pub CameOver : {S P : Type 0} → SocketRules S P → Asked → WalkPlace → P → List Came → Course → Type 0
CameOver {P = P} rules asked walk port came run =
    (mid : UdpLink P)
    × Brought (reaching (socket_asks rules) (towards asked.route) asked.retries)
    (walk_over (link_over asked.address port) walk) run.steps came run.items run.ended (walk_over mid run.place)

-- the same, each to the next transaction, of which the first has the invoke ID 1; and nothing more was done with it,
-- which leaves it so
abbrev pub CameAlone : {S P : Type 0} → SocketRules S P → Asked → WalkPlace → P → P → List Came → Course → Type 0
CameAlone {P = P} rules asked walk port last came run =
    (left : UdpLink P) × (end : Transactions)
    × BroughtBy (socket_asks rules) (walk_by (link_over asked.address port) (transactions_with asked) walk) run.steps
    came run.items run.ended (walk_by left end run.place) × (last ≡ left.port)

-- ---- when all is well

-- Replies came over this socket, one after the other, and nothing more was done with it. The lines of the items that
-- they brought are written, and the line of the walk's end; and if the replies say what one log holds, the items are
-- what it held.
abbrev pub IsLogged : {S P : Type 0} → SocketRules S P → Asked → WalkPlace → Console P → Console P → Type 0
IsLogged rules asked walk old new =
    (came : List Came) × (items : List Item) × (n : ℕ) × (ended : Ended) × (after : WalkPlace)
    × CameAlone rules asked walk old.port new.port came (course items n ended after)
    × ((why : Why) × (next : ℕ) × Appends old.held new.held (items_text items ++ end_line why next))
    × IsHeadline walk came items ended after

-- ---- at rest

-- A log's lines from ordinal s on are printed, up to the last that it holds: each once, with its number, after one gap
-- if some are gone; and the line that says that there are no more.
abbrev pub PrintsAll : History → Moment → ℕ → Held → Held → Type 0
PrintsAll H m s old new =
    (items : List Item) × (t : ℕ) × Brings H m s items t × NoneFrom t m
    × Appends old new (items_text items ++ end_line CaughtUp (sequence_number t))

-- Replies came over this socket, and nothing more was done with it. If they say what a log holds that doesn't change,
-- and there were more steps than it has lines from the walk's number on, all of them are printed.
abbrev pub IsLoggedAtRest : {S P : Type 0} → SocketRules S P → Asked → WalkPlace → ℕ → Console P → Console P → Type 0
IsLoggedAtRest rules asked walk steps old new =
    (came : List Came) × (items : List Item) × (n : ℕ) × (ended : Ended) × (after : WalkPlace)
    × CameAlone rules asked walk old.port new.port came (course items n ended after)
    × ((H : History) (m : Moment) (low s : ℕ) → AreSaidAt H (m ∷ []) came → walk.next ≡ sequence_number s →
    IsInWindow low m → low ≤ s → s < low + 2147483648 → ((m.newest + 1) - max s m.oldest) + 1 < steps →
    PrintsAll H m s old.held new.held)

-- ---- when a reply is bad

-- The question of a walk of this log was asked last before the socket was left so, and brought a reply with which this
-- is wrong. It is told, or a front part of it is written.
abbrev pub IsExplained : {S P : Type 0} → SocketRules S P → Asked → WalkPlace → P → Held → Held → Type 0
IsExplained {P = P} rules asked walk last old new =
    (left : UdpLink P) × (here : WalkPlace) × (flaw : ReplyFlaw) × (last ≡ left.port) × (here.log ≡ walk.log)
    × ToldFlaw (socket_asks rules) (towards asked.route) asked.retries here flaw left
    × AppendsPart old new (told_text (Flawed flaw))

-- ---- whatever the output refuses

-- What the output holds now ends in a front part of what the replies brought that came over this socket: nothing of it
-- is left out, and nothing else stands behind it.
abbrev pub IsCut : {S P : Type 0} → SocketRules S P → Asked → WalkPlace → P → Held → Held → Type 0
IsCut rules asked walk port old new =
    (came : List Came) × (items : List Item) × (n : ℕ) × (ended : Ended) × (after : WalkPlace)
    × CameOver rules asked walk port came (course items n ended after)
    × ((why : Why) × (next : ℕ) × AppendsPart old new (items_text items ++ end_line why next))
