-- What `bac logs` does for logs that are named, as events.
use Rattle.std.proofs.Common.{◌≡◌, ◌≢◌, ◌++◌, ℕ, List, [], ◌∷◌, Option, None, Some, Result, Ok, Err, inl, inr, refl, sym, subst, ap, ◌∙◌, append_assoc, append-nil}
use Rattle.std.specs.Prelude.{decimal}
use Rattle.std.specs.Io.KnownBytes.{Appends}
use Rattle.bac_apdu.specs.Npdu.{Place}
use Rattle.bac_apdu.specs.declared.service.read_property.ReadProperty.{ReadProperty}
use Rattle.bac_socket_notes.specs.Ports.{Event}
use Rattle.bac_laws.proofs.Captured.{goes_on}
use Rattle.bac_laws.proofs.Exchange.{Comes, Runs, exchanged}
use Rattle.bac_laws.specs.Events.{Exchanged}
use Rattle.bac_laws.specs.Listed.{AsksCell, AsksCells, AsksLogs, IsCellOf}
use Rattle.bac_link.specs.Exchanges.{Client, Leaves, next_way}
use Rattle.bac_link.specs.Path.{towards}
use Rattle.bac_link.specs.Requests.{next_invoke, request_octets}
use Rattle.bac_link.specs.declared.exchanges.ExchangeFault.{ExchangeFault}
use Rattle.bac_link.specs.declared.exchanges.ExchangeFault.TheVariants as exchange
use Rattle.bac_link.specs.declared.exchanges.Verdict.{Verdict}
use Rattle.bac_link.specs.declared.request.Request.{Request}
use Rattle.bac_link.specs.declared.request.Request.TheVariants as request
use Rattle.bac_link.specs.declared.transactions.Transactions.{Transactions}
use Rattle.bac_ports.specs.Sockets.{SocketRules, socket_asks}
use Rattle.bac_ports.specs.declared.udp_link.UdpLink.{UdpLink}
use Rattle.bac_print.specs.Output.{Held}
use Rattle.bac_query.specs.Cells.{ShowsCell}
use Rattle.bac_query.specs.Reading.{Session, printing}
use Rattle.bac_query.specs.Tables as table
use Rattle.bac_query.specs.Tables.{Row, client, columns, head_line, property_of}
use Rattle.bac_wire.specs.Primitive.{Id}
use Rattle.bac_command_line.specs.declared.job.Asked.{Asked}

-- ---- a client that asks as the words say

pub record AsSaid {P : Type 0} (asked : Asked) (c : Client (UdpLink P)) : Type 0 where
  pub peer : c.link.peer ≡ asked.address
  pub route : c.transactions.route ≡ asked.route
  pub retries : c.transactions.retries ≡ asked.retries

-- a transaction more
pub left_so : (r : Request) (old : Transactions) (answer : Result (List ℕ) ExchangeFault) (new : Transactions) → Leaves r old answer new
    → (new.route ≡ old.route) × (new.retries ≡ old.retries)
left_so r old (Ok datagram) new is = (ap (λ (t : Transactions). t.route) is, ap (λ (t : Transactions). t.retries) is)
left_so r old (Err exchange.TooLong) new is = (ap (λ (t : Transactions). t.route) is, ap (λ (t : Transactions). t.retries) is)
left_so r old (Err exchange.Lost) new is = (ap (λ (t : Transactions). t.route) is, ap (λ (t : Transactions). t.retries) is)
left_so r old (Err exchange.BadReply) new is = (ap (λ (t : Transactions). t.route) is, ap (λ (t : Transactions). t.retries) is)
left_so r old (Err (exchange.Refused refusal)) new is = (ap (λ (t : Transactions). t.route) is, ap (λ (t : Transactions). t.retries) is)

-- the same request, by the words
pub as_asked : (asked : Asked) (route : Option Place) (peer : List ℕ) (retries invoke : ℕ) (r : Request) (es : List Event) (answer : Option (List ℕ))
    → route ≡ asked.route → peer ≡ asked.address → retries ≡ asked.retries
    → Exchanged (request_octets (towards route) invoke r) peer retries es answer
    → Exchanged (request_octets (towards asked.route) invoke r) asked.address asked.retries es answer
as_asked asked route peer retries invoke r es answer at to again is =
    subst (λ (n : ℕ). Exchanged (request_octets (towards asked.route) invoke r) asked.address n es answer) again
    (subst (λ (p : List ℕ). Exchanged (request_octets (towards asked.route) invoke r) p retries es answer) to
    (subst (λ (w : Option Place). Exchanged (request_octets (towards w) invoke r) peer retries es answer) at is))

module _ {S P : Type 0} (rules : SocketRules S P) where
  abbrev At : Type 0
  At = Client (UdpLink P)

  -- what came to a question, and its cell
  shown : (asked : Asked) (q : ReadProperty) (t : Transactions) (peer : List ℕ) (es : List Event) (answer : Result (List ℕ) ExchangeFault) (cell : List ℕ)
      → t.route ≡ asked.route → peer ≡ asked.address → t.retries ≡ asked.retries
      → Comes rules (next_way t) (request.ReadProperty q) peer es answer → ShowsCell q.property answer cell → AsksCell asked q es cell
  shown asked q t peer es (Ok datagram) cell at to again (shape, verdict) shows = (
    next_invoke t.invoke,
    datagram,
    as_asked asked t.route peer t.retries (next_invoke t.invoke) (request.ReadProperty q) es (Some datagram) at to again shape,
    subst (λ (v : Verdict). IsCellOf q.property datagram v cell) (sym verdict) shows,
  )
  shown asked q t peer es (Err (exchange.Refused refusal)) cell at to again (datagram, shape, verdict) shows = (
    next_invoke t.invoke,
    datagram,
    as_asked asked t.route peer t.retries (next_invoke t.invoke) (request.ReadProperty q) es (Some datagram) at to again shape,
    subst (λ (v : Verdict). IsCellOf q.property datagram v cell) (sym verdict) shows,
  )
  shown asked q t peer es (Err exchange.BadReply) cell at to again (datagram, shape, verdict) shows = (
    next_invoke t.invoke,
    datagram,
    as_asked asked t.route peer t.retries (next_invoke t.invoke) (request.ReadProperty q) es (Some datagram) at to again shape,
    subst (λ (v : Verdict). IsCellOf q.property datagram v cell) (sym verdict) shows,
  )
  shown asked q t peer es (Err exchange.Lost) cell at to again shape shows = absurd shows
  shown asked q t peer es (Err exchange.TooLong) cell at to again shape shows = absurd shows

  -- one cell more
  abbrev Adds : Asked → (List Event → List ℕ → Type 0) → Row (UdpLink P) → Row (UdpLink P) → Type 0
  Adds asked is old new = (es : List Event) × (text : List ℕ) × Runs rules es old.asker.link.port new.asker.link.port
      × AsSaid asked new.asker × (new.printed ≡ old.printed ++ text) × is es text

  pub adds_cell : (asked : Asked) (q : ReadProperty) (old new : Row (UdpLink P)) → AsSaid asked old.asker
      → table.AddsCell (socket_asks rules) q old (Ok tt) new
      → (es : List Event) × (cell : List ℕ) × Runs rules es old.asker.link.port new.asker.link.port
      × AsSaid asked new.asker × (new.printed ≡ old.printed ++ (9 ∷ cell)) × AsksCell asked q es cell
  adds_cell asked q old new so (answer, cell, (exchanges, leaves), shows, printed) =
      let it = exchanged rules (next_way old.asker.transactions) (request.ReadProperty q) old.asker.link answer new.asker.link exchanges in
      let left = left_so (request.ReadProperty q) old.asker.transactions answer new.asker.transactions leaves in (
        it.1,
        cell,
        it.2,
        (record { peer = it.0 ∙ so.peer; route = left.0 ∙ so.route; retries = left.1 ∙ so.retries }),
        printed,
        shown asked q old.asker.transactions old.asker.link.peer it.1 answer cell so.route so.peer so.retries it.3 shows,
      )

  pub adds_cells : (asked : Asked) (log : Id) (properties : List ℕ) (old new : Row (UdpLink P)) → AsSaid asked old.asker
      → table.AddsCells (socket_asks rules) log properties old (Ok tt) new → Adds asked (AsksCells asked log properties) old new
  adds_cells asked log [] old new so (is, printed, same) = (
    [],
    [],
    ap (λ (c : At). c.link.port) same,
    subst (λ (c : At). AsSaid asked c) (sym same) so,
    printed ∙ sym (append-nil old.printed),
    (refl, refl),
  )
  adds_cells asked log (property ∷ properties) old new so (inl (mid, between, first, rest)) =
      let one = adds_cell asked (property_of log property) old (printing mid between) so first in
      let more = adds_cells asked log properties (printing mid between) new one.3 rest in (
        one.0 ++ more.0,
        (9 ∷ one.1) ++ more.1,
        goes_on rules.sends rules.receives rules.receives_within one.0 more.0 old.asker.link.port mid.link.port new.asker.link.port one.2 more.2,
        more.3,
        more.4 ∙ ap (λ (l : List ℕ). l ++ more.1) one.4 ∙ append_assoc old.printed (9 ∷ one.1) more.1,
        (one.0, more.0, one.1, more.1, refl, refl, one.5, more.5),
      )
  adds_cells asked log (property ∷ properties) old new so (inr (why, is, first)) = absurd (let e : Ok tt ≡ Err why = is in cc)

  -- a log's line
  pub prints_row : (asked : Asked) (log : Id) (old new : Session (UdpLink P)) → AsSaid asked old.asker
      → table.PrintsRow (socket_asks rules) log old (Ok tt) new
      → (es : List Event) × (cells : List ℕ) × Runs rules es old.asker.link.port new.asker.link.port × AsSaid asked new.asker
      × Appends old.printed new.printed ((decimal log.instance ++ cells) ++ 10 ∷ []) × AsksCells asked log columns es cells
  prints_row asked log old new so (inl (line, (cells, adds, ends), appends)) =
      let it = adds_cells asked log columns (printing old.asker (decimal log.instance)) (printing new.asker cells) so adds in (
        it.0,
        it.1,
        it.2,
        it.3,
        subst (λ (l : List ℕ). Appends old.printed new.printed l) (ends ∙ ap (λ (l : List ℕ). l ++ 10 ∷ []) it.4) appends,
        it.5,
      )
  prints_row asked log old new so (inr (why, line, is, adds, same)) = absurd (let e : Ok tt ≡ Err why = is in cc)

  pub appends_on : (old mid new : Held) (first rest : List ℕ) → Appends old mid first → Appends mid new rest → Appends old new (first ++ rest)
  appends_on None mid new first rest is more = tt
  appends_on (Some xs) None new first rest is more = absurd is
  appends_on (Some xs) (Some ys) None first rest is more = absurd more
  appends_on (Some xs) (Some ys) (Some zs) first rest is more =
      more ∙ ap (λ (l : List ℕ). l ++ rest) is ∙ append_assoc xs first rest

  pub appends_none : (old new : Held) → new ≡ old → Appends old new []
  appends_none None new is = tt
  appends_none (Some held) None is = absurd (let e : None ≡ Some held = is in cc)
  appends_none (Some held) (Some now) is = (let e : Some now ≡ Some held = is in let f : now ≡ held = cc in f) ∙ sym (append-nil held)

  -- the lines of logs
  abbrev Lines : Asked → List Id → Session (UdpLink P) → Session (UdpLink P) → Type 0
  Lines asked logs old new = (es : List Event) × (text : List ℕ) × Runs rules es old.asker.link.port new.asker.link.port
      × Appends old.printed new.printed text × AsksLogs asked logs es text

  prints_rows : (asked : Asked) (logs : List Id) (old new : Session (UdpLink P)) → AsSaid asked old.asker
      → table.PrintsRows (socket_asks rules) logs old (Ok tt) new → Lines asked logs old new
  prints_rows asked [] old new so (is, same, printed) =
      ([], [], ap (λ (c : At). c.link.port) same, appends_none old.printed new.printed printed, (refl, refl))
  prints_rows asked (log ∷ logs) old new so (inl (mid, held, first, rest)) =
      let one = prints_row asked log old (printing mid held) so first in
      let more = prints_rows asked logs (printing mid held) new one.3 rest in (
        one.0 ++ more.0,
        ((decimal log.instance ++ one.1) ++ 10 ∷ []) ++ more.1,
        goes_on rules.sends rules.receives rules.receives_within one.0 more.0 old.asker.link.port mid.link.port new.asker.link.port one.2 more.2,
        appends_on old.printed held new.printed ((decimal log.instance ++ one.1) ++ 10 ∷ []) more.1 one.4 more.3,
        (one.0, more.0, one.1, more.1, refl, refl, one.5, more.4),
      )
  prints_rows asked (log ∷ logs) old new so (inr (why, is, first)) = absurd (let e : Ok tt ≡ Err why = is in cc)

  pub lists : (asked : Asked) (logs : List Id) → logs ≢ [] → (old new : Session (UdpLink P)) → AsSaid asked old.asker
      → table.ListsLogs (socket_asks rules) logs old (Ok tt) new
      → (es : List Event) × (text : List ℕ) × Runs rules es old.asker.link.port new.asker.link.port
      × Appends old.printed new.printed (head_line ++ text) × AsksLogs asked logs es text
  lists asked [] named old new so is = absurd (named refl)
  lists asked (log ∷ logs) named old new so (inl (held, head, rows)) =
      let it = prints_rows asked (log ∷ logs) (printing old.asker held) new so rows in
      (it.0, it.1, it.2, appends_on old.printed held new.printed head_line it.1 head it.3, it.4)
  lists asked (log ∷ logs) named old new so (inr (why, is, head, same)) = absurd (let e : Ok tt ≡ Err why = is in cc)
