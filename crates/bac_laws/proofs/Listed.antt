-- What `bac logs` does up to where its table ends.
use Rattle.std.proofs.Common.{◌≡◌, ◌≢◌, ◌⊎◌, ◌++◌, ℕ, List, [], ◌∷◌, map, None, Ok, Err, inl, inr, refl, sym, subst, ap, ◌∙◌, append_assoc, append-nil, Option, Some, Result}
use Rattle.std.specs.Prelude.{Bool, decimal}
use Rattle.std.specs.Io.KnownBytes.{Appends, Keeps}
use Rattle.bac_socket_notes.specs.Ports.{Event}
use Rattle.bac_socket_notes.specs.declared.notes.Passed.{Passed}
use Rattle.bac_laws.proofs.Captured.{captured_over, captured_unopened, goes_on, nothing_captured}
use Rattle.bac_laws.proofs.Exchange.{Comes, Runs, exchanged}
use Rattle.bac_laws.proofs.Lists.{AsSaid, adds_cell, appends_none, appends_on, as_asked, lists, prints_row, adds_cells}
use Rattle.bac_laws.proofs.Statuses.{Ended, done_so, ended, unasked_one, unasked_two}
use Rattle.bac_laws.proofs.Written.{longer}
use Rattle.bac_laws.specs.Asked.{IsUnasked}
use Rattle.bac_laws.specs.Events.{Exchanged, IsCaptured}
use Rattle.bac_laws.specs.Listed.{AsksCells, AsksLogs, AsksNext, AsksSome, EndsTable, ListsWhatCame, StopsAt, StopsNext}
use Rattle.bac_link.specs.Exchanges.{Client, next_way}
use Rattle.bac_link.specs.Path.{towards}
use Rattle.bac_link.specs.Requests.{next_invoke, request_octets}
use Rattle.bac_link.specs.declared.exchanges.ExchangeFault.TheVariants as exchange
use Rattle.bac_link.specs.declared.exchanges.ExchangeFault.{ExchangeFault}
use Rattle.bac_link.specs.declared.request.Request.TheVariants as request
use Rattle.bac_link.specs.declared.transactions.Transactions.{Transactions}
use Rattle.bac_ports.specs.Sockets.{SocketRules, link_over, own_address, socket_asks}
use Rattle.bac_ports.specs.declared.udp_link.UdpLink.{UdpLink}
use Rattle.bac_print.specs.Output.{Held, AppendsPart}
use Rattle.bac_query.specs.Reading.{Answer, Prints, Session, printing}
use Rattle.bac_query.specs.Tables as table
use Rattle.bac_query.specs.Tables.{Row, client, columns, head_line, property_of}
use Rattle.bac_query.specs.declared.fault.QueryFault.TheVariants.{Exchange, Write, Memory}
use Rattle.bac_query.specs.declared.fault.QueryFault.{QueryFault}
use Rattle.bac_tools.specs.Asking.{of_answer}
use Rattle.bac_tools.specs.Ending.{Ending}
use Rattle.bac_tools.specs.Faults.{of_query}
use Rattle.bac_tools.specs.Run.{Ends, ListsAsSaid, trend_log, IsNoLogs}
use Rattle.bac_tools.specs.Sockets.{Outside, transactions_with}
use Rattle.bac_tools.specs.Status.{exit_status}
use Rattle.bac_tools.specs.declared.fault.Fault.TheVariants as fault
use Rattle.bac_tools.specs.declared.fault.Fault.{Fault}
use Rattle.bac_wire.specs.Primitive.{Id}
use Rattle.bac_command_line.specs.declared.job.Asked.{Asked}
use Rattle.bac_command_line.specs.declared.job.LogListing.{LogListing}

-- ---- why it ends

-- a fault of a line says this where no answer came, and else that; no line ends with a refusal, a bad reply or a refused
-- write
abbrev Stops : Type 0 → Type 0 → QueryFault → Type 0
Stops silent some (Exchange exchange.Lost) = silent
Stops silent some (Exchange exchange.TooLong) = some
Stops silent some (Exchange (exchange.Refused refusal)) = ⊥
Stops silent some (Exchange exchange.BadReply) = ⊥
Stops silent some Memory = some
Stops silent some Write = ⊥

stops_so : (a b c d : Type 0) (why : QueryFault) → (a → b) → (c → d) → Stops a c why → Stops b d why
stops_so a b c d (Exchange exchange.Lost) so some is = so is
stops_so a b c d (Exchange exchange.TooLong) so some is = some is
stops_so a b c d (Exchange (exchange.Refused refusal)) so some is = absurd is
stops_so a b c d (Exchange exchange.BadReply) so some is = absurd is
stops_so a b c d Memory so some is = some is
stops_so a b c d Write so some is = absurd is

-- all cells are some
all_some : (asked : Asked) (log : Id) (properties : List ℕ) (es : List Event) (text : List ℕ) → AsksCells asked log properties es text
    → AsksSome asked log properties es
all_some asked log [] es text (none, is) = none
all_some asked log (property ∷ properties) es text (first, rest, cell, more, shape, is, one, asks) =
    inr (inr (first, rest, cell, shape, one, all_some asked log properties rest more asks))

part_on : {S P : Type 0} (rules : SocketRules S P) (old mid new : Held) (first rest : List ℕ) → Appends old mid first → AppendsPart mid new rest → AppendsPart old new (first ++ rest)
part_on rules old mid new first rest is (written, more, shape, appends) = (
  first ++ written,
  more,
  ap (λ (l : List ℕ). first ++ l) shape ∙ sym (append_assoc first written more),
  appends_on rules old mid new first written is appends,
)

module _ {S P : Type 0} (rules : SocketRules S P) where
  abbrev At : Type 0
  At = Client (UdpLink P)

  -- whatever came to a question
  some_came : (asked : Asked) (log : Id) (property : ℕ) (properties : List ℕ) (old : At) → AsSaid asked old → (es : List Event)
      (answer : Result (List ℕ) ExchangeFault)
      → Comes rules (next_way old.transactions) (request.ReadProperty (property_of log property)) old.link.peer es answer
      → AsksSome asked log (property ∷ properties) es
  some_came asked log property properties old so es answer comes = go answer comes
    where
      t : Transactions
      t = old.transactions

      by : (got : Option (List ℕ))
          → Exchanged (request_octets (towards t.route) (next_invoke t.invoke) (request.ReadProperty (property_of log property))) old.link.peer t.retries es got
          → AsksSome asked log (property ∷ properties) es
      by got is = inr (inl (
        next_invoke t.invoke,
        got,
        as_asked asked t.route old.link.peer t.retries (next_invoke t.invoke) (request.ReadProperty (property_of log property)) es got so.route so.peer so.retries
            is,
      ))

      go : (a : Result (List ℕ) ExchangeFault)
          → Comes rules (next_way old.transactions) (request.ReadProperty (property_of log property)) old.link.peer es a → AsksSome asked log (property ∷ properties) es
      go (Ok datagram) (shape, verdict) = by (Some datagram) shape
      go (Err (exchange.Refused refusal)) (datagram, shape, verdict) = by (Some datagram) shape
      go (Err exchange.BadReply) (datagram, shape, verdict) = by (Some datagram) shape
      go (Err exchange.Lost) shape = by None shape
      go (Err exchange.TooLong) none = inl none

  fails_cell : (asked : Asked) (log : Id) (property : ℕ) (properties : List ℕ) (why : QueryFault) (old new : At) → AsSaid asked old
      → table.FailsCell (socket_asks rules) (property_of log property) why old new
      → (es : List Event) × Runs rules es old.link.port new.link.port × Stops (StopsAt asked log (property ∷ properties) es) (AsksSome asked log (property ∷ properties) es) why
  fails_cell asked log property properties (Exchange exchange.Lost) old new so ((exchanges, leaves), silent) =
      let r = request.ReadProperty (property_of log property) in
      let it = exchanged rules (next_way old.transactions) r old.link (Err exchange.Lost) new.link exchanges in (
        it.1,
        it.2,
        inl (
          next_invoke old.transactions.invoke,
          as_asked asked old.transactions.route old.link.peer old.transactions.retries (next_invoke old.transactions.invoke) r it.1 None so.route so.peer
              so.retries it.3,
        ),
      )
  fails_cell asked log property properties (Exchange exchange.TooLong) old new so ((exchanges, leaves), silent) =
      let it = exchanged rules (next_way old.transactions) (request.ReadProperty (property_of log property)) old.link (Err exchange.TooLong) new.link exchanges in
      (it.1, it.2, inl it.3)
  fails_cell asked log property properties (Exchange (exchange.Refused refusal)) old new so (asks, silent) = absurd silent
  fails_cell asked log property properties (Exchange exchange.BadReply) old new so (asks, silent) = absurd silent
  fails_cell asked log property properties Memory old new so (answer, (exchanges, leaves)) =
      let it = exchanged rules (next_way old.transactions) (request.ReadProperty (property_of log property)) old.link answer new.link exchanges in
      (it.1, it.2, some_came asked log property properties old so it.1 answer it.3)
  fails_cell asked log property properties Write old new so is = absurd is

  fails_cells : (asked : Asked) (log : Id) (properties : List ℕ) (why : QueryFault) (old new : Row (UdpLink P)) → AsSaid asked old.asker
      → table.AddsCells (socket_asks rules) log properties old (Err why) new
      → (es : List Event) × Runs rules es old.asker.link.port new.asker.link.port × Stops (StopsAt asked log properties es) (AsksSome asked log properties es) why
  fails_cells asked log [] why old new so (is, printed, same) = absurd (let e : Err why ≡ Ok tt = is in cc)
  fails_cells asked log (property ∷ properties) why old new so (inl (mid, between, first, rest)) =
      let one = adds_cell rules asked (property_of log property) old (printing mid between) so first in
      let more = fails_cells asked log properties why (printing mid between) new one.3 rest in (
        one.0 ++ more.0,
        goes_on rules.sends rules.receives rules.receives_within one.0 more.0 old.asker.link.port mid.link.port new.asker.link.port one.2 more.1,
        stops_so (StopsAt asked log properties more.0) (StopsAt asked log (property ∷ properties) (one.0 ++ more.0)) (AsksSome asked log properties more.0)
            (AsksSome asked log (property ∷ properties) (one.0 ++ more.0)) why (λ stops. inr (one.0, more.0, one.1, refl, one.5, stops))
            (λ asks. inr (inr (one.0, more.0, one.1, refl, one.5, asks))) more.2,
      )
  fails_cells asked log (property ∷ properties) why old new so (inr (other, is, fails)) =
      let same : other ≡ why = (let e : Err why ≡ Err other = is in let f : why ≡ other = cc in sym f) in
      fails_cell asked log property properties why old.asker new.asker so
      (subst (λ (f : QueryFault). table.FailsCell (socket_asks rules) (property_of log property) f old.asker new.asker) same fails)

  fails_line : (asked : Asked) (log : Id) (why : QueryFault) (old new : Row (UdpLink P)) → AsSaid asked old.asker
      → table.AddsRow (socket_asks rules) log old (Err why) new
      → (es : List Event) × Runs rules es old.asker.link.port new.asker.link.port × Stops (StopsAt asked log columns es) (AsksSome asked log columns es) why
  fails_line asked log why old new so (inl (cells, adds)) =
      fails_cells asked log columns why (printing old.asker (old.printed ++ decimal log.instance)) (printing new.asker cells) so adds
  fails_line asked log why old new so (inr (is, inl same)) = (
    [],
    ap (λ (c : At). c.link.port) same,
    subst (λ (f : QueryFault). Stops (StopsAt asked log columns []) (AsksSome asked log columns []) f) (sym is) (inl refl),
  )
  fails_line asked log why old new so (inr (is, inr (cells, adds))) =
      let it = adds_cells rules asked log columns (printing old.asker (old.printed ++ decimal log.instance)) (printing new.asker cells) so adds in (
        it.0,
        it.2,
        subst (λ (f : QueryFault). Stops (StopsAt asked log columns it.0) (AsksSome asked log columns it.0) f) (sym is) (all_some asked log columns it.0 it.1 it.5),
      )

  -- the lines of the first of these logs, and why there are no more
  abbrev Fails : Asked → List Id → QueryFault → Held → Held → List Event → Type 0
  Fails asked logs why old new es = (done : List Id) × (more : List Id) × (logs ≡ done ++ more) × (first : List Event) × (last : List Event)
      × (es ≡ first ++ last) × (text : List ℕ) × AsksLogs asked done first text
      × ((AppendsPart old new text × (why ≡ Write) × (last ≡ [])) ⊎ (Appends old new text × Stops (StopsNext asked more last) (AsksNext asked more last) why))

  refused : (asked : Asked) (log : Id) (logs : List Id) (why : QueryFault) (old new : Session (UdpLink P)) (line : List ℕ) → AsSaid asked old.asker
      → table.AddsRow (socket_asks rules) log (printing old.asker []) (Ok tt) (printing new.asker line)
      → AppendsPart old.printed new.printed line → why ≡ Write
      → (es : List Event) × Runs rules es old.asker.link.port new.asker.link.port × Fails asked (log ∷ logs) why old.printed new.printed es
  refused asked log logs why old new line so (cells, adds, ends) part is =
      let it = adds_cells rules asked log columns (printing old.asker (decimal log.instance)) (printing new.asker cells) so adds in
      let shape : line ≡ (decimal log.instance ++ it.1) ++ 10 ∷ [] = ends ∙ ap (λ (l : List ℕ). l ++ 10 ∷ []) it.4 in (
        it.0,
        it.2,
        (
          log ∷ [],
          logs,
          refl,
          it.0,
          [],
          sym (append-nil it.0),
          ((decimal log.instance ++ it.1) ++ 10 ∷ []) ++ [],
          (it.0, [], it.1, [], sym (append-nil it.0), refl, it.5, (refl, refl)),
          inl (longer old.printed new.printed ((decimal log.instance ++ it.1) ++ 10 ∷ []) [] (subst (AppendsPart old.printed new.printed) shape part), is, refl),
        ),
      )

  unprinted : (asked : Asked) (log : Id) (logs : List Id) (why : QueryFault) (old new : Session (UdpLink P)) (line : List ℕ) → AsSaid asked old.asker
      → table.AddsRow (socket_asks rules) log (printing old.asker []) (Ok tt) (printing new.asker line)
      → Prints line (Err why) old.printed new.printed
      → (es : List Event) × Runs rules es old.asker.link.port new.asker.link.port × Fails asked (log ∷ logs) why old.printed new.printed es
  unprinted asked log logs Write old new line so adds part = refused asked log logs Write old new line so adds part refl
  unprinted asked log logs Memory old new line so adds is = absurd is
  unprinted asked log logs (Exchange f) old new line so adds is = absurd is

  fails_rows : (asked : Asked) (logs : List Id) (why : QueryFault) (old new : Session (UdpLink P)) → AsSaid asked old.asker
      → table.PrintsRows (socket_asks rules) logs old (Err why) new
      → (es : List Event) × Runs rules es old.asker.link.port new.asker.link.port × Fails asked logs why old.printed new.printed es
  fails_rows asked [] why old new so (is, same, printed) = absurd (let e : Err why ≡ Ok tt = is in cc)
  fails_rows asked (log ∷ logs) why old new so (inl (mid, held, first, rest)) =
      let one = prints_row rules asked log old (printing mid held) so first in
      let (es, runs, (done, more, are, front, last, shape, text, asks, ends)) = fails_rows asked logs why (printing mid held) new one.3 rest in
      let line = (decimal log.instance ++ one.1) ++ 10 ∷ [] in (
        one.0 ++ es,
        goes_on rules.sends rules.receives rules.receives_within one.0 es old.asker.link.port mid.link.port new.asker.link.port one.2 runs,
        (
          log ∷ done,
          more,
          ap (λ (l : List Id). log ∷ l) are,
          one.0 ++ front,
          last,
          ap (λ (l : List Event). one.0 ++ l) shape ∙ sym (append_assoc one.0 front last),
          line ++ text,
          (one.0, front, one.1, text, refl, refl, one.5, asks),
          elim ends [
            | inl part ↦ inl (part_on rules old.printed held new.printed line text one.4 part.0, part.1, part.2)
            | inr whole ↦ inr (appends_on rules old.printed held new.printed line text one.4 whole.0, whole.1)
          ],
        ),
      )
  fails_rows asked (log ∷ logs) why old new so (inr (other, is, inl (line, adds, prints))) =
      let same : other ≡ why = (let e : Err why ≡ Err other = is in let f : why ≡ other = cc in sym f) in
      unprinted asked log logs why old new line so adds (subst (λ (f : QueryFault). Prints line (Err f) old.printed new.printed) same prints)
  fails_rows asked (log ∷ logs) why old new so (inr (other, is, inr (fault', line, at, adds, same))) =
      let this : fault' ≡ why = (let e : Err why ≡ Err other = is in let f : why ≡ other = cc in let d : Err other ≡ Err fault' = at in let h : other ≡ fault' = cc in sym (f ∙ h)) in
      let it = fails_line asked log why (printing old.asker []) (printing new.asker line) so
      (subst (λ (f : QueryFault). table.AddsRow (socket_asks rules) log (printing old.asker []) (Err f) (printing new.asker line)) this adds) in (
        it.0,
        it.1,
        (
          [],
          log ∷ logs,
          refl,
          [],
          it.0,
          refl,
          [],
          (refl, refl),
          inr (appends_none rules old.printed new.printed same, it.2),
        ),
      )

-- ---- the tool

no_map : (instances : List ℕ) → instances ≢ [] → map trend_log instances ≢ []
no_map [] some is = some refl
no_map (x ∷ xs) some is = absurd (let e : trend_log x ∷ map trend_log xs ≡ [] = is in cc)

two_five : (status : ℕ) → Ended 2 status → (status ≡ 2) ⊎ (status ≡ 5)
two_five status (inl is) = inl is
two_five status (inr (more, is)) = inr is

one_five : (status : ℕ) → Ended 1 status → (status ≡ 5) ⊎ (status ≡ 1)
one_five status (inl is) = inr is
one_five status (inr (more, is)) = inl is

five : (status : ℕ) → Ended 5 status → (status ≡ 5) ⊎ (status ≡ 1)
five status (inl is) = inl is
five status (inr (more, is)) = inl is

-- the end of a table by its fault and its status
by_fault : (asked : Asked) (address : List ℕ) (more : List Id) (last : List Event) (text : List ℕ) (before after : Held) (status : ℕ) (why : QueryFault)
    → Ended (exit_status (of_query address why)) status
    → (AppendsPart before after text × (why ≡ Write) × (last ≡ [])) ⊎ (Appends before after text × Stops (StopsNext asked more last) (AsksNext asked more last) why)
    → EndsTable asked more last text before after status
by_fault asked address more last text before after status why so (inl (part, is, none)) =
    inr (inl (part, two_five status (subst (λ (f : QueryFault). Ended (exit_status (of_query address f)) status) is so), none))
by_fault asked address more last text before after status (Exchange exchange.Lost) so (inr (whole, stops)) = inr (inr (inl (whole, two_five status so, stops)))
by_fault asked address more last text before after status (Exchange exchange.TooLong) so (inr (whole, stops)) = inr (inr (inr (whole, one_five status so, stops)))
by_fault asked address more last text before after status (Exchange (exchange.Refused refusal)) so (inr (whole, stops)) = absurd stops
by_fault asked address more last text before after status (Exchange exchange.BadReply) so (inr (whole, stops)) = absurd stops
by_fault asked address more last text before after status Memory so (inr (whole, stops)) = inr (inr (inr (whole, five status so, stops)))
by_fault asked address more last text before after status Write so (inr (whole, stops)) = absurd stops

head_refused : (why : QueryFault) (before after : Held) → Prints head_line (Err why) before after → AppendsPart before after head_line × (why ≡ Write)
head_refused Write before after part = (part, refl)
head_refused Memory before after is = absurd is
head_refused (Exchange f) before after is = absurd is

module _ {S P : Type 0} (rules : SocketRules S P) where
  -- a table, with its head
  abbrev Table : LogListing → UdpLink P → Transactions → UdpLink P → Transactions → Answer → Held → Held → Type 0
  Table said first t left u answer before after = table.ListsLogs (socket_asks rules) (map trend_log said.instances)
      (printing (client first t) before) answer (printing (client left u) after)

  abbrev Shown : LogListing → UdpLink P → UdpLink P → Held → Held → ℕ → Type 0
  Shown said first left before after status = (es : List Event) × Runs rules es first.port left.port × ListsWhatCame said es before after status

  headed : (said : LogListing) (why : QueryFault) (first left : UdpLink P) (t u : Transactions) (before mid after : Held) (status : ℕ) (logs : List Id)
      → map trend_log said.instances ≡ logs → logs ≢ [] → AsSaid said.asked (client first t) → Appends before mid head_line
      → table.PrintsLogs (socket_asks rules) logs (printing (client first t) mid) (Err why) (printing (client left u) after)
      → Ended (exit_status (of_query said.asked.address why)) status → Shown said first left before after status
  headed said why first left t u before mid after status [] are some so head is ends = absurd (some refl)
  headed said why first left t u before mid after status (log ∷ logs) are some so head is ends =
      let (es, runs, (done, more, all, front, last, shape, text, asks, how)) = fails_rows rules said.asked (log ∷ logs) why
      (printing (client first t) mid) (printing (client left u) after) so is in (
        es,
        runs,
        inr (
          done,
          more,
          are ∙ all,
          front,
          last,
          shape,
          text,
          asks,
          by_fault said.asked said.asked.address more last (head_line ++ text) before after status why ends (elim how [
            | inl part ↦ inl (part_on rules before mid after head_line text head part.0, part.1, part.2)
            | inr whole ↦ inr (appends_on rules before mid after head_line text head whole.0, whole.1)
          ]),
        ),
      )

  shown : (said : LogListing) → said.instances ≢ [] → (passed : Passed) (first left : UdpLink P) (t u : Transactions) (answer : Answer)
      (before after : Held) (result : Ending) (told now : Held) (status : ℕ) → AsSaid said.asked (client first t)
      → Table said first t left u answer before after → result ≡ of_answer said.asked.address answer → Ends passed result told now status
      → Shown said first left before after status
  shown said named passed first left t u (Ok done) before after result told now status so is how ends =
      let it = lists rules said.asked (map trend_log said.instances) (no_map said.instances named) (printing (client first t) before)
      (printing (client left u) after) so is in (
        it.0,
        it.2,
        inr (
          map trend_log said.instances,
          [],
          sym (append-nil _),
          it.0,
          [],
          sym (append-nil it.0),
          it.1,
          it.4,
          inl (it.3, done_so passed result told now status how ends, refl, refl),
        ),
      )
  shown said named passed first left t u (Err why) before after result told now status so (inl (mid, head, is)) how ends =
      headed said why first left t u before mid after status (map trend_log said.instances) refl (no_map said.instances named) so head is
      (ended passed result (of_query said.asked.address why) told now status how ends)
  shown said named passed first left t u (Err why) before after result told now status so (inr (other, is, head, same)) how ends =
      let this : other ≡ why = (let e : Err why ≡ Err other = is in let f : why ≡ other = cc in sym f) in
      let it = head_refused other before after head in (
        [],
        ap (λ (c : Client (UdpLink P)). c.link.port) same,
        inr (
          [],
          map trend_log said.instances,
          refl,
          [],
          [],
          refl,
          [],
          (refl, refl),
          by_fault said.asked said.asked.address (map trend_log said.instances) [] (head_line ++ []) before after status why
              (ended passed result (of_query said.asked.address why) told now status how ends)
              (inl (longer before after head_line [] it.0, sym this ∙ it.1, refl)),
        ),
      )

no_logs : (instances : List ℕ) (why : Fault) (status : ℕ) → IsNoLogs instances why → Ended (exit_status why) status → IsUnasked status
no_logs instances why status (inl (is, outside)) so = unasked_one status (subst (λ (f : Fault). Ended (exit_status f) status) is so)
no_logs instances why status (inr is) so = unasked_five status (subst (λ (f : Fault). Ended (exit_status f) status) is so)
  where
    unasked_five : (n : ℕ) → Ended 5 n → IsUnasked n
    unasked_five n (inl five') = inr (inr five')
    unasked_five n (inr (more, five')) = inr (inr five')

module _ {S P : Type 0} (rules : SocketRules S P) (traces : S → Bool → S → Type 0) where
  abbrev pub Listed : LogListing → S → S → Held → Held → ℕ → Type 0
  Listed said old new before after status = (es : List Event) × IsCaptured rules traces old new es × ListsWhatCame said es before after status

  pub logs_nothing : (said : LogListing) (old new : S) (before after : Held) (status : ℕ) → new ≡ old → Keeps before after → IsUnasked status
      → Listed said old new before after status
  logs_nothing said old new before after status same keeps why = ([], nothing_captured rules traces old new same, inl (refl, keeps, why))

  pub logs : (said : LogListing) → said.instances ≢ [] → (passed : Passed) (old : Outside S) (result : Ending) (new : Outside S) (told now : Held) (status : ℕ)
      → ListsAsSaid rules said old result new → Ends passed result told now status → Listed said old.sockets new.sockets old.output new.output status
  logs said named passed old result new told now status (inl (why, (not, is), keeps, same)) ends =
      logs_nothing said old.sockets new.sockets old.output new.output status same keeps
      (no_logs said.instances why status not (ended passed result why told now status is ends))
  logs said named passed old result new told now status (inr (inl (why, opens, is, keeps))) ends = (
    [],
    captured_unopened rules traces old.sockets new.sockets (own_address said.asked.local) said.asked.timeout why opens,
    inl (refl, keeps, unasked_two status (ended passed result (fault.Unopened why) told now status is ends)),
  )
  logs said named passed old result new told now status
      (inr (inr (port, between, last, opens, (answer, left, (t, is), at, how), closes))) ends =
      let it = shown rules said named passed (link_over said.asked.address port) left (transactions_with said.asked) t answer old.output new.output result told now
      status (record { peer = refl; route = refl; retries = refl }) is how ends in (
        it.0,
        captured_over rules traces it.0 old.sockets between new.sockets (own_address said.asked.local) said.asked.timeout port last opens
            (subst (λ (p : P). Runs rules it.0 port p) (sym at) it.1) closes,
        it.2,
      )
