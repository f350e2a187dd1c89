-- What `bac log` printed came, and has each number once.
use Rattle.std.proofs.Common.{◌≡◌, ◌⊎◌, ◌++◌, ◌≤◌, ℕ, Bool, true, false, List, [], ◌∷◌, length, Option, None, Some, Result, Ok, Err, inl, inr, refl, sym, subst, ap, ◌∙◌}
use Rattle.std.specs.List.{Contains}
use Rattle.std.specs.Io.KnownBytes.{Appends, Keeps}
use Rattle.sqlite_disk.specs.declared.Disk as disk
use Rattle.sqlite_disk.specs.declared.start.Start as start
use Rattle.sqlite_wal.specs.Recovery.{Image}
use Rattle.bac_batch.specs.Batch.{Batched}
use Rattle.bac_drive.specs.Happens.{Acts}
use Rattle.bac_files.specs.Files.{FileOf}
use Rattle.bac_files.specs.Parts.{PartRules}
use Rattle.bac_apdu.specs.declared.service.read_range.ReadRange.{ReadRange}
use Rattle.bac_laws.specs.Sends.{IsReadRange}
use Rattle.bac_log.specs.Ack.{log_buffer}
use Rattle.bac_link.specs.Requests.{next_invoke, request_octets}
use Rattle.bac_query.specs.declared.fetching.Fetched.{Fetched}
use Rattle.bac_run.specs.Run.{RunsAll}
use Rattle.bac_run.specs.Setup.{Setup, with_sockets}
use Rattle.bac_site_poller.specs.Site.{SiteState}
use Rattle.bac_tools.specs.Status.{exit_status}
use Rattle.bac_tools.specs.declared.fault.Fault.{Fault as ToolFault}
use Rattle.bac_laws.proofs.Asked.{Leads}
use Rattle.bac_laws.proofs.Came.{Any, Hears, Known, log_stays, run_caught_up, run_known, run_limited}
use Rattle.bac_laws.proofs.Captured.{captured_behind, captured_over, captured_unopened, goes_on, nothing_captured}
use Rattle.bac_laws.proofs.Exchange.{Comes, Runs, exchanged}
use Rattle.bac_laws.proofs.Statuses.{Ended as HasStatus, ended, told_memory, unasked_memory, unasked_one, unasked_two}
use Rattle.bac_laws.proofs.Tools.{is_left, left_so}
use Rattle.bac_laws.proofs.Walked.{brought, come}
use Rattle.bac_laws.specs.Asked.{IsUnasked}
use Rattle.bac_laws.specs.Events.{Exchanged, IsCaptured}
use Rattle.bac_laws.specs.Printed.{AreWrong, CameFrom, ComesToFault, EndsRight, HasNoMore, HasRecord, HaveEachOnce, Ledger, PrintsLog}
use Rattle.bac_link.specs.Exchanges.{Ask, Way, next_way}
use Rattle.bac_link.specs.Path.{Path, towards}
use Rattle.bac_link.specs.declared.item.Item.{Item}
use Rattle.bac_link.specs.declared.item.Item.TheVariants.{Gap, Logged}
use Rattle.bac_link.specs.declared.exchanges.ExchangeFault.{ExchangeFault}
use Rattle.bac_link.specs.declared.request.Request.{Request}
use Rattle.bac_link.specs.declared.request.Request.TheVariants as request
use Rattle.bac_link.specs.declared.transactions.Transactions.{Transactions}
use Rattle.bac_log.specs.declared.entry.Entry.{Entry}
use Rattle.bac_socket_notes.specs.Ports.{Event}
use Rattle.bac_socket_notes.specs.declared.notes.Passed.{Passed}
use Rattle.bac_ports.specs.Sockets.{SocketRules, link_over, own_address, socket_asks}
use Rattle.bac_ports.specs.declared.udp_link.UdpLink.{UdpLink}
use Rattle.bac_print.specs.Output.{AppendsPart, Held}
use Rattle.bac_query.specs.Ahead.{FetchesAhead, IsLeftAhead, errand}
use Rattle.bac_query.specs.Ends.{end_line}
use Rattle.bac_query.specs.Fetching.{Fetching, course}
use Rattle.bac_query.specs.Flaws.{TellsFlaw}
use Rattle.bac_query.specs.Items.{items_text}
use Rattle.bac_query.specs.Reading.{Printing, Session, printing}
use Rattle.bac_query.specs.Tables.{client}
use Rattle.bac_query.specs.declared.fault.QueryFault.TheVariants.{Exchange}
use Rattle.bac_form.specs.declared.form.Form.{Form}
use Rattle.bac_form.specs.declared.form.Form.TheVariants.{Csv, Json, Lines}
use Rattle.bac_tools.specs.Asking.{Fetches, FetchesOver, of_fetching}
use Rattle.bac_tools.specs.Ending.{Ending}
use Rattle.bac_tools.specs.Run.{Ends, IsNoWalk, Runs as RunsTool, Works, trend_log, walk_from}
use Rattle.bac_tools.specs.Sockets.{Outlets, outside, transactions_with}
use Rattle.bac_tools.specs.Streams.{Streams, outlets_of, with_errors}
use Rattle.bac_tools.specs.declared.fault.Fault.TheVariants as fault
use Rattle.bac_walk.proofs.Follows.{brought_goes}
use Rattle.bac_walk.proofs.Transacted.{brought_plain}
use Rattle.bac_walk.specs.Came.{Came, restarted}
use Rattle.bac_walk.specs.Collects.{Goes}
use Rattle.bac_walk.specs.Outcomes.{IsRunOf}
use Rattle.bac_walk.specs.Place.{WalkPlace}
use Rattle.bac_walk.specs.Told.{IsFault}
use Rattle.bac_walk.specs.Transacted.{AsksBy, BroughtBy, ComesBy, WalkBy, asked, walk_by}
use Rattle.bac_walk.specs.Walks.{question_of}
use Rattle.bac_walk.specs.declared.outcome.Ended.{Ended}
use Rattle.bac_walk.specs.declared.outcome.Ended.TheVariants.{Fault}
use Rattle.bac_walk.specs.declared.outcome.WalkFault.{WalkFault}
use Rattle.bac_walk.specs.declared.outcome.WalkFault.TheVariants as walk
use Rattle.bac_walk.specs.declared.outcome.Why.{Why}
use Rattle.bac_walk.specs.declared.outcome.Why.TheVariants as why
use Rattle.bac_wire.specs.Primitive.{Id}
use Rattle.bac_wire.specs.Stamp.{CivilTime}
use Rattle.bac_command_line.specs.Jobs.{is_traced}
use Rattle.bac_command_line.specs.declared.job.Job.TheVariants as job
use Rattle.bac_command_line.specs.declared.job.LogReading.{LogReading}
use Rattle.bac_laws.proofs.Heard.{link_hears, link_keeps}
use Rattle.bac_laws.proofs.Written.{tells_none, tells_text, written}

-- ---- each number once

goes_each : (instance count : ℕ) (from : Option ℕ) (items : List Item) (after : Bool) (next : ℕ)
    → ((s : ℕ) → Goes (walk_from instance from count).fresh (walk_from instance from count).next s items after next)
    → HaveEachOnce from items next
goes_each instance count (Some n) [] after next goes = λ s begins. (s, (goes s).0 ∙ begins, refl)
goes_each instance count (Some n) (item ∷ items) after next goes = λ s begins. (goes s).0 begins
goes_each instance count None [] after next goes = λ s begins. (s, (goes s).0 ∙ begins, refl)
goes_each instance count None (Gap first before ∷ items) after next goes = λ s begins. absurd (goes s)
goes_each instance count None (Logged number entry ∷ items) after next goes = λ s begins. (goes s).0 begins

log_of : (instance count : ℕ) (from : Option ℕ) → (walk_from instance from count).log ≡ record { kind = 20; instance = instance }
log_of instance count None = refl
log_of instance count (Some n) = refl

-- ---- a run over a link

abbrev as_range : {L : Type 0} {asks : Ask L} → Leads asks Any → Leads asks IsReadRange
as_range leads = record {
  to = leads.to;
  same = leads.same;
  on = leads.on;
  ask = λ a b path invoke r answer of is. leads.ask a b path invoke r answer tt is;
}

-- the transactions of a client are by the words
abbrev pub AreBy : LogReading → Transactions → Type 0
AreBy said t = (t.route ≡ said.asked.route) × (t.retries ≡ said.asked.retries)

-- a run ended with an exchange that came to this fault
pub record Faulted {L : Type 0} {asks : Ask L} (leads : Leads asks Any) (said : LogReading) (first link : L) (fault : WalkFault) : Type 0 where
  pub here : WalkBy L
  pub led : leads.to first here.link
  pub log : here.place.log ≡ trend_log said.instance
  pub way : AreBy said here.transactions
  pub result : Result (List ℕ) ExchangeFault
  pub asked : AsksBy asks here.transactions here.link here.place result link
  pub is : IsFault here.place result fault

-- how a run ended, by the links before and behind it
abbrev pub EndsSo : {L : Type 0} {asks : Ask L} {leads : Leads asks Any} → Hears leads → LogReading → L → List Item → L → Why → ℕ → Type 0
EndsSo {L = L} ears said first items link why.CaughtUp next =
    (datagram : List ℕ) × ears.had link datagram × HasNoMore (trend_log said.instance) datagram next
EndsSo ears said first items link why.StepLimit next = said.steps ≤ length items
EndsSo {leads = leads} ears said first items link (why.Fault fault) next = Faulted leads said first link fault
EndsSo ears said first items link why.Memory next = Unit {0}

-- what is told of a run in lines
pub record IsPrinted {L : Type 0} {asks : Ask L} {leads : Leads asks Any} (ears : Hears leads) (said : LogReading)
    (first link : L) (fetching : Fetching) (old new : Held) : Type 0 where
  pub led : leads.to first link
  pub items : List Item
  pub why : Why
  pub next : ℕ
  pub part : AppendsPart old new (items_text items ++ end_line why next)
  pub whole : (done : Fetched) → fetching ≡ Ok done → Appends old new (items_text items ++ end_line why next) × (done.why ≡ why)
  pub sane : (f : ExchangeFault) → fetching ≡ Err (Exchange f) → ⊥
  pub right : EndsSo ears said first items link why next
  pub once : HaveEachOnce said.from items next
  pub came : (number : ℕ) (entry : Entry) → Contains items (Logged number entry)
      → Known ears link (record { kind = 20; instance = said.instance }) number entry

module _ {L : Type 0} {asks : Ask L} {leads : Leads asks Any} (ears : Hears leads) where
  -- the walk stays in its log, and the transactions are by the words still
  come_by : (said : LogReading) (came : List Came) (before after : WalkBy L) → before.place.log ≡ trend_log said.instance
      → AreBy said before.transactions → ComesBy asks before came after → (after.place.log ≡ trend_log said.instance) × AreBy said after.transactions
  come_by said [] before after log way (place, link, left) = (
    ap (λ (w : WalkPlace). w.log) place ∙ log,
    (ap (λ (t : Transactions). t.route) left ∙ way.0, ap (λ (t : Transactions). t.retries) left ∙ way.1),
  )
  come_by said (c ∷ came) before after log way (mid, next, p, place, asks-by, taken, items, rest) =
      come_by said came (walk_by mid (asked before.place before.transactions) next) after (log_stays before.place _ p next taken ∙ log) way rest

  faulted : (said : LogReading) (before : WalkBy L) (came : List Came) (items : List Item) (n : ℕ) (ended : Ended) (after : WalkBy L)
      (fault : WalkFault) → before.place.log ≡ trend_log said.instance → AreBy said before.transactions
      → BroughtBy asks before n came items ended after → ended ≡ Fault fault → Faulted leads said before.link after.link fault
  faulted said before came items n ended after fault log way is faulty =
      let of = subst (λ (e : Ended). BroughtBy asks before n came items e after) faulty is in
      let (few, (result, asks-by, told), place, left) = of.ends in
      let by = come_by said came (walk_by before.link before.transactions (restarted before.place)) (walk_by of.mid of.half of.here) log way of.comes in
      record {
        here = walk_by of.mid of.half of.here;
        led = come leads (λ r. tt) came (walk_by before.link before.transactions (restarted before.place)) (walk_by of.mid of.half of.here) of.comes;
        log = by.0;
        way = by.1;
        result = result;
        asked = asks-by;
        is = told;
      }

  ends_so : (said : LogReading) (before : WalkBy L) (came : List Came) (items : List Item) (n : ℕ) (ended : Ended) (half : Transactions) (mid : L)
      (after : WalkPlace) (last : Transactions) (link : L) → before.place.log ≡ trend_log said.instance → AreBy said before.transactions
      → leads.to mid link → BroughtBy asks before n came items ended (walk_by mid half after) → (cause : Why)
      → (cause ≡ why.Memory) ⊎ (IsRunOf cause said.steps n ended × IsLeftAhead asks half mid after last link cause)
      → EndsSo ears said before.link items link cause after.next
  ends_so said before came items n ended half mid after last link log way on is why.CaughtUp (inl not) = absurd (let e : why.CaughtUp ≡ why.Memory = not in cc)
  ends_so said before came items n ended half mid after last link log way on is why.CaughtUp (inr ((count, up), left)) =
      let it = run_caught_up ears before n came items (walk_by mid half after)
      (subst (λ (e : Ended). BroughtBy asks before n came items e (walk_by mid half after)) up is) in
      (it.0, ears.keeps mid link it.0 on it.1, subst (λ (l : Id). HasNoMore l it.0 after.next) log it.2)
  ends_so said before came items n ended half mid after last link log way on is why.StepLimit (inl not) = absurd (let e : why.StepLimit ≡ why.Memory = not in cc)
  ends_so said before came items n ended half mid after last link log way on is why.StepLimit (inr ((count, limited), left)) =
      subst (λ (k : ℕ). k ≤ length items) count
      (run_limited ears before n came items (walk_by mid half after)
      (subst (λ (e : Ended). BroughtBy asks before n came items e (walk_by mid half after)) limited is))
  ends_so said before came items n ended half mid after last link log way on is (why.Fault f) (inl not) = absurd (let e : why.Fault f ≡ why.Memory = not in cc)
  ends_so said before came items n ended half mid after last link log way on is (why.Fault f) (inr ((count, faulty), (same, left))) =
      subst (λ (l : L). Faulted leads said before.link l f) (sym same)
      (faulted said before came items n ended (walk_by mid half after) f log way is faulty)
  ends_so said before came items n ended half mid after last link log way on is why.Memory run = tt

  run_printed : (said : LogReading) (old : Session L) (fetching : Fetching) (new : Session L) → AreBy said old.asker.transactions
      → FetchesAhead (errand Lines (walk_from said.instance said.from said.count) said.steps) asks old fetching new
      → IsPrinted ears said old.asker.link new.asker.link fetching old.printed new.printed
  run_printed said old fetching new way (came, items, n, ended, after, half, mid, is, tells, head, more) =
      let walk = walk_from said.instance said.from said.count in
      let text = tells_text _ said.steps (course items n ended after) fetching old.printed new.printed tells in
      let left = left_so Lines _ said.steps (course items n ended after) fetching old.printed new.printed tells in
      let on : leads.to mid new.asker.link = is_left (as_range leads) half mid after new.asker.transactions new.asker.link left.0 left.1 in
      let goes = brought_goes asks _ _ old.asker.link mid walk after n came items ended
      (brought_plain asks old.asker.transactions half old.asker.link mid walk after n came items ended is) in
      record {
        led = leads.on old.asker.link mid new.asker.link (brought leads (λ r. tt) (walk_by old.asker.link old.asker.transactions walk) n came items ended (walk_by mid half after) is) on;
        items = items;
        why = text.0;
        next = text.1;
        part = text.2;
        whole = text.3;
        sane = tells_none _ said.steps (course items n ended after) fetching old.printed new.printed tells;
        right = subst (λ (m : ℕ). EndsSo ears said old.asker.link items new.asker.link text.0 m) (sym text.4)
            (ends_so said (walk_by old.asker.link old.asker.transactions walk) came items n ended half mid after new.asker.transactions new.asker.link
            (log_of said.instance said.count said.from) way on is text.0 text.5);
        once = subst (λ (m : ℕ). HaveEachOnce said.from items m) (sym text.4) (goes_each said.instance said.count said.from items after.fresh after.next goes);
        came = λ number entry has.
            let it = run_known ears (walk_by old.asker.link old.asker.transactions walk) n came items ended (walk_by mid half after) is number entry has in
            (it.0, ears.keeps mid new.asker.link it.0 on it.1, subst (λ (l : Id). HasRecord l it.0 number entry) (log_of said.instance said.count said.from) it.2);
      }

-- ---- the tool

-- which word it is
wrong_words : (said : LogReading) (why : ToolFault) → IsNoWalk said.instance said.from said.count why → AreWrong said
wrong_words said why (inl (outside, is)) = inl outside
wrong_words said why (inr (inl (few, is))) = inr (inl few)
wrong_words said why (inr (inr (zeroth, is))) = inr (inr zeroth)

not_one : (status : ℕ) → HasStatus 2 status → status ≡ 1 → ⊥
not_one status (inl two) one = absurd (let e : 2 ≡ 1 = sym two ∙ one in cc)
not_one status (inr (more, five)) one = absurd (let e : 5 ≡ 1 = sym five ∙ one in cc)

-- a word's value is told
no_walk : (instance : ℕ) (from : Option ℕ) (count : ℕ) (why : ToolFault) → IsNoWalk instance from count why → exit_status why ≡ 1
no_walk instance from count why (inl (outside, is)) = ap exit_status is
no_walk instance from count why (inr (inl (few, is))) = ap exit_status is
no_walk instance from count why (inr (inr (zeroth, is))) = ap exit_status is

-- what came of a request whose exchange came to this fault
module _ {S P : Type 0} (rules : SocketRules S P) where
  faulty_came : (way : Way) (r : Request) (peer : List ℕ) (es : List Event) (result : Result (List ℕ) ExchangeFault) (w : WalkPlace)
      (fault : WalkFault) → IsFault w result fault → Comes rules way r peer es result
      → (answer : Option (List ℕ)) × Exchanged (request_octets way.path way.invoke r) peer way.retries es answer × ComesToFault fault r answer
  faulty_came way r peer es result w walk.Lost is came =
      (None, subst (λ (got : Result (List ℕ) ExchangeFault). Comes rules way r peer es got) is came, refl)
  faulty_came way r peer es result w (walk.Refused refusal) is came =
      let it = subst (λ (got : Result (List ℕ) ExchangeFault). Comes rules way r peer es got) is came in
      (Some it.0, it.1, (it.0, refl, it.2))
  faulty_came way r peer es result w walk.BadReply (inl is) came =
      let it = subst (λ (got : Result (List ℕ) ExchangeFault). Comes rules way r peer es got) is came in (Some it.0, it.1, refl)
  faulty_came way r peer es result w walk.BadReply (inr (datagram, bad, is, taken)) came =
      let it = subst (λ (got : Result (List ℕ) ExchangeFault). Comes rules way r peer es got) is came in (Some datagram, it.0, refl)

module _ {S P : Type 0} (rules : SocketRules S P) (changes : S → S → Type 0) where
  over : (said : LogReading) (form : Form) → form ≡ Lines
      → (before : Printing (UdpLink P) Held) (fetching : Fetching) (after : Printing (UdpLink P) Held)
      → FetchesOver rules said.asked (errand form (walk_from said.instance said.from said.count) said.steps) before fetching after
      → IsPrinted (link_hears rules changes) said before.asker after.asker fetching before.printed after.printed
      × ((log : Id) × TellsFlaw (socket_asks rules) (towards said.asked.route) said.asked.retries log fetching after.asker)
  over said Csv is before fetching after it = absurd (let e : Csv ≡ Lines = is in cc)
  over said Json is before fetching after it = absurd (let e : Json ≡ Lines = is in cc)
  over said Lines is before fetching after (inl (fault, (not, same), failed, left)) = absurd (let e : Err fault ≡ Ok tt = not in cc)
  over said Lines is before fetching after (inr (mid, (done, same), ((last, run, few), told, flaw))) = (
    subst (λ (h : Held). IsPrinted (link_hears rules changes) said before.asker after.asker fetching h after.printed) same
        (run_printed (link_hears rules changes) said (printing (client before.asker (transactions_with said.asked)) mid) fetching
        (printing (client after.asker last) after.printed) (refl, refl) run),
    ((walk_from said.instance said.from said.count).log, flaw),
  )

  -- what happened up to the end of a run, and that its end is right
  abbrev Righted : LogReading → (List ℕ → Type 0) → P → P → List Item → Why → ℕ → Type 0
  Righted said came port last items cause next = (es : List Event) × Runs rules es port last × EndsRight came said es items cause next

  asked_last : (said : LogReading) (came : List ℕ → Type 0) (first left : UdpLink P) (fault : WalkFault) (items : List Item) (next : ℕ)
      → first.peer ≡ said.asked.address → Faulted (link_keeps rules changes) said first left fault
      → Righted said came first.port left.port items (why.Fault fault) next
  asked_last said came first left fault items next at is =
      let w = is.here.place in
      let t = is.here.transactions in
      let q : ReadRange = record { object = w.log; property = log_buffer; index = None; extent = question_of w } in
      let (peer, last, runs, comes) = exchanged rules (next_way t) (request.ReadRange q) is.here.link is.result left is.asked in
      let (answer, shape, faulty) = faulty_came rules (next_way t) (request.ReadRange q) is.here.link.peer last is.result w fault is.is comes in (
        is.led.2 ++ last,
        goes_on rules.sends rules.receives rules.receives_within is.led.2 last first.port is.here.link.port left.port is.led.3 runs,
        (
          is.led.2,
          last,
          refl,
          q,
          is.log,
          next_invoke t.invoke,
          answer,
          subst (λ (n : ℕ). Exchanged (request_octets (towards said.asked.route) (next_invoke t.invoke) (request.ReadRange q)) said.asked.address n last answer)
              is.way.1 (subst (λ (path : Path). Exchanged (request_octets path (next_invoke t.invoke) (request.ReadRange q)) said.asked.address t.retries last answer)
              (ap towards is.way.0) (subst (λ (to : List ℕ). Exchanged (request_octets (towards t.route) (next_invoke t.invoke) (request.ReadRange q)) to t.retries last answer)
              (is.led.0 ∙ at) shape)),
          faulty,
        ),
      )

  righted : (said : LogReading) (came : List ℕ → Type 0) (first left : UdpLink P) (items : List Item) (cause : Why) (next : ℕ)
      → first.peer ≡ said.asked.address → ((datagram : List ℕ) → (link_hears rules changes).had left datagram → came datagram)
      → (link_keeps rules changes).to first left → EndsSo (link_hears rules changes) said first items left cause next
      → Righted said came first.port left.port items cause next
  righted said came first left items why.CaughtUp next at stands led (datagram, had, more) = (led.2, led.3, (datagram, stands datagram had, more))
  righted said came first left items why.StepLimit next at stands led enough = (led.2, led.3, enough)
  righted said came first left items (why.Fault fault) next at stands led is = asked_last said came first left fault items next at is
  righted said came first left items why.Memory next at stands led is = (led.2, led.3, tt)

  module _ (traces : S → Bool → S → Type 0) where
    -- what `log` printed, of what happened over the sockets
    abbrev pub Prints : LogReading → S → S → Held → Held → ℕ → Type 0
    Prints said old new before after status = (es : List Event) × IsCaptured rules traces old new es
        × PrintsLog (CameFrom rules changes new said.asked.address) said es before after status

    prints_none : (said : LogReading) (old new : S) (before after : Held) (status : ℕ) → IsCaptured rules traces old new [] → Keeps before after
        → IsUnasked status → (status ≡ 1 → AreWrong said) → Prints said old new before after status
    prints_none said old new before after status same keeps why wrong = ([], same, inl (refl, keeps, why, wrong))

    -- the peer of a link that was just made is the device's
    pub logged : (said : LogReading) → said.form ≡ Lines → (passed : Passed) (old : Outlets S) (result : Ending) (new : Outlets S) (errors now : Held) (status : ℕ)
        → Fetches rules said.asked (errand said.form (walk_from said.instance said.from said.count) said.steps) old result new
        → Ends passed result errors now status → Prints said old.sockets new.sockets old.output new.output status
    logged said lines passed old result new errors now status (inl (why, opens, is, quiet)) ends =
        prints_none said old.sockets new.sockets old.output new.output status
        (captured_unopened rules traces old.sockets new.sockets (own_address said.asked.local) said.asked.timeout why opens) quiet
        (unasked_two status (ended passed result (fault.Unopened why) errors now status is ends))
        (λ one. absurd (not_one status (ended passed result (fault.Unopened why) errors now status is ends) one))
    logged said lines passed old result new errors now status (inr (port, between, last, opens, (fetching, left, (is, says), same, how), closes)) ends =
        let first = link_over said.asked.address port in
        let (it, (log, flaw)) = over said said.form lines (printing first old.output) fetching (printing left new.output) is in
        let stands : (ledger : Ledger rules changes) (datagram : List ℕ) → ledger.port left.port left.peer datagram ≡ true → ledger.port last said.asked.address datagram ≡ true =
        λ ledger datagram has. subst (λ (p : P). ledger.port p said.asked.address datagram ≡ true) (sym same) (subst (λ (a : List ℕ). ledger.port left.port a datagram ≡ true) it.led.0 has) in
        let (es, runs, right) = righted said (CameFrom rules changes new.sockets said.asked.address) first left it.items it.why it.next refl
        (λ datagram had ledger. ledger.closes between new.sockets last said.asked.address datagram (inr (stands ledger datagram (had ledger))) closes)
        it.led it.right in (
          es,
          captured_over rules traces es old.sockets between new.sockets (own_address said.asked.local) said.asked.timeout port last opens
              (subst (λ (p : P). Runs rules es port p) (sym same) runs) closes,
          inr (
            it.items,
            it.why,
            it.next,
            written (socket_asks rules) (towards said.asked.route) said.asked.retries log left said.asked.address passed fetching result errors now status
                old.output new.output (items_text it.items ++ end_line it.why it.next) it.why flaw it.part it.whole
                (subst (λ (form : Form). result ≡ of_fetching form said.asked.address fetching) lines how) ends it.sane,
            right,
            it.once,
            λ number entry has. let known = it.came number entry has in
                (known.0, (λ ledger. ledger.closes between new.sockets last said.asked.address known.0 (inr (stands ledger known.0 (known.1 ledger))) closes), known.2),
          ),
        )

    works : {C : Type 0} (tells : C → Option CivilTime → C → Type 0) (said : LogReading) → said.form ≡ Lines → (passed : Passed)
        (old : Streams S C) (result : Ending) (new : Streams S C) (errors now : Held) (status : ℕ)
        → Works rules tells (job.Log said) old result new → Ends passed result errors now status
        → Prints said old.sockets new.sockets old.output new.output status
    works tells said lines passed old result new errors now status (inl (fault, (none, is), keeps, same), quiet, unread) ends =
        prints_none said old.sockets new.sockets old.output new.output status (nothing_captured rules traces old.sockets new.sockets same) keeps
        (unasked_one status (subst (λ (n : ℕ). HasStatus n status) (no_walk said.instance said.from said.count fault none)
        (ended passed result fault errors now status is ends)))
        (λ one. wrong_words said fault none)
    works tells said lines passed old result new errors now status (inr is, quiet, unread) ends =
        logged said lines passed (outlets_of old) result (outlets_of new) errors now status is ends

    runs : {C : Type 0} (passes : S → Passed) (tells : C → Option CivilTime → C → Type 0) (said : LogReading) → said.form ≡ Lines
        → (old : Streams S C) (status : ℕ) (new : Streams S C) → RunsTool rules passes tells (job.Log said) old status new
        → Prints said old.sockets new.sockets old.output new.output status
    runs passes tells said lines old status new (inl (told, keeps, (input, same, clock))) =
        prints_none said old.sockets new.sockets old.output new.output status (nothing_captured rules traces old.sockets new.sockets same) keeps
        (unasked_memory old.errors new.errors status told)
        (λ one. absurd (let e : 5 ≡ 1 = sym (told_memory old.errors new.errors status told) ∙ one in cc))
    runs passes tells said lines old status new (inr (result, errors, is, ends)) =
        works tells said lines (passes new.sockets) old result (with_errors errors new) errors new.errors status is ends

module _ {S P C W Q F G : Type 0} {s : start.Ghosts F} {t : start.Ghosts G} (rules : SocketRules S P) (acts : Acts (Batched SiteState) P W)
    (f : disk.Ghosts (FileOf s)) (file : Image) (g : disk.Ghosts (FileOf t)) (part : Image) (folders : PartRules Q) (passes : S → Passed)
    (tells : C → Option CivilTime → C → Type 0) (waits : W) (changes : S → S → Type 0) (switches : S → Bool → S → Type 0) where
  pub prints_log : (said : LogReading) → said.form ≡ Lines → (old : Setup S C Q s t) (status : ℕ) (new : Setup S C Q s t)
      → RunsAll rules acts f file g part folders passes tells waits switches (job.Log said) old status new
      → Prints rules changes switches said old.streams.sockets new.streams.sockets old.streams.output new.streams.output status
  prints_log said lines old status new (inl (told, off)) =
      runs rules changes switches passes tells said lines old.streams status new.streams (inl told)
  prints_log said lines old status new (inr (sockets, switched, (ran, off))) =
      let (es, captured, is) = runs rules changes switches passes tells said lines (with_sockets sockets old).streams status new.streams ran in
      (es, captured_behind rules switches old.streams.sockets sockets new.streams.sockets (is_traced (job.Log said)) es switched captured, is)
