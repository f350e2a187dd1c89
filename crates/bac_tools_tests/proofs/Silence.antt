-- Over sockets where no datagram comes none is answered; a lost answer was asked for; and a server ends with a socket
-- fault only if a socket failed.
use Rattle.std.proofs.Common.{Bool, ◌≡◌, ◌∙◌, inl, inr, lit<, ℕ, zero, suc, ◌+◌, ◌<◌, List, [], ◌∷◌, ◌++◌, Option, Some, None, Ok, Err, refl, sym, ap, subst, append-nil, arith}
use Rattle.std.specs.Io.KnownBytes.{Keeps}
use Rattle.bac_socket_notes.specs.Notes.{nothing as never_asked}
use Rattle.bac_socket_notes.specs.declared.notes.Passed.{Passed}
use Rattle.bac_walk.proofs.Transacted.{brought_plain}
use Rattle.bac_tools.specs.Sockets.{transactions_with}
use Rattle.bac_link.specs.declared.transactions.Transactions.{Transactions}
use Rattle.bac_link.specs.Exchanges.{Exchanges, Unanswered, client, way_by}
use Rattle.bac_link.specs.Path.{Path, towards}
use Rattle.bac_link.specs.Requests.{next_invoke, request_octets}
use Rattle.bac_link.specs.declared.exchanges.ExchangeFault.{ExchangeFault}
use Rattle.bac_link.specs.declared.exchanges.ExchangeFault.TheVariants as exchange
use Rattle.bac_link.specs.declared.item.Item.{Item}
use Rattle.bac_link.specs.declared.request.Request.{Request}
use Rattle.bac_link.specs.declared.request.Request.TheVariants as request
use Rattle.bac_apdu.specs.declared.service.read_property.ReadProperty.{ReadProperty}
use Rattle.bac_link.specs.Datagrams.{apdu_in}
use Rattle.bac_ports.specs.Asking.{Awaits}
use Rattle.bac_ports.specs.Port.{Receiving, Sending}
use Rattle.bac_ports.specs.declared.port.SocketFault.{SocketFault}
use Rattle.bac_ports.specs.declared.udp_link.UdpLink.{UdpLink}
use Rattle.bac_print.specs.Output.{AppendsPart, Held}
use Rattle.bac_query.specs.Ahead.{FetchesAhead, errand}
use Rattle.bac_query.specs.Fetching.{Fetching, IsEnd}
use Rattle.bac_query.specs.Reading.{Answer, PrintsValues, printing}
use Rattle.bac_query.specs.Answers.{values_in}
use Rattle.bac_query.specs.declared.fault.QueryFault.{QueryFault}
use Rattle.bac_query.specs.declared.fault.QueryFault.TheVariants as query
use Rattle.bac_query.specs.Ends.{end_line}
use Rattle.bac_query.specs.Items.{items_text}
use Rattle.bac_serve.specs.Serving.{Server, Serves as ServesDevice, ServesNext}
use Rattle.bac_tools.specs.Asking.{Reads, Writes, of_answer, of_fetching}
use Rattle.bac_tools.specs.Ending.{Ending}
use Rattle.bac_tools.specs.Run.{Ends, Runs, Works, question, reals_of, walk_from}
use Rattle.bac_tools.specs.Serving.{IsConfigured, IsServedOver, Service, ServedPort, refused_with, served_port, service, wait_of}
use Rattle.bac_form.specs.declared.form.Form.TheVariants.{Lines}
use Rattle.bac_query.specs.declared.reals.Reals.{Reals}
use Rattle.bac_tools_tests.proofs.Plain.{in_lines, plain}
use Rattle.bac_ports.specs.Sockets.{SocketRules, UsesSocket, link_over, own_address, socket_asks}
use Rattle.bac_tools.specs.Sockets.{Outside}
use Rattle.bac_tools.specs.Status.{walk_status}
use Rattle.bac_tools.specs.Streams.{Streams}
use Rattle.bac_script.specs.declared.replay.fault.Refused.{Refused}
use Rattle.bac_tools.specs.declared.fault.Fault.{Fault}
use Rattle.bac_tools.specs.declared.fault.Fault.TheVariants as fault
use Rattle.bac_tools_tests.proofs.Logged.{cut_over, not_told}
use Rattle.bac_tools_tests.proofs.Settled.{end_of}
use Rattle.bac_tools_tests.specs.Silence.{IsOfSocket, IsSilent, LostWasAsked, NeverFails}
use Rattle.bac_walk.specs.Came.{Brought, Came, reaching, walk_over}
use Rattle.bac_walk.specs.Place.{WalkPlace}
use Rattle.bac_walk.specs.declared.outcome.Ended.{Ended}
use Rattle.bac_walk.specs.declared.outcome.Ended.TheVariants as ended
use Rattle.bac_walk.specs.declared.outcome.WalkFault.TheVariants as walk
use Rattle.bac_walk.specs.declared.outcome.Why.{Why}
use Rattle.bac_walk.specs.declared.outcome.Why.TheVariants as why
use Rattle.bac_wire.specs.Stamp.{CivilTime}
use Rattle.bac_command_line.specs.declared.job.Asked.{Asked}
use Rattle.bac_command_line.specs.declared.job.Job.TheVariants.{Log, Rp, Serve, Wp}
use Rattle.bac_command_line.specs.declared.job.PropertyReading.{PropertyReading}
use Rattle.bac_command_line.specs.declared.job.PropertyWriting.{PropertyWriting}
use Rattle.bac_command_line.specs.declared.job.ServedDevice.{ServedDevice}

-- ---- no answer over a silent socket

none_awaited : {P : Type 0} (receives : P → Receiving → P → Type 0) → IsSilent receives →
    (peer request : List ℕ) (n : ℕ) (port : P) (datagram : List ℕ) (new : P) →
    Awaits receives peer request n port (Ok datagram) new → ⊥
unfolding Awaits
none_awaited receives silent peer request zero port datagram new awaits = awaits.0
none_awaited receives silent peer request (suc n) port datagram new (Ok heard, mid, came, rest) = silent port mid heard came
none_awaited receives silent peer request (suc n) port datagram new (Err why, mid, came, rest) = rest.0

none_asked : {S P : Type 0} (rules : SocketRules S P) → IsSilent rules.receives → (old : UdpLink P) (octets datagram : List ℕ)
    (new : UdpLink P) → socket_asks rules old octets (Ok datagram) new → ⊥
none_asked rules silent old octets datagram new ((Err why, mid, sent, rest), peer) = rest.0
none_asked rules silent old octets datagram new ((Ok done, mid, sent, rest), peer) =
    none_awaited rules.receives silent old.peer octets 16 mid datagram new.port rest

none_exchanged : {S P : Type 0} (rules : SocketRules S P) → IsSilent rules.receives → (path : Path) (invoke : ℕ) (r : Request)
    (retries : ℕ) (old : UdpLink P) (datagram : List ℕ) (new : UdpLink P) →
    Exchanges (socket_asks rules) (way_by path invoke retries) r old (Ok datagram) new → ⊥
none_exchanged rules silent path invoke r retries old datagram new answers =
    none_asked rules silent answers.1 (request_octets path invoke r) datagram new answers.4

-- ---- rp and wp

-- a query that was done, or not
query_end : (address : List ℕ) (answer : Answer) (why : QueryFault) (result : Ending) (done : ℕ) → answer ≡ Err why →
    result ≡ of_answer address answer → result ≡ Ok done → ⊥
query_end address answer why result done told is good = let e = sym good ∙ is ∙ ap (of_answer address) told in cc

no_values : {S P : Type 0} (rules : SocketRules S P) → IsSilent rules.receives → (asked : Asked) (question : ReadProperty) (reals : Reals)
    (old : Outside S) (result : Ending) (new : Outside S) → Reads rules asked question reals old result new →
    ((done : ℕ) → result ≡ Ok done → ⊥) × Keeps old.output new.output
no_values rules silent asked question reals old result new (inl (why, opens, is, keeps)) =
    (λ done good. (let e = sym good ∙ is in cc), keeps)
no_values rules silent asked question reals old result new (inr (port, between, last, opens, (answer, left, (Ok datagram, exchanged, prints), is_last, is), closes)) =
    absurd (none_exchanged rules silent (towards asked.route) (next_invoke 0) (request.ReadProperty question) asked.retries (link_over asked.address port) datagram left exchanged)
no_values rules silent asked question reals old result new (inr (port, between, last, opens, (answer, left, (Err why, exchanged, (told, keeps)), is_last, is), closes)) =
    (λ done good. query_end asked.address answer (query.Exchange why) result done told is good, keeps)

not_written : {S P : Type 0} (rules : SocketRules S P) → IsSilent rules.receives → (asked : Asked) (question : Request)
    (old : Outside S) (result : Ending) (new : Outside S) → Writes rules asked question old result new →
    ((done : ℕ) → result ≡ Ok done → ⊥) × Keeps old.output new.output
not_written rules silent asked question old result new (inl (why, opens, is, keeps)) =
    (λ done good. (let e = sym good ∙ is in cc), keeps)
not_written rules silent asked question old result new (inr (port, between, last, opens, (answer, left, (Ok datagram, exchanged, prints), is_last, is), closes)) =
    absurd (none_exchanged rules silent (towards asked.route) (next_invoke 0) question asked.retries (link_over asked.address port) datagram left exchanged)
not_written rules silent asked question old result new (inr (port, between, last, opens, (answer, left, (Err why, exchanged, (told, keeps)), is_last, is), closes)) =
    (λ done good. query_end asked.address answer (query.Exchange why) result done told is good, keeps)

pub no_rp : {S P C : Type 0} (rules : SocketRules S P) (passes : S → Passed) (tells : C → Option CivilTime → C → Type 0) (said : PropertyReading)
    (old new : Streams S C) (status : ℕ) →
    Runs rules passes tells (Rp said) old status new → IsSilent rules.receives →
    (status ≡ 0 → ⊥) × Keeps old.output new.output
no_rp rules passes tells said old new status (inl told) silent =
    (λ none. not_told never_asked fault.Memory old.errors new.errors status told.0 none, told.1)
no_rp rules passes tells said old new status (inr (Err why, told, (inl unasked, quiet, unread), ends)) silent =
    (λ none. not_told (passes new.sockets) why told new.errors status ends none, unasked.1.1)
no_rp rules passes tells said old new status (inr (Err why, told, (inr reads, quiet, unread), ends)) silent =
    (λ none. not_told (passes new.sockets) why told new.errors status ends none, (no_values rules silent said.asked _ _ _ _ _ reads).1)
no_rp rules passes tells said old new status (inr (Ok done, told, (inl unasked, quiet, unread), ends)) silent =
    absurd (let e = unasked.1.0 in cc)
no_rp rules passes tells said old new status (inr (Ok done, told, (inr reads, quiet, unread), ends)) silent =
    absurd ((no_values rules silent said.asked _ _ _ _ _ reads).0 done refl)

pub no_wp : {S P C : Type 0} (rules : SocketRules S P) (passes : S → Passed) (tells : C → Option CivilTime → C → Type 0) (said : PropertyWriting)
    (old new : Streams S C) (status : ℕ) →
    Runs rules passes tells (Wp said) old status new → IsSilent rules.receives →
    (status ≡ 0 → ⊥) × Keeps old.output new.output
no_wp rules passes tells said old new status (inl told) silent =
    (λ none. not_told never_asked fault.Memory old.errors new.errors status told.0 none, told.1)
no_wp rules passes tells said old new status (inr (Err why, told, (inl unasked, quiet, unread), ends)) silent =
    (λ none. not_told (passes new.sockets) why told new.errors status ends none, unasked.1.1)
no_wp rules passes tells said old new status (inr (Err why, told, (inr (w, is, writes), quiet, unread), ends)) silent =
    (λ none. not_told (passes new.sockets) why told new.errors status ends none, (not_written rules silent said.asked _ _ _ _ writes).1)
no_wp rules passes tells said old new status (inr (Ok done, told, (inl unasked, quiet, unread), ends)) silent =
    absurd (let e = unasked.1.0 in cc)
no_wp rules passes tells said old new status (inr (Ok done, told, (inr (w, is, writes), quiet, unread), ends)) silent =
    absurd ((not_written rules silent said.asked _ _ _ _ writes).0 done refl)

-- ---- log

-- no reply came, so there are no items
no_reply : {S P : Type 0} (rules : SocketRules S P) → IsSilent rules.receives → (path : Path) (retries n : ℕ) (old : UdpLink P)
    (w : WalkPlace) (came : List Came) (items : List Item) (e : Ended) (after : WalkPlace) (new : UdpLink P) →
    Brought (reaching (socket_asks rules) path retries) (walk_over old w) n came items e (walk_over new after) → (came ≡ []) × (items ≡ [])
no_reply rules silent path retries n old w (c ∷ came) items e after new (here, mid, comes, ends, are) =
    absurd (none_exchanged rules silent path comes.4.0 _ retries old c.datagram comes.0 comes.4.1)
no_reply rules silent path retries n old w [] items ended.CaughtUp after new (here, mid, comes, ends, are) = (refl, are)
no_reply rules silent path retries n old w [] items ended.StepLimit after new (here, mid, comes, ends, are) = (refl, are)
no_reply rules silent path retries n old w [] items ended.Stopped after new (here, mid, comes, ends, are) =
    absurd (omega (arith, ends.1))
no_reply rules silent path retries n old w [] items (ended.Fault said) after new (here, mid, comes, ends, are) = (refl, are)

-- a run with no reply doesn't end well, unless it has no steps
no_end : {S P : Type 0} (rules : SocketRules S P) → IsSilent rules.receives → (path : Path) (retries n steps : ℕ) (old : UdpLink P)
    (w : WalkPlace) (came : List Came) (items : List Item) (e : Ended) (after : WalkPlace) (new : UdpLink P) (cause : Why)
    (next : ℕ) → Brought (reaching (socket_asks rules) path retries) (walk_over old w) n came items e (walk_over new after) → IsEnd steps n e after cause next →
    0 < steps → walk_status cause ≡ 0 → ⊥
no_end rules silent path retries n steps old w (c ∷ came) items e after new cause next (here, mid, comes, ends, are) end some none =
    none_exchanged rules silent path comes.4.0 _ retries old c.datagram comes.0 comes.4.1
no_end rules silent path retries n steps old w [] items ended.CaughtUp after new cause next (here, mid, comes, ends, are) end some none =
    absurd ends.0
no_end rules silent path retries n steps old w [] items ended.StepLimit after new why.CaughtUp next (here, mid, comes, ends, are) end some none =
    absurd (let e = end.0.1 in cc)
no_end rules silent path retries n steps old w [] items ended.StepLimit after new why.StepLimit next (here, mid, comes, ends, are) end some none =
    omega (arith, some, ends.1, end.0.0)
no_end rules silent path retries n steps old w [] items ended.StepLimit after new (why.Fault walk.Lost) next (here, mid, comes, ends, are) end some none =
    omega (arith, none)
no_end rules silent path retries n steps old w [] items ended.StepLimit after new (why.Fault (walk.Refused refusal)) next (here, mid, comes, ends, are) end some none =
    omega (arith, none)
no_end rules silent path retries n steps old w [] items ended.StepLimit after new (why.Fault walk.BadReply) next (here, mid, comes, ends, are) end some none =
    omega (arith, none)
no_end rules silent path retries n steps old w [] items ended.StepLimit after new why.Memory next (here, mid, comes, ends, are) end some none =
    omega (arith, none)
no_end rules silent path retries n steps old w [] items ended.Stopped after new cause next (here, mid, comes, ends, are) end some none =
    omega (arith, ends.1)
no_end rules silent path retries n steps old w [] items (ended.Fault said) after new why.CaughtUp next (here, mid, comes, ends, are) end some none =
    absurd (let e = end.0.1 in cc)
no_end rules silent path retries n steps old w [] items (ended.Fault said) after new why.StepLimit next (here, mid, comes, ends, are) end some none =
    absurd (let e = end.0.1 in cc)
no_end rules silent path retries n steps old w [] items (ended.Fault said) after new (why.Fault walk.Lost) next (here, mid, comes, ends, are) end some none =
    omega (arith, none)
no_end rules silent path retries n steps old w [] items (ended.Fault said) after new (why.Fault (walk.Refused refusal)) next (here, mid, comes, ends, are) end some none =
    omega (arith, none)
no_end rules silent path retries n steps old w [] items (ended.Fault said) after new (why.Fault walk.BadReply) next (here, mid, comes, ends, are) end some none =
    omega (arith, none)
no_end rules silent path retries n steps old w [] items (ended.Fault said) after new why.Memory next (here, mid, comes, ends, are) end some none =
    omega (arith, none)

-- what is printed is at most an end line
end_alone : (items : List Item) (old new : Held) → items ≡ [] →
    (w : Why) × (next : ℕ) × AppendsPart old new (items_text items ++ end_line w next) →
    (w : Why) × (next : ℕ) × AppendsPart old new (end_line w next)
end_alone items old new none printed =
    let P : List Item → Type 0 = λ l. AppendsPart old new (items_text l ++ end_line printed.0 printed.1) in
    (printed.0, printed.1, subst P none printed.2)

-- nothing is printed at all
nothing : (old new : Held) → Keeps old new → (w : Why) × (next : ℕ) × AppendsPart old new (end_line w next)
nothing None new keeps = (why.CaughtUp, 0, ([], end_line why.CaughtUp 0, refl, tt))
nothing (Some xs) None keeps = absurd keeps
nothing (Some xs) (Some ys) keeps = (why.CaughtUp, 0, ([], end_line why.CaughtUp 0, refl, keeps ∙ sym (append-nil xs)))

no_status : {S P : Type 0} (rules : SocketRules S P) → IsSilent rules.receives → (asked : Asked) (w : WalkPlace) (steps : ℕ)
    (link : UdpLink P) (fetching : Fetching) (end : Transactions) (left : UdpLink P) (old new : Held) (done : ℕ) →
    FetchesAhead (errand Lines w steps) (socket_asks rules) (printing (client link (transactions_with asked)) old) fetching (printing (client left end) new) →
    Ok done ≡ of_fetching Lines asked.address fetching → 0 < steps → done ≡ 0 → ⊥
no_status rules silent asked w steps link (Err why) end left old new done over is some none = absurd (cc)
no_status rules silent asked w steps link (Ok fetched) end left old new done over is some none =
    let (came, items, n, ended, after, half, mid, begun, tells, headline, contradicts) = over in
    let brought = brought_plain (socket_asks rules) (transactions_with asked) half link mid w after n came items ended begun in
    let e = end_of asked.address done fetched.why fetched.flaw is in
    no_end rules silent (towards asked.route) asked.retries n steps link w came items ended after mid fetched.why fetched.next brought tells.0 some (sym e ∙ none)

pub no_log : {S P C : Type 0} (rules : SocketRules S P) (passes : S → Passed) (tells : C → Option CivilTime → C → Type 0) (asked : Asked)
    (instance steps count : ℕ) (from : Option ℕ) (trace : Bool) (old new : Streams S C) (status : ℕ) →
    Runs rules passes tells (Log (plain asked instance from steps count trace)) old status new → IsSilent rules.receives →
    (0 < steps → status ≡ 0 → ⊥) × ((w : Why) × (next : ℕ) × AppendsPart old.output new.output (end_line w next))
no_log rules passes tells asked instance steps count from trace old new status (inl told) silent =
    (λ some none. not_told never_asked fault.Memory old.errors new.errors status told.0 none, nothing old.output new.output told.1)
no_log rules passes tells asked instance steps count from trace old new status (inr (result, said, (inl unasked, quiet, unread), ends)) silent =
    (λ some none. bad result unasked.1.1 ends none, nothing old.output new.output unasked.2)
  where
    bad : (r : Ending) → r ≡ Err unasked.0 → Ends (passes new.sockets) r said new.errors status → status ≡ 0 → ⊥
    bad (Ok done) is ends none = absurd (cc)
    bad (Err why) is ends none = not_told (passes new.sockets) why said new.errors status ends none
no_log rules passes tells asked instance steps count from trace old new status (inr (Err why, said, (inr (inl (shut, opens, is_shut, closed)), quiet, unread), ends)) silent =
    (λ some none. not_told (passes new.sockets) why said new.errors status ends none, nothing old.output new.output closed)
no_log rules passes tells asked instance steps count from trace old new status (inr (Ok done, said, (inr (inl (shut, opens, is_shut, closed)), quiet, unread), ends)) silent =
    absurd (let e = is_shut in cc)
no_log rules passes tells asked instance steps count from trace old new status (inr (Err why, said, (inr (inr (port, between, last, opens, (fetching, left, over, is_last, is), closes)), quiet, unread), ends)) silent =
    let (came, items, n, ended, after, half, mid, begun, printed, headline, contradicts) = (in_lines rules asked (walk_from instance from count) steps (link_over asked.address port) fetching left old.output new.output over.0).0.1 in
    let brought = brought_plain (socket_asks rules) (transactions_with asked) half (link_over asked.address port) mid (walk_from instance from count) after n came items ended begun in
    let none = no_reply rules silent (towards asked.route) asked.retries n (link_over asked.address port) (walk_from instance from count) came items ended after mid brought in (
      λ some zero. not_told (passes new.sockets) why said new.errors status ends zero,
      end_alone items old.output new.output none.1 (cut_over (socket_asks rules) _ items steps n ended after fetching old.output new.output printed),
    )
no_log rules passes tells asked instance steps count from trace old new status (inr (Ok done, said, (inr (inr (port, between, last, opens, (fetching, left, over, is_last, is), closes)), quiet, unread), ends)) silent =
    let (came, items, n, ended, after, half, mid, begun, printed, headline, contradicts) = (in_lines rules asked (walk_from instance from count) steps (link_over asked.address port) fetching left old.output new.output over.0).0.1 in
    let brought = brought_plain (socket_asks rules) (transactions_with asked) half (link_over asked.address port) mid (walk_from instance from count) after n came items ended begun in
    let none = no_reply rules silent (towards asked.route) asked.retries n (link_over asked.address port) (walk_from instance from count) came items ended after mid brought in (
      λ some zero. no_status rules silent asked (walk_from instance from count) steps (link_over asked.address port) fetching (in_lines rules asked (walk_from instance from count) steps (link_over asked.address port) fetching left old.output new.output over.0).0.0 left old.output new.output done (in_lines rules asked (walk_from instance from count) steps (link_over asked.address port) fetching left old.output new.output over.0).0.1 is some (sym ends.0 ∙ zero),
      end_alone items old.output new.output none.1 (cut_over (socket_asks rules) _ items steps n ended after fetching old.output new.output printed),
    )

-- ---- a lost answer

same_fault : (address : List ℕ) (answer : Answer) (why : ExchangeFault) → answer ≡ Err (query.Exchange why) →
    Err (fault.Exchange address exchange.Lost) ≡ of_answer address answer → why ≡ exchange.Lost
same_fault address answer why told is = let e = is ∙ ap (of_answer address) told in cc

-- an ACK isn't told as lost
not_lost : (reals : Reals) (address : List ℕ) (values : Option (List ℕ)) (answer : Answer) (old new : Held) → PrintsValues reals values answer old new →
    Err (fault.Exchange address exchange.Lost) ≡ of_answer address answer → ⊥
not_lost reals address None answer old new prints is =
    let e = same_fault address answer exchange.BadReply prints.0 is in cc
not_lost reals address (Some values) (Ok done) old new prints is = absurd (cc)
not_lost reals address (Some values) (Err query.Write) old new prints is = absurd (cc)
not_lost reals address (Some values) (Err query.Memory) old new prints is = absurd (cc)
not_lost reals address (Some values) (Err (query.Exchange why)) old new prints is = prints

pub lost : {S P C : Type 0} (rules : SocketRules S P) (tells : C → Option CivilTime → C → Type 0) → LostWasAsked rules tells
lost rules tells = λ said old new works. by said old new works
  where
    by : (said : PropertyReading) (old new : Streams _ _) →
        Works rules tells (Rp said) old (Err (fault.Exchange said.asked.address exchange.Lost)) new →
        UsesSocket rules (own_address said.asked.local) said.asked.timeout old.sockets
        (λ port last. (left : UdpLink _) × Unanswered (socket_asks rules)
        (request_octets (towards said.asked.route) (next_invoke 0) (request.ReadProperty (question said)))
        (said.asked.retries + 1) (link_over said.asked.address port) left × (last ≡ left.port))
        new.sockets
    by said old new (inl unasked, quiet, unread) = absurd (let e = unasked.1.0 in cc)
    by said old new (inr (inl (shut, opens, is_shut, closed)), quiet, unread) = absurd (let e = is_shut in cc)
    by said old new (inr (inr (port, between, last, opens, (answer, left, (Ok datagram, exchanged, prints), is_last, is), closes)), quiet, unread) =
        absurd (not_lost (reals_of said.numbers) said.asked.address (values_in (apdu_in datagram)) answer _ _ prints is)
    by said old new (inr (inr (port, between, last, opens, (answer, left, (Err why, exchanged, told), is_last, is), closes)), quiet, unread) =
        let P : ExchangeFault → Type 0 = λ f. Exchanges (socket_asks rules) (way_by (towards said.asked.route) (next_invoke 0) said.asked.retries) (request.ReadProperty (question said)) (link_over said.asked.address port) (Err f) left in
        (port, between, last, opens, (left, subst P (same_fault said.asked.address answer why told.0 is) exchanged, is_last), closes)

-- ---- a server

next_stays : {P C : Type 0} (sends : P → List ℕ → List ℕ → Sending → P → Type 0) (receives : P → Receiving → P → Type 0)
    (tells : C → Option CivilTime → C → Type 0) → ((old new : P) (why : SocketFault) → receives old (Err why) new → ⊥) →
    (waits : ℕ) (old : Server P C) (why : SocketFault) (new : Server P C) → 0 < waits →
    ServesNext sends receives tells waits old (Err why) new → ⊥
unfolding ServesNext
next_stays sends receives tells sure zero old why new some serves = omega (arith, some)
next_stays sends receives tells sure (suc waits) old why new some (Err shut, mid, came, rest) = sure old.port mid shut came
next_stays sends receives tells sure (suc waits) old why new some (Ok heard, mid, came, rest) = absurd (let e = rest.0 in cc)

device_stays : {P C : Type 0} (sends : P → List ℕ → List ℕ → Sending → P → Type 0) (receives : P → Receiving → P → Type 0)
    (tells : C → Option CivilTime → C → Type 0) → ((old new : P) (why : SocketFault) → receives old (Err why) new → ⊥) →
    (count : ℕ) (old : Server P C) (why : SocketFault) (new : Server P C) →
    ServesDevice sends receives tells count old (Err why) new → ⊥
unfolding ServesDevice
device_stays sends receives tells sure zero old why new serves = absurd (let e = serves.0 in cc)
device_stays sends receives tells sure (suc count) old why new (Err shut, mid, next, rest) =
    next_stays sends receives tells sure 18446744073709551615 old shut mid (lit< tt) next
device_stays sends receives tells sure (suc count) old why new (Ok done, mid, next, rest) =
    device_stays sends receives tells sure count mid why new rest

-- the faults of a configuration and of a build aren't the socket's
configured_not : (input left : Held) (why said : Fault) → IsConfigured input left (Err why) → IsOfSocket said → why ≡ said → ⊥
configured_not input left fault.NoDevice said is (inl p) e = let q = e ∙ p in absurd (cc)
configured_not input left fault.NoDevice said is (inr (why, p)) e = let q = e ∙ p in absurd (cc)
configured_not input left (fault.Script refused) said is (inl p) e = let q = e ∙ p in absurd (cc)
configured_not input left (fault.Script refused) said is (inr (why, p)) e = let q = e ∙ p in absurd (cc)
configured_not input left fault.Socket said is of e = is
configured_not input left (fault.Unopened shut) said is of e = is
configured_not input left fault.NotText said is of e = is
configured_not input left fault.OtherTool said is of e = is
configured_not input left (fault.BadValue word) said is of e = is
configured_not input left (fault.LongNumber word) said is of e = is
configured_not input left (fault.Refused address) said is of e = is
configured_not input left (fault.NoAnswer asked) said is of e = is
configured_not input left (fault.List wrong) said is of e = is
configured_not input left (fault.Exchange address wrong) said is of e = is
configured_not input left (fault.Flawed flaw) said is of e = is
configured_not input left (fault.Silent address) said is of e = is
configured_not input left (fault.Declined refusal) said is of e = is
configured_not input left fault.Clock said is of e = is
configured_not input left fault.Write said is of e = is
configured_not input left fault.Memory said is of e = is

-- nor is want of memory
memory_not : (said : Fault) → IsOfSocket said → said ≡ fault.Memory → ⊥
memory_not said (inl p) e = let q = sym e ∙ p in absurd (cc)
memory_not said (inr (why, p)) e = let q = sym e ∙ p in absurd (cc)

-- nor a script's
script_not : (refused : Refused) (said : Fault) → IsOfSocket said → said ≡ fault.Script refused → ⊥
script_not refused said (inl p) e = let q = sym e ∙ p in absurd (cc)
script_not refused said (inr (why, p)) e = let q = sym e ∙ p in absurd (cc)

over_stays : {S P C : Type 0} (rules : SocketRules S P) (tells : C → Option CivilTime → C → Type 0) → NeverFails rules →
    (wanted : Service) (said : Fault) (old new : ServedPort P C) →
    IsServedOver rules tells wanted old (Err said) new → ⊥
over_stays rules tells sure wanted said old new (Ok done, after, told, serves, is) = absurd (cc)
over_stays rules tells sure wanted said old new (Err why, after, told, serves, is) =
    device_stays rules.sends rules.receives tells sure.1 wanted.count _ why _ serves

pub stays : {S P C : Type 0} (rules : SocketRules S P) (tells : C → Option CivilTime → C → Type 0) (served : ServedDevice)
    (said : Fault) (old new : Streams S C) → NeverFails rules → IsOfSocket said →
    Works rules tells (Serve served) old (Err said) new → ⊥
stays rules tells served said old new sure of (inl (why, configured, is, idle), keeps) =
    configured_not old.input new.input why said configured of (let e : why ≡ said = cc in e)
stays rules tells served said old new sure of (inr (c, configured, inl (why, inl unbuilt, is, idle)), keeps) =
    let e = unbuilt.1 in memory_not said of (let p : said ≡ fault.Memory = cc in p)
stays rules tells served said old new sure of (inr (c, configured, inl (why, inr unbuilt, is, idle)), keeps) =
    let e = unbuilt.4 in script_not (refused_with unbuilt.0) said of (let p : said ≡ fault.Script (refused_with unbuilt.0) = cc in p)
stays rules tells served said old new sure of (inr (c, configured, inr (built, inl memory)), keeps) =
    let e = memory.0 in memory_not said of (let p : said ≡ fault.Memory = cc in p)
stays rules tells served said old new sure of (inr (c, configured, inr (built, inr (inl (why, opens, is_shut, closed)))), keeps) =
    sure.0 old.sockets new.sockets served.address _ why opens
stays rules tells served said old new sure of (inr (c, configured, inr (built, inr (inr (port, between, last, opens, serves, closes)))), keeps) =
    over_stays rules tells sure (service _ served.address (wait_of c.objects.items) served.count) said
    (served_port port old.clock old.errors) (served_port last new.clock new.errors) serves
