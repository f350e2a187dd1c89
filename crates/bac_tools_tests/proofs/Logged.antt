-- What `run` says of `bac log`: with status 0 no fault was told, so what came over the socket is printed; if the log
-- doesn't change, all of it; and whatever is refused, a front part of it.
use Rattle.std.proofs.Common.{Bool, ◌≡◌, ◌⊎◌, ◌∙◌, inl, inr, ℕ, ◌+◌, ◌-◌, ◌<◌, ◌≤◌, max, List, [], ◌∷◌, ◌++◌, Option, Some, Result, Ok, Err, false, refl, sym, ap, subst, Bool, length, arith}
use Rattle.std.specs.Io.KnownBytes.{Appends, Keeps}
use Rattle.bac_socket_notes.specs.Notes.{nothing as never_asked}
use Rattle.bac_socket_notes.specs.declared.notes.Passed.{Passed}
use Rattle.bac_walk.proofs.Transacted.{brought_plain}
use Rattle.bac_tools.specs.Sockets.{transactions_with}
use Rattle.bac_link.specs.declared.transactions.Transactions.{Transactions}
use Rattle.bac_link.specs.Delivery.{History, Moment, DeliversTo, Brings, items_of, now}
use Rattle.bac_link.specs.Path.{Path, towards}
use Rattle.bac_link.specs.declared.exchanges.ExchangeFault.{ExchangeFault}
use Rattle.bac_link.specs.declared.exchanges.ExchangeFault.TheVariants as exchange
use Rattle.bac_link.specs.declared.item.Item.{Item}
use Rattle.bac_link.specs.declared.link.Lost.{Lost as Loss}
use Rattle.bac_link.proofs.Delivers.{after_one}
use Rattle.bac_link.specs.Exchanges.{client}
use Rattle.bac_log.specs.TrendLog.{sequence_number}
use Rattle.bac_ports.specs.declared.udp_link.UdpLink.{UdpLink}
use Rattle.bac_print.specs.Output.{AppendsPart, Held}
use Rattle.bac_print.proofs.Octets.{whole_part}
use Rattle.bac_query.specs.Ahead.{FetchesAhead, IsLeftAhead, errand}
use Rattle.bac_query.specs.Fetching.{Fetching, IsEnd, TellsRun, course}
use Rattle.bac_query.specs.declared.fault.QueryFault.TheVariants as query
use Rattle.bac_query.proofs.Delivered.{part_of_longer}
use Rattle.bac_query.specs.Ends.{end_line}
use Rattle.bac_query.specs.Finding.{console}
use Rattle.bac_query.specs.Items.{items_text}
use Rattle.bac_query.specs.Reading.{printing}
use Rattle.bac_script.specs.declared.replay.fault.ReplayFault.{ReplayFault}
use Rattle.bac_script.specs.declared.replay.fault.ReplayFault.TheVariants as replay
use Rattle.bac_tools.specs.Asking.{of_fetching}
use Rattle.bac_tools.specs.Run.{IsToldAfter, Runs, walk_from}
use Rattle.bac_form.specs.declared.form.Form.TheVariants.{Lines}
use Rattle.bac_tools_tests.proofs.Plain.{in_lines, plain}
use Rattle.bac_ports.specs.Sockets.{SocketRules, UsesSocket, link_over, own_address, socket_asks}
use Rattle.bac_tools.specs.Status.{exchange_status, exit_status, list_status, script_status, walk_status}
use Rattle.bac_tools.specs.Streams.{Streams}
use Rattle.bac_tools.specs.declared.fault.Fault.{Fault}
use Rattle.bac_tools.specs.declared.fault.Fault.TheVariants.{NotText, BadValue, LongNumber, OtherTool, NoDevice, Script, Unopened, Socket, Refused}
use Rattle.bac_tools.specs.declared.fault.Fault.TheVariants.{NoAnswer, List as ListOf, Exchange, Flawed, Silent, Declined, Clock, Write, Memory}
use Rattle.bac_tools_tests.proofs.AtRest.{few_batches, few_lines, leads_bring}
use Rattle.bac_tools_tests.specs.Logging.{IsCut, IsLogged, IsLoggedAtRest, PrintsAll}
use Rattle.bac_tools_tests.proofs.Settled.{end_of}
use Rattle.bac_walk.specs.Came.{AreOf, Brought, Came, EndsBy, answers_of, reaching, walk_over}
use Rattle.bac_walk.proofs.Came.{start_old}
use Rattle.bac_walk.specs.Collects.{IsCaughtUp, batches}
use Rattle.bac_walk.specs.Delivers.{NoneFrom}
use Rattle.bac_walk.specs.Place.{WalkPlace}
use Rattle.bac_walk.specs.declared.outcome.Ended.{Ended}
use Rattle.bac_walk.specs.declared.outcome.Ended.TheVariants as ended
use Rattle.bac_walk.specs.declared.outcome.WalkFault.TheVariants as walk
use Rattle.bac_command_line.specs.declared.listing.ListFault.{ListFault}
use Rattle.bac_command_line.specs.declared.listing.ListFault.TheVariants as list
use Rattle.bac_walk.specs.declared.outcome.Why.{Why}
use Rattle.bac_walk.specs.declared.outcome.Why.TheVariants as why
use Rattle.bac_wire.specs.Stamp.{CivilTime}
use Rattle.bac_command_line.specs.declared.job.Asked.{Asked}
use Rattle.bac_command_line.specs.declared.job.Job.TheVariants.{Log}

-- no fault has status 0
no_script : (fault : ReplayFault) → script_status fault ≡ 0 → ⊥
no_script (replay.BadLine number) e = omega (arith, e)
no_script (replay.Build fault) e = omega (arith, e)
no_script replay.TooLong e = omega (arith, e)
no_script replay.Read e = omega (arith, e)
no_script replay.Write e = omega (arith, e)
no_script replay.Memory e = omega (arith, e)

no_exchange : (fault : ExchangeFault) → exchange_status fault ≡ 0 → ⊥
no_exchange exchange.TooLong e = omega (arith, e)
no_exchange exchange.Lost e = omega (arith, e)
no_exchange (exchange.Refused refusal) e = omega (arith, e)
no_exchange exchange.BadReply e = omega (arith, e)

no_list : (fault : ListFault) → list_status fault ≡ 0 → ⊥
no_list (list.BadLine number) e = omega (arith, e)
no_list (list.TooMany number) e = omega (arith, e)
no_list list.Empty e = omega (arith, e)
no_list list.TooLong e = omega (arith, e)
no_list list.Read e = omega (arith, e)
no_list list.Memory e = omega (arith, e)

no_fault : (fault : Fault) → exit_status fault ≡ 0 → ⊥
no_fault NotText e = omega (arith, e)
no_fault (BadValue word) e = omega (arith, e)
no_fault (LongNumber word) e = omega (arith, e)
no_fault OtherTool e = omega (arith, e)
no_fault NoDevice e = omega (arith, e)
no_fault (Script refused) e = no_script refused.fault e
no_fault (Unopened why) e = omega (arith, e)
no_fault Socket e = omega (arith, e)
no_fault (Refused address) e = omega (arith, e)
no_fault (NoAnswer asked) e = omega (arith, e)
no_fault (ListOf fault) e = no_list fault e
no_fault (Exchange address fault) e = no_exchange fault e
no_fault (Flawed flaw) e = omega (arith, e)
no_fault (Silent address) e = omega (arith, e)
no_fault (Declined refusal) e = omega (arith, e)
no_fault Clock e = omega (arith, e)
no_fault Write e = omega (arith, e)
no_fault Memory e = omega (arith, e)

pub not_told : (passed : Passed) (fault : Fault) (old new : Held) (status : ℕ) → IsToldAfter passed fault old new status → status ≡ 0 → ⊥
not_told passed fault old new status (inl (is, text)) zero = no_fault fault (sym is ∙ zero)
not_told passed fault old new status (inr (is, text)) zero = no_fault Memory (sym is ∙ zero)

-- what is told of a walk over a link
abbrev pub Over : {P : Type 0} → (UdpLink P → List ℕ → Result (List ℕ) Loss → UdpLink P → Type 0) → Asked → WalkPlace → ℕ →
    UdpLink P → Fetching → Transactions → UdpLink P → Held → Held → Type 0
Over asks asked walk steps link fetching end left old new =
    FetchesAhead (errand Lines walk steps) asks (printing (client link (transactions_with asked)) old) fetching (printing (client left end) new)

-- ---- with status 0

-- the link is as the replies left it
left_there : {P : Type 0} (asks : UdpLink P → List ℕ → Result (List ℕ) Loss → UdpLink P → Type 0) (half end : Transactions)
    (mid left : UdpLink P) (after : WalkPlace) (cause : Why) (last : P) → walk_status cause ≡ 0 → last ≡ left.port →
    IsLeftAhead asks half mid after end left cause → last ≡ mid.port
left_there asks half end mid left after why.CaughtUp last zero is same = is ∙ ap (λ (l : UdpLink _). l.port) same.0
left_there asks half end mid left after why.StepLimit last zero is same = is ∙ ap (λ (l : UdpLink _). l.port) same.0
left_there asks half end mid left after (why.Fault fault) last zero is same = is ∙ ap (λ (l : UdpLink _). l.port) same.0
left_there asks half end mid left after why.Memory last zero is same = absurd (omega (arith, zero))

fetched : {S P : Type 0} (rules : SocketRules S P) (asked : Asked) (walk : WalkPlace) (steps : ℕ) (port last : P) (old new : Held)
    (done : ℕ) (fetching : Fetching) (end : Transactions) (left : UdpLink P) → done ≡ 0 → last ≡ left.port →
    Over (socket_asks rules) asked walk steps (link_over asked.address port) fetching end left old new →
    Ok done ≡ of_fetching Lines asked.address fetching → IsLogged rules asked walk (console port old) (console last new)
fetched rules asked walk steps port last old new done (Err fault) end left zero is_last over is = absurd (cc)
fetched rules asked walk steps port last old new done (Ok said) end left zero is_last over is =
    let (came, items, n, ended, after, half, mid, brought, tells, headline, contradicts) = over in
    let status : walk_status said.why ≡ 0 = sym (end_of asked.address done said.why said.flaw is) ∙ zero in
    let there = left_there (socket_asks rules) half end mid left after said.why last status is_last tells.1 in
    (came, items, n, ended, after, (mid, half, brought, there), (said.why, said.next, tells.2), headline)

-- ---- at rest

-- a run that ended since there were so many steps
all_steps : {S : Type 0} (asks : S → List ℕ → Result (List ℕ) Loss → S → Type 0) (path : Path) (retries n : ℕ)
    (came : List Came) (here : WalkPlace) (mid : S) (e : Ended) (items : List Item) (after : WalkPlace) (new : S) →
    e ≡ ended.StepLimit → EndsBy (reaching asks path retries) n came (walk_over mid here) e (walk_over new after) → AreOf e came items after →
    (batches (answers_of came) ≡ n) × (items ≡ items_of (answers_of came))
all_steps asks path retries n came here mid ended.CaughtUp items after new is ends are = absurd (cc)
all_steps asks path retries n came here mid ended.StepLimit items after new is ends are = (ends.1, are)
all_steps asks path retries n came here mid ended.Stopped items after new is ends are = absurd (cc)
all_steps asks path retries n came here mid (ended.Fault fault) items after new is ends are = absurd (cc)

-- has as many lines at least
so_many : {S : Type 0} (asks : S → List ℕ → Result (List ℕ) Loss → S → Type 0) (path : Path) (retries n : ℕ)
    (came : List Came) (old : S) (walk : WalkPlace) (e : Ended) (items : List Item) (after : WalkPlace) (new : S) →
    e ≡ ended.StepLimit → Brought (reaching asks path retries) (walk_over old walk) n came items e (walk_over new after) → n ≤ length items
so_many asks path retries n came old walk e items after new is (here, mid, comes, ends, are) =
    let all = all_steps asks path retries n came here mid e items after new is ends are in
    omega (arith, all.0, ap length all.1, few_batches (answers_of came))

-- no line is left
none_left : (fresh : Bool) (m : Moment) (t : ℕ) (answers : List (List Item)) → IsCaughtUp fresh t (m ∷ []) answers → NoneFrom t m
none_left fresh m t answers up =
    let P : List Moment → Type 0 = λ M. NoneFrom t (now M) in
    subst P (after_one up.0 m) up.3

-- what a walk of a log that doesn't change leaves, if its status is 0
all_printed : (H : History) (m : Moment) (s t steps n count : ℕ) (items : List Item) (answers : List (List Item)) (fresh : Bool)
    (e : Ended) (after : WalkPlace) (w : Why) (next : ℕ) (old new : Held) → walk_status w ≡ 0 →
    IsEnd steps n e after w next → Appends old new (items_text items ++ end_line w next) →
    DeliversTo H s items t (m ∷ []) count → after.next ≡ sequence_number t →
    (e ≡ ended.CaughtUp → IsCaughtUp fresh t (m ∷ []) answers) → (e ≡ ended.StepLimit → n ≤ length items) →
    ((m.newest + 1) - max s m.oldest) + 1 < steps → PrintsAll H m s old new
all_printed H m s t steps n count items answers fresh e after why.CaughtUp next old new zero end prints delivers place up limit enough =
    let P : List Item → Type 0 = λ l. Brings H m s l t in
    let Q : ℕ → Type 0 = λ k. Appends old new (items_text items ++ end_line why.CaughtUp k) in (
      items,
      t,
      subst P delivers.2 (leads_bring H m s delivers.0 t delivers.3),
      none_left fresh m t answers (up end.0.1),
      subst Q (end.1 ∙ place) prints,
    )
all_printed H m s t steps n count items answers fresh e after why.StepLimit next old new zero end prints delivers place up limit enough =
    let P : List Item → Type 0 = λ l. Brings H m s l t in
    let brings = subst P delivers.2 (leads_bring H m s delivers.0 t delivers.3) in
    absurd (omega (arith, limit end.0.1, end.0.0, few_lines H m s items t brings, enough))
all_printed H m s t steps n count items answers fresh e after (why.Fault walk.Lost) next old new zero end prints delivers place up limit enough =
    absurd (omega (arith, zero))
all_printed H m s t steps n count items answers fresh e after (why.Fault (walk.Refused refusal)) next old new zero end prints delivers place up limit enough =
    absurd (omega (arith, zero))
all_printed H m s t steps n count items answers fresh e after (why.Fault walk.BadReply) next old new zero end prints delivers place up limit enough =
    absurd (omega (arith, zero))
all_printed H m s t steps n count items answers fresh e after why.Memory next old new zero end prints delivers place up limit enough =
    absurd (omega (arith, zero))

rested : {S P : Type 0} (rules : SocketRules S P) (asked : Asked) (walk : WalkPlace) (steps : ℕ) (port last : P) (old new : Held)
    (done : ℕ) (fetching : Fetching) (end : Transactions) (left : UdpLink P) → done ≡ 0 → last ≡ left.port → walk.fresh ≡ false →
    Over (socket_asks rules) asked walk steps (link_over asked.address port) fetching end left old new →
    Ok done ≡ of_fetching Lines asked.address fetching → IsLoggedAtRest rules asked walk steps (console port old) (console last new)
rested rules asked walk steps port last old new done (Err fault) end left zero is_last fresh over is = absurd (cc)
rested rules asked walk steps port last old new done (Ok said) end left zero is_last fresh over is =
    let (came, items, n, ended, after, half, mid, begun, tells, headline, contradicts) = over in
    let brought = brought_plain (socket_asks rules) (transactions_with asked) half (link_over asked.address port) mid walk after n came items ended begun in
    let status : walk_status said.why ≡ 0 = sym (end_of asked.address done said.why said.flaw is) ∙ zero in
    let there = left_there (socket_asks rules) half end mid left after said.why last status is_last tells.1 in (
      came,
      items,
      n,
      ended,
      after,
      (mid, half, begun, there),
      λ H m low s at number window low_s s_high enough.
          (let (b, t, begins, place, leads, delivers, up) = headline H (m ∷ []) low s at number (omega arith) tt (window, tt) (λ old. (low_s, s_high)) in
          let P : ℕ → Type 0 = λ k. DeliversTo H k items t (m ∷ []) (length came) in
          all_printed H m s t steps n (length came) items (answers_of came) walk.fresh ended after said.why said.next old new status tells.0 tells.2
          (subst P (begins ∙ start_old walk.fresh s (m ∷ []) (answers_of came) fresh) delivers) place up
          (λ limit. so_many (socket_asks rules) (towards asked.route) asked.retries n came (link_over asked.address port) walk ended items after mid limit brought)
          enough),
    )

-- ---- whatever is refused

pub cut_over : {P : Type 0} (asks : UdpLink P → List ℕ → Result (List ℕ) Loss → UdpLink P → Type 0) (left : Why → Type 0)
    (items : List Item) (steps n : ℕ) (e : Ended) (after : WalkPlace) (fetching : Fetching) (old new : Held) →
    TellsRun Lines left steps (course items n e after) fetching old new →
    (w : Why) × (next : ℕ) × AppendsPart old new (items_text items ++ end_line w next)
cut_over asks left items steps n e after (Ok fetched) old new tells =
    (fetched.why, fetched.next, whole_part old new _ tells.2)
cut_over asks left items steps n e after (Err query.Write) old new (inl tells) =
    (why.StepLimit, 0, part_of_longer old new (items_text items) (end_line why.StepLimit 0) tells.2)
cut_over asks left items steps n e after (Err query.Write) old new (inr tells) = (tells.0, tells.1, tells.4)
cut_over asks left items steps n e after (Err query.Memory) old new tells =
    (tells.0, tells.1, part_of_longer old new (items_text items) (end_line tells.0 tells.1) (whole_part old new (items_text items) tells.4))
cut_over asks left items steps n e after (Err (query.Exchange fault)) old new tells = absurd tells

-- ---- over a socket

pub logged : {S P C : Type 0} (rules : SocketRules S P) (passes : S → Passed) (tells : C → Option CivilTime → C → Type 0) (asked : Asked)
    (instance steps count : ℕ) (from : Option ℕ) (trace : Bool) (old new : Streams S C) (status : ℕ) →
    Runs rules passes tells (Log (plain asked instance from steps count trace)) old status new → status ≡ 0 →
    UsesSocket rules (own_address asked.local) asked.timeout old.sockets
    (λ port last. IsLogged rules asked (walk_from instance from count) (console port old.output) (console last new.output)) new.sockets
logged rules passes tells asked instance steps count from trace old new status (inl told) zero =
    absurd (not_told never_asked Memory old.errors new.errors status told.0 zero)
logged rules passes tells asked instance steps count from trace old new status (inr (Err fault, said, works, ends)) zero =
    absurd (not_told (passes new.sockets) fault said new.errors status ends zero)
logged rules passes tells asked instance steps count from trace old new status (inr (Ok done, said, (inl unasked, quiet, unread), ends)) zero =
    absurd (let e = unasked.1.1 in cc)
logged rules passes tells asked instance steps count from trace old new status (inr (Ok done, said, (inr (inl (fault, opens, is_shut, closed)), quiet, unread), ends)) zero =
    absurd (let e = is_shut in cc)
logged rules passes tells asked instance steps count from trace old new status (inr (Ok done, said, (inr (inr (port, between, last, opens, (fetching, left, over, is_last, is), closes)), quiet, unread), ends)) zero = (
  port,
  between,
  last,
  opens,
  fetched rules asked (walk_from instance from count) steps port last old.output new.output done fetching (in_lines rules asked (walk_from instance from count) steps (link_over asked.address port) fetching left old.output new.output over.0).0.0 left (sym ends.0 ∙ zero) is_last (in_lines rules asked (walk_from instance from count) steps (link_over asked.address port) fetching left old.output new.output over.0).0.1 is,
  closes,
)

pub logged_at_rest : {S P C : Type 0} (rules : SocketRules S P) (passes : S → Passed) (tells : C → Option CivilTime → C → Type 0) (asked : Asked)
    (instance steps count number : ℕ) (trace : Bool) (old new : Streams S C) (status : ℕ) →
    Runs rules passes tells (Log (plain asked instance (Some number) steps count trace)) old status new → status ≡ 0 →
    UsesSocket rules (own_address asked.local) asked.timeout old.sockets
    (λ port last. IsLoggedAtRest rules asked (walk_from instance (Some number) count) steps (console port old.output) (console last new.output))
    new.sockets
logged_at_rest rules passes tells asked instance steps count number trace old new status (inl told) zero =
    absurd (not_told never_asked Memory old.errors new.errors status told.0 zero)
logged_at_rest rules passes tells asked instance steps count number trace old new status (inr (Err fault, said, works, ends)) zero =
    absurd (not_told (passes new.sockets) fault said new.errors status ends zero)
logged_at_rest rules passes tells asked instance steps count number trace old new status (inr (Ok done, said, (inl unasked, quiet, unread), ends)) zero =
    absurd (let e = unasked.1.1 in cc)
logged_at_rest rules passes tells asked instance steps count number trace old new status (inr (Ok done, said, (inr (inl (fault, opens, is_shut, closed)), quiet, unread), ends)) zero =
    absurd (let e = is_shut in cc)
logged_at_rest rules passes tells asked instance steps count number trace old new status (inr (Ok done, said, (inr (inr (port, between, last, opens, (fetching, left, over, is_last, is), closes)), quiet, unread), ends)) zero = (
  port,
  between,
  last,
  opens,
  rested rules asked (walk_from instance (Some number) count) steps port last old.output new.output done fetching (in_lines rules asked (walk_from instance (Some number) count) steps (link_over asked.address port) fetching left old.output new.output over.0).0.0 left (sym ends.0 ∙ zero) is_last refl (in_lines rules asked (walk_from instance (Some number) count) steps (link_over asked.address port) fetching left old.output new.output over.0).0.1 is,
  closes,
)

pub printed_in_order : {S P C : Type 0} (rules : SocketRules S P) (passes : S → Passed) (tells : C → Option CivilTime → C → Type 0) (asked : Asked)
    (instance steps count : ℕ) (from : Option ℕ) (trace : Bool) (old new : Streams S C) (status : ℕ) →
    Runs rules passes tells (Log (plain asked instance from steps count trace)) old status new →
    Keeps old.output new.output
    ⊎ UsesSocket rules (own_address asked.local) asked.timeout old.sockets
    (λ port last. IsCut rules asked (walk_from instance from count) port old.output new.output) new.sockets
printed_in_order rules passes tells asked instance steps count from trace old new status (inl told) = inl told.1
printed_in_order rules passes tells asked instance steps count from trace old new status (inr (result, said, (inl unasked, quiet, unread), ends)) = inl unasked.2
printed_in_order rules passes tells asked instance steps count from trace old new status (inr (result, said, (inr (inl (fault, opens, is_shut, closed)), quiet, unread), ends)) =
    inl closed
printed_in_order rules passes tells asked instance steps count from trace old new status (inr (result, said, (inr (inr (port, between, last, opens, (fetching, left, over, is_last, is), closes)), quiet, unread), ends)) =
    let (came, items, n, ended, after, half, mid, begun, printed, headline, contradicts) = (in_lines rules asked (walk_from instance from count) steps (link_over asked.address port) fetching left old.output new.output over.0).0.1 in
    let brought = brought_plain (socket_asks rules) (transactions_with asked) half (link_over asked.address port) mid (walk_from instance from count) after n came items ended begun in
    inr (
      port,
      between,
      last,
      opens,
      (came, items, n, ended, after, (mid, brought), cut_over (socket_asks rules) _ items steps n ended after fetching old.output new.output printed),
      closes,
    )
