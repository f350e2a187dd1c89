-- What the tools leave whole that ask over one socket.
use Rattle.std.proofs.Common.{◌≡◌, ℕ, true, List, Ok, Err, inl, inr, refl}
use Rattle.std.specs.Io.KnownBytes.{Keeps}
use Rattle.bac_apdu.specs.declared.service.read_property.ReadProperty.{ReadProperty}
use Rattle.bac_apdu.specs.declared.service.write_property.WriteProperty.{WriteProperty}
use Rattle.bac_laws.proofs.Asked.{Leads, alike, exchanged}
use Rattle.bac_laws.proofs.Over.{StaysWhole, StaysSo, linked, over_link, used}
use Rattle.bac_laws.proofs.Walked.{brought, lists_logs}
use Rattle.bac_laws.specs.Sends.{IsReadProperty, IsReadRange, IsWriteProperty, Requests, Seal}
use Rattle.bac_link.specs.Exchanges.{Ask}
use Rattle.bac_link.specs.declared.request.Request.TheVariants as request
use Rattle.bac_link.specs.declared.transactions.Transactions.{Transactions}
use Rattle.bac_ports.specs.Sockets.{SocketRules, link_over, own_address, socket_asks}
use Rattle.bac_ports.specs.declared.udp_link.UdpLink.{UdpLink}
use Rattle.bac_print.specs.Output.{Held}
use Rattle.bac_query.specs.Ahead.{Errand, FetchesAhead, IsLeftAhead}
use Rattle.bac_query.specs.Fetching.{Course, Fetching, TellsRun, course}
use Rattle.bac_query.specs.Reading.{Printing, ReadsOver, Session, next_way, printing}
use Rattle.bac_query.specs.Writing.{WritesOver}
use Rattle.bac_query.specs.Tables.{ListsLogs, client}
use Rattle.bac_query.specs.declared.fault.QueryFault.TheVariants.{Exchange, Write, Memory}
use Rattle.bac_form.specs.declared.form.Form.{Form}
use Rattle.bac_query.specs.declared.reals.Reals.{Reals}
use Rattle.bac_tools.specs.Asking.{AsksDevice, Fetches, FetchesOver, Lists, OverLink, Reads, SaysOf, Writes, of_answer, of_fetching}
use Rattle.bac_tools.specs.Ending.{Ending}
use Rattle.bac_tools.specs.Sockets.{Binding, IsDoneOver, Outlets, Outside, binding, outside, transactions_with}
use Rattle.bac_walk.specs.Place.{WalkPlace}
use Rattle.bac_walk.specs.Transacted.{walk_by}
use Rattle.bac_walk.specs.declared.outcome.Why.{Why}
use Rattle.bac_walk.specs.declared.outcome.Why.TheVariants as why
use Rattle.bac_wire.specs.Primitive.{Id}
use Rattle.bac_command_line.specs.declared.job.Asked.{Asked}

-- what a run tells comes with how its link was left
pub left_so : (layout : Form) (left : Why → Type 0) (steps : ℕ) (run : Course) (result : Fetching) (old new : Held)
    → TellsRun layout left steps run result old new → (cause : Why) × left cause
left_so layout left steps run (Ok fetched) old new (end, is, text) = (fetched.why, is)
left_so layout left steps run (Err Write) old new (inl (few, is, text)) = (why.StepLimit, is)
left_so layout left steps run (Err Write) old new (inr (cause, next, end, is, text)) = (cause, is)
left_so layout left steps run (Err Memory) old new (cause, next, end, is, text) = (cause, is)
left_so layout left steps run (Err (Exchange fault)) old new is = absurd is

-- ---- over any link

module _ {L : Type 0} {asks : Ask L} (leads : Leads asks IsReadRange) where
  pub is_left : (half : Transactions) (mid : L) (here : WalkPlace) (last : Transactions) (new : L) (cause : Why)
      → IsLeftAhead asks half mid here last new cause → leads.to mid new
  is_left half mid here last new why.CaughtUp is = alike leads mid new is.0
  is_left half mid here last new why.StepLimit is = alike leads mid new is.0
  is_left half mid here last new (why.Fault fault) is = alike leads mid new is.0
  is_left half mid here last new why.Memory (steps, came, items, ended, after, few, is) =
      brought leads (λ r. (r, refl)) (walk_by mid half here) steps came items ended (walk_by new last after) is

  fetched : (wanted : Errand) (old : Session L) (result : Fetching) (new : Session L)
      → FetchesAhead wanted asks old result new → leads.to old.asker.link new.asker.link
  fetched wanted old result new (came, items, n, ended, after, half, mid, is, tells, head, more) =
      let at = left_so wanted.layout _ wanted.steps (course items n ended after) result old.printed new.printed tells in
      leads.on old.asker.link mid new.asker.link
      (brought leads (λ r. (r, refl)) (walk_by old.asker.link old.asker.transactions wanted.walk) n came items ended (walk_by mid half after) is)
      (is_left half mid after new.asker.transactions new.asker.link at.0 at.1)

module _ {S P : Type 0} {rules : SocketRules S P} {changes : S → S → Type 0} {may : List ℕ → List ℕ → Type 0}
    (seal : Seal rules changes may) where
  pub done_over : (bound : Binding) (old new : S) (result : Ending) (quiet : Type 0) (does : P → P → Type 0)
      → ((port last : P) → does port last → StaysWhole seal port last)
      → IsDoneOver rules bound old new result quiet does → seal.sockets old ≡ true → seal.sockets new ≡ true
  done_over bound old new result quiet does each (inl (why, opens, is, silent)) whole =
      (seal.opens old new bound.address bound.wait (Err why) whole opens).0
  done_over bound old new result quiet does each (inr uses) whole =
      used seal bound.address bound.wait old does new each uses whole

  -- what is done over the port of a device
  abbrev Over : {A : Type 0} → Asked → OverLink P A → (A → Ending) → Outside S → Ending → Outside S → P → P → Type 0
  Over {A = A} asked does ends old result new port last = (answer : A) × (left : UdpLink P)
      × does (printing (link_over asked.address port) old.output) answer (printing left new.output) × (last ≡ left.port)
      × (result ≡ ends answer)

  device : {A : Type 0} (asked : Asked) (does : OverLink P A) (ends : A → Ending) (old : Outside S) (result : Ending)
      (new : Outside S)
      → ((before : Printing (UdpLink P) Held) (answer : A) (after : Printing (UdpLink P) Held) → does before answer after
      → StaysSo seal asked.address before.asker after.asker)
      → AsksDevice rules asked does ends old result new → seal.sockets old.sockets ≡ true → seal.sockets new.sockets ≡ true
  device {A = A} asked does ends old result new each is whole =
      done_over (binding (own_address asked.local) asked.timeout) old.sockets new.sockets result (Keeps old.output new.output) (Over {A = A} asked does ends old result new)
      (λ port last did. linked seal asked.address port last did.1
      (each (printing (link_over asked.address port) old.output) did.0 (printing did.1 new.output) did.2) did.3) is whole

  pub reads : (asked : Asked) (question : ReadProperty) (reals : Reals) (old : Outside S) (result : Ending)
      (new : Outside S) → ((octets : List ℕ) → Requests IsReadProperty octets → may octets asked.address)
      → Reads rules asked question reals old result new → seal.sockets old.sockets ≡ true → seal.sockets new.sockets ≡ true
  reads asked question reals' old result new ok is whole = device asked (ReadsOver (socket_asks rules) (next_way (transactions_with asked)) question reals') (of_answer asked.address) old result new
      (λ before answer after did. exchanged (over_link seal asked.address IsReadProperty ok) (next_way (transactions_with asked)) (request.ReadProperty question)
      before.asker did.0 after.asker (question, refl) did.1) is whole

  pub writes : (asked : Asked) (w : WriteProperty) (old : Outside S) (result : Ending)
      (new : Outside S) → ((octets : List ℕ) → Requests IsWriteProperty octets → may octets asked.address)
      → Writes rules asked (request.WriteProperty w) old result new → seal.sockets old.sockets ≡ true
      → seal.sockets new.sockets ≡ true
  writes asked w old result new ok is whole = device asked (WritesOver (socket_asks rules) (next_way (transactions_with asked)) (request.WriteProperty w)) (of_answer asked.address) old result new
      (λ before answer after did. exchanged (over_link seal asked.address IsWriteProperty ok) (next_way (transactions_with asked)) (request.WriteProperty w)
      before.asker did.0 after.asker (w, refl) did.1) is whole

  pub lists : (asked : Asked) (logs : List Id) (old : Outside S) (result : Ending) (new : Outside S)
      → ((octets : List ℕ) → Requests IsReadProperty octets → may octets asked.address)
      → Lists rules asked logs old result new → seal.sockets old.sockets ≡ true → seal.sockets new.sockets ≡ true
  lists asked logs old result new ok is whole = device asked
      (λ before answer after. (last : Transactions) × ListsLogs (socket_asks rules) logs
      (printing (client before.asker (transactions_with asked)) before.printed) answer (printing (client after.asker last) after.printed))
      (of_answer asked.address) old result new
      (λ before answer after did. lists_logs (over_link seal asked.address IsReadProperty ok) (λ q. (q, refl)) logs
      (printing (client before.asker (transactions_with asked)) before.printed) answer
      (printing (client after.asker did.0) after.printed) did.1) is whole

  fetches_over : (asked : Asked) (wanted : Errand) → ((octets : List ℕ) → Requests IsReadRange octets → may octets asked.address)
      → (before : Printing (UdpLink P) Held) (fetching : Fetching) (after : Printing (UdpLink P) Held)
      → FetchesOver rules asked wanted before fetching after → StaysSo seal asked.address before.asker after.asker
  fetches_over asked wanted ok before fetching after (inl (fault, begins, is, same)) =
      alike (over_link seal asked.address IsReadRange ok) before.asker after.asker same
  fetches_over asked wanted ok before fetching after (inr (mid, begins, ((last, is, few), run, flaw))) =
      fetched (over_link seal asked.address IsReadRange ok) wanted
      (printing (client before.asker (transactions_with asked)) mid) fetching (printing (client after.asker last) after.printed) is

  pub fetches : (asked : Asked) (wanted : Errand) (old : Outlets S) (result : Ending) (new : Outlets S)
      → ((octets : List ℕ) → Requests IsReadRange octets → may octets asked.address)
      → Fetches rules asked wanted old result new → seal.sockets old.sockets ≡ true → seal.sockets new.sockets ≡ true
  fetches asked wanted old result new ok is whole =
      device asked (λ before fetching after. FetchesOver rules asked wanted before fetching after × SaysOf fetching old.errors new.errors)
      (of_fetching wanted.layout asked.address) (outside old.sockets old.output) result (outside new.sockets new.output)
      (λ before answer after did. fetches_over asked wanted ok before answer after did.0) is whole
