-- How often `bac log` asks, as events.
use Rattle.std.proofs.Common.{◌≡◌, ◌+◌, ◌*◌, ◌<◌, ◌≤◌, ℕ, suc, Bool, List, [], ◌∷◌, ◌++◌, length, Option, None, Some, Result, Ok, Err, inl, inr, refl, sym, subst, ap, ◌∙◌, suc-mul, add-mul, arith}
use Rattle.std.proofs.lemmas.List.{length-append, length-replicate}
use Rattle.std.proofs.lemmas.Nat.{mul-le}
use Rattle.bac_socket_notes.specs.Ports.{Event}
use Rattle.bac_laws.proofs.Captured.{captured_over, captured_unopened, goes_on, nothing_captured, sent_on}
use Rattle.bac_laws.proofs.Exchange.{Comes, Runs, exchanged}
use Rattle.bac_laws.specs.Events.{Exchanged, IsCaptured, came, sent_in}
use Rattle.bac_laws.specs.Printed.{AsksFew}
use Rattle.bac_link.specs.Exchanges.{Exchanges, Way, next_way}
use Rattle.bac_link.specs.declared.exchanges.ExchangeFault.{ExchangeFault}
use Rattle.bac_link.specs.declared.exchanges.ExchangeFault.TheVariants as fault
use Rattle.bac_link.specs.declared.item.Item.{Item}
use Rattle.bac_link.specs.declared.request.Request.{Request}
use Rattle.bac_link.specs.declared.transactions.Transactions.{Transactions}
use Rattle.bac_ports.specs.Sockets.{SocketRules, link_over, own_address, socket_asks}
use Rattle.bac_ports.specs.declared.udp_link.UdpLink.{UdpLink}
use Rattle.bac_print.specs.Output.{Held}
use Rattle.bac_query.specs.Ahead.{Errand, FetchesAhead, IsLeftAhead, errand}
use Rattle.bac_query.specs.Fetching.{Course, Fetching, TellsRun, course}
use Rattle.bac_query.specs.Reading.{Printing, Session, printing}
use Rattle.bac_query.specs.Tables.{client}
use Rattle.bac_query.specs.declared.fault.QueryFault.TheVariants.{Exchange, Write, Memory}
use Rattle.bac_form.specs.declared.form.Form.{Form}
use Rattle.bac_tools.specs.Asking.{Fetches, FetchesOver}
use Rattle.bac_tools.specs.Ending.{Ending}
use Rattle.bac_tools.specs.Run.{FetchesAsSaid, walk_from}
use Rattle.bac_tools.specs.Sockets.{Outlets, transactions_with}
use Rattle.bac_walk.specs.Came.{Came, answers_of, restarted}
use Rattle.bac_walk.specs.Collects.{batches}
use Rattle.bac_walk.specs.Outcomes.{IsRunOf}
use Rattle.bac_walk.specs.Place.{WalkPlace}
use Rattle.bac_walk.specs.Transacted.{BroughtBy, ComesBy, EndsAfter, WalkBy, asked, spare, walk_by}
use Rattle.bac_walk.specs.declared.outcome.Ended.{Ended}
use Rattle.bac_walk.specs.declared.outcome.Ended.TheVariants.{CaughtUp, StepLimit, Stopped, Fault}
use Rattle.bac_walk.specs.declared.outcome.Why.{Why}
use Rattle.bac_walk.specs.declared.outcome.Why.TheVariants as why
use Rattle.bac_command_line.specs.declared.job.LogReading.{LogReading}

-- ---- one exchange

few_in : (request to : List ℕ) (retries : ℕ) (es : List Event) (answer : Option (List ℕ)) → Exchanged request to retries es answer
    → length (sent_in es) ≤ retries + 1
few_in request to retries es None (sent, over, silent) = omega (arith, ap length sent, length-replicate {A = List ℕ × List ℕ} (retries + 1) (request, to))
few_in request to retries es (Some answer) (again, few, before, shape, sent, over, silent, answers) =
    omega (
      arith,
      few,
      ap (λ (l : List Event). length (sent_in l)) shape,
      ap length (sent_on before (came to answer ∷ [])),
      length-append (sent_in before) (sent_in (came to answer ∷ [])),
      ap length sent,
      length-replicate {A = List ℕ × List ℕ} (again + 1) (request, to),
    )

-- how many steps a run was, by why it ended
abbrev Within : ℕ → ℕ → Why → Type 0
Within steps n why.CaughtUp = n ≤ steps
Within steps n why.StepLimit = n ≤ steps
Within steps n (why.Fault fault) = n ≤ steps
Within steps n why.Memory = n < steps

run_within : (steps n : ℕ) (ended : Ended) (cause : Why) → IsRunOf cause steps n ended → Within steps n cause
run_within steps n ended why.CaughtUp (count, is) = omega (arith, count)
run_within steps n ended why.StepLimit (count, is) = omega (arith, count)
run_within steps n ended (why.Fault fault) (count, is) = omega (arith, count)
run_within steps n ended why.Memory (count, is) = count

left_within : (layout : Form) (left : Why → Type 0) (steps : ℕ) (run : Course) (result : Fetching) (old new : Held)
    → TellsRun layout left steps run result old new → (cause : Why) × left cause × Within steps run.steps cause
left_within layout left steps run (Ok fetched) old new (end, is, text) = (fetched.why, is, run_within steps run.steps run.ended fetched.why end.0)
left_within layout left steps run (Err Write) old new (inl (few, is, text)) = (why.StepLimit, is, few)
left_within layout left steps run (Err Write) old new (inr (cause, next, end, is, text)) = (cause, is, run_within steps run.steps run.ended cause end.0)
left_within layout left steps run (Err Memory) old new (cause, next, end, is, text) = (cause, is, run_within steps run.steps run.ended cause end.0)
left_within layout left steps run (Err (Exchange fault)) old new is = absurd is

-- the exchanges behind a run whose lines there was no memory for
abbrev extra : Why → ℕ
extra why.CaughtUp = 0
extra why.StepLimit = 0
extra (why.Fault fault) = 0
extra why.Memory = 4

all_within : (steps n : ℕ) (cause : Why) → Within steps n cause → extra cause + 2 * n ≤ 2 * steps + 2
all_within steps n why.CaughtUp is = omega (arith, is)
all_within steps n why.StepLimit is = omega (arith, is)
all_within steps n (why.Fault fault) is = omega (arith, is)
all_within steps n why.Memory is = omega (arith, is)

-- ---- exchanges one after the other

module _ {S P : Type 0} (rules : SocketRules S P) where
  comes_few : (way : Way) (r : Request) (peer : List ℕ) (es : List Event) (result : Result (List ℕ) ExchangeFault) → Comes rules way r peer es result
      → length (sent_in es) ≤ way.retries + 1
  comes_few way r peer es (Ok datagram) (is, verdict) = few_in _ peer way.retries es (Some datagram) is
  comes_few way r peer es (Err (fault.Refused refusal)) (datagram, is, verdict) = few_in _ peer way.retries es (Some datagram) is
  comes_few way r peer es (Err fault.BadReply) (datagram, is, verdict) = few_in _ peer way.retries es (Some datagram) is
  comes_few way r peer es (Err fault.Lost) is = few_in _ peer way.retries es None is
  comes_few way r peer es (Err fault.TooLong) is = omega (arith, ap (λ (l : List Event). length (sent_in l)) is)

  -- no more than so many sends lie between
  abbrev Sends : ℕ → UdpLink P → UdpLink P → Type 0
  Sends n old new = (es : List Event) × Runs rules es old.port new.port × (length (sent_in es) ≤ n)

  same_sends : (n : ℕ) (old new : UdpLink P) → new ≡ old → Sends n old new
  same_sends n old new same = ([], ap (λ (l : UdpLink P). l.port) same, omega arith)

  on : (n m : ℕ) (a b c : UdpLink P) → Sends n a b → Sends m b c → Sends (m + n) a c
  on n m a b c (es, first, few) (more, rest, less) = (
    es ++ more,
    goes_on rules.sends rules.receives rules.receives_within es more a.port b.port c.port first rest,
    omega (arith, ap length (sent_on es more), length-append (sent_in es) (sent_in more), few, less),
  )

  within : (n m : ℕ) (a b : UdpLink P) → n ≤ m → Sends n a b → Sends m a b
  within n m a b le (es, runs, few) = (es, runs, omega (arith, le, few))

  on_behind : (n m : ℕ) (a b c : UdpLink P) → Sends n a b → Sends m b c → Sends (n + m) a c
  on_behind n m a b c first rest = within (m + n) (n + m) a c (omega arith) (on n m a b c first rest)

  fewer : (n m k : ℕ) (a b : UdpLink P) → n ≤ m → Sends (n * k) a b → Sends (m * k) a b
  fewer n m k a b le is = within (n * k) (m * k) a b (mul-le n k m k le (omega arith)) is

  exchange : (way : Way) (r : Request) (retries : ℕ) (a : UdpLink P) (answer : Result (List ℕ) ExchangeFault) (b : UdpLink P) → way.retries ≡ retries
      → Exchanges (socket_asks rules) way r a answer b → Sends (retries + 1) a b
  exchange way r retries a answer b same is =
      let it = exchanged rules way r a answer b is in
      (it.1, it.2, subst (λ (n : ℕ). length (sent_in it.1) ≤ n + 1) same (comes_few way r a.peer it.1 answer it.3))

  comes : (retries : ℕ) (came : List Came) (before after : WalkBy (UdpLink P)) → before.transactions.retries ≡ retries
      → ComesBy (socket_asks rules) before came after
      → Sends (length came * (retries + 1)) before.link after.link × (after.transactions.retries ≡ retries)
  comes retries [] before after same (place, link, left) =
      (same_sends (0 * (retries + 1)) before.link after.link link, ap (λ (t : Transactions). t.retries) left ∙ same)
  comes retries (c ∷ came) before after same (mid, next, p, place, asks-by, taken, items, rest) =
      let first = exchange (next_way before.transactions) _ retries before.link (Ok c.datagram) mid same asks-by in
      let more = comes retries came (walk_by mid (asked before.place before.transactions) next) after same rest in (
        subst (λ (n : ℕ). Sends n before.link after.link) (sym (suc-mul (length came) (retries + 1)))
            (on (retries + 1) (length came * (retries + 1)) before.link mid after.link first more.0),
        more.1,
      )

  abbrev Brings : ℕ → ℕ → WalkBy (UdpLink P) → WalkBy (UdpLink P) → Type 0
  Brings retries steps before after = Sends ((2 * steps) * (retries + 1)) before.link after.link × (after.transactions.retries ≡ retries)

  ends : (retries steps : ℕ) (came : List Came) (before here : WalkBy (UdpLink P)) (ended : Ended) (after : WalkBy (UdpLink P))
      → Sends (length came * (retries + 1)) before.link here.link → here.transactions.retries ≡ retries
      → length came ≤ 2 * batches (answers_of came) + spare ended → EndsAfter (socket_asks rules) steps came here ended after → Brings retries steps before after
  ends retries steps came before here CaughtUp after sends same count (empty, few, place, link, left) = (
    fewer (length came) (2 * steps) (retries + 1) before.link after.link (omega (arith, count, few))
        (subst (λ (l : UdpLink P). Sends (length came * (retries + 1)) before.link l) (sym link) sends),
    ap (λ (t : Transactions). t.retries) left ∙ same,
  )
  ends retries steps came before here StepLimit after sends same count (full, few, place, link, left) = (
    fewer (length came) (2 * steps) (retries + 1) before.link after.link (omega (arith, count, few))
        (subst (λ (l : UdpLink P). Sends (length came * (retries + 1)) before.link l) (sym link) sends),
    ap (λ (t : Transactions). t.retries) left ∙ same,
  )
  ends retries steps came before here Stopped after sends same count (full, some, few, link, left) = (
    fewer (length came) (2 * steps) (retries + 1) before.link after.link (omega (arith, count, few))
        (subst (λ (l : UdpLink P). Sends (length came * (retries + 1)) before.link l) (sym link) sends),
    ap (λ (t : Transactions). t.retries) left ∙ same,
  )
  ends retries steps came before here (Fault fault) after sends same count (few, (result, asks-by, is), place, left) =
      let last = exchange (next_way here.transactions) _ retries here.link result after.link same asks-by in (
        fewer (suc (length came)) (2 * steps) (retries + 1) before.link after.link (omega (arith, count, few))
            (subst (λ (n : ℕ). Sends n before.link after.link) (sym (suc-mul (length came) (retries + 1)))
            (on_behind (length came * (retries + 1)) (retries + 1) before.link here.link after.link sends last)),
        ap (λ (t : Transactions). t.retries) left ∙ same,
      )

  brought : (retries : ℕ) (before : WalkBy (UdpLink P)) (steps : ℕ) (came : List Came) (items : List Item) (ended : Ended) (after : WalkBy (UdpLink P))
      → before.transactions.retries ≡ retries → BroughtBy (socket_asks rules) before steps came items ended after → Brings retries steps before after
  brought retries before steps came items ended after same is =
      let it = comes retries came (walk_by before.link before.transactions (restarted before.place)) (walk_by is.mid is.half is.here) same is.comes in
      ends retries steps came before (walk_by is.mid is.half is.here) ended after it.0 it.1 is.few is.ends

  left_sends : (retries : ℕ) (half : Transactions) (mid : UdpLink P) (here : WalkPlace) (last : Transactions) (new : UdpLink P) (cause : Why)
      → half.retries ≡ retries → IsLeftAhead (socket_asks rules) half mid here last new cause → Sends (extra cause * (retries + 1)) mid new
  left_sends retries half mid here last new why.CaughtUp same is = same_sends (0 * (retries + 1)) mid new is.0
  left_sends retries half mid here last new why.StepLimit same is = same_sends (0 * (retries + 1)) mid new is.0
  left_sends retries half mid here last new (why.Fault fault) same is = same_sends (0 * (retries + 1)) mid new is.0
  left_sends retries half mid here last new why.Memory same (steps, came, items, ended, after, few, is) =
      fewer (2 * steps) 4 (retries + 1) mid new (omega (arith, few)) (brought retries (walk_by mid half here) steps came items ended (walk_by new last after) same is).0

  fetched : (retries : ℕ) (wanted : Errand) (old : Session (UdpLink P)) (result : Fetching) (new : Session (UdpLink P)) → old.asker.transactions.retries ≡ retries
      → FetchesAhead wanted (socket_asks rules) old result new → Sends ((2 * wanted.steps + 2) * (retries + 1)) old.asker.link new.asker.link
  fetched retries wanted old result new same (came, items, n, ended, after, half, mid, is, tells, head, more) =
      let first = brought retries (walk_by old.asker.link old.asker.transactions wanted.walk) n came items ended (walk_by mid half after) same is in
      let (cause, left, few) = left_within wanted.layout _ wanted.steps (course items n ended after) result old.printed new.printed tells in
      fewer (extra cause + 2 * n) (2 * wanted.steps + 2) (retries + 1) old.asker.link new.asker.link (all_within wanted.steps n cause few)
      (subst (λ (k : ℕ). Sends k old.asker.link new.asker.link) (sym (add-mul (extra cause) (2 * n) (retries + 1)))
      (on ((2 * n) * (retries + 1)) (extra cause * (retries + 1)) old.asker.link mid new.asker.link first.0
      (left_sends retries half mid after new.asker.transactions new.asker.link cause first.1 left)))

  -- ---- the tool

  over : (said : LogReading) (wanted : Errand) (before : Printing (UdpLink P) Held) (fetching : Fetching) (after : Printing (UdpLink P) Held)
      → FetchesOver rules said.asked wanted before fetching after → Sends ((2 * wanted.steps + 2) * (said.asked.retries + 1)) before.asker after.asker
  over said wanted before fetching after (inl (why, begins, is, same)) =
      same_sends ((2 * wanted.steps + 2) * (said.asked.retries + 1)) before.asker after.asker same
  over said wanted before fetching after (inr (mid, begins, ((last, is, few), run, flaw))) =
      fetched said.asked.retries wanted (printing (client before.asker (transactions_with said.asked)) mid) fetching (printing (client after.asker last) after.printed) refl is

  module _ (traces : S → Bool → S → Type 0) where
    abbrev pub Few : LogReading → S → S → Type 0
    Few said old new = (es : List Event) × IsCaptured rules traces old new es × AsksFew said es

    pub few_none : (said : LogReading) (old new : S) → new ≡ old → Few said old new
    few_none said old new same = ([], nothing_captured rules traces old new same, omega arith)

    asks_few : (said : LogReading) (old : Outlets S) (result : Ending) (new : Outlets S)
        → Fetches rules said.asked (errand said.form (walk_from said.instance said.from said.count) said.steps) old result new
        → Few said old.sockets new.sockets
    asks_few said old result new (inl (why, opens, is, quiet)) =
        ([], captured_unopened rules traces old.sockets new.sockets (own_address said.asked.local) said.asked.timeout why opens, omega arith)
    asks_few said old result new (inr (port, between, last, opens, (fetching, left, (is, says), same, how), closes)) =
        let (es, runs, few) = over said (errand said.form (walk_from said.instance said.from said.count) said.steps)
        (printing (link_over said.asked.address port) old.output) fetching (printing left new.output) is in (
          es,
          captured_over rules traces es old.sockets between new.sockets (own_address said.asked.local) said.asked.timeout port last opens
              (subst (λ (p : P). Runs rules es port p) (sym same) runs) closes,
          few,
        )

    pub said_few : (said : LogReading) (old : Outlets S) (result : Ending) (new : Outlets S) → FetchesAsSaid rules said old result new
        → Few said old.sockets new.sockets
    said_few said old result new (inl (fault, is, keeps, same)) = few_none said old.sockets new.sockets same
    said_few said old result new (inr is) = asks_few said old result new is
