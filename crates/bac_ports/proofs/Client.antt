-- An exchange over a port is a run of the client's events.
use Rattle.std.proofs.Common.{◌≡◌, ℕ, zero, suc, ◌+◌, ◌<◌, ◌≤◌, nat_lt, Bool, true, false, ◌&&◌, if◌then◌else◌, List, [], ◌∷◌, ◌++◌, Option, Some, None, Result, Ok, Err, inl, inr, refl, sym, ap, subst, ◌∙◌, arith, add-one}
use Rattle.std.proofs.lemmas.Bool.{le-ltb, lt-ltb}
use Rattle.std.proofs.lemmas.Slice.Eq.{bytes_eq-Decides}
use Rattle.std.specs.Str.{bytes_eq}
use Rattle.bac_link.specs.declared.exchanges.ExchangeFault.{ExchangeFault}
use Rattle.bac_link.specs.declared.exchanges.ExchangeFault.TheVariants as fault
use Rattle.bac_link.specs.declared.exchanges.Verdict.{Verdict}
use Rattle.bac_link.specs.declared.link.Lost.{Lost}
use Rattle.bac_link.specs.declared.request.Request.{Request}
use Rattle.bac_link.specs.declared.transactions.Transactions.{Transactions}
use Rattle.bac_link.specs.Client.{ClientEvent, Begin, Come, TimeOut, after_event, after_events, taken_of}
use Rattle.bac_link.specs.Datagrams.{answers_to}
use Rattle.bac_link.specs.Exchanges.{Answers, Exchanges, IsNoAnswer, Unanswered, next_way}
use Rattle.bac_link.specs.Path.{towards}
use Rattle.bac_link.specs.Requests.{next_invoke, request_octets}
use Rattle.bac_link.specs.Transactions.{begun_with, closed}
use Rattle.bac_ports.specs.declared.port.Heard.{Heard}
use Rattle.bac_ports.specs.Asking.{Asks, Awaits, IsTaken, fitting, fitting_of, to_peer}
use Rattle.bac_ports.specs.Client.{ExchangesAreRuns, IsOfOthers, IsTakenAs, Runs, SendsAll}
use Rattle.bac_ports.specs.Port.{Receiving, Sending}

abbrev Sends : Type 0 → Type 1
Sends P = P → List ℕ → List ℕ → Sending → P → Type 0

abbrev Hears : Type 0 → Type 1
Hears P = P → Receiving → P → Type 0

-- so many repeats of the open request were given
abbrev waiting : Transactions → List ℕ → ℕ → Transactions
waiting u octets k = record u { pending = Some (record { request = octets; repeats = k }) }

-- a run from here on, with one event at least, that leaves the client so and takes these answers
record Ends {P : Type 0} (sends : Sends P) (receives : Hears P) (peer : List ℕ) (t : Transactions) (port end : P) (left : Transactions) (taken : List (List ℕ)) : Type 0 where
  first : ClientEvent
  rest : List ClientEvent
  runs : Runs sends receives peer t (first ∷ rest) port end
  after : after_events t (first ∷ rest) ≡ left
  takes : taken_of t (first ∷ rest) ≡ taken

-- ---- a receive more

passed : {P : Type 0} (sends : Sends P) (receives : Hears P) (peer : List ℕ) (t : Transactions) (port mid end : P) (left : Transactions) (taken : List (List ℕ)) (heard : Receiving) →
    receives port heard mid → IsOfOthers peer heard → Ends sends receives peer t mid end left taken → Ends sends receives peer t port end left taken
passed sends receives peer t port mid end left taken heard received others e =
    let r = e.runs in record {
      first = e.first;
      rest = e.rest;
      runs = (heard ∷ r.0, r.1, r.2, r.3, (mid, received, others, r.4), r.5, r.6, r.7);
      after = e.after;
      takes = e.takes;
    }

-- a datagram of the peer that doesn't answer the open request
ignored : {P : Type 0} (sends : Sends P) (receives : Hears P) (peer octets : List ℕ) (u : Transactions) (k : ℕ) (port mid end : P) (left : Transactions) (taken : List (List ℕ)) (heard : Heard) (datagram : List ℕ) →
    receives port (Ok heard) mid → heard.from ≡ peer → heard.datagram ≡ Some datagram → answers_to octets datagram ≡ false →
    Ends sends receives peer (waiting u octets k) mid end left taken → Ends sends receives peer (waiting u octets k) port end left taken
ignored {P = P} sends receives peer octets u k port mid end left taken heard datagram received from is other e =
    let T : Transactions = waiting u octets k in
    let same : after_event T (Come datagram) ≡ T = ap (λ (b : Bool). if b then closed T else T) other in
    let none : (if answers_to octets datagram then datagram ∷ [] else []) ≡ [] = ap (λ (b : Bool). if b then datagram ∷ [] else []) other in
    let R : Transactions → Type 0 = λ v. Runs sends receives peer v (e.first ∷ e.rest) mid end in
    record {
      first = Come datagram;
      rest = e.first ∷ e.rest;
      runs = ([], port, mid, mid, refl, (heard, received, from, is), refl, subst R (sym same) e.runs);
      after = ap (λ (v : Transactions). after_events v (e.first ∷ e.rest)) same ∙ e.after;
      takes = ap (λ (l : List (List ℕ)). l ++ taken_of (after_event T (Come datagram)) (e.first ∷ e.rest)) none
          ∙ ap (λ (v : Transactions). taken_of v (e.first ∷ e.rest)) same ∙ e.takes;
    }

-- the answer to it
answered : {P : Type 0} (sends : Sends P) (receives : Hears P) (peer octets : List ℕ) (u : Transactions) (k : ℕ) (port end : P) (heard : Heard) (datagram : List ℕ) →
    receives port (Ok heard) end → heard.from ≡ peer → heard.datagram ≡ Some datagram → answers_to octets datagram ≡ true →
    Ends sends receives peer (waiting u octets k) port end (closed u) (datagram ∷ [])
answered sends receives peer octets u k port end heard datagram received from is fit =
    let T : Transactions = waiting u octets k in record {
      first = Come datagram;
      rest = [];
      runs = ([], port, end, end, refl, (heard, received, from, is), refl, refl);
      after = ap (λ (b : Bool). if b then closed T else T) fit;
      takes = ap (λ (b : Bool). (if b then datagram ∷ [] else []) ++ []) fit;
    }

-- ---- a wait

-- what is more to be done, of a datagram that doesn't fit
more_of : {P : Type 0} (o : Option (List ℕ)) (port new : P) (result : Result (List ℕ) Lost) (more : Type 0) → o ≡ None → IsTaken o port result new more → more
more_of {P = P} o port new result more none taken = let F : Option (List ℕ) → Type 0 = λ x. IsTaken x port result new more in subst F none taken

-- what came of the peer, or of others
data Came (peer octets : List ℕ) (heard : Heard) : Type 0 where
  Others : IsOfOthers peer (Ok heard) → fitting peer octets heard ≡ None → Came peer octets heard
  Ignored : (datagram : List ℕ) → heard.from ≡ peer → heard.datagram ≡ Some datagram → answers_to octets datagram ≡ false → fitting peer octets heard ≡ None → Came peer octets heard
  Answer : (datagram : List ℕ) → heard.from ≡ peer → heard.datagram ≡ Some datagram → answers_to octets datagram ≡ true → fitting peer octets heard ≡ Some datagram → Came peer octets heard

came : (peer octets : List ℕ) (heard : Heard) → Came peer octets heard
came peer octets heard = by heard.datagram refl
  where
    at : (datagram : List ℕ) → heard.datagram ≡ Some datagram → (own fit : Bool) → bytes_eq heard.from peer ≡ own → answers_to octets datagram ≡ fit → Came peer octets heard
    at datagram is false fit of a =
        Others (inl (λ same. absurd (let e = sym of ∙ (bytes_eq-Decides heard.from peer).1 same in cc)))
        (ap (fitting_of peer octets heard.from) is ∙ ap (λ (b : Bool). if b && answers_to octets datagram then Some datagram else None) of)
    at datagram is true false of a =
        Ignored datagram ((bytes_eq-Decides heard.from peer).0 of) is a
        (ap (fitting_of peer octets heard.from) is ∙ ap (λ (b : Bool). if b && answers_to octets datagram then Some datagram else None) of ∙ ap (λ (b : Bool). if b then Some datagram else None) a)
    at datagram is true true of a =
        Answer datagram ((bytes_eq-Decides heard.from peer).0 of) is a
        (ap (fitting_of peer octets heard.from) is ∙ ap (λ (b : Bool). if b && answers_to octets datagram then Some datagram else None) of ∙ ap (λ (b : Bool). if b then Some datagram else None) a)

    by : (o : Option (List ℕ)) → heard.datagram ≡ o → Came peer octets heard
    by None is = Others (inr is) (ap (fitting_of peer octets heard.from) is)
    by (Some datagram) is = at datagram is (bytes_eq heard.from peer) (answers_to octets datagram) refl refl

-- one that brought nothing, before the run goes on
waits_lost : {P : Type 0} (sends : Sends P) (receives : Hears P) (peer octets : List ℕ) (u : Transactions) (k : ℕ) (end : P) (left : Transactions) (taken : List (List ℕ)) (lost : Lost)
    (n : ℕ) (port new : P) → Awaits receives peer octets n port (Err lost) new →
    Ends sends receives peer (waiting u octets k) new end left taken → Ends sends receives peer (waiting u octets k) port end left taken
unfolding Awaits
waits_lost {P = P} sends receives peer octets u k end left taken lost zero port new waits e =
    let E : P → Type 0 = λ p. Ends sends receives peer (waiting u octets k) p end left taken in subst E waits.1 e
waits_lost {P = P} sends receives peer octets u k end left taken lost (suc n) port new (Err refused, mid, received, rest) e =
    let E : P → Type 0 = λ p. Ends sends receives peer (waiting u octets k) p end left taken in
    passed sends receives peer (waiting u octets k) port mid end left taken (Err refused) received tt (subst E rest.1 e)
waits_lost {P = P} sends receives peer octets u k end left taken lost (suc n) port new (Ok heard, mid, received, rest) e =
    elim (came peer octets heard) [
      | Others others none ↦
          passed sends receives peer (waiting u octets k) port mid end left taken (Ok heard) received others
          (waits_lost sends receives peer octets u k end left taken lost n mid new (more_of (fitting peer octets heard) mid new (Err lost) _ none rest) e)
      | Ignored datagram from is other none ↦
          ignored sends receives peer octets u k port mid end left taken heard datagram received from is other
          (waits_lost sends receives peer octets u k end left taken lost n mid new (more_of (fitting peer octets heard) mid new (Err lost) _ none rest) e)
      | Answer datagram from is fit some ↦
          let F : Option (List ℕ) → Type 0 = λ o. IsTaken o mid (Err lost) new (Awaits receives peer octets n mid (Err lost) new) in
          absurd (let q = (subst F some rest).0 in cc)
    ]

-- one that brought the answer
waits_ok : {P : Type 0} (sends : Sends P) (receives : Hears P) (peer octets : List ℕ) (u : Transactions) (k : ℕ) (datagram : List ℕ)
    (n : ℕ) (port new : P) → Awaits receives peer octets n port (Ok datagram) new →
    Ends sends receives peer (waiting u octets k) port new (closed u) (datagram ∷ []) × (answers_to octets datagram ≡ true)
unfolding Awaits
waits_ok {P = P} sends receives peer octets u k datagram zero port new waits = absurd waits.0
waits_ok {P = P} sends receives peer octets u k datagram (suc n) port new (Err refused, mid, received, rest) = absurd rest.0
waits_ok {P = P} sends receives peer octets u k datagram (suc n) port new (Ok heard, mid, received, rest) =
    elim (came peer octets heard) [
      | Others others none ↦
          let more = waits_ok sends receives peer octets u k datagram n mid new (more_of (fitting peer octets heard) mid new (Ok datagram) _ none rest) in
          (passed sends receives peer (waiting u octets k) port mid new (closed u) (datagram ∷ []) (Ok heard) received others more.0, more.1)
      | Ignored other from is not_own none ↦
          let more = waits_ok sends receives peer octets u k datagram n mid new (more_of (fitting peer octets heard) mid new (Ok datagram) _ none rest) in
          (ignored sends receives peer octets u k port mid new (closed u) (datagram ∷ []) heard other received from is not_own more.0, more.1)
      | Answer own from is fit some ↦
          let F : Option (List ℕ) → Type 0 = λ o. IsTaken o mid (Ok datagram) new (Awaits receives peer octets n mid (Ok datagram) new) in
          let taken = subst F some rest in
          let same : own ≡ datagram = same_ok own datagram taken.0 in
          let H : P → Type 0 = λ p. receives port (Ok heard) p in
          let E : List ℕ → Type 0 = λ d. Ends sends receives peer (waiting u octets k) port new (closed u) (d ∷ []) × (answers_to octets d ≡ true) in
          subst E same (answered sends receives peer octets u k port new heard own (subst H (sym taken.1) received) from is fit, fit)
    ]
  where
    same_ok : (a b : List ℕ) → (let r : Result (List ℕ) Lost = Ok b in r) ≡ Ok a → a ≡ b
    same_ok a b e = cc

-- ---- an ask

-- a run that goes on with a send of the octets of the open request
abbrev Sent : {P : Type 0} → Sends P → Hears P → List ℕ → List ℕ → Transactions → ℕ → P → P → Transactions → List (List ℕ) → Type 0
Sent {P = P} sends receives peer octets u k port end left taken =
    (sent : Sending) × (mid : P) × sends port octets peer sent mid × Ends sends receives peer (waiting u octets k) mid end left taken

ask_lost : {P : Type 0} (sends : Sends P) (receives : Hears P) (peer octets : List ℕ) (u : Transactions) (k : ℕ) (end : P) (left : Transactions) (taken : List (List ℕ)) (lost : Lost)
    (port new : P) → Asks sends receives (to_peer peer octets) 16 port (Err lost) new →
    Ends sends receives peer (waiting u octets k) new end left taken → Sent sends receives peer octets u k port end left taken
ask_lost {P = P} sends receives peer octets u k end left taken lost port new (Err refused, mid, sent, is) e =
    let E : P → Type 0 = λ p. Ends sends receives peer (waiting u octets k) p end left taken in (Err refused, mid, sent, subst E is.1 e)
ask_lost {P = P} sends receives peer octets u k end left taken lost port new (Ok done, mid, sent, is) e =
    (Ok done, mid, sent, waits_lost sends receives peer octets u k end left taken lost 16 mid new is e)

ask_ok : {P : Type 0} (sends : Sends P) (receives : Hears P) (peer octets : List ℕ) (u : Transactions) (k : ℕ) (datagram : List ℕ)
    (port new : P) → Asks sends receives (to_peer peer octets) 16 port (Ok datagram) new →
    Sent sends receives peer octets u k port new (closed u) (datagram ∷ []) × (answers_to octets datagram ≡ true)
ask_ok {P = P} sends receives peer octets u k datagram port new (Err refused, mid, sent, is) = absurd is.0
ask_ok {P = P} sends receives peer octets u k datagram port new (Ok done, mid, sent, is) =
    let waited = waits_ok sends receives peer octets u k datagram 16 mid new is in
    ((Ok done, mid, sent, waited.0), waited.1)

-- ---- a time-out

again : {P : Type 0} (sends : Sends P) (receives : Hears P) (peer octets : List ℕ) (u : Transactions) (k : ℕ) (port end : P) (left : Transactions) (taken : List (List ℕ)) →
    k < u.retries → Sent sends receives peer octets u (k + 1) port end left taken → Ends sends receives peer (waiting u octets k) port end left taken
again {P = P} sends receives peer octets u k port end left taken early (sent, mid, put, e) =
    let T : Transactions = waiting u octets k in
    let lt : nat_lt k u.retries ≡ true = lt-ltb k u.retries early in
    let next : after_event T TimeOut ≡ waiting u octets (k + 1) = ap (λ (b : Bool). if b then waiting u octets (k + 1) else closed T) lt in
    let out : (if nat_lt k u.retries then octets ∷ [] else []) ≡ octets ∷ [] = ap (λ (b : Bool). if b then octets ∷ [] else []) lt in
    let R : Transactions → Type 0 = λ v. Runs sends receives peer v (e.first ∷ e.rest) mid end in
    let S : List (List ℕ) → Type 0 = λ l. SendsAll sends peer l port mid in
    record {
      first = TimeOut;
      rest = e.first ∷ e.rest;
      runs = ([], port, port, mid, refl, refl, subst S (sym out) (sent, mid, put, refl), subst R (sym next) e.runs);
      after = ap (λ (v : Transactions). after_events v (e.first ∷ e.rest)) next ∙ e.after;
      takes = ap (λ (v : Transactions). taken_of v (e.first ∷ e.rest)) next ∙ e.takes;
    }

given_up : {P : Type 0} (sends : Sends P) (receives : Hears P) (peer octets : List ℕ) (u : Transactions) (port : P) → Ends sends receives peer (waiting u octets u.retries) port port (closed u) []
given_up {P = P} sends receives peer octets u port =
    let T : Transactions = waiting u octets u.retries in
    let late : nat_lt u.retries u.retries ≡ false = le-ltb u.retries u.retries (omega arith) in
    let out : (if nat_lt u.retries u.retries then octets ∷ [] else []) ≡ [] = ap (λ (b : Bool). if b then octets ∷ [] else []) late in
    let S : List (List ℕ) → Type 0 = λ l. SendsAll sends peer l port port in
    record {
      first = TimeOut;
      rest = [];
      runs = ([], port, port, port, refl, refl, subst S (sym out) refl, refl);
      after = ap (λ (b : Bool). if b then waiting u octets (u.retries + 1) else closed T) late;
      takes = refl;
    }

-- ---- tries

abbrev AsksOf : {P S : Type 0} → Sends P → Hears P → (S → P) → (S → List ℕ) → S → List ℕ → Result (List ℕ) Lost → S → Type 0
AsksOf {P = P} {S = S} sends receives port peer a octets answer b = Asks sends receives (to_peer (peer a) octets) 16 (port a) answer (port b) × (peer b ≡ peer a)

peers : {P S : Type 0} (sends : Sends P) (receives : Hears P) (port : S → P) (peer : S → List ℕ) (octets : List ℕ) (n : ℕ) (old new : S) →
    Unanswered (λ a x answer b. AsksOf sends receives port peer a x answer b) octets n old new → peer new ≡ peer old
peers sends receives port peer octets zero old new same = ap peer same
peers sends receives port peer octets (suc n) old new (mid, answer, first, asked, none) =
    asked.1 ∙ peers sends receives port peer octets n old mid first

-- one without an answer was lost: what a port's link brings answers
no_answer : {P : Type 0} (sends : Sends P) (receives : Hears P) (peer octets : List ℕ) (u : Transactions) (k : ℕ) (end : P) (left : Transactions) (taken : List (List ℕ)) (answer : Result (List ℕ) Lost)
    (port new : P) → Asks sends receives (to_peer peer octets) 16 port answer new → IsNoAnswer octets answer →
    Ends sends receives peer (waiting u octets k) new end left taken → Sent sends receives peer octets u k port end left taken
no_answer sends receives peer octets u k end left taken (Err lost) port new asks none e = ask_lost sends receives peer octets u k end left taken lost port new asks e
no_answer sends receives peer octets u k end left taken (Ok datagram) port new asks none e =
    absurd (let q = sym (ask_ok sends receives peer octets u k datagram port new asks).1 ∙ none in cc)

tries : {P S : Type 0} (sends : Sends P) (receives : Hears P) (port : S → P) (peer : S → List ℕ) (octets : List ℕ) (u : Transactions) (end : P) (left : Transactions) (taken : List (List ℕ))
    (n : ℕ) (old new : S) → n ≤ u.retries → Unanswered (λ a x answer b. AsksOf sends receives port peer a x answer b) octets n old new →
    Sent sends receives (peer old) octets u n (port new) end left taken → Sent sends receives (peer old) octets u 0 (port old) end left taken
tries {P = P} {S = S} sends receives port peer octets u end left taken zero old new le same e =
    let E : S → Type 0 = λ s. Sent sends receives (peer old) octets u 0 (port s) end left taken in subst E same e
tries {P = P} {S = S} sends receives port peer octets u end left taken (suc n) old new le (mid, answer, first, asked, none) e =
    let one : suc n ≡ n + 1 = omega arith in
    let N : ℕ → Type 0 = λ j. Sent sends receives (peer old) octets u j (port new) end left taken in
    let A : List ℕ → Type 0 = λ q. Asks sends receives (to_peer q octets) 16 (port mid) answer (port new) in
    tries sends receives port peer octets u end left taken n old mid (omega (arith, le)) first
    (no_answer sends receives (peer old) octets u n end left taken answer (port mid) (port new) (subst A (peers sends receives port peer octets n old mid first) asked.0) none
    (again sends receives (peer old) octets u n (port new) end left taken (omega (arith, le)) (subst N one e)))

-- ---- the exchange

begins : {P : Type 0} (sends : Sends P) (receives : Hears P) (peer : List ℕ) (t : Transactions) (r : Request) (port end : P) (taken : List (List ℕ)) (result : Result (List ℕ) ExchangeFault) →
    Sent sends receives peer (request_octets (towards t.route) (next_invoke t.invoke) r) (begun_with r t) 0 port end (closed (begun_with r t)) taken → IsTakenAs r taken result →
    (es : List ClientEvent) × Runs sends receives peer t (Begin r ∷ es) port end
    × (after_events t (Begin r ∷ es) ≡ closed (begun_with r t)) × IsTakenAs r (taken_of t (Begin r ∷ es)) result
begins sends receives peer t r port end taken result (sent, mid, put, e) fits =
    let T : List (List ℕ) → Type 0 = λ l. IsTakenAs r l result in
    (e.first ∷ e.rest, ([], port, port, mid, refl, refl, (sent, mid, put, refl), e.runs), e.after, subst T (sym e.takes) fits)

taken_answer : {P S : Type 0} (sends : Sends P) (receives : Hears P) (port : S → P) (peer : S → List ℕ) (t : Transactions) (r : Request) (verdict : Verdict) (old new : S) (datagram : List ℕ)
    (result : Result (List ℕ) ExchangeFault) → IsTakenAs r (datagram ∷ []) result →
    Answers (λ a x answer b. AsksOf sends receives port peer a x answer b) (next_way t) r verdict old datagram new →
    (es : List ClientEvent) × Runs sends receives (peer old) t (Begin r ∷ es) (port old) (port new)
    × (after_events t (Begin r ∷ es) ≡ closed (begun_with r t)) × IsTakenAs r (taken_of t (Begin r ∷ es)) result
taken_answer {P = P} {S = S} sends receives port peer t r verdict old new datagram result fits (n, mid, few, first, asked, is) =
    let octets : List ℕ = request_octets (towards t.route) (next_invoke t.invoke) r in
    let u : Transactions = begun_with r t in
    let A : List ℕ → Type 0 = λ q. Asks sends receives (to_peer q octets) 16 (port mid) (Ok datagram) (port new) in
    begins sends receives (peer old) t r (port old) (port new) (datagram ∷ []) result
    (tries sends receives port peer octets u (port new) (closed u) (datagram ∷ []) n old mid few first
    (ask_ok sends receives (peer old) octets u n datagram (port mid) (port new) (subst A (peers sends receives port peer octets n old mid first) asked.0)).0) fits

pub exchanges_are_runs : {P S : Type 0} (sends : Sends P) (receives : Hears P) (port : S → P) (peer : S → List ℕ) → ExchangesAreRuns sends receives port peer
exchanges_are_runs {P = P} {S = S} sends receives port peer = λ t r old new result fits exchanged. by t r old new result fits exchanged
  where
    by : (t : Transactions) (r : Request) (old new : S) (result : Result (List ℕ) ExchangeFault) → (result ≡ Err fault.TooLong → ⊥) →
        Exchanges (λ a x answer b. AsksOf sends receives port peer a x answer b) (next_way t) r old result new →
        (es : List ClientEvent) × Runs sends receives (peer old) t (Begin r ∷ es) (port old) (port new)
        × (after_events t (Begin r ∷ es) ≡ closed (begun_with r t)) × IsTakenAs r (taken_of t (Begin r ∷ es)) result
    by t r old new (Ok datagram) fits answers = taken_answer sends receives port peer t r _ old new datagram (Ok datagram) (refl, answers.5.1) answers
    by t r old new (Err (fault.Refused refusal)) fits (datagram, answers) =
        taken_answer sends receives port peer t r _ old new datagram (Err (fault.Refused refusal)) (datagram, refl, answers.5.1) answers
    by t r old new (Err fault.BadReply) fits (datagram, answers) =
        taken_answer sends receives port peer t r _ old new datagram (Err fault.BadReply) (datagram, refl, answers.5.1) answers
    by t r old new (Err fault.TooLong) fits same = absurd (fits refl)
    by t r old new (Err fault.Lost) fits lost =
        let octets : List ℕ = request_octets (towards t.route) (next_invoke t.invoke) r in
        let u : Transactions = begun_with r t in
        let N : ℕ → Type 0 = λ n. Unanswered (λ a x answer b. AsksOf sends receives port peer a x answer b) octets n old new in
        let all = subst N (add-one t.retries) lost in
        let A : List ℕ → Type 0 = λ q. Asks sends receives (to_peer q octets) 16 (port all.0) all.1 (port new) in
        begins sends receives (peer old) t r (port old) (port new) [] (Err fault.Lost)
        (tries sends receives port peer octets u (port new) (closed u) [] t.retries old all.0 (omega arith) all.2
        (no_answer sends receives (peer old) octets u t.retries (port new) (closed u) [] all.1 (port all.0) (port new)
        (subst A (peers sends receives port peer octets t.retries old all.0 all.2) all.3.0) all.4
        (given_up sends receives (peer old) octets u (port new)))) refl
