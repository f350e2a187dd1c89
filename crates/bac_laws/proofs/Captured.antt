-- What was asked over a socket stands in its capture.
use Rattle.std.proofs.Common.{◌≡◌, ◌⊎◌, ◌++◌, ◌&&◌, ℕ, zero, suc, Bool, true, false, List, [], ◌∷◌, Option, None, Some, Result, Ok, Err, inl, inr, refl, sym, subst, ap, ◌∙◌, if◌then◌else◌, append-nil, append_assoc, arith}
use Rattle.std.specs.List.{Contains}
use Rattle.std.specs.Str.{bytes_eq}
use Rattle.std.proofs.lemmas.List.Elements.{Contains-append_cases, Contains-push_cases}
use Rattle.std.proofs.lemmas.Slice.Eq.{bytes_eq-Decides}
use Rattle.bac_socket_notes.specs.Ports.{Event, Happen, Happens, Received, Sent}
use Rattle.bac_laws.specs.Events.{Capture, IsCaptured, came, sent_in, waited}
use Rattle.bac_link.specs.Datagrams.{answers_to}
use Rattle.bac_link.specs.declared.link.Lost.{Lost}
use Rattle.bac_ports.specs.Asking.{Asks, Awaits, IsTaken, fitting, fitting_of, to_peer}
use Rattle.bac_ports.specs.Port.{Receiving, Sending}
use Rattle.bac_ports.specs.Sockets.{SocketRules}
use Rattle.bac_ports.specs.declared.port.Heard.{Heard}
use Rattle.bac_ports.specs.declared.port.OpenFault.{OpenFault}
use Rattle.bac_ports.specs.declared.port.SocketFault.{SocketFault}

-- ---- lists of events

nothing_in : (e : Event) → Contains [] e → ⊥
nothing_in e (k, less, is) = absurd (omega (arith, less))

-- an event among others is the first, or behind it
alone : (e x : Event) → Contains [] x ⊎ (e ≡ x) → e ≡ x
alone e x (inl none) = absurd (nothing_in x none)
alone e x (inr same) = same

first_by : (e : Event) (es : List Event) (x : Event) → Contains (e ∷ []) x ⊎ Contains es x → (e ≡ x) ⊎ Contains es x
first_by e es x (inl one) = inl (alone e x (Contains-push_cases [] e x one))
first_by e es x (inr rest) = inr rest

first_or : (e : Event) (es : List Event) (x : Event) → Contains (e ∷ es) x → (e ≡ x) ⊎ Contains es x
first_or e es x has = first_by e es x (Contains-append_cases (e ∷ []) es x has)

pub sent_on : (es more : List Event) → sent_in (es ++ more) ≡ sent_in es ++ sent_in more
sent_on [] more = refl
sent_on (Sent octets to sent ∷ es) more = ap (λ (xs : List (List ℕ × List ℕ)). (octets, to) ∷ xs) (sent_on es more)
sent_on (Received received ∷ es) more = sent_on es more

-- what is waited for behind more events
pub waited_on : (n m : ℕ) (es more : List Event) → waited n es ≡ Some m → waited n (es ++ more) ≡ waited m more
waited_on n m [] more is = ap (λ (k : ℕ). waited k more) (let e : Some n ≡ Some m = is in cc)
waited_on zero m (Sent octets to (Ok done) ∷ es) more is = waited_on 16 m es more is
waited_on zero m (Sent octets to (Err fault) ∷ es) more is = waited_on zero m es more is
waited_on zero m (Received received ∷ es) more is = absurd (let e : None ≡ Some m = is in cc)
waited_on (suc n) m (Sent octets to sent ∷ es) more is = absurd (let e : None ≡ Some m = is in cc)
waited_on (suc n) m (Received (Ok heard) ∷ es) more is = waited_on n m es more is
waited_on (suc n) m (Received (Err fault) ∷ es) more is = waited_on zero m es more is

-- of these none from this address answers
abbrev pub Silent : List ℕ → List ℕ → List Event → Type 0
Silent to request es = (datagram : List ℕ) → Contains es (came to datagram) → answers_to request datagram ≡ false

pub silent_none : (to request : List ℕ) → Silent to request []
silent_none to request datagram has = absurd (nothing_in (came to datagram) has)

silent_by : (to request : List ℕ) (es more : List Event) → Silent to request es → Silent to request more → (datagram : List ℕ)
    → Contains es (came to datagram) ⊎ Contains more (came to datagram) → answers_to request datagram ≡ false
silent_by to request es more first rest datagram (inl front) = first datagram front
silent_by to request es more first rest datagram (inr behind) = rest datagram behind

pub silent_on : (to request : List ℕ) (es more : List Event) → Silent to request es → Silent to request more → Silent to request (es ++ more)
silent_on to request es more first rest =
    λ datagram has. silent_by to request es more first rest datagram (Contains-append_cases es more (came to datagram) has)

silent_at : (to request : List ℕ) (e : Event) (es : List Event) → ((datagram : List ℕ) → e ≡ came to datagram → answers_to request datagram ≡ false)
    → Silent to request es → (datagram : List ℕ) → (e ≡ came to datagram) ⊎ Contains es (came to datagram) → answers_to request datagram ≡ false
silent_at to request e es one rest datagram (inl same) = one datagram same
silent_at to request e es one rest datagram (inr behind) = rest datagram behind

silent_first : (to request : List ℕ) (e : Event) (es : List Event) → ((datagram : List ℕ) → e ≡ came to datagram → answers_to request datagram ≡ false)
    → Silent to request es → Silent to request (e ∷ es)
silent_first to request e es one rest = λ datagram has. silent_at to request e es one rest datagram (first_or e es (came to datagram) has)

-- ---- what fits came from the peer and answers

both : (own answers : Bool) (datagram found : List ℕ) → (if own && answers then Some datagram else None) ≡ Some found
    → (own ≡ true) × (answers ≡ true) × (datagram ≡ found)
both true true datagram found is = (refl, refl, (let e : Some datagram ≡ Some found = is in cc))
both true false datagram found is = absurd (let e : None ≡ Some found = is in cc)
both false answers datagram found is = absurd (let e : None ≡ Some found = is in cc)

fit_came : (peer request from : List ℕ) (there : Option (List ℕ)) (found : List ℕ) → fitting_of peer request from there ≡ Some found
    → (from ≡ peer) × (there ≡ Some found) × (answers_to request found ≡ true)
fit_came peer request from None found is = absurd (let e : None ≡ Some found = is in cc)
fit_came peer request from (Some datagram) found is =
    let it = both (bytes_eq from peer) (answers_to request datagram) datagram found is in
    ((bytes_eq-Decides from peer).0 it.0, ap Some it.2, subst (λ (d : List ℕ). answers_to request d ≡ true) it.2 it.1)

not_both : (own answers : Bool) (datagram : List ℕ) → own ≡ true → (if own && answers then Some datagram else None) ≡ None → answers ≡ false
not_both true true datagram own is = absurd (let e : Some datagram ≡ None = is in cc)
not_both true false datagram own is = refl
not_both false answers datagram own is = absurd (let e : false ≡ true = own in cc)

unfit : (peer request : List ℕ) (heard : Heard) → fitting peer request heard ≡ None
    → (datagram : List ℕ) → Received (Ok heard) ≡ came peer datagram → answers_to request datagram ≡ false
unfit peer request heard none datagram same =
    let one : heard ≡ record { from = peer; datagram = Some datagram } = (let e : Received (Ok heard) ≡ Received (Ok (record { from = peer; datagram = Some datagram })) = same in cc) in
    not_both (bytes_eq peer peer) (answers_to request datagram) datagram ((bytes_eq-Decides peer peer).1 refl)
    (subst (λ (h : Heard). fitting peer request h ≡ None) one none)

pub heard_is : (heard : Heard) (peer datagram : List ℕ) → heard.from ≡ peer → heard.datagram ≡ Some datagram → Received (Ok heard) ≡ came peer datagram
heard_is heard peer datagram from there = rw (← from) (let e : heard ≡ record { from = heard.from; datagram = Some datagram } = ap (λ (d : Option (List ℕ)). let h : Heard = record { from = heard.from; datagram = d } in h) there in ap (λ (h : Heard). Received (Ok h)) e)

sent_unlike : (octets whom from datagram : List ℕ) (sent : Sending) → Sent octets whom sent ≡ came from datagram → ⊥
sent_unlike octets whom from datagram sent is = absurd cc

lost_unlike : (fault : SocketFault) (from datagram : List ℕ) → Received (Err fault) ≡ came from datagram → ⊥
lost_unlike fault from datagram is =
    absurd (let e : Received (Err fault) ≡ Received (Ok (record { from = from; datagram = Some datagram })) = is in cc)

-- ---- over a port

module _ {P : Type 0} (sends : P → List ℕ → List ℕ → Sending → P → Type 0) (receives : P → Receiving → P → Type 0)
    (within : P → ℕ → Receiving → P → Type 0) where
  abbrev pub Goes : List Event → P → P → Type 0
  Goes es old new = Happen sends receives within es old new

  pub goes_on : (es more : List Event) (old mid new : P) → Goes es old mid → Goes more mid new → Goes (es ++ more) old new
  goes_on [] more old mid new same rest = subst (λ (p : P). Goes more p new) same rest
  goes_on (e ∷ es) more old mid new (half, first, behind) rest = (half, first, goes_on es more half mid new behind rest)

  -- what came by a wait or an ask: nothing that answers; or at last this
  abbrev pub Brings : List ℕ → List ℕ → List (List ℕ × List ℕ) → ℕ → List Event → Result (List ℕ) Lost → Type 0
  Brings peer request sent n es (Err lost) = (sent_in es ≡ sent) × (waited n es ≡ Some 0) × Silent peer request es
  Brings peer request sent n es (Ok datagram) = (before : List Event) × (es ≡ before ++ came peer datagram ∷ [])
      × (sent_in before ≡ sent) × (m : ℕ) × (waited n es ≡ Some m) × Silent peer request before × (answers_to request datagram ≡ true)

  -- behind another event
  brings_behind : (peer request : List ℕ) (e : Event) (first : List (List ℕ × List ℕ)) (sent : List (List ℕ × List ℕ)) (n k : ℕ) (es : List Event) (result : Result (List ℕ) Lost)
      → waited n (e ∷ es) ≡ waited k es → sent_in (e ∷ []) ≡ first → ((datagram : List ℕ) → e ≡ came peer datagram → answers_to request datagram ≡ false)
      → Brings peer request sent k es result → Brings peer request (first ++ sent) n (e ∷ es) result
  brings_behind peer request e first sent n k es (Err lost) on is one (same, over, silent) = (
    sent_on (e ∷ []) es ∙ ap (λ (xs : List (List ℕ × List ℕ)). xs ++ sent_in es) is ∙ ap (λ (xs : List (List ℕ × List ℕ)). first ++ xs) same,
    on ∙ over,
    silent_first peer request e es one silent,
  )
  brings_behind peer request e first sent n k es (Ok datagram) on is one (before, shape, same, m, over, silent, answers) = (
    e ∷ before,
    ap (λ (xs : List Event). e ∷ xs) shape,
    sent_on (e ∷ []) before ∙ ap (λ (xs : List (List ℕ × List ℕ)). xs ++ sent_in before) is ∙ ap (λ (xs : List (List ℕ × List ℕ)). first ++ xs) same,
    m,
    on ∙ over,
    silent_first peer request e before one silent,
    answers,
  )

  Awaited : List ℕ → List ℕ → ℕ → P → Result (List ℕ) Lost → P → Type 0
  Awaited peer request n old result new = (es : List Event) × Goes es old new × Brings peer request [] n es result

  taken : (peer request : List ℕ) (heard : Heard) (fit : Option (List ℕ)) (n : ℕ) (old mid new : P) (result : Result (List ℕ) Lost)
      → receives old (Ok heard) mid → fitting peer request heard ≡ fit
      → IsTaken fit mid result new (Awaits receives peer request n mid result new)
      → (Awaits receives peer request n mid result new → Awaited peer request n mid result new) → Awaited peer request (suc n) old result new
  unfolding Awaited
  taken peer request heard None n old mid new result came_so none is goes =
      let rest = goes is in (
        Received (Ok heard) ∷ rest.0,
        (mid, inl came_so, rest.1),
        brings_behind peer request (Received (Ok heard)) [] [] (suc n) n rest.0 result refl refl (unfit peer request heard none) rest.2,
      )
  taken peer request heard (Some datagram) n old mid new result came_so some (is, same) goes =
      let it = fit_came peer request heard.from heard.datagram datagram some in
      let one : Received (Ok heard) ≡ came peer datagram = heard_is heard peer datagram it.0 it.1 in (
        Received (Ok heard) ∷ [],
        (mid, inl came_so, same),
        subst (λ (r : Result (List ℕ) Lost). Brings peer request [] (suc n) (Received (Ok heard) ∷ []) r) (sym is)
            ([], ap (λ (e : Event). e ∷ []) one, refl, n, refl, silent_none peer request, it.2),
      )

  awaited : (peer request : List ℕ) (n : ℕ) (old new : P) (result : Result (List ℕ) Lost) → Awaits receives peer request n old result new
      → Awaited peer request n old result new
  unfolding Awaited Awaits
  awaited peer request zero old new (Err lost) (is, same) = ([], same, (refl, refl, silent_none peer request))
  awaited peer request zero old new (Ok datagram) (is, same) = absurd is
  awaited peer request (suc n) old new (Err lost) (Err fault, mid, came_so, (is, same)) = (
    Received (Err fault) ∷ [],
    (mid, inl came_so, same),
    (
      refl,
      refl,
      silent_first peer request (Received (Err fault)) [] (λ datagram like. absurd (lost_unlike fault peer datagram like)) (silent_none peer request),
    ),
  )
  awaited peer request (suc n) old new (Ok datagram) (Err fault, mid, came_so, (is, same)) = absurd is
  awaited peer request (suc n) old new result (Ok heard, mid, came_so, is) =
      taken peer request heard (fitting peer request heard) n old mid new result came_so refl is (awaited peer request n mid new result)

  -- an ask sends once
  pub asks_once : (peer request : List ℕ) (old new : P) (result : Result (List ℕ) Lost)
      → Asks sends receives (to_peer peer request) 16 old result new
      → (es : List Event) × Goes es old new × Brings peer request ((request, peer) ∷ []) 0 es result
  unfolding Awaited
  asks_once peer request old new (Err lost) (Err fault, mid, sent, (is, same)) = (
    Sent request peer (Err fault) ∷ [],
    (mid, sent, same),
    (
      refl,
      refl,
      silent_first peer request (Sent request peer (Err fault)) [] (λ datagram like. absurd (sent_unlike request peer peer datagram (Err fault) like)) (silent_none peer request),
    ),
  )
  asks_once peer request old new (Ok datagram) (Err fault, mid, sent, (is, same)) = absurd is
  asks_once peer request old new result (Ok done, mid, sent, is) =
      let rest = awaited peer request 16 mid new result is in (
        Sent request peer (Ok done) ∷ rest.0,
        (mid, sent, rest.1),
        brings_behind peer request (Sent request peer (Ok done)) ((request, peer) ∷ []) [] 0 16 rest.0 result refl refl
            (λ datagram like. absurd (sent_unlike request peer peer datagram (Ok done) like)) rest.2,
      )

-- ---- a capture

module _ {S P : Type 0} {rules : SocketRules S P} {traces : S → Bool → S → Type 0} (capture : Capture rules traces) where
  behind : (es more all : List Event) (e : Event) → all ≡ (es ++ e ∷ []) ++ more → all ≡ es ++ (e ∷ more)
  behind es more all e is = is ∙ append_assoc es (e ∷ []) more

  of_first : (e : Event) (old new : P) → Happens rules.sends rules.receives rules.receives_within e old new
      → capture.port new ≡ capture.port old ++ e ∷ []
  of_first (Sent octets to sent) old new is = capture.sends old new octets to sent is
  of_first (Received answer) old new (inl is) = capture.receives old new answer is
  of_first (Received answer) old new (inr (ms, is)) = capture.waits old new ms answer is

  pub of_port : (es : List Event) (old new : P) → Goes rules.sends rules.receives rules.receives_within es old new
      → capture.port new ≡ capture.port old ++ es
  of_port [] old new same = ap capture.port same ∙ sym (append-nil (capture.port old))
  of_port (e ∷ es) old new (mid, first, rest) = behind (capture.port old) es (capture.port new) e
      (of_port es mid new rest ∙ ap (λ (xs : List Event). xs ++ es) (of_first e old mid first))

module _ {S P : Type 0} (rules : SocketRules S P) (traces : S → Bool → S → Type 0) where
  pub nothing_captured : (old new : S) → new ≡ old → IsCaptured rules traces old new []
  nothing_captured old new same = λ capture. ap capture.sockets same ∙ sym (append-nil (capture.sockets old))

  -- the sockets were switched before
  pub captured_behind : (first old new : S) (on : Bool) (es : List Event) → traces first on old → IsCaptured rules traces old new es
      → IsCaptured rules traces first new es
  captured_behind first old new on es switched is =
      λ capture. is capture ∙ ap (λ (xs : List Event). xs ++ es) (capture.traced first old on switched)

  -- one socket, from its open to its close
  pub captured_over : (es : List Event) (old between new : S) (address : List ℕ) (wait : ℕ) (port last : P)
      → rules.opens old address wait (Ok port) between → Goes rules.sends rules.receives rules.receives_within es port last
      → rules.closes between last new → IsCaptured rules traces old new es
  captured_over es old between new address wait port last opens goes closes = λ capture.
      let opened = capture.opens old between address wait (Ok port) opens in
      let went : capture.port last ≡ es = of_port capture es port last goes ∙ ap (λ (xs : List Event). xs ++ es) opened.1 in
      capture.closes between new last closes ∙ ap (λ (xs : List Event). xs ++ capture.port last) opened.0
      ∙ ap (λ (xs : List Event). capture.sockets old ++ xs) went

  -- one that isn't opened
  pub captured_unopened : (old new : S) (address : List ℕ) (wait : ℕ) (why : OpenFault) → rules.opens old address wait (Err why) new
      → IsCaptured rules traces old new []
  captured_unopened old new address wait why opens = λ capture.
      (capture.opens old new address wait (Err why) opens).0 ∙ sym (append-nil (capture.sockets old))
