-- An exchange over a socket, as events.
use Rattle.std.proofs.Common.{◌≡◌, ◌++◌, ◌+◌, ℕ, zero, suc, true, false, List, [], ◌∷◌, None, Some, Result, Ok, Err, refl, sym, subst, ap, ◌∙◌, append_assoc, arith}
use Rattle.std.specs.Prelude.{is_some, replicate}
use Rattle.std.proofs.lemmas.List.{replicate-append-replicate}
use Rattle.bac_socket_notes.specs.Ports.{Event}
use Rattle.bac_laws.proofs.Captured.{Brings, Goes, Silent, asks_once, goes_on, sent_on, silent_none, silent_on, waited_on}
use Rattle.bac_laws.specs.Events.{Exchanged, came, sent_in, waited}
use Rattle.bac_link.specs.Datagrams.{apdu_in}
use Rattle.bac_link.specs.Exchanges.{Answers, Exchanges, IsNoAnswer, Unanswered, Way, verdict_of}
use Rattle.bac_link.specs.Requests.{request_octets}
use Rattle.bac_link.specs.declared.exchanges.ExchangeFault.{ExchangeFault}
use Rattle.bac_link.specs.declared.exchanges.ExchangeFault.TheVariants as fault
use Rattle.bac_link.specs.declared.exchanges.Verdict.{Verdict}
use Rattle.bac_link.specs.declared.exchanges.Verdict.TheVariants.{Ack, Refused, BadReply}
use Rattle.bac_link.specs.declared.link.Lost.{Lost}
use Rattle.bac_link.specs.declared.request.Request.{Request}
use Rattle.bac_ports.specs.Asking.{Asks, to_peer}
use Rattle.bac_ports.specs.Sockets.{SocketRules, socket_asks}
use Rattle.bac_ports.specs.declared.udp_link.UdpLink.{UdpLink}

-- so many and one more
one_more : (n : ℕ) (x : List ℕ × List ℕ) (xs : List (List ℕ × List ℕ)) → xs ≡ replicate n x ++ x ∷ [] → xs ≡ replicate (n + 1) x
one_more n x xs is = is ∙ replicate-append-replicate n 1 x

suc_of : (n : ℕ) (x : List ℕ × List ℕ) (xs : List (List ℕ × List ℕ)) → xs ≡ replicate (n + 1) x → xs ≡ replicate (suc n) x
suc_of n x xs is = let e : n + 1 ≡ suc n = omega arith in subst (λ (m : ℕ). xs ≡ replicate m x) e is

module _ {S P : Type 0} (rules : SocketRules S P) where
  abbrev pub Runs : List Event → P → P → Type 0
  Runs es old new = Goes rules.sends rules.receives rules.receives_within es old new

  -- tries without an answer
  abbrev Tries : List ℕ → List ℕ → ℕ → UdpLink P → UdpLink P → Type 0
  Tries peer request n old new = (new.peer ≡ peer) × (es : List Event) × Runs es old.port new.port
      × (sent_in es ≡ replicate n (request, peer)) × (waited 0 es ≡ Some 0) × Silent peer request es

  no_answer : (peer request : List ℕ) (sent : List (List ℕ × List ℕ)) (es : List Event) (answer : Result (List ℕ) Lost)
      → IsNoAnswer request answer → Brings rules.sends rules.receives rules.receives_within peer request sent 0 es answer
      → (sent_in es ≡ sent) × (waited 0 es ≡ Some 0) × Silent peer request es
  no_answer peer request sent es (Err lost) none is = is
  no_answer peer request sent es (Ok datagram) none (before, shape, same, m, over, silent, answers) =
      absurd (let e : true ≡ false = sym answers ∙ none in cc)

  tried : (peer request : List ℕ) (n : ℕ) (old new : UdpLink P) → old.peer ≡ peer → Unanswered (socket_asks rules) request n old new
      → Tries peer request n old new
  tried peer request zero old new at same = (
    ap (λ (l : UdpLink P). l.peer) same ∙ at,
    [],
    ap (λ (l : UdpLink P). l.port) same,
    refl,
    refl,
    silent_none peer request,
  )
  tried peer request (suc n) old new at (mid, answer, front, (asks, stays), none) =
      let (there, es, goes, sent, over, silent) = tried peer request n old mid at front in
      let last = asks_once rules.sends rules.receives rules.receives_within peer request mid.port new.port answer
      (subst (λ (p : List ℕ). Asks rules.sends rules.receives (to_peer p request) 16 mid.port answer new.port) there asks) in
      let quiet = no_answer peer request ((request, peer) ∷ []) last.0 answer none last.2 in (
        stays ∙ there,
        es ++ last.0,
        goes_on rules.sends rules.receives rules.receives_within es last.0 old.port mid.port new.port goes last.1,
        suc_of n (request, peer) (sent_in (es ++ last.0)) (one_more n (request, peer) (sent_in (es ++ last.0))
            (sent_on es last.0 ∙ ap (λ (xs : List (List ℕ × List ℕ)). xs ++ sent_in last.0) sent
            ∙ ap (λ (xs : List (List ℕ × List ℕ)). replicate n (request, peer) ++ xs) quiet.0)),
        waited_on 0 0 es last.0 over ∙ quiet.1,
        silent_on peer request es last.0 silent quiet.2,
      )

  -- tries, and at last an answer
  abbrev Gets : Way → Request → Verdict → UdpLink P → List ℕ → UdpLink P → Type 0
  Gets way r verdict old datagram new = (new.peer ≡ old.peer) × (es : List Event) × Runs es old.port new.port
      × Exchanged (request_octets way.path way.invoke r) old.peer way.retries es (Some datagram)
      × (verdict_of r (apdu_in datagram) ≡ verdict)

  answered : (way : Way) (r : Request) (verdict : Verdict) (old : UdpLink P) (datagram : List ℕ) (new : UdpLink P)
      → Answers (socket_asks rules) way r verdict old datagram new → Gets way r verdict old datagram new
  answered way r verdict old datagram new (tries, mid, few, front, (asks, stays), (fits, is)) =
      let request = request_octets way.path way.invoke r in
      let (there, es, goes, sent, over, silent) = tried old.peer request tries old mid refl front in
      let last = asks_once rules.sends rules.receives rules.receives_within old.peer request mid.port new.port (Ok datagram)
      (subst (λ (p : List ℕ). Asks rules.sends rules.receives (to_peer p request) 16 mid.port (Ok datagram) new.port) there asks) in
      let (before, shape, same, m, waits, quiet, answers) = last.2 in (
        stays ∙ there,
        es ++ last.0,
        goes_on rules.sends rules.receives rules.receives_within es last.0 old.port mid.port new.port goes last.1,
        (
          tries,
          few,
          es ++ before,
          ap (λ (xs : List Event). es ++ xs) shape ∙ sym (append_assoc es before (came old.peer datagram ∷ [])),
          one_more tries (request, old.peer) (sent_in (es ++ before))
              (sent_on es before ∙ ap (λ (xs : List (List ℕ × List ℕ)). xs ++ sent_in before) sent
              ∙ ap (λ (xs : List (List ℕ × List ℕ)). replicate tries (request, old.peer) ++ xs) same),
          ap is_some (waited_on 0 0 es last.0 over ∙ waits),
          silent_on old.peer request es before silent quiet,
          answers,
        ),
        is,
      )

  -- what an exchange is, by its result
  abbrev pub Comes : Way → Request → List ℕ → List Event → Result (List ℕ) ExchangeFault → Type 0
  Comes way r peer es (Ok datagram) = Exchanged (request_octets way.path way.invoke r) peer way.retries es (Some datagram)
      × (verdict_of r (apdu_in datagram) ≡ Ack)
  Comes way r peer es (Err (fault.Refused refusal)) = (datagram : List ℕ)
      × Exchanged (request_octets way.path way.invoke r) peer way.retries es (Some datagram)
      × (verdict_of r (apdu_in datagram) ≡ Refused refusal)
  Comes way r peer es (Err fault.BadReply) = (datagram : List ℕ)
      × Exchanged (request_octets way.path way.invoke r) peer way.retries es (Some datagram)
      × (verdict_of r (apdu_in datagram) ≡ BadReply)
  Comes way r peer es (Err fault.Lost) = Exchanged (request_octets way.path way.invoke r) peer way.retries es None
  Comes way r peer es (Err fault.TooLong) = es ≡ []

  pub exchanged : (way : Way) (r : Request) (old : UdpLink P) (result : Result (List ℕ) ExchangeFault) (new : UdpLink P)
      → Exchanges (socket_asks rules) way r old result new
      → (new.peer ≡ old.peer) × (es : List Event) × Runs es old.port new.port × Comes way r old.peer es result
  exchanged way r old (Ok datagram) new is = let it = answered way r Ack old datagram new is in (it.0, it.1, it.2, (it.3, it.4))
  exchanged way r old (Err (fault.Refused refusal)) new (datagram, is) =
      let (there, es, goes, shape, verdict) = answered way r (Refused refusal) old datagram new is in (there, es, goes, (datagram, shape, verdict))
  exchanged way r old (Err fault.BadReply) new (datagram, is) =
      let (there, es, goes, shape, verdict) = answered way r BadReply old datagram new is in (there, es, goes, (datagram, shape, verdict))
  exchanged way r old (Err fault.Lost) new is =
      let (there, es, goes, sent, over, silent) = tried old.peer (request_octets way.path way.invoke r) (way.retries + 1) old new refl is in
      (there, es, goes, (sent, over, silent))
  exchanged way r old (Err fault.TooLong) new same =
      (ap (λ (l : UdpLink P). l.peer) same, [], ap (λ (l : UdpLink P). l.port) same, refl)
