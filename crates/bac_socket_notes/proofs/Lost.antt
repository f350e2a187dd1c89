-- Tries of a question that brought no answer.
use Rattle.std.proofs.Common.{◌≡◌, ◌∙◌, ap, subst, refl, ℕ, zero, suc, Bool, true, false, if◌then◌else◌, ◌&&◌, List, [], ◌∷◌, ◌++◌, inl, Option, Some, None, Result, Ok, Err}
use Rattle.std.specs.Str.{bytes_eq}
use Rattle.bac_link.specs.Datagrams.{answers_to}
use Rattle.bac_link.specs.Exchanges.{IsNoAnswer, Unanswered}
use Rattle.bac_link.specs.declared.link.Lost.{Lost}
use Rattle.bac_ports.specs.Asking.{Asks, Awaits, IsTaken, fitting, fitting_of, to_peer}
use Rattle.bac_ports.specs.Port.{Receiving, Sending}
use Rattle.bac_ports.specs.declared.port.Heard.{Heard}
use Rattle.bac_ports.specs.declared.udp_link.UdpLink.{UdpLink}
use Rattle.bac_socket_notes.specs.Laws.{LostHasStrays}
use Rattle.bac_socket_notes.specs.Ports.{AreOf, Event, Sent, Received, Happen, NoneAnswers}

-- ---- a datagram that fits answers the question

fit_answers : (datagram taken octets : List ℕ) (own fit : Bool) → answers_to octets datagram ≡ fit →
    (if own && fit then Some datagram else None) ≡ Some taken → answers_to octets taken ≡ true
fit_answers datagram taken octets false fit is some = absurd cc
fit_answers datagram taken octets true false is some = absurd cc
fit_answers datagram taken octets true true is some = let same : datagram ≡ taken = cc in subst (λ d. answers_to octets d ≡ true) same is

fitting_answers : (peer octets from : List ℕ) (datagram : Option (List ℕ)) (taken : List ℕ) → fitting_of peer octets from datagram ≡ Some taken →
    answers_to octets taken ≡ true
fitting_answers peer octets from None taken some = absurd cc
fitting_answers peer octets from (Some datagram) taken some =
    fit_answers datagram taken octets (bytes_eq from peer) (answers_to octets datagram) refl some

-- ---- events one behind the other

are_on : (octets to : List ℕ) (es more : List Event) → AreOf octets to es → AreOf octets to more → AreOf octets to (es ++ more)
are_on octets to [] more are rest = rest
are_on octets to (Sent again other sent ∷ es) more (same, there, are) rest = (same, there, are_on octets to es more are rest)
are_on octets to (Received received ∷ es) more are rest = are_on octets to es more are rest

none_on : (peer octets : List ℕ) (es more : List Event) → NoneAnswers peer octets es → NoneAnswers peer octets more → NoneAnswers peer octets (es ++ more)
none_on peer octets [] more none rest = rest
none_on peer octets (Sent again other sent ∷ es) more none rest = none_on peer octets es more none rest
none_on peer octets (Received (Ok heard) ∷ es) more (one, none) rest = (one, none_on peer octets es more none rest)
none_on peer octets (Received (Err fault) ∷ es) more none rest = none_on peer octets es more none rest

module _ {T : Type 0} (sends : T → List ℕ → List ℕ → Sending → T → Type 0) (receives : T → Receiving → T → Type 0)
    (within : T → ℕ → Receiving → T → Type 0) (peer octets : List ℕ) where
  happen_on : (es more : List Event) (old mid new : T) → Happen sends receives within es old mid → Happen sends receives within more mid new →
      Happen sends receives within (es ++ more) old new
  happen_on [] more old mid new same rest = subst (λ (t : T). Happen sends receives within more t new) same rest
  happen_on (e ∷ es) more old mid new (half, first, behind) rest = (half, first, happen_on es more half mid new behind rest)

  -- this happened, and none of it is the answer
  AreLost : T → T → Type 0
  AreLost old new = (es : List Event) × Happen sends receives within es old new × AreOf octets peer es × NoneAnswers peer octets es

  lost_on : (old mid new : T) → AreLost old mid → AreLost mid new → AreLost old new
  unfolding AreLost
  lost_on old mid new (es, happen, are, none) (more, goes, are', none') =
      (es ++ more, happen_on es more old mid new happen goes, are_on octets peer es more are are', none_on peer octets es more none none')

  -- ---- a wait

  -- it brings nothing, as long as what came doesn't fit
  wait_by : (n : ℕ) (old mid new : T) (heard : Heard) (lost : Lost) → receives old (Ok heard) mid → (fit : Option (List ℕ)) → fitting peer octets heard ≡ fit →
      IsTaken fit mid (Err lost) new (Awaits receives peer octets n mid (Err lost) new) → (Awaits receives peer octets n mid (Err lost) new → AreLost mid new) →
      AreLost old new
  unfolding AreLost
  wait_by n old mid new heard lost came None none is goes =
      let rest = goes is in (Received (Ok heard) ∷ rest.0, (mid, inl came, rest.1), rest.2, (none, rest.3))
  wait_by n old mid new heard lost came (Some datagram) some (is, same) goes = absurd cc

  waits : (n : ℕ) (old new : T) (lost : Lost) → Awaits receives peer octets n old (Err lost) new → AreLost old new
  unfolding AreLost Awaits
  waits zero old new lost (is, same) = ([], same, tt, tt)
  waits (suc n) old new lost (Err fault, mid, came, (is, same)) = (Received (Err fault) ∷ [], (mid, inl came, same), tt, tt)
  waits (suc n) old new lost (Ok heard, mid, came, is) =
      wait_by n old mid new heard lost came (fitting peer octets heard) refl is (waits n mid new lost)

  -- or it brings an answer
  took_by : (n : ℕ) (mid new : T) (heard : Heard) (datagram : List ℕ) (fit : Option (List ℕ)) → fitting peer octets heard ≡ fit →
      IsTaken fit mid (Ok datagram) new (Awaits receives peer octets n mid (Ok datagram) new) →
      (Awaits receives peer octets n mid (Ok datagram) new → answers_to octets datagram ≡ true) → answers_to octets datagram ≡ true
  took_by n mid new heard datagram None none is goes = goes is
  took_by n mid new heard datagram (Some taken) some (is, same) goes =
      let one : taken ≡ datagram = cc in fitting_answers peer octets heard.from heard.datagram datagram (some ∙ ap Some one)

  took : (n : ℕ) (old new : T) (datagram : List ℕ) → Awaits receives peer octets n old (Ok datagram) new → answers_to octets datagram ≡ true
  unfolding Awaits
  took zero old new datagram (is, same) = absurd is
  took (suc n) old new datagram (Err fault, mid, came, (is, same)) = absurd is
  took (suc n) old new datagram (Ok heard, mid, came, is) = took_by n mid new heard datagram (fitting peer octets heard) refl is (took n mid new datagram)

  -- ---- an ask

  asked : (old new : T) (answer : Result (List ℕ) Lost) → Asks sends receives (to_peer peer octets) 16 old answer new → IsNoAnswer octets answer → AreLost old new
  unfolding AreLost
  asked old new (Err lost) (Err fault, mid, sent, (is, same)) none = (Sent octets peer (Err fault) ∷ [], (mid, sent, same), (refl, refl, tt), tt)
  asked old new (Err lost) (Ok done, mid, sent, is) none =
      let rest = waits 16 mid new lost is in (Sent octets peer (Ok done) ∷ rest.0, (mid, sent, rest.1), (refl, refl, rest.2), rest.3)
  asked old new (Ok datagram) (Err fault, mid, sent, (is, same)) none = absurd is
  asked old new (Ok datagram) (Ok done, mid, sent, is) none = absurd (let e = took 16 mid new datagram is in cc)

  tried : (tries : ℕ) (old new : UdpLink T) → old.peer ≡ peer →
      Unanswered (λ (a : UdpLink T) request answer b. Asks sends receives (to_peer a.peer request) 16 a.port answer b.port × (b.peer ≡ a.peer)) octets tries old new →
      AreLost old.port new.port × (new.peer ≡ peer)
  unfolding AreLost
  tried zero old new here same = (([], ap (λ (l : UdpLink T). l.port) same, tt, tt), ap (λ (l : UdpLink T). l.peer) same ∙ here)
  tried (suc n) old new here (mid, answer, before, (asks, stays), none) =
      let (first, there) = tried n old mid here before in
      let last = asked mid.port new.port answer (subst (λ (p : List ℕ). Asks sends receives (to_peer p octets) 16 mid.port answer new.port) there asks) none in
      (lost_on old.port mid.port new.port first last, stays ∙ there)

pub lost_strays : {T : Type 0} (sends : T → List ℕ → List ℕ → Sending → T → Type 0) (receives : T → Receiving → T → Type 0)
    (within : T → ℕ → Receiving → T → Type 0) → LostHasStrays sends receives within
unfolding AreLost
lost_strays sends receives within = λ peer octets tries old new here lost. (tried sends receives within peer octets tries old new here lost).0
