-- What `bac serve` does, as events.
use Rattle.std.proofs.Common.{◌≡◌, ◌⊎◌, ◌++◌, ◌+◌, ◌≤◌, ℕ, zero, suc, true, false, List, [], ◌∷◌, Option, None, Some, Result, Ok, Err, inl, inr, refl, sym, subst, ap, ◌∙◌, append_assoc, arith}
use Rattle.std.specs.Prelude.{Bool, length, option_map}
use Rattle.bac_apdu.specs.Apdu.{Apdu}
use Rattle.bac_apdu.specs.Frame.{Frame, Unicast, Broadcast, Forwarded, Function, frame_at}
use Rattle.bac_device.specs.Answer.{answer, answer_frame, answer_heard, returning}
use Rattle.bac_device.specs.Receiving.{ReceivedApdu, heard_at, nak_code}
use Rattle.bac_device.specs.Reply.{Return, reply}
use Rattle.bac_device.specs.declared.reply.Receiver.{Receiver}
use Rattle.bac_device.specs.declared.reply.Receiver.TheVariants.{Sender, Address}
use Rattle.bac_device.specs.declared.reply.Reply.{Reply}
use Rattle.bac_socket_notes.specs.Ports.{Event, Received, Sent, came_in}
use Rattle.bac_laws.proofs.Captured.{Goes}
use Rattle.bac_laws.specs.Served.{AnswersEach, IsCutOff, Replies, asker_in, next_of, reply_by}
use Rattle.bac_objects.specs.State.{State}
use Rattle.bac_ports.specs.Sockets.{SocketRules}
use Rattle.bac_ports.specs.declared.port.Heard.{Heard}
use Rattle.bac_ports.specs.declared.port.SocketFault.{SocketFault}
use Rattle.bac_ports.specs.declared.port.SocketFault.TheVariants.{Timeout, Failed}
use Rattle.bac_serve.specs.Serving as serving
use Rattle.bac_serve.specs.Serving.{Done, Handles, IsServed, Sends, Server, Serves, ServesNext, receiver_of, server}
use Rattle.bac_wire.specs.Stamp.{CivilTime}

-- ---- whom an answer goes to

reply_goes : (back : Return) (said : Option Apdu) (r : Reply) → option_map (reply back) said ≡ Some r → r.to ≡ back.to
reply_goes back None r is = absurd (let e : None ≡ Some r = is in cc)
reply_goes back (Some apdu) r is = let e : Some (reply back apdu) ≡ Some r = is in let f : reply back apdu ≡ r = cc in ap (λ (x : Reply). x.to) (sym f)

returns_to : (to : Receiver) (heard : Option ReceivedApdu) → (returning to heard).to ≡ to
returns_to to None = refl
returns_to to (Some heard) = refl

nak_goes : (code : Option ℕ) (make : ℕ → Reply) (r : Reply) → ((c : ℕ) → (make c).to ≡ Sender) → option_map make code ≡ Some r → r.to ≡ Sender
nak_goes None make r each is = absurd (let e : None ≡ Some r = is in cc)
nak_goes (Some c) make r each is = let e : Some (make c) ≡ Some r = is in let f : make c ≡ r = cc in ap (λ (x : Reply). x.to) (sym f) ∙ each c

frame_goes : (d : State) (from : List ℕ) (frame : Option Frame) (r : Reply) → (answer_frame d frame).0 ≡ Some r
    → receiver_of r.to from ≡ asker_in from frame
frame_goes d from None r is = absurd (let e : None ≡ Some r = is in cc)
frame_goes d from (Some (Unicast npdu)) r is = ap (λ (to : Receiver). receiver_of to from)
    (reply_goes (returning Sender (heard_at false npdu)) (answer_heard d (heard_at false npdu)).0 r is ∙ returns_to Sender (heard_at false npdu))
frame_goes d from (Some (Broadcast npdu)) r is = ap (λ (to : Receiver). receiver_of to from)
    (reply_goes (returning Sender (heard_at true npdu)) (answer_heard d (heard_at true npdu)).0 r is ∙ returns_to Sender (heard_at true npdu))
frame_goes d from (Some (Forwarded address npdu)) r is = ap (λ (to : Receiver). receiver_of to from)
    (reply_goes (returning (Address address) (heard_at true npdu)) (answer_heard d (heard_at true npdu)).0 r is ∙ returns_to (Address address) (heard_at true npdu))
frame_goes d from (Some (Function function rest)) r is = ap (λ (to : Receiver). receiver_of to from)
    (nak_goes (nak_code function) _ r (λ c. refl) is)

goes_to : (d : State) (from datagram : List ℕ) (r : Reply) → (answer d datagram).0 ≡ Some r → receiver_of r.to from ≡ asker_in from (frame_at datagram)
unfolding answer
goes_to d from datagram r is = frame_goes d from (frame_at datagram) r is

-- ---- events one behind the other

each_more : (heard : Heard) (es : List Event) → AnswersEach None es → AnswersEach (Some heard) es
each_more heard [] is = tt
each_more heard (Received (Ok other) ∷ es) is = is
each_more heard (Received (Err why) ∷ es) is = is
each_more heard (Sent octets to sent ∷ es) is = absurd is

each_on : (asked : Option Heard) (es more : List Event) → AnswersEach asked es → AnswersEach None more → AnswersEach asked (es ++ more)
each_on None [] more is rest = rest
each_on (Some heard) [] more is rest = each_more heard more rest
each_on None (Received (Ok other) ∷ es) more is rest = each_on (Some other) es more is rest
each_on (Some heard) (Received (Ok other) ∷ es) more is rest = each_on (Some other) es more is rest
each_on None (Received (Err why) ∷ es) more is rest = each_on None es more is rest
each_on (Some heard) (Received (Err why) ∷ es) more is rest = each_on None es more is rest
each_on None (Sent octets to sent ∷ es) more is rest = absurd is
each_on (Some heard) (Sent octets to sent ∷ es) more (asks, is) rest = (asks, each_on None es more is rest)

came_on : (es more : List Event) → length (came_in (es ++ more)) ≡ length (came_in es) + length (came_in more)
came_on [] more = omega arith
came_on (Sent octets to sent ∷ es) more = came_on es more
came_on (Received (Ok heard) ∷ es) more = let e = came_on es more in omega (arith, e)
came_on (Received (Err why) ∷ es) more = came_on es more

length_on : (es more : List Event) → length (es ++ more) ≡ length es + length more
length_on [] more = omega arith
length_on (e ∷ es) more = let is = length_on es more in omega (arith, is)

-- with what a device replies behind these events it replies to them, too
abbrev Led : State → List Event → State → Type 0
Led old es new = (more : List Event) → Replies new None more → Replies old None (es ++ more)

led_on : (first es : List Event) (old mid new : State) → Led old first mid → Led mid es new → Led old (first ++ es) new
led_on first es old mid new one rest =
    λ more is. subst (λ (xs : List Event). Replies old None xs) (sym (append_assoc first es more)) (one (es ++ more) (rest more is))

-- a fault of a wait for so many times is that of the last receive, or that each was in vain
abbrev Faulty : ℕ → List Event → Done → Type 0
Faulty n es result = (result ≡ Ok tt) ⊎ (((earlier : List Event) × (es ≡ earlier ++ Received (Err Failed) ∷ [])) ⊎ (n ≤ length es))

faulty_behind : (n : ℕ) (e : Event) (es : List Event) (result : Done) → Faulty n es result → Faulty (suc n) (e ∷ es) result
faulty_behind n e es result (inl is) = inl is
faulty_behind n e es result (inr (inl (earlier, is))) = inr (inl (e ∷ earlier, ap (λ (xs : List Event). e ∷ xs) is))
faulty_behind n e es result (inr (inr many)) = inr (inr (omega (arith, many)))

-- all were served, or it was cut off
abbrev pub Over : List Event → Done → Type 0
Over es result = (result ≡ Ok tt) ⊎ (((why : SocketFault) × (result ≡ Err why)) × IsCutOff es)

over_behind : (first es : List Event) (result : Done) → Over es result → Over (first ++ es) result
over_behind first es result (inl is) = inl is
over_behind first es result (inr (is, inl (earlier, shape))) = inr (
  is,
  inl (first ++ earlier, ap (λ (xs : List Event). first ++ xs) shape ∙ sym (append_assoc first earlier (Received (Err Failed) ∷ []))),
)
over_behind first es result (inr (is, inr many)) = inr (is, inr (let e = length_on first es in omega (arith, e, many)))

over_at : (es : List Event) (why : SocketFault) (result : Done) → result ≡ Err why → Faulty 18446744073709551615 es (Err why) → Over es result
over_at es why result is (inl done) = absurd (let e : Err why ≡ Ok tt = done in cc)
over_at es why result is (inr cut) = inr ((why, is), cut)

-- ---- serving

module _ {S P C : Type 0} (rules : SocketRules S P) (tells : C → Option CivilTime → C → Type 0) where
  abbrev Went : List Event → P → P → Type 0
  Went es old new = Goes rules.sends rules.receives rules.receives_within es old new

  goes_behind : (es more : List Event) (old mid new : P) → Went es old mid → Went more mid new → Went (es ++ more) old new
  goes_behind [] more old mid new same rest = subst (λ (p : P). Went more p new) same rest
  goes_behind (e ∷ es) more old mid new (half, first, behind) rest = (half, first, goes_behind es more half mid new behind rest)

  -- what is sent to one that came
  sends_one : (heard : Heard) (datagram : List ℕ) (device : State) (there : heard.datagram ≡ Some datagram) (found : Option Reply) (old : P)
      (result : Result Bool SocketFault) (new : P) → (answer device datagram).0 ≡ found → Sends rules.sends heard.from found old result new
      → (es : List Event) × Went es old new × AnswersEach (Some heard) es × (length (came_in es) ≡ 0)
      × ((after : State) (more : List Event) → Replies after None more → Replies after (next_of heard.from found) (es ++ more))
  sends_one heard datagram device there None old result new is (same, stays) = ([], stays, tt, refl, λ after more rest. rest)
  sends_one heard datagram device there (Some r) old result new is (sent, sends, how) = (
    Sent r.datagram (receiver_of r.to heard.from) sent ∷ [],
    (new, sends, refl),
    ((datagram, there, goes_to device heard.from datagram r is), tt),
    refl,
    λ after more rest. (refl, rest),
  )

  handles_one : (heard : Heard) (found : Option (List ℕ)) (old : Server P C) (result : Result Bool SocketFault) (new : Server P C)
      → heard.datagram ≡ found → Handles rules.sends heard.from found old result new
      → (es : List Event) × Went es old.port new.port × AnswersEach (Some heard) es × (length (came_in es) ≡ 0)
      × ((more : List Event) → Replies new.device None more
      → Replies (reply_by old.device found).1 (next_of heard.from (reply_by old.device found).0) (es ++ more))
  handles_one heard None old result new is (same, stays, device) =
      ([], stays, tt, refl, λ more rest. subst (λ (d : State). Replies d None more) device rest)
  handles_one heard (Some datagram) old result new is (sends, device) =
      let it = sends_one heard datagram old.device is (answer old.device datagram).0 old.port result new.port refl sends in (
        it.0,
        it.1,
        it.2,
        it.3,
        λ more rest. it.4 (answer old.device datagram).1 more (subst (λ (d : State). Replies d None more) device rest),
      )

  -- at most one came, and one did if that is the end of the wait
  abbrev Next : ℕ → Server P C → Done → Server P C → Type 0
  Next n old result new = (es : List Event) × Went es old.port new.port × AnswersEach None es × (length (came_in es) ≤ 1)
      × (result ≡ Ok tt → length (came_in es) ≡ 1) × Led old.device es new.device × Faulty n es result

  next : (n : ℕ) (old : Server P C) (result : Done) (new : Server P C) → ServesNext rules.sends rules.receives tells n old result new
      → Next n old result new
  unfolding ServesNext
  next zero old result new (is, (same, device, clock)) = (
    [],
    same,
    tt,
    omega arith,
    (λ done. absurd (let e : Err Timeout ≡ Ok tt = sym is ∙ done in cc)),
    (λ more rest. subst (λ (d : State). Replies d None more) device rest),
    inr (inr (omega arith)),
  )
  next (suc n) old result new (Err Timeout, mid, receives, (now, seen, looks, rest)) =
      let it = next n (server mid _ seen) result new rest in (
        Received (Err Timeout) ∷ it.0,
        (mid, inl receives, it.1),
        it.2,
        it.3,
        it.4,
        (λ more after. (now, it.5 more after)),
        faulty_behind n (Received (Err Timeout)) it.0 result it.6,
      )
  next (suc n) old result new (Err Failed, mid, receives, (is, (same, device, clock))) = (
    Received (Err Failed) ∷ [],
    (mid, inl receives, same),
    tt,
    omega arith,
    (λ done. absurd (let e : Err Failed ≡ Ok tt = sym is ∙ done in cc)),
    (λ more rest. (None, subst (λ (d : State). Replies d None more) device rest)),
    inr (inl ([], refl)),
  )
  next (suc n) old result new (Ok heard, mid, receives, (is, (sent, (now, looks, handles)))) =
      let it = handles_one heard heard.datagram (server mid (serving.ticked_at old.device now) new.clock) sent new refl handles in (
        Received (Ok heard) ∷ it.0,
        (mid, inl receives, it.1),
        it.2,
        (let e = it.3 in omega (arith, e)),
        (λ done. (let e = it.3 in omega (arith, e))),
        (λ more rest. (now, it.4 more rest)),
        inl is,
      )

  -- no more came than these, and as many if all were served
  abbrev All : ℕ → Server P C → Done → Server P C → Type 0
  All count old result new = (es : List Event) × Went es old.port new.port × AnswersEach None es × (length (came_in es) ≤ count)
      × (result ≡ Ok tt → length (came_in es) ≡ count) × Led old.device es new.device × Over es result

  behind_one : (count : ℕ) (old mid new : Server P C) (served result : Done) → Next 18446744073709551615 old served mid
      → IsServed served mid result new (Serves rules.sends rules.receives tells count mid result new)
      → (Serves rules.sends rules.receives tells count mid result new → All count mid result new) → All (suc count) old result new
  behind_one count old mid new (Err why) result first (is, (same, device, clock)) rest = (
    first.0,
    subst (λ (p : P). Went first.0 old.port p) (sym same) first.1,
    first.2,
    (let l = first.3 in omega (arith, l)),
    (λ done. absurd (let e : Err why ≡ Ok tt = sym is ∙ done in cc)),
    (λ more rest. first.5 more (subst (λ (d : State). Replies d None more) device rest)),
    over_at first.0 why result is first.6,
  )
  behind_one count old mid new (Ok done) result first is rest =
      let more = rest is in
      let all = came_on first.0 more.0 in (
        first.0 ++ more.0,
        goes_behind first.0 more.0 old.port mid.port new.port first.1 more.1,
        each_on None first.0 more.0 first.2 more.2,
        (let l = first.3 in let m = more.3 in omega (arith, all, l, m)),
        (λ so. (let l = first.4 refl in let m = more.4 so in omega (arith, all, l, m))),
        led_on first.0 more.0 old.device mid.device new.device first.5 more.5,
        over_behind first.0 more.0 result more.6,
      )

  pub served : (count : ℕ) (old : Server P C) (result : Done) (new : Server P C) → Serves rules.sends rules.receives tells count old result new
      → All count old result new
  unfolding Serves
  served zero old result new (is, (same, device, clock)) =
      ([], same, tt, omega arith, (λ done. refl), (λ more rest. subst (λ (d : State). Replies d None more) device rest), inl is)
  served (suc count) old result new (first, mid, next_one, rest) =
      behind_one count old mid new first result (next 18446744073709551615 old first mid next_one) rest
      (λ more. served count mid result new more)
