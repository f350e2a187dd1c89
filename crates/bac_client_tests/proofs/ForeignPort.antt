-- A link over the port with the device behind it is honest for its log; so what is printed are the lines of what it
-- holds.
use Rattle.std.specs.Prelude.{IfOk}
use Rattle.std.specs.Str.{bytes_eq}
use Rattle.std.proofs.Common.{◌≡◌, ℕ, zero, suc, ◌+◌, ◌<◌, ◌≤◌, ◌&&◌, if◌then◌else◌, Bool, true, false, Option, Some, None, Result, Ok, Err, List, [], ◌∷◌, ◌++◌, length, drop, refl, sym, subst, ap, ◌∙◌, append_assoc, arith}
use Rattle.std.proofs.lemmas.List.{length-append}
use Rattle.std.proofs.lemmas.Slice.Eq.{bytes_eq-Decides}
use Rattle.bac_wire.specs.Primitive.{Id}
use Rattle.bac_apdu.specs.Npdu.{Place}
use Rattle.bac_log.proofs.Order.{same_some}
use Rattle.bac_log.specs.declared.entry.Entry.{Entry}
use Rattle.bac_link.specs.Datagrams.{answers_to}
use Rattle.bac_link.specs.Delivery.{AreHeld, Brings, DeliversTo, Leads, Moment, items_of, now, later}
use Rattle.bac_link.specs.Exchanges.{client}
use Rattle.bac_link.specs.Path.{towards}
use Rattle.bac_link.specs.declared.item.Item.{Item}
use Rattle.bac_link.specs.declared.item.Item.TheVariants.{Gap, Logged}
use Rattle.bac_link.specs.declared.link.Lost.{Lost}
use Rattle.bac_link.specs.declared.transactions.Transactions.{Transactions}
use Rattle.bac_ports.specs.Asking.{Asks, Awaits, IsTaken, fitting, fitting_of, to_peer}
use Rattle.bac_ports.specs.declared.port.Heard.{Heard}
use Rattle.bac_ports.specs.declared.udp_link.UdpLink.{UdpLink}
use Rattle.bac_query.specs.Ahead.{FetchesAhead, errand}
use Rattle.bac_query.specs.Fetching.{Fetching}
use Rattle.bac_form.specs.declared.form.Form.TheVariants.{Lines}
use Rattle.bac_query.specs.Reading.{Held, printing}
use Rattle.bac_walk.specs.Came.{Brought, reaching, walk_over}
use Rattle.bac_walk.specs.Delivers.{NoneFrom}
use Rattle.bac_walk.specs.Transacted.{TransactedIsBrought}
use Rattle.bac_walk.specs.Place.{WalkPlace, walk_at}
use Rattle.bac_link.specs.Honest.{IsAskedIn, IsSaidOrLost, IsHonestWhere, asked_octets, asked_log}
use Rattle.bac_walk.specs.Honest.{IsHonestEnd, HonestIsDelivered}
use Rattle.bac_walk.proofs.Ends.{ended_as, is_loss}
use Rattle.bac_link.specs.Standard.{Asked, IsSaidAt}
use Rattle.bac_client_tests.proofs.Foreign.{always_held, beyond, ended_up, most_asked, reply_said}
use Rattle.bac_client_tests.specs.Foreign.{all_held, held, history, log, record_7, record_8, record_9, record_10, said_to}
use Rattle.bac_client_tests.specs.ForeignPort.{IsBrought, IsPut, PrintsHeld, device_at, moments_at}

-- ---- what the link takes

-- a datagram that fits is the device's answer
fits : (request question : List ℕ) (heard : Heard) (datagram : List ℕ) → IsBrought question (Ok heard) →
    fitting device_at request heard ≡ Some datagram → said_to question ≡ Some datagram
fits request question heard datagram brings is = by heard.datagram refl
  where
    at : (d : List ℕ) → heard.datagram ≡ Some d → (own fit : Bool) → bytes_eq heard.from device_at ≡ own → answers_to request d ≡ fit →
        fitting_of device_at request heard.from (Some d) ≡ Some datagram → said_to question ≡ Some datagram
    at d told false fit of a fitted =
        absurd (let e = sym (ap (λ (b : Bool). if b && answers_to request d then Some d else None) of) ∙ fitted in cc)
    at d told true false of a fitted =
        absurd (let e = sym (ap (λ (b : Bool). if b && answers_to request d then Some d else None) of
        ∙ ap (λ (b : Bool). if b then Some d else None) a) ∙ fitted in cc)
    at d told true true of a fitted =
        sym (brings ((bytes_eq-Decides heard.from device_at).0 of)) ∙ told
        ∙ (sym (ap (λ (b : Bool). if b && answers_to request d then Some d else None) of ∙ ap (λ (b : Bool). if b then Some d else None) a) ∙ fitted)

    by : (o : Option (List ℕ)) → heard.datagram ≡ o → said_to question ≡ Some datagram
    by None told = absurd (let e = sym (ap (fitting_of device_at request heard.from) told) ∙ is in cc)
    by (Some d) told =
        at d told (bytes_eq heard.from device_at) (answers_to request d) refl refl
        (sym (ap (fitting_of device_at request heard.from) told) ∙ is)

-- one more receive, or what fits
one_more : {P : Type 0} (request question : List ℕ) (heard : Heard) (mid new : P) (datagram : List ℕ) (more : Type 0) → IsBrought question (Ok heard) →
    (o : Option (List ℕ)) → fitting device_at request heard ≡ o → IsTaken o mid (Ok datagram) new more → (more → said_to question ≡ Some datagram) →
    said_to question ≡ Some datagram
one_more request question heard mid new datagram more brings None is taken goes = goes taken
one_more request question heard mid new datagram more brings (Some d) is taken goes =
    let same = taken.0 in
    let told : Some d ≡ Some datagram = cc in fits request question heard datagram brings (is ∙ told)

awaited : {P : Type 0} (question : P → List ℕ) (request : List ℕ) (n : ℕ) (port : P) (datagram : List ℕ) (new : P) →
    Awaits (λ old answer left. IsBrought (question old) answer × (question left ≡ question old)) device_at request n port (Ok datagram) new →
    said_to (question port) ≡ Some datagram
unfolding Awaits
awaited question request zero port datagram new awaits = absurd awaits.0
awaited question request (suc n) port datagram new (Err why, mid, came, rest) = absurd rest.0
awaited question request (suc n) port datagram new (Ok heard, mid, came, rest) =
    one_more request (question port) heard mid new datagram _ came.0 (fitting device_at request heard) refl rest
    (λ more. ap said_to (sym came.1) ∙ awaited question request n mid datagram new more)

answered : {P : Type 0} (question : P → List ℕ) (request : List ℕ) (port : P) (datagram : List ℕ) (new : P) →
    Asks (λ old octets to answer left. IsPut octets answer (question left)) (λ old answer left. IsBrought (question old) answer × (question left ≡ question old)) (to_peer device_at request) 16 port (Ok datagram) new → said_to request ≡ Some datagram
answered question request port datagram new (Err why, mid, put, rest) = absurd rest.0
answered question request port datagram new (Ok done, mid, put, rest) = ap said_to (sym put) ∙ awaited question request 16 mid datagram new rest

-- ---- the link is honest

-- where there is a moment, the link is to the device
to_device : (peer : List ℕ) (M : List Moment) → moments_at peer ≡ M → 0 < length M → (peer ≡ device_at) × (M ≡ held ∷ [])
to_device peer M stands some = by (bytes_eq peer device_at) refl
  where
    by : (own : Bool) → bytes_eq peer device_at ≡ own → (peer ≡ device_at) × (M ≡ held ∷ [])
    by false of =
        let none : [] ≡ M = sym (ap (λ (b : Bool). if b then held ∷ [] else []) of) ∙ stands in
        let L : List Moment → Type 0 = λ l. 0 < length l in absurd (omega (arith, subst L (sym none) some))
    by true of =
        ((bytes_eq-Decides peer device_at).0 of, sym (sym (ap (λ (b : Bool). if b then held ∷ [] else []) of) ∙ stands))

one_ask : (M : List Moment) (low invoke : ℕ) (asked : Asked) (peer left : List ℕ) (answer : Result (List ℕ) Lost) →
    moments_at peer ≡ M → 0 < length M → IsAskedIn low 100 asked → left ≡ peer →
    ((datagram : List ℕ) → answer ≡ Ok datagram → peer ≡ device_at → said_to (asked_octets (towards None) invoke log asked) ≡ Some datagram) →
    IsSaidOrLost (λ N. moments_at left ≡ N) M history log asked (asked_octets (towards None) invoke log asked) answer
one_ask M low invoke asked peer left (Err lost) stands some is same said = ap moments_at same ∙ stands
one_ask M low invoke asked peer left (Ok datagram) stands some is same said =
    let device = to_device peer M stands some in
    let stays : moments_at left ≡ M = ap moments_at same ∙ stands in
    let P : List Moment → Type 0 = λ N. (moments_at left ≡ N) → IsSaidAt (now N) history log asked datagram × (moments_at left ≡ later N) in
    let reply = reply_said low 100 invoke asked datagram most_asked (omega arith) is (said datagram refl device.0) in (
      (λ yes. subst P (sym device.1) (λ at. (reply, at)) stays),
      λ no. stays,
    )

-- an ask over such a link
abbrev pub PortAsks : {P : Type 0} → (P → List ℕ) → UdpLink P → List ℕ → Result (List ℕ) Lost → UdpLink P → Type 0
PortAsks question old octets answer new =
    Asks (λ a put to told left. IsPut put told (question left)) (λ a told left. IsBrought (question a) told × (question left ≡ question a)) (to_peer old.peer octets) 16 old.port answer new.port × (new.peer ≡ old.peer)

pub port_is_honest : {P : Type 0} (question : P → List ℕ) (low : ℕ) →
    IsHonestWhere {S = UdpLink P} (λ old octets answer new. PortAsks question old octets answer new) (asked_log (towards None) log 100) history low (λ link M. moments_at link.peer ≡ M)
port_is_honest {P = P} question low = λ old new M asked invoke answer stands some window is ask.
    one_ask M low invoke asked old.peer new.peer answer stands some is ask.1
    (λ datagram told device.
    let octets : List ℕ = asked_octets (towards None) invoke log asked in
    let A : List ℕ → Result (List ℕ) Lost → Type 0 = λ peer heard.
    Asks (λ a put to sent left. IsPut put sent (question left)) (λ a brought left. IsBrought (question a) brought × (question left ≡ question a)) (to_peer peer octets) 16 old.port heard new.port in
    let B : List ℕ → Type 0 = λ peer. A peer (Ok datagram) in
    let C : Result (List ℕ) Lost → Type 0 = λ heard. A old.peer heard in
    answered question octets old.port datagram new.port (subst B device (subst C told ask.0)))

-- ---- what it delivers

one_more_item : (shown n : ℕ) (entry e : Entry) (xs ys : List Item) → shown ≡ n → e ≡ entry → xs ≡ ys → Logged shown entry ∷ xs ≡ Logged n e ∷ ys
one_more_item shown n entry e xs ys number same rest = cc

-- records from the ordinal 7 + j on are those behind the first j that the device holds
held_part : (j : ℕ) (items : List Item) (u : ℕ) → j ≤ 4 → AreHeld history held (7 + j) items u →
    (k : ℕ) × (u ≡ 7 + k) × (k ≤ 4) × (k ≡ j + length items) × (items ++ drop k all_held ≡ drop j all_held)
held_part j [] u small are = (j, are, small, omega arith, refl)
held_part j (Gap first before ∷ items) u small are = absurd are
held_part zero (Logged shown entry ∷ items) u small are =
    let rest = held_part 1 items u (omega arith) are.3 in
    (rest.0, rest.1, rest.2, omega (arith, rest.3), one_more_item shown 7 entry record_7 (items ++ drop rest.0 all_held) (drop 1 all_held) are.0 (same_some record_7 entry are.2.1) rest.4)
held_part (suc zero) (Logged shown entry ∷ items) u small are =
    let rest = held_part 2 items u (omega arith) are.3 in
    (rest.0, rest.1, rest.2, omega (arith, rest.3), one_more_item shown 8 entry record_8 (items ++ drop rest.0 all_held) (drop 2 all_held) are.0 (same_some record_8 entry are.2.1) rest.4)
held_part (suc (suc zero)) (Logged shown entry ∷ items) u small are =
    let rest = held_part 3 items u (omega arith) are.3 in
    (rest.0, rest.1, rest.2, omega (arith, rest.3), one_more_item shown 9 entry record_9 (items ++ drop rest.0 all_held) (drop 3 all_held) are.0 (same_some record_9 entry are.2.1) rest.4)
held_part (suc (suc (suc zero))) (Logged shown entry ∷ items) u small are =
    let rest = held_part 4 items u (omega arith) are.3 in
    (rest.0, rest.1, rest.2, omega (arith, rest.3), one_more_item shown 10 entry record_10 (items ++ drop rest.0 all_held) (drop 4 all_held) are.0 (same_some record_10 entry are.2.1) rest.4)
held_part (suc (suc (suc (suc j)))) (Logged shown entry ∷ items) u small are =
    let last : 7 + suc (suc (suc (suc j))) ≤ 10 = are.1.1 in absurd (omega (arith, last))

-- there is no gap: all that is asked for is held
plain : (j : ℕ) (items : List Item) (u : ℕ) → Brings history held (7 + j) items u → AreHeld history held (7 + j) items u
plain j [] u brings = brings
plain j (Logged shown entry ∷ items) u brings = brings
plain j (Gap first before ∷ items) u brings = let gone : 7 + j < 7 = brings.1 in absurd (omega (arith, gone))

delivered : (j : ℕ) (answers : List (List Item)) (t : ℕ) → j ≤ 4 → Leads history (held ∷ []) (7 + j) answers t →
    (k : ℕ) × (t ≡ 7 + k) × (k ≤ 4) × (k ≡ j + length (items_of answers)) × (items_of answers ++ drop k all_held ≡ drop j all_held)
delivered j [] t small leads = (j, leads, small, omega arith, refl)
delivered j (items ∷ answers) t small leads =
    let first = held_part j items leads.0 small (plain j items leads.0 leads.1) in
    let L : ℕ → Type 0 = λ x. Leads history (held ∷ []) x answers t in
    let rest = delivered first.0 answers t first.2 (subst L first.1 leads.2) in (
      rest.0,
      rest.1,
      rest.2,
      omega (arith, rest.3, first.3, length-append items (items_of answers)),
      append_assoc items (items_of answers) (drop rest.0 all_held) ∙ (ap (λ xs. items ++ xs) rest.4 ∙ first.4),
    )

-- from the first of them on, up to the end of those that are there
all_of : (items : List Item) (t count : ℕ) → DeliversTo history 7 items t (held ∷ []) count →
    (k : ℕ) × (t ≡ 7 + k) × (k ≤ 4) × (k ≡ length items) × (items ++ drop k all_held ≡ all_held)
all_of items t count delivers =
    let part = delivered 0 delivers.0 t (omega arith) delivers.3 in (
      part.0,
      part.1,
      part.2,
      omega (arith, part.3, ap (λ (l : List Item). length l) delivers.2),
      ap (λ l. l ++ drop part.0 all_held) (sym delivers.2) ∙ part.4,
    )

none_left : (t k : ℕ) → t ≡ 7 + k → k ≤ 4 → NoneFrom t held → drop k all_held ≡ []
none_left t k is small none =
    let four : k ≡ 4 = omega (arith, beyond t none, is, small) in ap (λ n. drop n all_held) four

-- ---- what is printed

pub prints_held : {S : Type 0} (asks : S → List ℕ → Result (List ℕ) Lost → S → Type 0) (moments : S → List Moment) (link left : S)
    (first last : Transactions) (w : WalkPlace) (asked : Id) (steps : ℕ) (result : Fetching) (old new : Held) →
    HonestIsDelivered asks (λ l M. moments l ≡ M) → TransactedIsBrought asks → ((low : ℕ) → IsHonestWhere asks (asked_log (towards None) log 100) history low (λ l M. moments l ≡ M)) →
    moments link ≡ held ∷ [] → first.route ≡ None → w ≡ walk_at asked 7 →
    FetchesAhead (errand Lines w steps) asks (printing (client link first) old) result (printing (client left last) new) →
    IfOk result (λ done. asked ≡ log → PrintsHeld done old new)
prints_held asks moments link left first last w asked steps (Err fault) old new law plain honest stands near from over = tt
prints_held {S = S} asks moments link left first last w asked steps (Ok done) old new law plain honest stands near from over = λ is.
    let P : WalkPlace → Type 0 = λ v. FetchesAhead (errand Lines v steps) asks (printing (client link first) old) (Ok done) (printing (client left last) new) in
    let here : w ≡ walk_at log 7 = from ∙ ap (λ (i : Id). walk_at i 7) is in
    let f : P (walk_at log 7) = subst P here over in
    let B : Option Place → Type 0 = λ y. Brought (reaching asks (towards y) first.retries) (walk_over link (walk_at log 7)) f.2 f.0 f.1 f.3 (walk_over f.6 f.4) in
    let run : B None = subst B near (plain first f.5 link f.6 (walk_at log 7) f.4 f.2 f.0 f.1 f.3 f.7) in
    let d = law (towards None) first.retries link f.6 (walk_at log 7) f.4 f.2 f.0 f.1 f.3 history (held ∷ []) 7 7 (honest 7) stands run refl (omega arith) tt
    (record { oldest = omega arith; newest = omega arith }, tt) (λ fresh. (omega arith, omega arith)) in
    let D : ℕ → Type 0 = λ x. DeliversTo history x f.1 d.0.1 (held ∷ []) (length f.0) in
    let part = all_of f.1 d.0.1 (length f.0) (subst D d.0.2 d.0.5) in (
      f.1,
      drop part.0 all_held,
      part.4,
      omega (arith, f.8.0.1, d.0.3, part.1, part.2, part.3),
      f.8.2,
      (λ up.
          let caught = d.0.6 (ended_up done.why steps f.2 f.3 f.8.0.0 up) in
          let N : Moment → Type 0 = λ m. NoneFrom d.0.1 m in
          none_left d.0.1 part.0 part.1 part.2 (subst N (always_held caught.0) caught.3)),
      λ e told. is_loss e (subst IsHonestEnd (ended_as done.why steps f.2 f.3 e f.8.0.0 told) d.3),
    )
