-- What an ask brings, and what it leaves.
use Rattle.std.proofs.Common.{◌≡◌, refl, ap, sym, subst, ◌∙◌, ℕ, min, Bool, true, false, if◌then◌else◌, List, [], Option, Some, None, Result, Ok, Err}
use Rattle.std.specs.Prelude.{IsOk}
use Rattle.std.specs.Result.{result_ok}
use Rattle.bac_wire.specs.Primitive.{Id}
use Rattle.bac_apdu.specs.declared.service.extent.Extent.{Extent}
use Rattle.bac_objects.specs.State.{State}
use Rattle.bac_objects.specs.declared.fault.Fault.TheVariants.{UnknownObject}
use Rattle.bac_apdu.specs.Npdu.{Place}
use Rattle.bac_objects.specs.Records.{records_of}
use Rattle.bac_device.specs.Answer.{answer, range_said, records_ack}
use Rattle.bac_device.specs.Reply.{datagram_to, error, reply}
use Rattle.bac_device.specs.declared.reply.Reply.{Reply}
use Rattle.bac_link.specs.Delivery.{History, Moment, now, later}
use Rattle.bac_link.specs.Links.{IsAsked, IsAskedOfNone, IsQuestion, IsReply, IsUnknown, our_question}
use Rattle.bac_link.specs.declared.link.Lost.{Lost}
use Rattle.bac_memory_link.specs.Ahead.{IsAhead, Lacks, LiesAhead, log_with}
use Rattle.bac_link.specs.Path.{Path, back, towards}
use Rattle.bac_memory_link.specs.Events.{Played, datagram_in, goes_on, meets, played, told}
use Rattle.bac_objects.specs.Sound.{IsSound}
use Rattle.bac_memory_link.specs.declared.event.LinkEvent.{LinkEvent}
use Rattle.bac_memory_link.proofs.Ahead.{IsStillAhead, still_ahead}
use Rattle.bac_memory_link.proofs.Events.{played_remains}
use Rattle.bac_memory_link.proofs.Questions.{answer_is, here_stays, range, stays_here}
use Rattle.bac_memory_link.proofs.Replies.{back_to, log_answered, log_replied, none_answered, none_replied}

-- what is told of a device and a loss
abbrev telling : State → Bool → List ℕ → Option Reply × State
telling d lost request = told (record { device = d; rest = []; lost = lost }) request

-- ---- answers

no_datagram : (datagram : List ℕ) → (let some : Option (List ℕ) = Some datagram in some) ≡ None → ⊥
no_datagram datagram e = cc

same_datagram : (a b : List ℕ) → (let some : Option (List ℕ) = Some a in some) ≡ Some b → a ≡ b
same_datagram a b e = cc

-- what an answer told is
abbrev IsTold : Result (List ℕ) Lost → State → Option Reply × State → Type 0
IsTold result d t = (result_ok result ≡ datagram_in t.0) × (d ≡ t.1)

-- ---- over a log of the device

ours : (rounds : ℕ) (lost : Bool) (p new : State) (rest : List LinkEvent) (source : Option Place) (id : Id) (r : ℕ) (M : List Moment) (H : History) (extent : Extent) (invoke : ℕ) (octets : List ℕ) (result : Result (List ℕ) Lost)
    → IsStillAhead rounds lost p rest id r M H → IsQuestion id extent (back (towards source)) invoke octets → IsTold result new (telling p lost octets)
    → IsAsked (λ N. IsAhead new rest id r N H) (our_question r M H id extent (back (towards source))) invoke result
ours rounds true p new rest source id r M H extent invoke octets (Ok datagram) a asks t = absurd (no_datagram datagram t.0)
ours rounds true p new rest source id r M H extent invoke octets (Err lost) a asks t = (rounds, subst (λ (d : State). LiesAhead rounds d rest id r M H) (sym t.1) a)
ours rounds false p new rest source id r M H extent invoke octets (Ok datagram) a asks t =
    let said = log_answered rounds p rest source id r (later M) H extent invoke octets a.1 asks in
    let text = datagram_to source (records_ack p.reply_size invoke id extent (log_with p id.instance)) in
    let is : datagram ≡ text = same_datagram datagram text (t.0 ∙ ap (λ (x : Option Reply × State). datagram_in x.0) said) in
    let left : new ≡ p = t.1 ∙ ap (λ (x : Option Reply × State). x.1) said in (
      subst (λ (o : List ℕ). IsReply (our_question r M H id extent (back (towards source))) invoke o) (sym is) (log_replied rounds p rest source id r (later M) H (now M) extent invoke asks.3.1 a.1 a.0),
      (rounds, subst (λ (d : State). LiesAhead rounds d rest id r (later M) H) (sym left) a.1),
    )
ours rounds false p new rest source id r M H extent invoke octets (Err lost) a asks t =
    let said = log_answered rounds p rest source id r (later M) H extent invoke octets a.1 asks in
    absurd (no_datagram _ (sym (t.0 ∙ ap (λ (x : Option Reply × State). datagram_in x.0) said)))

-- what goes on is lost
lost_on : (d new : State) (events : List LinkEvent) (id : Id) (r : ℕ) (M : List Moment) (H : History) (extent : Extent) (path : Path) (invoke : ℕ) (result : Result (List ℕ) Lost)
    → IsAhead d events id r M H → result_ok result ≡ None → new ≡ d → IsAsked (λ N. IsAhead new events id r N H) (our_question r M H id extent path) invoke result
lost_on d new events id r M H extent path invoke (Ok datagram) a none left = absurd (no_datagram datagram none)
lost_on d new events id r M H extent path invoke (Err lost) a none left = subst (λ (s : State). IsAhead s events id r M H) (sym left) a

-- what a request meets, by whether it goes on
abbrev met : Bool → State → List LinkEvent → Played
met on d events = if on then record { device = d; rest = events; lost = true } else played d events

asked_by : (on : Bool) (d new : State) (events rest : List LinkEvent) (id : Id) (r : ℕ) (M : List Moment) (H : History) (extent : Extent) (path : Path) (invoke : ℕ) (octets : List ℕ) (result : Result (List ℕ) Lost)
    → goes_on octets ≡ on → IsSound (met on d events).device → IsAhead d events id r M H → IsQuestion id extent path invoke octets
    → result_ok result ≡ datagram_in (told (met on d events) octets).0 → new ≡ (told (met on d events) octets).1 → rest ≡ (met on d events).rest
    → IsAsked (λ N. IsAhead new rest id r N H) (our_question r M H id extent path) invoke result
asked_by true d new events rest id r M H extent path invoke octets result on sound a asks said left over =
    subst (λ (es : List LinkEvent). IsAsked (λ N. IsAhead new es id r N H) (our_question r M H id extent path) invoke result) (sym over)
    (lost_on d new events id r M H extent path invoke result a said left)
asked_by false d new events rest id r M H extent path invoke octets result on sound a asks said left over =
    let p = played d events in
    let way : path ≡ back (towards path.source) = stays_here path id extent invoke octets asks on in
    subst (λ (es : List LinkEvent). IsAsked (λ N. IsAhead new es id r N H) (our_question r M H id extent path) invoke result) (sym over)
    (subst (λ (q : Path). IsAsked (λ N. IsAhead new p.rest id r N H) (our_question r M H id extent q) invoke result) (sym way)
    (ours a.0 p.lost p.device new p.rest path.source id r M H extent invoke octets result (still_ahead a.0 d events id r M H sound a.1)
    (subst (λ (q : Path). IsQuestion id extent q invoke octets) way asks) (said, left)))

pub asked : (d new : State) (events rest : List LinkEvent) (id : Id) (r : ℕ) (M : List Moment) (H : History) (extent : Extent) (path : Path) (invoke : ℕ) (octets : List ℕ) (result : Result (List ℕ) Lost)
    → IsSound (meets d events octets).device → IsAhead d events id r M H → IsQuestion id extent path invoke octets
    → result_ok result ≡ datagram_in (told (meets d events octets) octets).0 → new ≡ (told (meets d events octets) octets).1 → rest ≡ (meets d events octets).rest
    → IsAsked (λ N. IsAhead new rest id r N H) (our_question r M H id extent path) invoke result
asked d new events rest id r M H extent path invoke octets result = asked_by (goes_on octets) d new events rest id r M H extent path invoke octets result refl

-- ---- without the log

missing : (lost : Bool) (p new : State) (source : Option Place) (id : Id) (extent : Extent) (invoke : ℕ) (octets : List ℕ) (result : Result (List ℕ) Lost)
    → Lacks p id → IsQuestion id extent (back (towards source)) invoke octets → IsTold result new (telling p lost octets)
    → IsAskedOfNone (back (towards source)) invoke result × Lacks new id
missing true p new source id extent invoke octets (Ok datagram) a asks t = absurd (no_datagram datagram t.0)
missing true p new source id extent invoke octets (Err lost) a asks t = (tt, subst (λ (d : State). Lacks d id) (sym t.1) a)
missing false p new source id extent invoke octets (Ok datagram) a asks t =
    let said = none_answered p source id extent invoke octets a asks in
    let text = datagram_to source (error invoke 26 UnknownObject) in
    let is : datagram ≡ text = same_datagram datagram text (t.0 ∙ ap (λ (x : Option Reply × State). datagram_in x.0) said) in
    let left : new ≡ p = t.1 ∙ ap (λ (x : Option Reply × State). x.1) said in
    (subst (λ (o : List ℕ). IsUnknown (back (towards source)) invoke o) (sym is) (none_replied source invoke asks.3.1), subst (λ (d : State). Lacks d id) (sym left) a)
missing false p new source id extent invoke octets (Err lost) a asks t =
    let said = none_answered p source id extent invoke octets a asks in
    let left : new ≡ p = t.1 ∙ ap (λ (x : Option Reply × State). x.1) said in
    (tt, subst (λ (d : State). Lacks d id) (sym left) a)

missing_on : (d new : State) (id : Id) (path : Path) (invoke : ℕ) (result : Result (List ℕ) Lost) → Lacks d id → result_ok result ≡ None → new ≡ d → IsAskedOfNone path invoke result × Lacks new id
missing_on d new id path invoke (Ok datagram) a none left = absurd (no_datagram datagram none)
missing_on d new id path invoke (Err lost) a none left = (tt, subst (λ (s : State). Lacks s id) (sym left) a)

lacked_by : (on : Bool) (d new : State) (events : List LinkEvent) (id : Id) (extent : Extent) (path : Path) (invoke : ℕ) (octets : List ℕ) (result : Result (List ℕ) Lost)
    → goes_on octets ≡ on → IsSound (met on d events).device → Lacks d id → IsQuestion id extent path invoke octets
    → result_ok result ≡ datagram_in (told (met on d events) octets).0 → new ≡ (told (met on d events) octets).1
    → IsAskedOfNone path invoke result × Lacks new id
lacked_by true d new events id extent path invoke octets result on sound a asks said left = missing_on d new id path invoke result a said left
lacked_by false d new events id extent path invoke octets result on sound a asks said left =
    let p = played d events in
    let none = (played_remains d events).lacks id.instance a.none in
    let way : path ≡ back (towards path.source) = stays_here path id extent invoke octets asks on in
    subst (λ (q : Path). IsAskedOfNone q invoke result × Lacks new id) (sym way)
    (missing p.lost p.device new path.source id extent invoke octets result (record { sound = sound; kind = a.kind; none = none })
    (subst (λ (q : Path). IsQuestion id extent q invoke octets) way asks) (said, left))

pub lacked : (d new : State) (events : List LinkEvent) (id : Id) (extent : Extent) (path : Path) (invoke : ℕ) (octets : List ℕ) (result : Result (List ℕ) Lost)
    → IsSound (meets d events octets).device → Lacks d id → IsQuestion id extent path invoke octets
    → result_ok result ≡ datagram_in (told (meets d events octets) octets).0 → new ≡ (told (meets d events octets) octets).1
    → IsAskedOfNone path invoke result × Lacks new id
lacked d new events id extent path invoke octets result = lacked_by (goes_on octets) d new events id extent path invoke octets result refl

-- ---- without events

quiet : (d : State) (events : List LinkEvent) (octets : List ℕ) → events ≡ [] → goes_on octets ≡ false → told (meets d events octets) octets ≡ answer d octets
quiet d events octets none here = rw (none, here) refl

ok_of : (result : Result (List ℕ) Lost) (datagram : List ℕ) → result_ok result ≡ Some datagram → IsOk result
ok_of (Ok o) datagram e = refl
ok_of (Err lost) datagram e = absurd (no_datagram datagram (sym e))

-- what the device answers to a question that stays
said_here : (d : State) (events : List LinkEvent) (id : Id) (extent : Extent) (path : Path) (invoke : ℕ) (octets : List ℕ) → events ≡ [] → path.dest ≡ None → IsQuestion id extent path invoke octets
    → told (meets d events octets) octets ≡ (Some (reply (back_to path.source) (range_said (min 1476 d.reply_size) invoke (range id extent) (records_of d (range id extent)))), d)
said_here d events id extent path invoke octets none here asks =
    let on : goes_on octets ≡ false = here_stays path id extent invoke octets asks here in
    let way : path ≡ back (towards path.source) = stays_here path id extent invoke octets asks on in
    quiet d events octets none on ∙ answer_is d path.source invoke id extent octets (subst (λ (q : Path). IsQuestion id extent q invoke octets) way asks)

pub never_lost : (d : State) (events : List LinkEvent) (id : Id) (extent : Extent) (path : Path) (invoke : ℕ) (octets : List ℕ) (result : Result (List ℕ) Lost)
    → events ≡ [] → path.dest ≡ None → IsQuestion id extent path invoke octets → result_ok result ≡ datagram_in (told (meets d events octets) octets).0 → IsOk result
never_lost d events id extent path invoke octets result none here asks said =
    ok_of result _ (said ∙ ap (λ (x : Option Reply × State). datagram_in x.0) (said_here d events id extent path invoke octets none here asks))

pub nothing_changes : (d new : State) (events : List LinkEvent) (id : Id) (extent : Extent) (path : Path) (invoke : ℕ) (octets : List ℕ)
    → events ≡ [] → path.dest ≡ None → IsQuestion id extent path invoke octets → new ≡ (told (meets d events octets) octets).1 → d ≡ new
nothing_changes d new events id extent path invoke octets none here asks left =
    sym (left ∙ ap (λ (x : Option Reply × State). x.1) (said_here d events id extent path invoke octets none here asks))

-- what the sender of a lost request learns
pub lost : Lost
lost = record {}
