-- What is asked over a port whose IDs go on is asked over the port below.
use Rattle.std.proofs.Common.{◌≡◌, ◌∙◌, ap, subst, refl, ℕ, zero, suc, ◌+◌, ◌%◌, ◌<◌, ◌&&◌, Bool, true, false, List, Option, Some, None, IfSome, Result, Ok, Err, if◌then◌else◌, arith}
use Rattle.std.specs.Option.{option_map}
use Rattle.std.specs.Str.{bytes_eq}
use Rattle.bac_wire.specs.Chain.{result_map}
use Rattle.bac_wire.proofs.Numbers.{IsBytes}
use Rattle.bac_link.specs.Datagrams.{answers_to}
use Rattle.bac_link.specs.Path.{AreWays, Path}
use Rattle.bac_link.specs.Requests.{IsTooLong, request_octets}
use Rattle.bac_link.specs.declared.link.Lost.{Lost}
use Rattle.bac_link.specs.declared.request.Request.{Request}
use Rattle.bac_ports.specs.Asking.{Awaits, IsHeard, IsLost, IsSent, IsTaken, fitting_of, to_peer}
use Rattle.bac_ports.specs.Port.{Receiving, Sending}
use Rattle.bac_invoke_ids.specs.Ids.{sent_by, taken_by}
use Rattle.bac_invoke_ids.specs.Laws.{AreIds, AsksAreBelow, HearsOctets}
use Rattle.bac_invoke_ids.specs.Onward.{ReceivesOnward, SendsAs, SendsOnward, after, heard_by, shift_of}
use Rattle.bac_invoke_ids.specs.declared.ids.Ids.{Ids}
use Rattle.bac_invoke_ids.specs.declared.ids.InvokeId.{InvokeId}
use Rattle.bac_invoke_ids.specs.declared.ports.OnwardPort.{OnwardPort}
use Rattle.bac_invoke_ids.proofs.Moved.{answers_taken, question_found, question_moved}

-- a shift has one octet
shift_small : (ids : Ids) (id : ℕ) → AreIds ids → id < 256 → shift_of ids id < 256
shift_small ids id are lt = by ids.shift refl
  where
    by : (o : Option ℕ) → ids.shift ≡ o → shift_of ids id < 256
    by None e = rw e (omega arith)
    by (Some shift) e = rw e (subst (λ (x : Option ℕ). IfSome x (λ n. n < 256)) e are.1)

module _ {P : Type 0} (sends : P → List ℕ → List ℕ → Sending → P → Type 0) (receives : P → Receiving → P → Type 0) (hears : HearsOctets receives)
    (peer : List ℕ) (path : Path) (r : Request) (id shift : ℕ) (ways : AreWays path) (here : path.source ≡ None) (fits : IsTooLong r → ⊥) (lt : id < 256) (less : shift < 256) where
  abbrev asked : List ℕ
  asked = request_octets path id r

  abbrev sent : List ℕ
  sent = request_octets path ((id + shift) % 256) r

  -- what came below, for an answer that is taken so
  abbrev Below : (P → Result (List ℕ) Lost → P → Type 0) → OnwardPort P → Result (List ℕ) Lost → OnwardPort P → Type 0
  Below done port result new = (below : Result (List ℕ) Lost) × done port.port below new.port × (result ≡ result_map (taken_by shift) below) × (new.ids ≡ port.ids)

  -- no answer is none below
  lost : (result : Result (List ℕ) Lost) → IsLost result → (below : Result (List ℕ) Lost) × IsLost below × (result ≡ result_map (taken_by shift) below)
  lost (Ok datagram) none = absurd none
  lost (Err why) none = (Err why, tt, refl)

  -- what fits is what fits below, as it is taken
  fits_so : (from : List ℕ) (datagram : List ℕ) → IsBytes datagram → (bytes_eq from peer && answers_to asked (taken_by shift datagram)) ≡ (bytes_eq from peer && answers_to sent datagram)
  fits_so from datagram octets = ap (λ (b : Bool). bytes_eq from peer && b) (answers_taken path r id shift datagram ways fits lt less octets)

  taken_on : (b : Bool) (datagram : List ℕ) (mid new : OnwardPort P) (result : Result (List ℕ) Lost) (more : Type 0) (less' : P → Result (List ℕ) Lost → P → Type 0)
      → (more → Below (λ p x q. less' p x q) mid result new)
      → IsTaken (if b then Some (taken_by shift datagram) else None) mid result new more
      → Below (λ p x q. IsTaken (if b then Some datagram else None) p x q (less' p x q)) mid result new
  taken_on true datagram mid new result more less' goes (is, same) = (Ok datagram, (refl, ap (λ (p : OnwardPort P). p.port) same), is, ap (λ (p : OnwardPort P). p.ids) same)
  taken_on false datagram mid new result more less' goes is = goes is

  heard_on : (o : Option (List ℕ)) (from : List ℕ) (mid new : OnwardPort P) (result : Result (List ℕ) Lost) (more : Type 0) (less' : P → Result (List ℕ) Lost → P → Type 0)
      → ((datagram : List ℕ) → o ≡ Some datagram → IsBytes datagram)
      → (more → Below (λ p x q. less' p x q) mid result new)
      → IsTaken (fitting_of peer asked from (option_map (taken_by shift) o)) mid result new more
      → Below (λ p x q. IsTaken (fitting_of peer sent from o) p x q (less' p x q)) mid result new
  heard_on None from mid new result more less' octets goes is = goes is
  heard_on (Some datagram) from mid new result more less' octets goes is =
      taken_on (bytes_eq from peer && answers_to sent datagram) datagram mid new result more less' goes
      (subst (λ (b : Bool). IsTaken (if b then Some (taken_by shift datagram) else None) mid result new more) (fits_so from datagram (octets datagram refl)) is)

  -- what was received, and then what is taken behind it
  received_on : (x : Receiving) (more : Type 0) (less' : P → Result (List ℕ) Lost → P → Type 0) (port : P) (mid new : OnwardPort P) (result : Result (List ℕ) Lost) → receives port x mid.port
      → (more → Below (λ p y q. less' p y q) mid result new) → IsHeard peer asked (result_map (heard_by (Some shift)) x) mid result new more
      → Below (λ p y q. IsHeard peer sent x p y q (less' p y q)) mid result new
  received_on (Err fault) more less' port mid new result receive goes (none, same) =
      let none_below = lost result none in
      (none_below.0, (none_below.1, ap (λ (p : OnwardPort P). p.port) same), none_below.2, ap (λ (p : OnwardPort P). p.ids) same)
  received_on (Ok one) more less' port mid new result receive goes is =
      heard_on one.datagram one.from mid new result more less' (λ datagram there. hears port mid.port one datagram receive there) goes is

  -- so many receives at most
  awaits_on : (n : ℕ) (port new : OnwardPort P) (result : Result (List ℕ) Lost) → port.ids.shift ≡ Some shift → Awaits (ReceivesOnward receives) peer asked n port result new
      → Below (λ p x q. Awaits receives peer sent n p x q) port result new
  unfolding Awaits
  awaits_on zero port new result by (none, same) =
      let none_below = lost result none in
      (none_below.0, (none_below.1, ap (λ (p : OnwardPort P). p.port) same), none_below.2, ap (λ (p : OnwardPort P). p.ids) same)
  awaits_on (suc n) port new result by (heard, mid, (came, receive, told, ids), is) =
      let more = Awaits (ReceivesOnward receives) peer asked n mid result new in
      let one = subst (λ (h : Receiving). IsHeard peer asked h mid result new more) (told ∙ ap (λ (o : Option ℕ). result_map (heard_by o) came) by) is in
      let (below, done, same, stay) = received_on came more (λ p y q. Awaits receives peer sent n p y q) port.port mid new result receive
      (λ rest. awaits_on n mid new result (ap (λ (i : Ids). i.shift) ids ∙ by) rest) one in
      (below, (came, mid.port, receive, done), same, stay ∙ ids)

  -- behind a send
  sent_on : (limit : ℕ) (sending : Sending) (mid new : OnwardPort P) (result : Result (List ℕ) Lost) → mid.ids.shift ≡ Some shift → IsSent (ReceivesOnward receives) (to_peer peer asked) limit sending mid result new
      → Below (λ p x q. IsSent receives (to_peer peer sent) limit sending p x q) mid result new
  sent_on limit (Err fault) mid new result by (none, same) =
      let none_below = lost result none in
      (none_below.0, (none_below.1, ap (λ (p : OnwardPort P). p.port) same), none_below.2, ap (λ (p : OnwardPort P). p.ids) same)
  sent_on limit (Ok done) mid new result by is = awaits_on limit mid new result by is

  -- the question is sent as the same request with another ID
  sends_so : (old mid : OnwardPort P) (sending : Sending) → shift_of old.ids id ≡ shift → SendsOnward sends old asked peer sending mid
      → sends old.port sent peer sending mid.port × (mid.ids ≡ after old.ids id)
  sends_so old mid sending by is =
      let found = question_found path r id ways here fits in
      let (one, ids) = subst (λ (o : Option InvokeId). SendsAs sends o old asked peer sending mid) found is in
      (subst (λ (l : List ℕ). sends old.port l peer sending mid.port) (ap (λ (k : ℕ). sent_by k asked) by ∙ question_moved path r id shift ways here fits) one, ids)

pub below : {P : Type 0} (sends : P → List ℕ → List ℕ → Sending → P → Type 0) (receives : P → Receiving → P → Type 0) →
    AsksAreBelow (λ old octets to sent new. SendsOnward sends old octets to sent new) (λ old heard new. ReceivesOnward receives old heard new) sends receives
below sends receives = λ hears peer path r id limit old new result ways here fits lt are (sending, mid, send, rest).
    let shift : ℕ = shift_of old.ids id in
    let less = shift_small old.ids id are lt in
    let (one, ids) = sends_so sends receives hears peer path r id shift ways here fits lt less old mid sending refl send in
    let (below, done, same, stay) = sent_on sends receives hears peer path r id shift ways here fits lt less limit sending mid new result (ap (λ (i : Ids). i.shift) ids) rest in
    (below, (sending, mid.port, one, done), same, stay ∙ ids)
