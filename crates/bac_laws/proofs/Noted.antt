-- What happens as a site is polled, as what happens at its port.
use Rattle.std.proofs.Common.{◌≡◌, ◌∙◌, inl, inr, ℕ, List, [], ◌∷◌, Option, Some, Ok, ap, subst}
use Rattle.std.specs.List.{Contains}
use Rattle.std.proofs.lemmas.List.Elements.{Contains-append_left, Contains-append_right, Contains-push}
use Rattle.sqlite_value.specs.declared.value.Value.{Value}
use Rattle.sqlite_value.specs.declared.value.Value.TheVariants.{Text}
use Rattle.bac_plan.specs.Addresses.{peer_in}
use Rattle.bac_batch.specs.Batch.{Batched}
use Rattle.bac_drive.specs.Chain.{Chain}
use Rattle.bac_drive.specs.Event.{Event, Kept, Printed, Read, Sent, Waited, Warned}
use Rattle.bac_drive.specs.Happens.{Acts, Happens, Scene}
use Rattle.bac_ports.specs.Port.{Receiving, Sending}
use Rattle.bac_ports.specs.declared.port.Heard.{Heard}
use Rattle.bac_site_poller.specs.Site.{SiteState}
use Rattle.bac_site_poller.specs.SiteLaws.{site_acts}
use Rattle.bac_socket_notes.specs.Ports.{Event as PortEvent, Happen, Received, Sent as SentThere}
use Rattle.bac_walk.specs.declared.batch.Numbered.{Numbered}
use Rattle.bac_laws.proofs.Batches.{IsIn, to_in}
use Rattle.bac_laws.proofs.DeviceFits.{CameIn}
use Rattle.bac_wire.specs.Primitive.{Id}
use Rattle.bac_laws.specs.Printed.{HasRecord}

-- this datagram came from this address
abbrev came : List ℕ → List ℕ → PortEvent
came from datagram = Received (Ok (record { from = from; datagram = Some datagram }))

-- so a record came of the log with this instance
abbrev pub Came : List PortEvent → List ℕ → ℕ → Numbered → Type 0
Came es from instance held = (datagram : List ℕ) × Contains es (came from datagram)
    × ((object : Id) × (object.instance ≡ instance) × HasRecord object datagram held.number held.entry)

-- what happens at the port
abbrev pub noted : List Event → List PortEvent
noted [] = []
noted (Sent octets to answer ∷ es) = SentThere octets to answer ∷ noted es
noted (Waited within heard ∷ es) = Received heard ∷ noted es
noted (Read ms ∷ es) = noted es
noted (Kept puts ∷ es) = noted es
noted (Printed text ∷ es) = noted es
noted (Warned text ∷ es) = noted es

has_first : (e : PortEvent) (es : List PortEvent) → Contains (e ∷ es) e
has_first e es = Contains-append_left (e ∷ []) es e (Contains-push [] e)

has_more : (e x : PortEvent) (es : List PortEvent) → Contains es x → Contains (e ∷ es) x
has_more e x es has = Contains-append_right (e ∷ []) es x has

sent_noted : (es : List Event) (octets to : List ℕ) (answer : Sending) → IsIn (Sent octets to answer) es → Contains (noted es) (SentThere octets to answer)
sent_noted [] octets to answer is = absurd is
sent_noted (Sent o t a ∷ es) octets to answer (inl same) =
    let e : ◌≡◌ {A = PortEvent} (SentThere o t a) (SentThere octets to answer) =
    (let f : Sent o t a ≡ Sent octets to answer = same in let x : o ≡ octets = cc in let y : t ≡ to = cc in let z : a ≡ answer = cc in
    ap (λ (l : List ℕ). SentThere l t a) x ∙ ap (λ (l : List ℕ). SentThere octets l a) y ∙ ap (λ (l : Sending). SentThere octets to l) z) in
    subst (Contains (SentThere o t a ∷ noted es)) e (has_first (SentThere o t a) (noted es))
sent_noted (Sent o t a ∷ es) octets to answer (inr is) = has_more (SentThere o t a) (SentThere octets to answer) (noted es) (sent_noted es octets to answer is)
sent_noted (Waited within heard ∷ es) octets to answer (inl same) = absurd (let f : Waited within heard ≡ Sent octets to answer = same in cc)
sent_noted (Waited within heard ∷ es) octets to answer (inr is) = has_more (Received heard) (SentThere octets to answer) (noted es) (sent_noted es octets to answer is)
sent_noted (Read ms ∷ es) octets to answer (inl same) = absurd (let f : Read ms ≡ Sent octets to answer = same in cc)
sent_noted (Read ms ∷ es) octets to answer (inr is) = sent_noted es octets to answer is
sent_noted (Kept puts ∷ es) octets to answer (inl same) = absurd (let f : Kept puts ≡ Sent octets to answer = same in cc)
sent_noted (Kept puts ∷ es) octets to answer (inr is) = sent_noted es octets to answer is
sent_noted (Printed text ∷ es) octets to answer (inl same) = absurd (let f : Printed text ≡ Sent octets to answer = same in cc)
sent_noted (Printed text ∷ es) octets to answer (inr is) = sent_noted es octets to answer is
sent_noted (Warned text ∷ es) octets to answer (inl same) = absurd (let f : Warned text ≡ Sent octets to answer = same in cc)
sent_noted (Warned text ∷ es) octets to answer (inr is) = sent_noted es octets to answer is

came_noted : (es : List Event) (within : ℕ) (heard : Receiving) → IsIn (Waited within heard) es → Contains (noted es) (Received heard)
came_noted [] within heard is = absurd is
came_noted (Sent o t a ∷ es) within heard (inl same) = absurd (let f : Sent o t a ≡ Waited within heard = same in cc)
came_noted (Sent o t a ∷ es) within heard (inr is) = has_more (SentThere o t a) (Received heard) (noted es) (came_noted es within heard is)
came_noted (Waited less other ∷ es) within heard (inl same) =
    let e : other ≡ heard = (let f : Waited less other ≡ Waited within heard = same in cc) in
    subst (Contains (Received other ∷ noted es)) (ap (λ (h : Receiving). Received h) e) (has_first (Received other) (noted es))
came_noted (Waited less other ∷ es) within heard (inr is) = has_more (Received other) (Received heard) (noted es) (came_noted es within heard is)
came_noted (Read ms ∷ es) within heard (inl same) = absurd (let f : Read ms ≡ Waited within heard = same in cc)
came_noted (Read ms ∷ es) within heard (inr is) = came_noted es within heard is
came_noted (Kept puts ∷ es) within heard (inl same) = absurd (let f : Kept puts ≡ Waited within heard = same in cc)
came_noted (Kept puts ∷ es) within heard (inr is) = came_noted es within heard is
came_noted (Printed text ∷ es) within heard (inl same) = absurd (let f : Printed text ≡ Waited within heard = same in cc)
came_noted (Printed text ∷ es) within heard (inr is) = came_noted es within heard is
came_noted (Warned text ∷ es) within heard (inl same) = absurd (let f : Warned text ≡ Waited within heard = same in cc)
came_noted (Warned text ∷ es) within heard (inr is) = came_noted es within heard is

heard_is : (heard : Heard) (from datagram : List ℕ) → heard.from ≡ from → heard.datagram ≡ Some datagram → Received (Ok heard) ≡ came from datagram
heard_is heard from datagram at there =
    let one : Heard = record { from = from; datagram = heard.datagram } in
    ap (λ (f : List ℕ). let h : Heard = record { from = f; datagram = heard.datagram } in Received (Ok h)) at
    ∙ ap (λ (d : Option (List ℕ)). let h : Heard = record { from = from; datagram = d } in Received (Ok h)) there

-- what came so came over the port
abbrev pub CameThere : (ℕ → Value → Type 0) → List PortEvent → ℕ → ℕ → Numbered → Type 0
CameThere V es device instance held = (address : List ℕ) × V device (Text address) × (from : List ℕ) × (peer_in address ≡ Some from) × Came es from instance held

pub came_there : (K : ℕ → ℕ → ℕ → Type 0) (V : ℕ → Value → Type 0) (es : List Event) (device instance : ℕ) (held : Numbered) → CameIn K V es device instance held
    → CameThere V (noted es) device instance held
came_there K V es device instance held (address, known, from, peer, datagram, (within, heard, there, at, same), rest) = (
  address,
  known,
  from,
  peer,
  (
    datagram,
    subst (Contains (noted es)) (heard_is heard from datagram at same) (came_noted es within (Ok heard) (to_in es (Waited within (Ok heard)) there)),
    rest,
  ),
)

module _ {P C : Type 0} (sends : P → List ℕ → List ℕ → Sending → P → Type 0) (receives : P → Receiving → P → Type 0)
    (within : P → ℕ → Receiving → P → Type 0) (tells : C → ℕ → C → Type 0) where
  abbrev pub acts : Acts (Batched SiteState) P C
  acts = site_acts sends within tells

  abbrev At : Type 0
  At = Scene (Batched SiteState) P C

  still : (es : List PortEvent) (old mid new : P) → mid ≡ old → Happen sends receives within es mid new → Happen sends receives within es old new
  still es old mid new same happen = subst (λ (p : P). Happen sends receives within es p new) same happen

  -- over the port this happens
  pub goes : (es : List Event) (old new : At) → Chain (Happens acts) old es new → Happen sends receives within (noted es) old.port new.port
  goes [] old new same = ap (λ (s : At). s.port) same
  goes (Sent octets to answer ∷ es) old new (mid, (wanted, half, gives, does, told, (sent, same)), more) = (mid.port, sent, goes es mid new more)
  goes (Waited most heard ∷ es) old new (mid, (wanted, half, gives, does, told, (came, same)), more) = (mid.port, inr (most, came), goes es mid new more)
  goes (Read ms ∷ es) old new (mid, (wanted, half, gives, does, told, (read, same)), more) =
      still (noted es) old.port mid.port new.port (ap (λ (s : At). s.port) same) (goes es mid new more)
  goes (Kept puts ∷ es) old new (mid, (wanted, half, gives, does, told, (put, same)), more) =
      still (noted es) old.port mid.port new.port (ap (λ (s : At). s.port) same) (goes es mid new more)
  goes (Printed text ∷ es) old new (mid, (wanted, half, gives, does, told, (put, same)), more) =
      still (noted es) old.port mid.port new.port (ap (λ (s : At). s.port) same) (goes es mid new more)
  goes (Warned text ∷ es) old new (mid, (wanted, half, gives, does, told, (put, same)), more) =
      still (noted es) old.port mid.port new.port (ap (λ (s : At). s.port) same) (goes es mid new more)
