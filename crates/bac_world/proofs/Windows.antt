-- Where all moments lie in a window of half of the count, a walk over a network stays near its log.
use Rattle.std.proofs.Common.{◌≡◌, ℕ, Bool, true, false, ◌+◌, ◌<◌, ◌≤◌, if◌then◌else◌, List, [], ◌∷◌, ◌++◌, length, slice_get, Option, Some, None, refl, sym, ap, subst, ◌∙◌, arith, append_assoc, append-nil}
use Rattle.bac_objects.specs.State.{State}
use Rattle.bac_device.specs.Answer.{answer}
use Rattle.bac_device.specs.declared.reply.Reply.{Reply}
use Rattle.bac_link.specs.declared.item.Item.{Item}
use Rattle.bac_link.specs.declared.item.Item.TheVariants.{Gap, Logged}
use Rattle.bac_link.specs.Delivery.{History, Moment, Brings, Leads, later}
use Rattle.bac_link.proofs.Delivers.{held_end, first_held}
use Rattle.bac_walk.specs.Collects.{batches, start_of}
use Rattle.bac_link.specs.Moments.{IsInWindow, AreInWindow}
use Rattle.bac_walk.specs.Near.{IsNear}
use Rattle.bac_memory_link.specs.Ahead.{log_with, moment_of, placed}
use Rattle.bac_world.specs.declared.event.WorldEvent.{WorldEvent}
use Rattle.bac_world.specs.declared.event.WorldEvent.TheVariants as event
use Rattle.bac_world.specs.declared.packet.Packet.{Packet}
use Rattle.bac_world.specs.declared.packet.Side.{Side}
use Rattle.bac_world.specs.declared.packet.Side.TheVariants.{Device, Client}
use Rattle.bac_world.specs.Network.{Network, is_young}
use Rattle.bac_world.specs.Runs.{IsNearWhere, Run, StaysNear, WindowsStayNear, answering, arriving, delivering, devices_after, follow, follow_all, moments_in}

-- ---- what an answer brings

-- a batch brings a walk into what is held, or right after it
brings_end : (H : History) (m : Moment) (s u : ℕ) (x : Item) (items : List Item) → Brings H m s (x ∷ items) u → (m.oldest ≤ m.newest) × (m.oldest ≤ u) × (u ≤ m.newest + 1)
brings_end H m s u (Gap f b) items brings =
    let first = first_held H m m.oldest u items brings.3 brings.4 in
    let end = held_end H m m.oldest u items brings.4 (omega (arith, first.1)) in
    (first.1, end.0, end.1)
brings_end H m s u (Logged k e) items brings =
    let rest = held_end H m s u (Logged k e ∷ items) brings (omega (arith, brings.1.1)) in
    (omega (arith, brings.1.0, brings.1.1), omega (arith, brings.1.0, rest.0), rest.1)

-- ---- answers lead a walk from one place of the window to another

later_within : (low : ℕ) (m : Moment) (M : List Moment) → AreInWindow low (m ∷ M) → AreInWindow low (later (m ∷ M))
later_within low m [] are = are
later_within low m (n ∷ M) are = are.1

later_length : (m : Moment) (M : List Moment) (count : ℕ) → count ≤ length M → count ≤ length (later (m ∷ M))
later_length m [] count le = omega (arith, le)
later_length m (n ∷ M) count le = le

leads_within : (H : History) (low : ℕ) (M : List Moment) (s t : ℕ) (answers : List (List Item)) → AreInWindow low M → length answers ≤ length M →
    low ≤ s → s < low + 2147483648 → Leads H M s answers t → (low ≤ t) × (t < low + 2147483648)
leads_within H low M s t [] w short above below goes = (omega (arith, goes, above), omega (arith, goes, below))
leads_within H low [] s t (x ∷ answers) w short above below goes = absurd (omega arith)
leads_within H low (m ∷ M) s t ([] ∷ answers) w short above below goes =
    leads_within H low (later (m ∷ M)) goes.0 t answers (later_within low m M w) (later_length m M (length answers) (omega (arith, short)))
    (omega (arith, goes.1, above)) (omega (arith, goes.1, below)) goes.2
leads_within H low (m ∷ M) s t ((x ∷ xs) ∷ answers) w short above below goes =
    let one = brings_end H m s goes.0 x xs goes.1 in
    leads_within H low (later (m ∷ M)) goes.0 t answers (later_within low m M w) (later_length m M (length answers) (omega (arith, short)))
    (omega (arith, one.1, w.0.oldest)) (omega (arith, one.2, w.0.newest)) goes.2

-- a walk from the oldest entry begins at its first batch
led_within : (H : History) (low : ℕ) (M : List Moment) (fresh : Bool) (s t : ℕ) (answers : List (List Item)) → AreInWindow low M → length answers ≤ length M →
    (fresh ≡ false → (low ≤ s) × (s < low + 2147483648)) → (batches answers ≡ 0 → fresh ≡ false) →
    Leads H M (start_of fresh s M answers) answers t → (low ≤ t) × (t < low + 2147483648)
led_within H low M false s t answers w short at old goes = leads_within H low M s t answers w short (at refl).0 (at refl).1 goes
led_within H low M true s t [] w short at old goes = absurd (let none : true ≡ false = old refl in cc)
led_within H low [] true s t (x ∷ answers) w short at old goes = absurd (omega arith)
led_within H low (m ∷ M) true s t ([] ∷ answers) w short at old goes =
    let N : List Moment = later (m ∷ M) in
    let P : ℕ → Type 0 = λ b. Leads H N b answers t in
    led_within H low N true s t answers (later_within low m M w) (later_length m M (length answers) (omega (arith, short))) at old (subst P goes.1 goes.2)
led_within H low (m ∷ M) true s t ((x ∷ xs) ∷ answers) w short at old goes =
    let one = brings_end H m m.oldest goes.0 x xs goes.1 in
    leads_within H low (m ∷ M) m.oldest t ((x ∷ xs) ∷ answers) w short w.0.oldest (omega (arith, one.0, w.0.newest)) goes

-- ---- the devices that answered are more and more

abbrev More : List State → List State → Type 0
More before after = (more : List State) × (after ≡ before ++ more)

none_more : (devices : List State) → More devices devices
none_more devices = ([], sym (append-nil devices))

more_answering : (devices : List State) (d : State) (r : Option Reply) → More devices (answering devices d r)
more_answering devices d None = none_more devices
more_answering devices d (Some r) = (d ∷ [], refl)

more_arriving : (devices : List State) (w : Network) (to : Side) (octets : List ℕ) → More devices (arriving devices w to octets)
more_arriving devices w Device octets = more_answering devices w.device (answer w.device octets).0
more_arriving devices w Client octets = none_more devices

more_young : (devices : List State) (w : Network) (p : Packet) (b : Bool) → More devices (if b then arriving devices w p.to p.datagram else devices)
more_young devices w p true = more_arriving devices w p.to p.datagram
more_young devices w p false = none_more devices

more_delivering : (devices : List State) (w : Network) (p : Option Packet) → More devices (delivering devices w p)
more_delivering devices w None = none_more devices
more_delivering devices w (Some p) = more_young devices w p (is_young w p.transaction)

more_after : (run : Run) (e : WorldEvent) → More run.devices (devices_after run e)
more_after run event.Ask = none_more run.devices
more_after run (event.Deliver k) = more_delivering run.devices run.network (slice_get run.network.packets k)
more_after run event.Timeout = none_more run.devices
more_after run (event.Sample instance) = none_more run.devices
more_after run (event.Advance moment) = none_more run.devices
more_after run (event.Handle octets) = none_more run.devices

more_all : (run : Run) (es : List WorldEvent) → More run.devices (follow_all run es).devices
more_all run [] = none_more run.devices
more_all run (e ∷ es) =
    let one = more_after run e in
    let rest = more_all (follow run e) es in
    (one.0 ++ rest.0, rest.1 ∙ ap (λ (l : List State). l ++ rest.0) one.1 ∙ append_assoc run.devices one.0 rest.0)

-- ---- so their moments are in the window too

first_within : (rounds n low : ℕ) (before more : List State) → AreInWindow low (moments_in rounds n (before ++ more)) → AreInWindow low (moments_in rounds n before)
first_within rounds n low [] more are = tt
first_within rounds n low (d ∷ before) more are = (are.0, first_within rounds n low before more are.1)

last_within : (rounds n low : ℕ) (before : List State) (d : State) → AreInWindow low (moments_in rounds n (before ++ d ∷ [])) →
    IsInWindow low (placed rounds (moment_of (log_with d n)))
last_within rounds n low [] d are = are.0
last_within rounds n low (e ∷ before) d are = last_within rounds n low before d are.1

near_in : (rounds n low t : ℕ) (d : State) → IsInWindow low (placed rounds (moment_of (log_with d n))) → (low ≤ t) × (t < low + 2147483648) →
    IsNear t (placed rounds (moment_of (log_with d n)))
near_in rounds n low t d w at = record { above = omega (arith, w.newest, at.0); below = omega (arith, w.oldest, at.1) }

near_where : (rounds n low : ℕ) (H : History) (fresh : Bool) (s : ℕ) (run : Run) (devices : List State) → AreInWindow low (moments_in rounds n devices) →
    (fresh ≡ false → (low ≤ s) × (s < low + 2147483648)) → IsNearWhere rounds n H fresh s run devices
near_where rounds n low H fresh s run devices are at answers t d stands old more =
    let P : List State → Type 0 = λ l. AreInWindow low (moments_in rounds n l) in
    let all = subst P more are in
    near_in rounds n low t d (last_within rounds n low run.devices d all)
    (led_within H low (moments_in rounds n run.devices) fresh s t answers (first_within rounds n low run.devices (d ∷ []) all)
    (omega (arith, stands.count)) at old stands.leads)

stays_near : (rounds n low : ℕ) (H : History) (fresh : Bool) (s : ℕ) (run : Run) (es : List WorldEvent) → AreInWindow low (moments_in rounds n (follow_all run es).devices) →
    (fresh ≡ false → (low ≤ s) × (s < low + 2147483648)) → StaysNear rounds n H fresh s run es
stays_near rounds n low H fresh s run [] are at = tt
stays_near rounds n low H fresh s run (e ∷ es) are at =
    let rest = more_all (follow run e) es in
    let P : List State → Type 0 = λ l. AreInWindow low (moments_in rounds n l) in (
      near_where rounds n low H fresh s run (devices_after run e) (first_within rounds n low (devices_after run e) rest.0 (subst P rest.1 are)) at,
      stays_near rounds n low H fresh s (follow run e) es are at,
    )

pub windows_near : WindowsStayNear
windows_near = λ rounds low s walk w es are at. stays_near rounds walk.log.instance low _ walk.fresh s _ es are at
