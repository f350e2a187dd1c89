-- What every event keeps of a run.
use Rattle.std.proofs.Common.{◌≡◌, ℕ, Bool, true, false, ◌%◌, ◌+◌, ◌<◌, ◌≤◌, if◌then◌else◌, nat_lt, List, [], ◌∷◌, ◌++◌, length, slice_get, Option, Some, None, refl, sym, ap, subst, ◌∙◌, arith}
use Rattle.std.specs.Prelude.{is_some}
use Rattle.std.proofs.lemmas.Option.{slice_get_within}
use Rattle.bac_wire.specs.Canon.{IsValid}
use Rattle.bac_wire.specs.Primitive.{Id, Object}
use Rattle.bac_log.specs.TrendLog.{oldest}
use Rattle.bac_log.specs.declared.entry.Entry.{Entry}
use Rattle.bac_objects.specs.State.{State}
use Rattle.bac_device.specs.Answer.{answer}
use Rattle.bac_device.specs.declared.reply.Reply.{Reply}
use Rattle.bac_link.specs.Datagrams.{answer_in, apdu_in}
use Rattle.bac_link.specs.declared.item.Item.{Item}
use Rattle.bac_link.specs.declared.transactions.Pending.{Pending}
use Rattle.bac_link.specs.Delivery.{History, Moment}
use Rattle.bac_link.specs.Laws.{moment_at}
use Rattle.bac_link.specs.Moments.{AreServed}
use Rattle.bac_link.specs.Transactions.{is_awaited}
use Rattle.bac_link.specs.Heard.{AckParameters}
use Rattle.bac_link.specs.Standard.{IsCount}
use Rattle.bac_link.specs.Ordinals.{number_after}
use Rattle.bac_walk.specs.Place.{WalkPlace}
use Rattle.bac_walk.specs.Near.{IsNear}
use Rattle.bac_walk.specs.Replies.{Wanted}
use Rattle.bac_walk.specs.Takes.{Says}
use Rattle.bac_walk.specs.Collects.{batches}
use Rattle.bac_walk.specs.Walks.{NextAct, Bring, Refuse, Ask, End, brought, verdict, wanted_at}
use Rattle.bac_walk.specs.Walks as walks
use Rattle.bac_walk.proofs.Asking.{asks_at, near_to, small_of}
use Rattle.bac_apdu.specs.declared.service.extent.Extent.{Extent}
use Rattle.bac_memory_link.specs.Ahead.{log_with, moment_of, placed, turn}
use Rattle.bac_memory_link.specs.Events.{datagram_in}
use Rattle.bac_world.specs.declared.event.WorldEvent.{WorldEvent}
use Rattle.bac_world.specs.declared.event.WorldEvent.TheVariants as event
use Rattle.bac_world.specs.declared.packet.Packet.{Packet}
use Rattle.bac_world.specs.declared.packet.Side.{Side}
use Rattle.bac_world.specs.declared.packet.Side.TheVariants.{Device, Client}
use Rattle.bac_world.specs.Network.{arrives, asks, closes, delivers, gives_up, heard_in, hears, is_young, repeats, replies, restarted, takes, times_out}
use Rattle.bac_world.specs.Runs.{AreSane, IsNearWhere, IsSane, Run, Stands, StaysNear, answering, arriving, asking, delivering, devices_after, entries_of, follow, follow_all, moments_in}
use Rattle.bac_world.proofs.Answered.{answered, reply_text, says_now}
use Rattle.bac_world.proofs.Done.{DonePart, done_asked, done_batch, done_closed, done_grown, done_idle, done_up, stands_of}
use Rattle.bac_world.proofs.Lasts.{DevicesPart, InHistory, LogPart, devices_later, devices_more, get_some, in_history, keeps, length-moments, log_kept, log_rises, moment_in, moments_more}
use Rattle.bac_world.proofs.Packets.{PacketPart, is_right, packets_again, packets_answered, packets_begun, packets_closed}
use Rattle.bac_world.proofs.Verdicts.{VerdictOf, verdict_of}

-- what was delivered, by the answers up to the last that brought a batch
pub record Delivered (rounds : ℕ) (H : History) (fresh : Bool) (s : ℕ) (log : Id) (run : Run) : Type 0 where
  pub done : List (List Item)
  pub t : ℕ
  pub part : DonePart H (moments_in rounds log.instance run.devices) fresh s run.began (is_some run.network.transactions.pending) run.network.walk
      run.network.items run.network.caught done t

-- what holds of a run of a walk of this log; under a premise that it stays near, what was delivered
pub record Inv (rounds : ℕ) (near : Type 0) (H : History) (fresh : Bool) (s : ℕ) (log : Id) (run : Run) : Type 0 where
  pub same : run.network.walk.log ≡ log
  pub kind : log.kind ≡ 20
  pub valid : IsValid (Object log)
  pub devices : DevicesPart rounds H log.instance run.devices run.network.device
  pub packets : PacketPart log run.devices run.began run.network.packets run.network.begun run.network.transactions run.network.walk
  pub delivers : near → Delivered rounds H fresh s log run

-- where the walk stands
pub stands : (rounds : ℕ) (H : History) (fresh : Bool) (s : ℕ) (log : Id) (run : Run) → (g : Delivered rounds H fresh s log run) →
    (answers : List (List Item)) × Stands H (moments_in rounds log.instance run.devices) fresh s run.network answers g.t
    × (run.network.walk.fresh ≡ false → batches answers ≡ 0 → fresh ≡ false)
stands rounds H fresh s log run g =
    let w = run.network in
    let all = stands_of H (moments_in rounds log.instance run.devices) fresh s run.began (is_some w.transactions.pending) w.walk w.items w.caught g.done g.t g.part in
    (all.0, record { count = all.1; all = all.2; leads = all.3; next = g.part.next; caught = all.4 }, all.5)

module _ (rounds : ℕ) (near : Type 0) (H : History) (fresh : Bool) (s : ℕ) (log : Id) where
  -- ---- the client asks

  keep_ask : (run : Run) (p : Option Pending) → run.network.transactions.pending ≡ p → IsSane run.network → Inv rounds near H fresh s log run →
      Inv rounds near H fresh s log (record { network = asks run.network p; devices = run.devices; began = asking run p })
  keep_ask run (Some asked) is sane i = i
  keep_ask run None is sane i =
      let w = run.network in
      let M = moments_in rounds log.instance run.devices in
      record {
        same = i.same;
        kind = i.kind;
        valid = i.valid;
        devices = i.devices;
        packets = packets_begun log run.devices run.began w.packets w.begun w.transactions w.walk i.same i.valid sane.asks i.packets;
        delivers = λ p.
            let g = i.delivers p in
            let P : ℕ → Type 0 = λ n. DonePart H M fresh s n true w.walk w.items w.caught g.done g.t in
            record {
              done = g.done;
              t = g.t;
              part = subst P (length-moments rounds log.instance run.devices)
                  (done_asked H M fresh s run.began (is_some w.transactions.pending) w.walk w.items w.caught g.done g.t g.part);
            };
      }

  -- ---- no answer comes in time

  keep_timeout : (run : Run) (asked : Pending) (again : Bool) → run.network.transactions.pending ≡ Some asked → Inv rounds near H fresh s log run →
      Inv rounds near H fresh s log (record { network = if again then repeats run.network asked else gives_up run.network; devices = run.devices; began = run.began })
  keep_timeout run asked true is i =
      let w = run.network in
      let M = moments_in rounds log.instance run.devices in
      record {
        same = i.same;
        kind = i.kind;
        valid = i.valid;
        devices = i.devices;
        packets = packets_again log run.devices run.began w.packets w.begun w.transactions w.walk asked (asked.repeats + 1) is i.packets;
        delivers = λ p.
            let g = i.delivers p in
            let P : Option Pending → Type 0 = λ o. DonePart H M fresh s run.began (is_some o) w.walk w.items w.caught g.done g.t in
            record { done = g.done; t = g.t; part = subst P is g.part };
      }
  keep_timeout run asked false is i =
      let w = run.network in
      let M = moments_in rounds log.instance run.devices in
      record {
        same = i.same;
        kind = i.kind;
        valid = i.valid;
        devices = i.devices;
        packets = packets_closed log run.devices run.began w.packets w.begun w.transactions w.walk (restarted w.walk) i.packets;
        delivers = λ p.
            let g = i.delivers p in
            record { done = g.done; t = g.t; part = done_closed H M fresh s run.began (is_some w.transactions.pending) w.walk w.items w.caught g.done g.t g.part };
      }

  keep_timed : (run : Run) (p : Option Pending) → run.network.transactions.pending ≡ p → Inv rounds near H fresh s log run →
      Inv rounds near H fresh s log (record { network = times_out run.network p; devices = run.devices; began = run.began })
  keep_timed run None is i = i
  keep_timed run (Some asked) is i = keep_timeout run asked (nat_lt asked.repeats run.network.transactions.retries) is i

  -- ---- a packet comes to the device

  keep_replied : (run : Run) (k j : ℕ) (octets : List ℕ) → InHistory rounds H log.instance run.network.device →
      slice_get run.network.packets k ≡ Some (record { transaction = j; to = Device; datagram = octets }) →
      (near → IsNearWhere rounds log.instance H fresh s run (answering run.devices run.network.device (answer run.network.device octets).0)) → Inv rounds near H fresh s log run →
      Inv rounds near H fresh s log (record {
        network = replies run.network j (answer run.network.device octets);
        devices = answering run.devices run.network.device (answer run.network.device octets).0;
        began = run.began;
      })
  keep_replied run k j octets here at close i =
      let w = run.network in
      let n = log.instance in
      let d = w.device in
      let M = moments_in rounds n run.devices in
      let known = i.packets.known k (record { transaction = j; to = Device; datagram = octets }) at in
      let said = answered d log known.0 (j % 256) octets here.sound i.kind here.there known.1 in
      let P : Option Reply × State → Type 0 = λ x. Inv rounds near H fresh s log
      (record { network = replies w j x; devices = answering run.devices d x.0; began = run.began }) in
      subst P (sym said) (record {
        same = i.same;
        kind = i.kind;
        valid = i.valid;
        devices = devices_more rounds H n run.devices d here i.devices;
        packets = packets_answered rounds H log run.devices run.began w.packets w.begun w.transactions w.walk d k j octets known.0 i.kind here at known.1 i.packets;
        delivers = λ p.
            let g = i.delivers p in
            let m : Moment = placed rounds (moment_of (log_with d n)) in
            let here_near : w.walk.fresh ≡ false → IsNear g.t m = λ f.
            let at = stands rounds H fresh s log run g in
            close p at.0 g.t d at.1 (at.2 f) (ap (λ (x : Option Reply × State). answering run.devices d x.0) said) in
            let Q : List Moment → Type 0 = λ N. DonePart H N fresh s run.began (is_some w.transactions.pending) w.walk w.items w.caught g.done g.t in
            record {
              done = g.done;
              t = g.t;
              part = subst Q (sym (moments_more rounds n run.devices d))
                  (done_grown H M m fresh s run.began (is_some w.transactions.pending) w.walk w.items w.caught g.done g.t here_near g.part);
            };
      })

  -- ---- a packet comes to the client

  in_order : (devices : List State) (d now : State) (p : ℕ) → DevicesPart rounds H log.instance devices now → slice_get devices p ≡ Some d → (i : ℕ) → i < p →
      (moment_at (moments_in rounds log.instance devices) i).oldest ≤ (moment_at (moments_in rounds log.instance devices) p).oldest
  in_order devices d now p a at i lt =
      let n = log.instance in
      let before = get_some devices i (omega (arith, slice_get_within devices p d at)) in
      let P : Moment → Type 0 = λ m. m.oldest ≤ (moment_at (moments_in rounds n devices) p).oldest in
      let Q : Moment → Type 0 = λ m. oldest (log_with before.0 n) + turn rounds ≤ m.oldest in
      subst P (sym (moment_in rounds n devices i before.0 before.1))
      (subst Q (sym (moment_in rounds n devices p d at)) (omega (arith, a.rises i p before.0 d (omega arith) before.1 at)))

  keep_taken : (run : Run) (asked : Pending) (v : NextAct) (es : List Entry) (p : ℕ) → IsCount run.network.walk.count → run.network.transactions.pending ≡ Some asked → (i : Inv rounds near H fresh s log run) →
      run.began ≤ p → p < length (moments_in rounds log.instance run.devices) →
      ((q : ℕ) → q < p → (moment_at (moments_in rounds log.instance run.devices) q).oldest ≤ (moment_at (moments_in rounds log.instance run.devices) p).oldest) →
      ((g : near) → VerdictOf H (moment_at (moments_in rounds log.instance run.devices) p) (i.delivers g).t run.network.walk v es) →
      Inv rounds near H fresh s log (record { network = takes (closes run.network) v es; devices = run.devices; began = run.began })
  keep_taken run asked Refuse es p many is i from below before said =
      let w = run.network in
      record {
        same = i.same;
        kind = i.kind;
        valid = i.valid;
        devices = i.devices;
        packets = packets_closed log run.devices run.began w.packets w.begun w.transactions w.walk (restarted w.walk) i.packets;
        delivers = λ c. absurd (said c);
      }
  keep_taken run asked Ask es p many is i from below before said =
      let w = run.network in
      let M = moments_in rounds log.instance run.devices in
      record {
        same = i.same;
        kind = i.kind;
        valid = i.valid;
        devices = i.devices;
        packets = packets_closed log run.devices run.began w.packets w.begun w.transactions w.walk (record w.walk { asks_oldest = true }) i.packets;
        delivers = λ c.
            let g = i.delivers c in
            record {
              done = g.done;
              t = g.t;
              part = done_idle H M fresh s run.began (is_some w.transactions.pending) w.walk w.items w.caught g.done g.t p g.part (ap is_some is) from below (said c).1;
            };
      }
  keep_taken run asked End es p many is i from below before said =
      let w = run.network in
      let M = moments_in rounds log.instance run.devices in
      record {
        same = i.same;
        kind = i.kind;
        valid = i.valid;
        devices = i.devices;
        packets = packets_closed log run.devices run.began w.packets w.begun w.transactions w.walk (restarted w.walk) i.packets;
        delivers = λ c.
            let g = i.delivers c in
            record {
              done = g.done;
              t = g.t;
              part = done_up H M fresh s run.began (is_some w.transactions.pending) w.walk w.items w.caught g.done g.t p g.part many.some (ap is_some is) from below before
                  (said c).0 (said c).1;
            };
      }
  keep_taken run asked (Bring f) es p many is i from below before said =
      let w = run.network in
      let M = moments_in rounds log.instance run.devices in
      let after : WalkPlace = record w.walk { next = number_after f (length es); fresh = false; asks_oldest = false } in
      record {
        same = i.same;
        kind = i.kind;
        valid = i.valid;
        devices = i.devices;
        packets = packets_closed log run.devices run.began w.packets w.begun w.transactions w.walk after i.packets;
        delivers = λ c.
            let g = i.delivers c in
            let v = said c in
            let more = done_batch H M fresh s run.began (is_some w.transactions.pending) w.walk after w.items w.caught g.done g.t v.0 p (brought w.walk f es) g.part
            (ap is_some is) from below w.walk.fresh refl refl refl v.3 v.1 v.2 in
            record { done = more.0; t = v.0; part = more.1 };
      }

  -- an answer of a moment after the request began
  keep_heard : (run : Run) (asked : Pending) (o : Option AckParameters) (p : ℕ) (d : State) → IsCount run.network.walk.count → run.network.transactions.pending ≡ Some asked → (i : Inv rounds near H fresh s log run) →
      run.began ≤ p → slice_get run.devices p ≡ Some d →
      ((g : near) → run.network.walk.fresh ≡ false → IsNear (i.delivers g).t (placed rounds (moment_of (log_with d log.instance)))) →
      ((g : near) → AreServed d.reply_size (placed rounds (moment_of (log_with d log.instance)) ∷ []) H
      × Says d.reply_size (placed rounds (moment_of (log_with d log.instance))) H (wanted_at run.network.walk (i.delivers g).t) o) →
      Inv rounds near H fresh s log (record { network = hears (closes run.network) o; devices = run.devices; began = run.began })
  keep_heard run asked None p d many is i from at close said =
      let n = log.instance in
      keep_taken run asked Refuse [] p many is i from (omega (arith, slice_get_within run.devices p d at, length-moments rounds n run.devices)) (in_order run.devices d run.network.device p i.devices at)
      (λ g. absurd (said g).1)
  keep_heard run asked (Some h) p d many is i from at close said =
      let w = run.network in
      let n = log.instance in
      let M = moments_in rounds n run.devices in
      let m : Moment = placed rounds (moment_of (log_with d n)) in
      let v = verdict w.walk h.first h.count h.entries in
      keep_taken run asked v h.entries p many is i from (omega (arith, slice_get_within run.devices p d at, length-moments rounds n run.devices)) (in_order run.devices d w.device p i.devices at)
      (λ g.
      let k = i.delivers g in
      let P : Moment → Type 0 = λ x. VerdictOf H x k.t w.walk v h.entries in
      subst P (sym (moment_in rounds n run.devices p d at)) (verdict_of H (m ∷ []) d.reply_size k.t w.walk h v refl k.part.next many (close g) (said g).0 (said g).1))

  same_text : (a b : List ℕ) → (let some : Option (List ℕ) = Some a in some) ≡ Some b → a ≡ b
  same_text a b e = cc

  keep_received : (run : Run) (asked : Pending) (k j : ℕ) (octets : List ℕ) → IsCount run.network.walk.count → run.network.transactions.pending ≡ Some asked → (i : Inv rounds near H fresh s log run) →
      slice_get run.network.packets k ≡ Some (record { transaction = j; to = Client; datagram = octets }) → nat_lt run.network.begun (j + 256) ≡ true →
      is_awaited (Some asked) octets ≡ true →
      Inv rounds near H fresh s log (record { network = hears (closes run.network) (heard_in run.network.walk.log (answer_in (apdu_in octets))); devices = run.devices; began = run.began })
  keep_received run asked k j octets many is i at young awaited =
      let w = run.network in
      let found = is_right log run.devices run.began w.packets w.begun w.transactions w.walk asked k j octets i.packets is at young awaited in
      let p = found.1.0 in
      let d = found.1.1 in
      let here = i.devices.inside p d found.1.3 in
      let n = log.instance in
      let m : Moment = placed rounds (moment_of (log_with d n)) in
      let extent : Extent = walks.question_of w.walk in
      let text : List ℕ = reply_text d log extent (w.begun % 256) in
      let said = answered d log extent (w.begun % 256) asked.request here.sound i.kind here.there found.0.asks in
      let same : text ≡ octets = same_text text octets (sym (ap (λ x. datagram_in x.0) said) ∙ found.1.4) in
      let close : (g : near) → w.walk.fresh ≡ false → IsNear (i.delivers g).t m = λ g f.
      let k = i.delivers g in
      let N : Moment → Type 0 = λ x. IsNear k.t x in
      subst N (moment_in rounds n run.devices p d found.1.3)
      (k.part.near (ap is_some is) f p found.1.2 (omega (arith, slice_get_within run.devices p d found.1.3, length-moments rounds n run.devices))) in
      keep_heard run asked (heard_in w.walk.log (answer_in (apdu_in octets))) p d many is i found.1.2 found.1.3 close (λ g.
      let k = i.delivers g in
      let wanted : Wanted = wanted_at w.walk k.t in
      let says = says_now rounds H d log wanted (w.begun % 256) i.kind i.valid here (small_of w.walk k.t found.0.asks.1) (near_to w.walk k.t m (close g)) in
      let R : Extent → Type 0 = λ x. Says d.reply_size m H wanted (heard_in log (answer_in (apdu_in (reply_text d log x (w.begun % 256))))) in
      let P : List ℕ → Type 0 = λ o. Says d.reply_size m H wanted (heard_in log (answer_in (apdu_in o))) in
      let Q : Id → Type 0 = λ l. Says d.reply_size m H wanted (heard_in l (answer_in (apdu_in octets))) in
      (says.0, subst Q (sym i.same) (subst P same (subst R (sym (asks_at w.walk k.t k.part.next)) says.1))))

  keep_awaited : (run : Run) (o : Option Pending) (k j : ℕ) (octets : List ℕ) (b : Bool) → IsCount run.network.walk.count → run.network.transactions.pending ≡ o → is_awaited o octets ≡ b → Inv rounds near H fresh s log run →
      slice_get run.network.packets k ≡ Some (record { transaction = j; to = Client; datagram = octets }) → nat_lt run.network.begun (j + 256) ≡ true →
      Inv rounds near H fresh s log (record {
        network = if b then hears (closes run.network) (heard_in run.network.walk.log (answer_in (apdu_in octets))) else run.network;
        devices = run.devices;
        began = run.began;
      })
  keep_awaited run o k j octets false many is awaited i at young = i
  keep_awaited run None k j octets true many is awaited i at young = absurd (cc)
  keep_awaited run (Some asked) k j octets true many is awaited i at young = keep_received run asked k j octets many is i at young awaited

  -- ---- a packet comes

  keep_arrives : (run : Run) (k j : ℕ) (to : Side) (octets : List ℕ) → IsCount run.network.walk.count → InHistory rounds H log.instance run.network.device →
      slice_get run.network.packets k ≡ Some (record { transaction = j; to = to; datagram = octets }) → nat_lt run.network.begun (j + 256) ≡ true →
      (near → IsNearWhere rounds log.instance H fresh s run (arriving run.devices run.network to octets)) → Inv rounds near H fresh s log run →
      Inv rounds near H fresh s log (record { network = arrives run.network j to octets; devices = arriving run.devices run.network to octets; began = run.began })
  keep_arrives run k j Device octets many here at young close i = keep_replied run k j octets here at close i
  keep_arrives run k j Client octets many here at young close i =
      keep_awaited run run.network.transactions.pending k j octets (is_awaited run.network.transactions.pending octets) many refl refl i at young

  keep_young : (run : Run) (k : ℕ) (p : Packet) (b : Bool) → IsCount run.network.walk.count → InHistory rounds H log.instance run.network.device → slice_get run.network.packets k ≡ Some p →
      is_young run.network p.transaction ≡ b →
      (near → IsNearWhere rounds log.instance H fresh s run (if b then arriving run.devices run.network p.to p.datagram else run.devices)) → Inv rounds near H fresh s log run →
      Inv rounds near H fresh s log (record {
        network = if b then arrives run.network p.transaction p.to p.datagram else run.network;
        devices = if b then arriving run.devices run.network p.to p.datagram else run.devices;
        began = run.began;
      })
  keep_young run k p false many here at young close i = i
  keep_young run k p true many here at young close i = keep_arrives run k p.transaction p.to p.datagram many here at young close i

  keep_deliver : (run : Run) (k : ℕ) (p : Option Packet) → IsCount run.network.walk.count → InHistory rounds H log.instance run.network.device → slice_get run.network.packets k ≡ p →
      (near → IsNearWhere rounds log.instance H fresh s run (delivering run.devices run.network p)) → Inv rounds near H fresh s log run →
      Inv rounds near H fresh s log (record { network = delivers run.network p; devices = delivering run.devices run.network p; began = run.began })
  keep_deliver run k None many here at close i = i
  keep_deliver run k (Some p) many here at close i = keep_young run k p (is_young run.network p.transaction) many here at refl close i

  -- ---- the device goes on

  keep_device : (run : Run) (new : State) → oldest (log_with run.network.device log.instance) ≤ oldest (log_with new log.instance) → Inv rounds near H fresh s log run →
      Inv rounds near H fresh s log (record { network = record run.network { device = new }; devices = run.devices; began = run.began })
  keep_device run new le i = record {
    same = i.same;
    kind = i.kind;
    valid = i.valid;
    devices = devices_later rounds H log.instance run.devices run.network.device new le i.devices;
    packets = i.packets;
    delivers = λ p. let g = i.delivers p in record { done = g.done; t = g.t; part = g.part };
  }

  -- ---- events

  pub keep : (run : Run) (e : WorldEvent) (rest : List Entry) → IsSane run.network → LogPart rounds H log.instance run.network.device rest →
      (near → IsNearWhere rounds log.instance H fresh s run (devices_after run e)) → Inv rounds near H fresh s log run →
      Inv rounds near H fresh s log (follow run e)
  keep run event.Ask rest sane l close i = keep_ask run run.network.transactions.pending refl sane i
  keep run (event.Deliver k) rest sane l close i =
      keep_deliver run k (slice_get run.network.packets k) sane.count (in_history rounds H log.instance run.network.device rest sane.device l) refl close i
  keep run event.Timeout rest sane l close i = keep_timed run run.network.transactions.pending refl i
  keep run (event.Sample m) rest sane l close i =
      keep_device run _ (log_rises log.instance run.network.device _ sane.device l.there (keeps run.network (event.Sample m))) i
  keep run (event.Advance m) rest sane l close i =
      keep_device run _ (log_rises log.instance run.network.device _ sane.device l.there (keeps run.network (event.Advance m))) i
  keep run (event.Handle o) rest sane l close i =
      keep_device run _ (log_rises log.instance run.network.device _ sane.device l.there (keeps run.network (event.Handle o))) i

  pub keep_some : (run : Run) (before after : List WorldEvent) → AreSane run.network (before ++ after) →
      LogPart rounds H log.instance run.network.device (entries_of log.instance run.network (before ++ after)) →
      (near → StaysNear rounds log.instance H fresh s run (before ++ after)) → Inv rounds near H fresh s log run → Inv rounds near H fresh s log (follow_all run before)
  keep_some run [] after sane l close i = i
  keep_some run (e ∷ before) after sane l close i =
      keep_some (follow run e) before after sane.1
      (log_kept rounds H log.instance run.network e (before ++ after) sane.0.device l) (λ p. (close p).1)
      (keep run e (entries_of log.instance run.network (e ∷ (before ++ after))) sane.0 l (λ p. (close p).0) i)

  pub keep_all : (run : Run) (es : List WorldEvent) → AreSane run.network es →
      LogPart rounds H log.instance run.network.device (entries_of log.instance run.network es) →
      (near → StaysNear rounds log.instance H fresh s run es) → Inv rounds near H fresh s log run → Inv rounds near H fresh s log (follow_all run es)
  keep_all run [] sane l close i = i
  keep_all run (e ∷ es) sane l close i =
      keep_all (follow run e) es sane.1 (log_kept rounds H log.instance run.network e es sane.0.device l) (λ p. (close p).1)
      (keep run e (entries_of log.instance run.network (e ∷ es)) sane.0 l (λ p. (close p).0) i)
