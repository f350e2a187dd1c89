-- What a world delivers, from its first event on.
use Rattle.std.proofs.Common.{◌≡◌, ℕ, Bool, true, false, ◌&&◌, List, [], ◌∷◌, ◌++◌, slice_get, Option, Some, refl, sym, ap, subst, ◌∙◌, arith}
use Rattle.std.proofs.lemmas.Bool.{and_parts}
use Rattle.bac_wire.specs.Primitive.{Id}
use Rattle.bac_log.specs.TrendLog.{sequence_number}
use Rattle.bac_objects.specs.State.{State}
use Rattle.bac_link.specs.declared.item.Item.{Item}
use Rattle.bac_link.specs.declared.transactions.Pending.{Pending}
use Rattle.bac_link.specs.Delivery.{History}
use Rattle.bac_walk.specs.Collects.{start_of}
use Rattle.bac_walk.specs.Place.{WalkPlace}
use Rattle.bac_memory_link.specs.Ahead.{IsThere}
use Rattle.bac_link.specs.Transactions.{is_awaited}
use Rattle.bac_world.specs.declared.event.WorldEvent.{WorldEvent}
use Rattle.bac_world.specs.declared.event.WorldEvent.TheVariants.{Deliver}
use Rattle.bac_world.specs.declared.packet.Packet.{Packet}
use Rattle.bac_world.specs.declared.packet.Side.{Side}
use Rattle.bac_world.specs.declared.packet.Side.TheVariants.{Device, Client}
use Rattle.bac_world.specs.Network.{Network, happens_all, is_answered, is_delivered, is_young, started}
use Rattle.bac_world.specs.Runs.{AreSane, DeliversFrom, IsAnswered, IsNearAll, IsRight, IsSane, Run, Stands, Withstands, WithstandsFrom, entries_of, follow, follow_all, history_of, moments_in, moments_of, run_of}
use Rattle.bac_world.proofs.Keeps.{Inv, keep_all, keep_some, stands}
use Rattle.bac_world.proofs.Lasts.{LogPart}
use Rattle.bac_world.proofs.Packets.{is_right}
use Rattle.bac_world.proofs.Sources.{was_answered}
use Rattle.bac_world.specs.Sources.{WasAnswered}

sane_first : (w : Network) (es : List WorldEvent) → AreSane w es → IsSane w
sane_first w [] sane = sane
sane_first w (e ∷ es) sane = sane.0

-- the network of a run is what the events make of it
follow-network : (run : Run) (es : List WorldEvent) → (follow_all run es).network ≡ happens_all run.network es
follow-network run [] = refl
follow-network run (e ∷ es) = follow-network (follow run e) es

start_none : (fresh : Bool) (s : ℕ) → start_of fresh s [] [] ≡ s
start_none true s = refl
start_none false s = refl

-- ---- the first event

log_start : (rounds : ℕ) (d : State) (walk : WalkPlace) (retries : ℕ) (es : List WorldEvent) → IsThere d walk.log.instance →
    LogPart rounds (history_of rounds walk.log.instance (started d walk retries) es) walk.log.instance d (entries_of walk.log.instance (started d walk retries) es)
log_start rounds d walk retries es there = record { there = there; past = []; gone = omega arith; entries = refl }

inv_start : (rounds : ℕ) (near : Type 0) (H : History) (d : State) (walk : WalkPlace) (retries s : ℕ) → IsSane (started d walk retries) → walk.asks_oldest ≡ false → walk.next ≡ sequence_number s →
    Inv rounds near H walk.fresh s walk.log (record { network = started d walk retries; devices = []; began = 0 })
inv_start rounds near H d walk retries s sane new next = record {
  same = refl;
  kind = sane.kind;
  valid = sane.log;
  devices = record { inside = λ p e is. absurd (cc); rises = λ i j a b le is js. absurd (cc); now = λ p e is. absurd (cc) };
  packets = record { route = refl; invoke = refl; begins = omega arith; young = λ k p is. absurd (cc); known = λ k p is. absurd (cc); opened = tt };
  delivers = λ p. record {
    done = [];
    t = s;
    part = record {
      short = omega arith;
      behind = λ w. absurd (cc);
      led = sym (start_none walk.fresh s);
      all = refl;
      next = next;
      early = λ f. (f, refl);
      late = λ f g. absurd (cc);
      asked = λ f a. absurd (cc);
      near = λ w f q from below. absurd (cc);
      up = tt;
    };
  };
}

-- ---- the replies that were taken

right_at : (rounds : ℕ) (near : Type 0) (H : History) (fresh : Bool) (s : ℕ) (log : Id) (run : Run) (asked : Pending) (k j : ℕ) (to : Side) (octets : List ℕ) → Inv rounds near H fresh s log run →
    slice_get run.network.packets k ≡ Some (record { transaction = j; to = to; datagram = octets }) → to ≡ Client → run.network.transactions.pending ≡ Some asked →
    (is_young run.network j && is_answered run.network to octets) ≡ true → IsAnswered run asked.request octets
right_at rounds near H fresh s log run asked k j Device octets i at side is taken = absurd (cc)
right_at rounds near H fresh s log run asked k j Client octets i at side is taken =
    let w = run.network in
    let both = and_parts (is_young w j) (is_answered w Client octets) taken in
    let awaited : is_awaited (Some asked) octets ≡ true = ap (λ o. is_awaited o octets) (sym is) ∙ both.1 in
    (is_right log run.devices run.began w.packets w.begun w.transactions w.walk asked k j octets i.packets is at both.0 awaited).1

are_right : (rounds : ℕ) (near : Type 0) (H : History) (fresh : Bool) (s : ℕ) (log : Id) (run : Run) (k : ℕ) → Inv rounds near H fresh s log run → IsRight run k
are_right rounds near H fresh s log run k i p asked at side is taken =
    let P : Option Packet → Type 0 = λ o. is_delivered run.network o ≡ true in
    right_at rounds near H fresh s log run asked k p.transaction p.to p.datagram i at side is (subst P at taken)

-- ---- the theorem

abbrev Outcome : Network → List WorldEvent → Network → WalkPlace → ℕ → ℕ → Type 0
Outcome old es new walk s rounds =
    (IsNearAll rounds walk s old es → (answers : List (List Item)) × (t : ℕ)
    × Stands (history_of rounds walk.log.instance old es) (moments_of rounds walk.log.instance old es) walk.fresh s new answers t)
    × ((before : List WorldEvent) (k : ℕ) (after : List WorldEvent) → es ≡ before ++ Deliver k ∷ after → IsRight (run_of old before) k × WasAnswered old before k)

from_start : (d : State) (walk : WalkPlace) (retries s rounds : ℕ) (es : List WorldEvent) → AreSane (started d walk retries) es → walk.asks_oldest ≡ false →
    IsThere d walk.log.instance → walk.next ≡ sequence_number s → Outcome (started d walk retries) es (happens_all (started d walk retries) es) walk s rounds
from_start d walk retries s rounds es sane new there next =
    let w = started d walk retries in
    let n = walk.log.instance in
    let H = history_of rounds n w es in
    let run : Run = record { network = w; devices = []; began = 0 } in
    let first = inv_start rounds (IsNearAll rounds walk s w es) H d walk retries s (sane_first w es sane) new next in
    let start = inv_start rounds ⊥ H d walk retries s (sane_first w es sane) new next in
    let l = log_start rounds d walk retries es there in
    let last = keep_all rounds (IsNearAll rounds walk s w es) H walk.fresh s walk.log run es sane l (λ near. near) first in (
      λ near.
          let g = last.delivers near in
          let end = stands rounds H walk.fresh s walk.log (follow_all run es) g in
          let P : Network → Type 0 = λ x. Stands H (moments_in rounds n (follow_all run es).devices) walk.fresh s x end.0 g.t in
          (end.0, g.t, subst P (follow-network run es) end.1),
      λ before k after parts.
          let Q : List WorldEvent → Type 0 = λ l1. AreSane w l1 × LogPart rounds H n d (entries_of n w l1) in
          let both = subst Q parts (sane, l) in
          let kept = keep_some rounds ⊥ H walk.fresh s walk.log run before (Deliver k ∷ after) both.0 both.1 (λ none. absurd none) start in (
            are_right rounds ⊥ H walk.fresh s walk.log (follow_all run before) k kept,
            was_answered rounds ⊥ H walk.fresh s walk.log (follow_all run before) w before k refl (follow-network run before) kept,
          ),
    )

pub withstands_from : (old : Network) (es : List WorldEvent) (new : Network) → AreSane old es → new ≡ happens_all old es → WithstandsFrom old es new
withstands_from old es new sane is d walk retries s rounds start fresh there next =
    let P : Network → Type 0 = λ w. AreSane w es in
    let Q : Network → Type 0 = λ w. Outcome w es (happens_all w es) walk s rounds in
    let R : Network → Type 0 = λ w. Outcome old es w walk s rounds in
    subst R (sym is) (subst Q (sym start) (from_start d walk retries s rounds es (subst P start sane) fresh there next))

pub withstands : Withstands
withstands = λ w es sane. withstands_from w es (happens_all w es) sane refl

-- ---- its headline

start_old : (rounds : ℕ) (H : History) (w : Network) (es : List WorldEvent) (n : ℕ) (fresh : Bool) (s : ℕ) (answers : List (List Item)) → fresh ≡ false →
    start_of fresh s (moments_of rounds n w es) answers ≡ s
start_old rounds H w es n fresh s answers old = ap (λ b. start_of b s (moments_of rounds n w es) answers) old

pub delivers_from : (old : Network) (es : List WorldEvent) (new : Network) → AreSane old es → new ≡ happens_all old es → DeliversFrom old es new
delivers_from old es new sane is d walk retries s rounds start fresh there next near =
    let all = (withstands_from old es new sane is d walk retries s rounds start fresh there next).0 near in
    let M = moments_of rounds walk.log.instance old es in
    let st = all.2 in
    (start_of walk.fresh s M all.0, all.1, λ f. start_old rounds (history_of rounds walk.log.instance old es) old es walk.log.instance walk.fresh s all.0 f, st.next, (all.0, st.count, st.all, st.leads))
