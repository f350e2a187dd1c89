-- A reply of our own device is one by the standard.
use Rattle.std.proofs.Common.{◌≡◌, ℕ, max, ◌+◌, ◌-◌, ◌<◌, ◌≤◌, inl, inr, Option, Some, None, List, [], ◌∷◌, length, refl, sym, ap, subst, ◌∙◌, arith}
use Rattle.std.proofs.lemmas.Bool.{cases_lt}
use Rattle.bac_wire.specs.Primitive.{Id}
use Rattle.bac_log.specs.declared.entry.Entry.{Entry}
use Rattle.bac_log.specs.TrendLog.{sequence_number}
use Rattle.bac_link.specs.Delivery.{History, Moment, Holds, AreHeld, now}
use Rattle.bac_link.specs.Moments.{entries_from}
use Rattle.bac_walk.specs.Came.{IsNearOf, OwnIsSaid}
use Rattle.bac_link.specs.Heard.{AckParameters}
use Rattle.bac_walk.specs.Near.{IsNear}
use Rattle.bac_link.specs.Ordinals.{distance}
use Rattle.bac_link.specs.Heard.{heard_in}
use Rattle.bac_walk.specs.Replies.{Wanted, FromOrdinal, FromOldest, IsAnswer, asked_at, asked_count, count_wanted, how_many}
use Rattle.bac_link.specs.Standard.{IsCount, count_asked, HoldsNumber, AreHeldFrom, SaysAt, IsSaidAt}
use Rattle.bac_walk.specs.Takes.{Says}
use Rattle.bac_walk.specs.Walks.{logged_from}
use Rattle.bac_walk.proofs.Bridge.{IsNearTo}
use Rattle.bac_walk.proofs.Held.{Sound, Sound-now, In-now}
use Rattle.bac_walk.proofs.OurReply.{says_in}
use Rattle.bac_walk.proofs.Shown.{distance-number, records}
use Rattle.bac_walk.proofs.Turns.{entries_count}

held_of : (H : History) (m : Moment) (k u : ℕ) (es : List Entry) → AreHeld H m k (logged_from k es) u → AreHeldFrom H m k es
held_of H m k u [] are = tt
held_of H m k u (e ∷ es) are = (are.1, are.2, held_of H m (k + 1) u es are.3)

-- what is held under the number of a near ordinal is that ordinal
held_near : (H : History) (m : Moment) (s : ℕ) → Sound H m → IsNear s m → HoldsNumber m (sequence_number s) → Holds m s
held_near H m s sound near (k, held, same) =
    let is : s ≡ k = omega (arith, near.above, near.below, held.0, held.1, sound.few, same) in
    (omega (arith, is, held.0), omega (arith, is, held.1))

says_of : (r : ℕ) (m : Moment) (H : History) (wanted : Wanted) (first : Option ℕ) (es : List Entry) → Sound H m → m.newest ≤ H.logged + length H.entries →
    0 < count_wanted wanted → IsNearOf wanted m → IsAnswer r m H wanted first es → SaysAt m H (asked_at wanted) first es
says_of r m H (FromOrdinal s count) first [] sound within some near answer = λ holds.
    let held = held_near H m s sound near holds in
    let n : 0 ≡ how_many r H (FromOrdinal s count) m = ap length answer.entries
    ∙ entries_count H m (max s m.oldest) (how_many r H (FromOrdinal s count) m) sound within (omega arith) (λ h. omega (arith, answer.most)) in
    let asked : 0 < asked_count (FromOrdinal s count) m = omega (arith, held.0, held.1, some) in
    omega (arith, n, answer.some asked)
says_of r m H (FromOrdinal s count) first (e ∷ es) sound within some near answer =
    let f = max s m.oldest in
    let same : length (entries_from H f (how_many r H (FromOrdinal s count) m)) ≡ how_many r H (FromOrdinal s count) m =
    entries_count H m f (how_many r H (FromOrdinal s count) m) sound within (omega arith) (λ h. omega (arith, answer.most)) in
    let n : length (e ∷ es) ≡ how_many r H (FromOrdinal s count) m = ap length answer.entries ∙ same in
    let Q : List Entry → Type 0 = λ xs. AreHeld H m f (logged_from f xs) (f + length xs) in
    let are = held_of H m f (f + length (e ∷ es)) (e ∷ es) (subst Q (sym answer.entries) (records H m f (how_many r H (FromOrdinal s count) m) (omega (arith, sound.above)) (omega arith) (omega (arith, n, same, answer.most)))) in (
      f,
      (answer.first_is (omega (arith, n)), omega (arith, n, answer.most), are),
      elim (cases_lt s m.oldest) [
        | inl lt ↦
            let top : f ≡ m.oldest = omega (arith, lt) in
            let far : distance (sequence_number s) (sequence_number f) ≡ f - s = distance-number s f (omega arith) (omega (arith, near.above, top)) in
            inr ((λ holds. omega (arith, lt, (held_near H m s sound near holds).0)), top, omega (arith, far, n, answer.most, top))
        | inr ge ↦ inl (ap sequence_number (let e : s ≡ f = omega (arith, ge) in e))
      ],
    )
says_of r m H (FromOldest count) first [] sound within some near answer =
    let n : 0 ≡ how_many r H (FromOldest count) m = ap length answer.entries
    ∙ entries_count H m m.oldest (how_many r H (FromOldest count) m) sound within (omega arith) (λ h. omega (arith, answer.most)) in
    elim (cases_lt m.newest m.oldest) [
      | inl lt ↦ lt
      | inr ge ↦ let asked : 0 < asked_count (FromOldest count) m = omega (arith, ge, some) in absurd (omega (arith, n, answer.some asked))
    ]
says_of r m H (FromOldest count) first (e ∷ es) sound within some near answer =
    let same : length (entries_from H m.oldest (how_many r H (FromOldest count) m)) ≡ how_many r H (FromOldest count) m =
    entries_count H m m.oldest (how_many r H (FromOldest count) m) sound within (omega arith) (λ h. omega (arith, answer.most)) in
    let n : length (e ∷ es) ≡ how_many r H (FromOldest count) m = ap length answer.entries ∙ same in
    let Q : List Entry → Type 0 = λ xs. AreHeld H m m.oldest (logged_from m.oldest xs) (m.oldest + length xs) in
    let are = held_of H m m.oldest (m.oldest + length (e ∷ es)) (e ∷ es) (subst Q (sym answer.entries) (records H m m.oldest (how_many r H (FromOldest count) m) sound.above (omega arith) (omega (arith, n, same, answer.most)))) in
    (answer.first_is (omega (arith, n)), omega (arith, n, answer.most), are)

near_of : (wanted : Wanted) (m : Moment) → IsNearOf wanted m → IsNearTo wanted m
near_of (FromOrdinal s count) m near = near
near_of (FromOldest count) m near = tt

-- as many are asked for as are wanted
count_same : (wanted : Wanted) → count_wanted wanted ≡ count_asked (asked_at wanted)
count_same (FromOrdinal s count) = refl
count_same (FromOldest count) = refl

said_of : (r : ℕ) (m : Moment) (H : History) (log : Id) (wanted : Wanted) (datagram : List ℕ) (o : Option AckParameters) → Sound H m → m.newest ≤ H.logged + length H.entries →
    IsCount (count_wanted wanted) → IsNearOf wanted m → heard_in log datagram ≡ o → Says r m H wanted o → IsSaidAt m H log (asked_at wanted) datagram
said_of r m H log wanted datagram None sound within asks near is says = absurd says
said_of r m H log wanted datagram (Some h) sound within asks near is says =
    record { asks = subst IsCount (count_same wanted) asks; heard = h; reads = is; counts = says.1; says = says_of r m H wanted h.first h.entries sound within asks.some near says.0 }

pub own_said : OwnIsSaid
own_said = λ r M H log wanted path invoke datagram served valid asks near reply.
    said_of r (now M) H log wanted datagram (heard_in log datagram) (Sound-now r M H served) (In-now r M H served) asks near refl
    (says_in datagram r M H log wanted path invoke served (omega (arith, asks.most)) (near_of wanted (now M) near) valid reply)
