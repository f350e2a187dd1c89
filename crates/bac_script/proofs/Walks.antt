-- What a walk of a trend log prints, from what a link to the device says.
use Rattle.std.proofs.Common.{◌≡◌, refl, sym, ap, subst, arith, ℕ, ◌+◌, ◌-◌, ◌<◌, ◌≤◌, nat_lt, Bool, true, false, if◌then◌else◌, List, [], ◌∷◌, ◌++◌, codes, Option, None, Some, append-nil}
use Rattle.std.specs.Option.{unwrap_or}
use Rattle.std.proofs.lemmas.Bool.{ltb-true, ltb-false}
use Rattle.bac_wire.specs.Primitive.{Id}
use Rattle.bac_log.specs.TrendLog.{Log, empty_log, sequence_number}
use Rattle.bac_objects.specs.Sampling.{log_id, log_of}
use Rattle.bac_objects.specs.State.{State}
use Rattle.bac_link.specs.Delivery.{History, Moment}
use Rattle.bac_walk.specs.Near.{IsNear}
use Rattle.bac_link.specs.Ordinals.{distance}
use Rattle.bac_walk.specs.Place.{WalkPlace, walk_at, walk_from_oldest}
use Rattle.bac_walk.specs.Rests.{rest}
use Rattle.bac_memory_link.specs.Ahead.{IsAhead, IsThere, Lacks, LiesAhead, history_ahead, log_with, moments_ahead, placed_all, turn}
use Rattle.bac_memory_link.specs.declared.event.LinkEvent.{LinkEvent}
use Rattle.bac_script.specs.Walk.{begins, begun_text, held_by, missed_text, moment_by, nearest, rested_text, start_of, walked_text, walk_text}

picked : (b : Bool) (x w : WalkPlace) → (if b then Some x else None) ≡ Some w → (b ≡ true) × (w ≡ x)
picked true x w e = (refl, cc)
picked false x w e = cc

-- a walk that begins is one of a Trend Log
kind_of : (log : Id) (from : Option ℕ) → begins log from ≡ true → log.kind ≡ 20
kind_of log None e = grind (arith, e)
kind_of log (Some n) e = grind (arith, e)

some_of : (log : Id) (n : ℕ) → begins log (Some n) ≡ true → 1 ≤ n
some_of log n e = grind (arith, e)

-- the ordinal nearest to the oldest held is one of its number
by_half : (oldest n : ℕ) (b : Bool) → nat_lt (distance (sequence_number oldest) n) 2147483648 ≡ b → 1 ≤ n → n ≤ 4294967295 → 4294967295 ≤ oldest →
    (n ≡ sequence_number (if b then oldest + distance (sequence_number oldest) n else (oldest + distance (sequence_number oldest) n) - 4294967295))
    × (oldest < (if b then oldest + distance (sequence_number oldest) n else (oldest + distance (sequence_number oldest) n) - 4294967295) + 2147483648)
    × ((if b then oldest + distance (sequence_number oldest) n else (oldest + distance (sequence_number oldest) n) - 4294967295) < oldest + 2147483648)
by_half oldest n true is low high above =
    let lt : distance (sequence_number oldest) n < 2147483648 = ltb-true _ _ is in
    (omega (arith, low, high), omega arith, omega (arith, lt))
by_half oldest n false is low high above =
    let ge : 2147483648 ≤ distance (sequence_number oldest) n = ltb-false _ _ is in
    (omega (arith, low, high, above, ge), omega (arith, above, ge), omega (arith, above))

near_ordinal : (oldest n : ℕ) → 1 ≤ n → n ≤ 4294967295 → 4294967295 ≤ oldest →
    (n ≡ sequence_number (nearest oldest n)) × (oldest < nearest oldest n + 2147483648) × (nearest oldest n < oldest + 2147483648)
near_ordinal oldest n low high above = by_half oldest n (nat_lt (distance (sequence_number oldest) n) 2147483648) refl low high above

-- what a link to the device says of its logs
abbrev Ours : State → State → List LinkEvent → Type 0
Ours d e events = (n rounds : ℕ) → IsThere d n →
    LiesAhead rounds e events (log_id n) d.reply_size (placed_all rounds (moments_ahead d n [])) (history_ahead rounds d n [])

-- over a link to the device at which nothing happens
over : (d e : State) (events : List LinkEvent) (n : ℕ) (fresh : Bool) (s steps : ℕ) (P : List ℕ → Type 0) (said : Option Log) → log_of d n ≡ said
    → 1 ≤ s → s ≤ 4294967295 → Ours d e events
    → ((n : ℕ) → log_of d n ≡ None → Lacks e (log_id n))
    → ((r : ℕ) (m : Moment) (H : History) (k : ℕ) → IsAhead e events (log_id n) r (m ∷ []) H → s ≡ sequence_number k → (fresh ≡ false → IsNear k m) → P (rested_text (rest r 100 H m fresh k steps)))
    → (Lacks e (log_id n) → P (missed_text s steps))
    → P (walked_text d said fresh s steps)
over d e events n fresh s steps P None is low high ours lacks rests missing = missing (lacks n is)
over d e events n fresh s steps P (Some log) is low high ours lacks rests missing =
    let with : log_with d n ≡ log = ap (λ (o : Option Log). unwrap_or o (empty_log 1 0)) is in
    let first : LiesAhead 1 e events (log_id n) d.reply_size (moment_by log ∷ []) (record { logged = log.before + turn 1; entries = log.entries ++ [] }) =
    subst (λ (l : Log). LiesAhead 1 e events (log_id n) d.reply_size (moment_by l ∷ []) (record { logged = l.before + turn 1; entries = l.entries ++ [] })) with (ours n 1 (log, is)) in
    let lies : LiesAhead 1 e events (log_id n) d.reply_size (moment_by log ∷ []) (held_by log) =
    subst (λ (es : List _). LiesAhead 1 e events (log_id n) d.reply_size (moment_by log ∷ []) (record { logged = log.before + turn 1; entries = es })) (append-nil log.entries) first in
    let near = near_ordinal (moment_by log).oldest s low high (omega arith) in
    rests d.reply_size (moment_by log) (held_by log) (nearest (moment_by log).oldest s) (1, lies) near.0 (λ old. record { above = near.1; below = near.2 })

log_is : (log : Id) → log.kind ≡ 20 → log_id log.instance ≡ log
log_is log is = ap (λ (k : ℕ). record { kind = k; instance = log.instance }) (sym is)

abbrev LacksRest : State → State → Type 0
LacksRest d e = (n : ℕ) → log_of d n ≡ None → Lacks e (log_id n)

-- what a walk over it says of its text
abbrev Rested : State → List LinkEvent → WalkPlace → ℕ → (List ℕ → Type 0) → Type 0
Rested e events w steps P = (r : ℕ) (m : Moment) (H : History) (k : ℕ) →
    IsAhead e events w.log r (m ∷ []) H → w.next ≡ sequence_number k → (w.fresh ≡ false → IsNear k m) → P (rested_text (rest r w.count H m w.fresh k steps))

abbrev Missed : State → WalkPlace → ℕ → (List ℕ → Type 0) → Type 0
Missed e w steps P = Lacks e w.log → P (missed_text w.next steps)

at_log : (d e : State) (events : List LinkEvent) (log : Id) (fresh : Bool) (s steps : ℕ) (P : List ℕ → Type 0) → log.kind ≡ 20
    → 1 ≤ s → s ≤ 4294967295 → Ours d e events → LacksRest d e
    → Rested e events (record { log = log; next = s; fresh = fresh; asks_oldest = false; count = 100 }) steps P
    → Missed e (record { log = log; next = s; fresh = fresh; asks_oldest = false; count = 100 }) steps P
    → P (walked_text d (log_of d log.instance) fresh s steps)
at_log d e events log fresh s steps P kind low high ours lacks rests missing =
    let same : log_id log.instance ≡ log = log_is log kind in
    over d e events log.instance fresh s steps P (log_of d log.instance) refl low high ours lacks
    (λ r m H k lies is near. rests r m H k (subst (λ (i : Id). IsAhead e events i r (m ∷ []) H) same lies) is near)
    (λ none. missing (subst (λ (i : Id). Lacks e i) same none))

-- so the text of a line is what its walk delivers
pub walk_told : (d e : State) (events : List LinkEvent) (log : Id) (from : Option ℕ) (w : WalkPlace) (steps : ℕ) (P : List ℕ → Type 0)
    → start_of log from ≡ Some w → w.next < 4294967296 → Ours d e events → LacksRest d e → Rested e events w steps P → Missed e w steps P
    → P (walk_text d log from steps)
walk_told d e events log None w steps P is most ours lacks rests missing =
    let begun : (begins log None ≡ true) × (w ≡ walk_from_oldest log) = picked (begins log None) (walk_from_oldest log) w is in
    let told : P (begun_text d log None steps) =
    at_log d e events log true 1 steps P (kind_of log None begun.0) (omega arith) (omega arith) ours lacks
    (subst (λ (x : WalkPlace). Rested e events x steps P) begun.1 rests) (subst (λ (x : WalkPlace). Missed e x steps P) begun.1 missing) in
    subst (λ (b : Bool). P (if b then begun_text d log None steps else codes "no walk" ++ 10 ∷ [])) (sym begun.0) told
walk_told d e events log (Some n) w steps P is most ours lacks rests missing =
    let begun : (begins log (Some n) ≡ true) × (w ≡ walk_at log n) = picked (begins log (Some n)) (walk_at log n) w is in
    let told : P (begun_text d log (Some n) steps) =
    at_log d e events log false n steps P (kind_of log (Some n) begun.0) (some_of log n begun.0) (omega (arith, most, ap (λ (x : WalkPlace). x.next) begun.1)) ours lacks
    (subst (λ (x : WalkPlace). Rested e events x steps P) begun.1 rests) (subst (λ (x : WalkPlace). Missed e x steps P) begun.1 missing) in
    subst (λ (b : Bool). P (if b then begun_text d log (Some n) steps else codes "no walk" ++ 10 ∷ [])) (sym begun.0) told
