-- A reply to a walk's question brings the whole reply of the moment.
use Rattle.std.proofs.Common.{◌≡◌, ℕ, zero, suc, ◌+◌, ◌-◌, ◌^◌, ◌<◌, ◌≤◌, max, min, Bool, true, List, [], ◌∷◌, length, take, drop, Option, Some, None, refl, sym, ap, subst, ◌∙◌, arith, inl, inr}
use Rattle.std.specs.Prelude.{nat_le, All, sum_by, if◌then◌else◌}
use Rattle.std.proofs.lemmas.Bool.{cases_lt, cond-true, le-leb}
use Rattle.std.proofs.lemmas.List.{length-take-le, length-take, length-drop, take-take, take_all, drop-take, drop-drop, drop_all}
use Rattle.std.proofs.lemmas.List.Sums.{sum_by-cons}
use Rattle.std.proofs.lemmas.List.Elements.{All-take, All-drop}
use Rattle.bac_apdu.specs.Service.ReadRangeAck.{number_size}
use Rattle.bac_apdu.proofs.Sizes.{first_size}
use Rattle.bac_log.specs.Ack.{ack_length}
use Rattle.bac_log.specs.declared.entry.Entry.{Entry}
use Rattle.bac_log.specs.Entry.{IsLoggable}
use Rattle.bac_log.specs.Record.{entry_octets}
use Rattle.bac_log.specs.Run.{record_size}
use Rattle.bac_log.specs.Select.{HeldEntry, numbered, selected, packed, greatest, reply_length, first_shown, entries_in, shows_number}
use Rattle.bac_log.specs.TrendLog.{Log, oldest, sequence_number}
use Rattle.bac_log.proofs.Packs.{length-numbered, take-numbered, entries_in-numbered}
use Rattle.bac_log.proofs.Acks.{length-ack_length}
use Rattle.bac_log.proofs.Sizes.{entry_sized}
use Rattle.bac_log.proofs.Filled.{greatest_within}
use Rattle.bac_link.specs.Delivery.{History, Moment}
use Rattle.bac_link.specs.Moments.{IsMoment, log_at, entries_from}
use Rattle.bac_walk.specs.Replies.{IsShown, Wanted, FromOrdinal, FromOldest, count_wanted, extent_of, first_asked, asked_count, fitting, how_many}
use Rattle.bac_walk.specs.Replies.{IsAnswer}
use Rattle.bac_walk.specs.Near.{IsNear}
use Rattle.bac_walk.specs.Takes.{records_of, first_of}
use Rattle.bac_walk.proofs.Asks.{selected-by_number, greatest_some}
use Rattle.bac_walk.proofs.Oldest.{selected-from_oldest}

-- ---- parts of parts

pub take_min : (a b : ℕ) (xs : List Entry) → take a (take b xs) ≡ take (min a b) xs
take_min a b xs = elim (cases_lt a b) [
  | inl lt ↦ take-take a b xs (omega arith) ∙ ap (λ n. take n xs) (let e : a ≡ min a b = omega arith in e)
  | inr ge ↦ take_all a (take b xs) (omega (arith, length-take b xs)) ∙ ap (λ n. take n xs) (let e : b ≡ min a b = omega arith in e)
]

pub drop_take : (n most : ℕ) (xs : List Entry) → drop n (take most xs) ≡ take (most - n) (drop n xs)
drop_take n most xs = elim (cases_lt n most) [
  | inl lt ↦
      let e : most ≡ n + (most - n) = omega arith in
      ap (λ k. drop n (take k xs)) e ∙ drop-take n (most - n) xs
  | inr ge ↦
      let none : most - n ≡ 0 = omega arith in
      drop_all n (take most xs) (omega (arith, length-take most xs)) ∙ ap (λ k. take k (drop n xs)) (sym none)
]

-- entries of a log at a moment are entries of its history
held_part : (H : History) (m : Moment) (first c : ℕ) → H.logged < m.oldest → m.oldest ≤ first
    → take c (drop (first - m.oldest) (entries_from H m.oldest (m.newest + 1 - m.oldest))) ≡ entries_from H first (min c (m.newest + 1 - first))
held_part H m first c above low =
    let size : (m.newest + 1 - m.oldest) - (first - m.oldest) ≡ m.newest + 1 - first = omega arith in
    let place : (m.oldest - (H.logged + 1)) + (first - m.oldest) ≡ first - (H.logged + 1) = omega arith in
    let rest : List Entry = drop (m.oldest - (H.logged + 1)) H.entries in
    ap (λ (l : List Entry). take c l) (
    drop_take (first - m.oldest) (m.newest + 1 - m.oldest) rest
    ∙ ap (λ n. take n (drop (first - m.oldest) rest)) size
    ∙ ap (λ (l : List Entry). take (m.newest + 1 - first) l) (drop-drop (first - m.oldest) (m.oldest - (H.logged + 1)) H.entries)
    ∙ ap (λ n. take (m.newest + 1 - first) (drop n H.entries)) place
    )
    ∙ take_min c (m.newest + 1 - first) (drop (first - (H.logged + 1)) H.entries)

-- ---- the longest prefix

greatest_same : (p q : ℕ → Bool) (most : ℕ) → ((k : ℕ) → 0 < k → k ≤ most → p k ≡ q k) → greatest p most ≡ greatest q most
greatest_same p q zero same = refl
greatest_same p q (suc n) same =
    ap (λ (b : Bool). if b then suc n else greatest p n) (same (suc n) (omega arith) (omega arith))
    ∙ ap (λ (g : ℕ). if q (suc n) then suc n else g) (greatest_same p q n (λ k a b. same k a (omega arith)))

shows : (wanted : Wanted) → shows_number (extent_of wanted) ≡ true
shows (FromOrdinal n count) = refl
shows (FromOldest count) = refl

first-numbered : (wanted : Wanted) (first : ℕ) (es : List Entry) → 0 < length es → first_shown (extent_of wanted) (numbered first es) ≡ Some (sequence_number first)
first-numbered wanted first [] some = absurd (omega arith)
first-numbered wanted first (e ∷ es) some = cond-true (shows_number (extent_of wanted)) (Some (sequence_number first)) None (shows wanted)

octets_same : (wanted : Wanted) (first k : ℕ) (es : List Entry) → 0 < k → k ≤ length es → reply_length (extent_of wanted) (take k (numbered first es)) ≡ ack_length (Some (sequence_number first)) (take k es)
octets_same wanted first k es some within =
    ap (λ (rs : List HeldEntry). reply_length (extent_of wanted) rs) (take-numbered k first es)
    ∙ ap (λ (o : Option ℕ). ack_length o (entries_in (numbered first (take k es)))) (first-numbered wanted first (take k es) (omega (arith, length-take-le k es within)))
    ∙ ap (λ (l : List Entry). ack_length (Some (sequence_number first)) l) (entries_in-numbered first (take k es))

pub packed-numbered : (r : ℕ) (wanted : Wanted) (first : ℕ) (es : List Entry) → packed (extent_of wanted) r (numbered first es) ≡ numbered first (take (fitting r first es) es)
packed-numbered r wanted first es =
    let p : ℕ → Bool = λ n. nat_le (reply_length (extent_of wanted) (take n (numbered first es))) r in
    let q : ℕ → Bool = λ n. nat_le (ack_length (Some (sequence_number first)) (take n es)) r in
    let size : length (numbered first es) ≡ length es = length-numbered first es in
    let count : greatest p (length (numbered first es)) ≡ fitting r first es =
    ap (λ n. greatest p n) size ∙ greatest_same p q (length es) (λ k a b. ap (λ n. nat_le n r) (octets_same wanted first k es a b)) in
    ap (λ n. take n (numbered first es)) count ∙ take-numbered (fitting r first es) first es

pub fitting_most : (r first : ℕ) (es : List Entry) → fitting r first es ≤ length es
fitting_most r first es = greatest_within (λ n. nat_le (ack_length (Some (sequence_number first)) (take n es)) r) (length es)

one_small : (es : List Entry) → 0 < length es → All IsLoggable es → sum_by record_size (take 1 es) ≤ 22
one_small [] some l = absurd (omega arith)
one_small (e ∷ es) some l = omega (arith, sum_by-cons (λ (x : Entry). length (entry_octets x)) e [], (entry_sized e (l 0 e (omega arith))).most_of)

-- one record always fits
pub fitting_some : (r first : ℕ) (es : List Entry) → 44 ≤ r → All IsLoggable es → 0 < length es → 0 < fitting r first es
fitting_some r first es room l some =
    let one : length (take 1 es) ≡ 1 = length-take-le 1 es (omega arith) in
    let low : sequence_number first < 2 ^ 32 = omega arith in
    let size = length-ack_length (Some (sequence_number first)) (take 1 es) low (omega (arith, one)) in
    greatest_some (λ n. nat_le (ack_length (Some (sequence_number first)) (take n es)) r) (length es) some
    (le-leb _ _ (omega (arith, size, ap number_size one, one_small es some l, (first_size (sequence_number first)).1, room)))

-- ---- the answer

-- an ordinal that is asked for by its number is near
abbrev pub IsNearTo : Wanted → Moment → Type 0
IsNearTo (FromOrdinal s count) m = IsNear s m
IsNearTo (FromOldest count) m = Unit {0}

module _ (m : Moment) (H : History) (sound : IsMoment H.logged m) (within : m.newest ≤ H.logged + length H.entries) (loggable : All IsLoggable (log_at m H).entries) where
  length_held : length (log_at m H).entries ≡ m.newest + 1 - m.oldest
  length_held = length-take-le (m.newest + 1 - m.oldest) (drop (m.oldest - (H.logged + 1)) H.entries) (omega (arith, sound.above, length-drop (m.oldest - (H.logged + 1)) H.entries))

  oldest_is : oldest (log_at m H) ≡ m.oldest
  oldest_is = omega (arith, sound.above)

  pub cut_loggable : (first c : ℕ) → m.oldest ≤ first → c ≤ m.newest + 1 - first → All IsLoggable (entries_from H first c)
  cut_loggable first c low few =
      let least : min c (m.newest + 1 - first) ≡ c = omega arith in
      subst (λ (es : List Entry). All IsLoggable es) (held_part H m first c sound.above low ∙ ap (λ n. entries_from H first n) least)
      (All-take IsLoggable c (drop (first - m.oldest) (log_at m H).entries) (All-drop IsLoggable (first - m.oldest) (log_at m H).entries loggable))

  part_loggable : (wanted : Wanted) → All IsLoggable (entries_from H (first_asked wanted m) (asked_count wanted m))
  part_loggable (FromOrdinal s count) = cut_loggable (max s m.oldest) (asked_count (FromOrdinal s count) m) (omega arith) (omega arith)
  part_loggable (FromOldest count) = cut_loggable m.oldest (asked_count (FromOldest count) m) (omega arith) (omega arith)

  pub shown : IsShown (log_at m H)
  shown = record { few = omega (arith, length_held, sound.few); loggable = loggable }

  -- what a walk's question selects
  selected-is : (wanted : Wanted) → count_wanted wanted < 2147483648 → IsNearTo wanted m → selected (log_at m H) (extent_of wanted) ≡ numbered (first_asked wanted m) (entries_from H (first_asked wanted m) (asked_count wanted m))
  selected-is (FromOrdinal s count) small near =
      let log : Log = log_at m H in
      let f : ℕ = max s m.oldest in
      let many : min ((s + count) - f) (m.newest + 1 - f) ≡ asked_count (FromOrdinal s count) m = omega arith in
      selected-by_number log s count (omega (arith, small)) shown.few (omega (arith, oldest_is, near.above)) (omega (arith, oldest_is, near.below))
      ∙ ap (λ k. numbered (max s k) (take ((s + count) - max s k) (drop (max s k - k) log.entries))) oldest_is
      ∙ ap (λ (l : List Entry). numbered f l) (held_part H m f ((s + count) - f) sound.above (omega arith) ∙ ap (λ c. entries_from H f c) many)
  selected-is (FromOldest count) small near = elim (cases_lt 0 (length (log_at m H).entries)) [
    | inl some ↦
        let log : Log = log_at m H in
        let many : min count (m.newest + 1 - m.oldest) ≡ asked_count (FromOldest count) m = omega arith in
        selected-from_oldest log count shown some
        ∙ ap (λ k. numbered k (take count log.entries)) oldest_is
        ∙ ap (λ (l : List Entry). numbered m.oldest l) (take_min count (m.newest + 1 - m.oldest) (drop (m.oldest - (H.logged + 1)) H.entries) ∙ ap (λ c. entries_from H m.oldest c) many)
    | inr none ↦
        let zero_newest : m.newest + 1 - m.oldest ≡ 0 = omega (arith, length_held) in
        let nothing : asked_count (FromOldest count) m ≡ 0 = omega (arith, zero_newest) in
        let empty : (log_at m H).entries ≡ [] = ap (λ c. entries_from H m.oldest c) zero_newest in
        none_selected (log_at m H) empty ∙ ap (λ c. numbered m.oldest (entries_from H m.oldest c)) (sym nothing)
  ]
    where
      none_selected : (log : Log) → log.entries ≡ [] → selected log (extent_of (FromOldest count)) ≡ []
      none_selected log none = rw none refl

  length_asked : (wanted : Wanted) → length (entries_from H (first_asked wanted m) (asked_count wanted m)) ≡ asked_count wanted m
  length_asked (FromOrdinal s count) = length-take-le (asked_count (FromOrdinal s count) m) (drop (max s m.oldest - (H.logged + 1)) H.entries) (omega (arith, sound.above, length-drop (max s m.oldest - (H.logged + 1)) H.entries))
  length_asked (FromOldest count) = length-take-le (asked_count (FromOldest count) m) (drop (m.oldest - (H.logged + 1)) H.entries) (omega (arith, sound.above, length-drop (m.oldest - (H.logged + 1)) H.entries))

  pub many_most : (r : ℕ) (wanted : Wanted) → how_many r H wanted m ≤ asked_count wanted m
  many_most r wanted = omega (arith, length_asked wanted, fitting_most r (first_asked wanted m) (entries_from H (first_asked wanted m) (asked_count wanted m)))

  pub packed-is : (r : ℕ) (wanted : Wanted) → count_wanted wanted < 2147483648 → IsNearTo wanted m → packed (extent_of wanted) r (selected (log_at m H) (extent_of wanted)) ≡ numbered (first_asked wanted m) (entries_from H (first_asked wanted m) (how_many r H wanted m))
  packed-is r wanted small near =
      let f : ℕ = first_asked wanted m in
      let c : ℕ = asked_count wanted m in
      let n : ℕ = how_many r H wanted m in
      let least : min n c ≡ n = omega (arith, many_most r wanted) in
      ap (λ (rs : List HeldEntry). packed (extent_of wanted) r rs) (selected-is wanted small near)
      ∙ packed-numbered r wanted f (entries_from H f c)
      ∙ ap (λ (l : List Entry). numbered f l) (take_min n c (drop (f - (H.logged + 1)) H.entries) ∙ ap (λ k. entries_from H f k) least)

  -- the records and the first number of a reply of ours are the whole reply of the moment
  pub answer_is : (r : ℕ) (wanted : Wanted) → count_wanted wanted < 2147483648 → IsNearTo wanted m → 44 ≤ r → IsAnswer r m H wanted (first_of r (log_at m H) (extent_of wanted)) (records_of r (log_at m H) (extent_of wanted))
  answer_is r wanted small near room =
      let f : ℕ = first_asked wanted m in
      let n : ℕ = how_many r H wanted m in
      let size : length (entries_from H f n) ≡ n =
      ap (λ (l : List Entry). length l) (sym (take_min n (asked_count wanted m) (drop (f - (H.logged + 1)) H.entries) ∙ ap (λ k. entries_from H f k) (let e : min n (asked_count wanted m) ≡ n = omega (arith, many_most r wanted) in e)))
      ∙ length-take-le n (entries_from H f (asked_count wanted m)) (omega (arith, many_most r wanted, length_asked wanted)) in
      record {
        entries = ap (λ (rs : List HeldEntry). entries_in rs) (packed-is r wanted small near) ∙ entries_in-numbered f (entries_from H f n);
        first_is = λ some. ap (λ (rs : List HeldEntry). first_shown (extent_of wanted) rs) (packed-is r wanted small near) ∙ first-numbered wanted f (entries_from H f n) (omega (arith, size, some));
        some = λ asked. fitting_some r f (entries_from H f (asked_count wanted m)) room (part_loggable wanted) (omega (arith, length_asked wanted, asked));
        most = many_most r wanted;
      }
