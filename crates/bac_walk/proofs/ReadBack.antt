-- The ACK that a log gives is read back, and its items are exactly the log's records.
use Rattle.std.proofs.Common.{◌≡◌, ℕ, zero, suc, ◌+◌, ◌*◌, ◌^◌, ◌<◌, ◌≤◌, Bool, true, false, List, [], ◌∷◌, length, take, Option, Some, None, Ok, refl, sym, ap, subst, ◌∙◌, arith, ◌⊎◌, inl, inr}
use Rattle.std.specs.Prelude.{All, filter, nat_le, sum_by, if◌then◌else◌}
use Rattle.std.proofs.lemmas.Bool.{cases_Bool, leb-true, cond-true, cond-false}
use Rattle.std.proofs.lemmas.List.{length-take-le}
use Rattle.std.proofs.lemmas.List.Sums.{sum_by-cons}
use Rattle.bac_wire.specs.Canon.{IsValid}
use Rattle.bac_wire.specs.Primitive.{Id, Object}
use Rattle.bac_apdu.specs.declared.service.extent.Extent.{Extent}
use Rattle.bac_apdu.specs.FormReading.{form_at}
use Rattle.bac_apdu.specs.Service.ReadRangeAck.{read_range_ack, IsFirst, IsSmall}
use Rattle.bac_apdu.proofs.Forms.{form_again}
use Rattle.bac_log.specs.declared.entry.Entry.{Entry}
use Rattle.bac_log.specs.Ack.{shown_parameters, ack_apdu, ack_parameters}
use Rattle.bac_log.specs.Entry.{IsLoggable}
use Rattle.bac_log.specs.Record.{entry_octets, entries_octets}
use Rattle.bac_log.specs.RecordReading.{entries_at}
use Rattle.bac_log.specs.Select.{HeldEntry, numbered, held, selected, packed, reply_of, reply_length, first_shown, entries_in, shows_number, is_asked, greatest}
use Rattle.bac_log.specs.TrendLog.{Log, oldest, sequence_number}
use Rattle.bac_log.proofs.Acks.{ack_reads, length-ack_length, same_octets}
use Rattle.bac_log.proofs.Records.{entries_back}
use Rattle.bac_log.proofs.Sizes.{entry_sized}
use Rattle.bac_log.proofs.Packs.{length-numbered, length-entries_in}
use Rattle.bac_log.proofs.Filled.{greatest_within}
use Rattle.bac_link.specs.Links.{reply_parameters}
use Rattle.bac_walk.specs.Replies.{IsShown}

-- each record that a log holds is loggable
abbrev Each : List HeldEntry → Type 0
Each [] = Unit {0}
Each (r ∷ rs) = IsLoggable r.entry × Each rs

each_numbered : (first : ℕ) (es : List Entry) → All IsLoggable es → Each (numbered first es)
each_numbered first [] l = tt
each_numbered first (e ∷ es) l = (l 0 e (omega arith), each_numbered (first + 1) es (λ k d lt. l (suc k) d (omega arith)))

each_filter : (test : HeldEntry → Bool) (rs : List HeldEntry) → Each rs → Each (filter test rs)
each_filter test [] e = tt
each_filter test (r ∷ rs) e =
    let rest : Each (filter test rs) = each_filter test rs e.1 in
    elim (cases_Bool (test r)) [
      | inl p ↦ subst Each (sym (cond-true (test r) (r ∷ filter test rs) (filter test rs) p)) (e.0, rest)
      | inr p ↦ subst Each (sym (cond-false (test r) (r ∷ filter test rs) (filter test rs) p)) rest
    ]

each_take : (n : ℕ) (rs : List HeldEntry) → Each rs → Each (take n rs)
each_take zero rs e = tt
each_take (suc n) [] e = tt
each_take (suc n) (r ∷ rs) e = (e.0, each_take n rs e.1)

all_cons : (e : Entry) (es : List Entry) → IsLoggable e → All IsLoggable es → All IsLoggable (e ∷ es)
all_cons e es one rest zero d lt = one
all_cons e es one rest (suc k) d lt = rest k d (omega arith)

each_loggable : (rs : List HeldEntry) → Each rs → All IsLoggable (entries_in rs)
each_loggable [] e = λ k d lt. absurd (omega arith)
each_loggable (r ∷ rs) e = all_cons r.entry (entries_in rs) e.0 (each_loggable rs e.1)

first_valid : (extent : Extent) (rs : List HeldEntry) → IsFirst (first_shown extent rs)
first_valid extent [] = tt
first_valid extent (r ∷ rs) = shown (shows_number extent)
  where
    shown : (b : Bool) → IsFirst (if b then Some (sequence_number r.ordinal) else None)
    shown true = (omega arith, omega arith)
    shown false = tt

-- the greatest that passes does pass
greatest_passes : (passes : ℕ → Bool) (most : ℕ) → (greatest passes most ≡ 0) ⊎ (passes (greatest passes most) ≡ true)
greatest_passes passes zero = inl refl
greatest_passes passes (suc n) = elim (cases_Bool (passes (suc n))) [
  | inl p ↦ inr (ap passes (cond-true (passes (suc n)) (suc n) (greatest passes n) p) ∙ p)
  | inr p ↦
      let same = cond-false (passes (suc n)) (suc n) (greatest passes n) p in
      elim (greatest_passes passes n) [ inl z ↦ inl (same ∙ z) | inr q ↦ inr (ap passes same ∙ q) ]
]

sum_large : (es : List Entry) → All IsLoggable es → 17 * length es ≤ sum_by (λ e. length (entry_octets e)) es
sum_large [] l = omega arith
sum_large (e ∷ es) l = omega (arith, sum_by-cons (λ (x : Entry). length (entry_octets x)) e es, (entry_sized e (l 0 e (omega arith))).least_of, sum_large es (λ k d lt. l (suc k) d (omega arith)))

first_small : (first : Option ℕ) → IsFirst first → IsSmall first
first_small None f = tt
first_small (Some n) f = f.1

length_filter : (test : HeldEntry → Bool) (rs : List HeldEntry) → length (filter test rs) ≤ length rs
length_filter test [] = omega arith
length_filter test (r ∷ rs) =
    let rest = length_filter test rs in
    elim (cases_Bool (test r)) [
      | inl p ↦ omega (arith, rest, ap (λ (l : List HeldEntry). length l) (cond-true (test r) (r ∷ filter test rs) (filter test rs) p))
      | inr p ↦ omega (arith, rest, ap (λ (l : List HeldEntry). length l) (cond-false (test r) (r ∷ filter test rs) (filter test rs) p))
    ]

module _ (log : Log) (extent : Extent) (limit : ℕ) (is : IsShown log) (most : limit ≤ 1476) where
  abbrev records : List HeldEntry
  records = packed extent limit (selected log extent)

  each_packed : Each records
  each_packed = each_take _ (selected log extent) (each_filter (λ r. is_asked log extent r.ordinal) (held log) (each_numbered (oldest log) log.entries is.loggable))

  pub packed_loggable : All IsLoggable (entries_in records)
  packed_loggable = each_loggable records each_packed

  pub packed_first : IsFirst (first_shown extent records)
  packed_first = first_valid extent records

  -- at most 85 fit into 1476 octets
  pub packed_few : length (entries_in records) ≤ 85
  packed_few =
      let passes : ℕ → Bool = λ n. nat_le (reply_length extent (take n (selected log extent))) limit in
      let n : ℕ = greatest passes (length (selected log extent)) in
      let part : length records ≡ n = length-take-le n (selected log extent) (greatest_within passes (length (selected log extent))) in
      elim (greatest_passes passes (length (selected log extent))) [
        | inl none ↦ omega (arith, length-entries_in records, part, none)
        | inr fits ↦
            let size = length-ack_length (first_shown extent records) (entries_in records) (first_small (first_shown extent records) packed_first) few in
            omega (arith, leb-true _ _ fits, size, sum_large (entries_in records) packed_loggable)
      ]
    where
      few : length (entries_in records) < 2 ^ 32
      few =
          let passes : ℕ → Bool = λ n. nat_le (reply_length extent (take n (selected log extent))) limit in
          let n : ℕ = greatest passes (length (selected log extent)) in
          let part : length records ≡ n = length-take-le n (selected log extent) (greatest_within passes (length (selected log extent))) in
          let whole : length (selected log extent) ≤ length (held log) = length_filter (λ r. is_asked log extent r.ordinal) (held log) in
          omega (arith, length-entries_in records, part, greatest_within passes (length (selected log extent)), whole, length-numbered (oldest log) log.entries, is.few)

  -- the ACK's parameters are read back
  pub reply_reads : (id : Id) → IsValid (Object id) → form_at read_range_ack (reply_parameters id log extent limit) ≡ Ok (shown_parameters id (reply_of log extent (selected log extent) records).flags (first_shown extent records) (entries_in records))
  unfolding reply_parameters
  reply_reads id valid =
      let flags : ℕ = (reply_of log extent (selected log extent) records).flags in
      form_again read_range_ack (ack_parameters id flags (first_shown extent records) (entries_in records)) (shown_parameters id flags (first_shown extent records) (entries_in records))
      (ack_reads id flags (first_shown extent records) (entries_in records) valid packed_first (omega (arith, packed_few)) packed_loggable)

  -- and its items are exactly the log's records
  pub items_read : entries_at 100 (entries_octets (entries_in records)) ≡ Ok (entries_in records)
  items_read = entries_back (entries_in records) 100 packed_loggable (omega (arith, packed_few))

  -- the whole ACK is within the limit
  packed_short : 44 ≤ limit → reply_length extent records ≤ limit
  packed_short room =
      let passes : ℕ → Bool = λ n. nat_le (reply_length extent (take n (selected log extent))) limit in
      elim (greatest_passes passes (length (selected log extent))) [
        | inl none ↦
            let rs : records ≡ [] = ap (λ n. take n (selected log extent)) none in
            omega (arith, ap (λ (l : List HeldEntry). reply_length extent l) rs, length-ack_length None [] tt (omega arith), room)
        | inr fits ↦ omega (arith, leb-true _ _ fits)
      ]

  pub reply_short : (id : Id) → 44 ≤ limit → 3 + length (reply_parameters id log extent limit) ≤ limit
  unfolding reply_parameters ack_apdu
  reply_short id room =
      let flags : ℕ = (reply_of log extent (selected log extent) records).flags in
      omega (
        arith,
        same_octets 0 id flags (first_shown extent records) (entries_in records) (first_small (first_shown extent records) packed_first) (omega (arith, packed_few)),
        packed_short room,
      )
