-- An answer of 44 octets holds a record.
use Rattle.std.proofs.Common.{◌≡◌, refl, subst, arith, ℕ, zero, suc, ◌+◌, ◌^◌, ◌<◌, ◌≤◌, Bool, true, false, not, ◌&&◌, cond, List, [], ◌∷◌, length, take, Option, Some, None}
use Rattle.std.specs.Prelude.{nat_le, filter, All, if◌then◌else◌}
use Rattle.std.proofs.lemmas.Bool.{le-leb, leb-true, le-ltb}
use Rattle.bac_wire.specs.Primitive.{Id}
use Rattle.bac_apdu.specs.Apdu.{Complex, apdu_octets}
use Rattle.bac_apdu.specs.Service.ReadRangeAck.{IsSmall, optional_size}
use Rattle.bac_apdu.specs.declared.service.extent.Extent.{Extent}
use Rattle.bac_log.specs.Ack.{ack_apdu, ack_length, ack_parameters}
use Rattle.bac_log.specs.Entry.{IsLoggable}
use Rattle.bac_log.specs.Record.{entry_octets}
use Rattle.bac_log.specs.Select.{HeldEntry, answer_of, entries_in, first_shown, greatest, is_asked, numbered, packed, reply_length, selected, shows_number}
use Rattle.bac_log.specs.TrendLog.{IsLog, Log, sequence_number, oldest}
use Rattle.bac_log.specs.declared.entry.Entry.{Entry}
use Rattle.bac_log.proofs.Acks.{length-ack_length, same_octets}
use Rattle.bac_log.proofs.Records.{All-head, All-tail}
use Rattle.bac_log.proofs.Sizes.{entry_sized}
use Rattle.bac_device.specs.Answer.{is_empty, records_ack, records_said}
use Rattle.bac_device.specs.Reply.{limited}
use Rattle.bac_apdu.proofs.Sizes.{number_size_small}
use Rattle.bac_log.proofs.Packs.{shown_small, length-entries_in}

-- ---- the greatest that passes

greatest_at : (b : Bool) (passes : ℕ → Bool) (n : ℕ) → passes (suc n) ≡ b → (0 < greatest passes n → passes (greatest passes n) ≡ true) → 0 < cond b (suc n) (greatest passes n) → passes (cond b (suc n) (greatest passes n)) ≡ true
greatest_at true passes n e rest p = e
greatest_at false passes n e rest p = rest p

greatest_passes : (passes : ℕ → Bool) (most : ℕ) → 0 < greatest passes most → passes (greatest passes most) ≡ true
greatest_passes passes zero p = absurd (omega (arith, p))
greatest_passes passes (suc n) p = greatest_at (passes (suc n)) passes n refl (greatest_passes passes n) p

some_at : (b : Bool) (n g : ℕ) → 0 < g → 0 < cond b (suc n) g
some_at true n g p = omega arith
some_at false n g p = p

greatest_some : (passes : ℕ → Bool) (most : ℕ) → passes 1 ≡ true → 0 < greatest passes (suc most)
greatest_some passes zero e = rw e (omega arith)
greatest_some passes (suc n) e = some_at (passes (suc (suc n))) (suc n) (greatest passes (suc n)) (greatest_some passes n e)

-- ---- the records selected

first_kept : (b : Bool) (test : HeldEntry → Bool) (first : ℕ) (e : Entry) (es : List Entry) (r : HeldEntry) (rs : List HeldEntry) → IsLoggable e
    → (filter test (numbered (first + 1) es) ≡ r ∷ rs → IsLoggable r.entry)
    → cond b ((let x : HeldEntry = record { ordinal = first; entry = e } in x) ∷ filter test (numbered (first + 1) es)) (filter test (numbered (first + 1) es)) ≡ r ∷ rs → IsLoggable r.entry
first_kept true test first e es r rs is more h =
    let same : (let x : HeldEntry = record { ordinal = first; entry = e } in x) ≡ r = cc in
    subst (λ (x : HeldEntry). IsLoggable x.entry) same is
first_kept false test first e es r rs is more h = more h

no_record : (r : HeldEntry) (rs : List HeldEntry) → (let none : List HeldEntry = [] in none) ≡ r ∷ rs → ⊥
no_record r rs e = cc

first_held : (test : HeldEntry → Bool) (first : ℕ) (es : List Entry) (r : HeldEntry) (rs : List HeldEntry) → All IsLoggable es → filter test (numbered first es) ≡ r ∷ rs → IsLoggable r.entry
first_held test first [] r rs are h = absurd (no_record r rs h)
first_held test first (e ∷ es) r rs are h =
    first_kept (test (record { ordinal = first; entry = e })) test first e es r rs (All-head IsLoggable e es are) (first_held test (first + 1) es r rs (All-tail IsLoggable e es are)) h

few_kept : (test : HeldEntry → Bool) (first : ℕ) (es : List Entry) → length (filter test (numbered first es)) ≤ length es
few_kept test first [] = omega arith
few_kept test first (e ∷ es) = at (test (record { ordinal = first; entry = e })) (few_kept test (first + 1) es)
  where
    at : (b : Bool) → length (filter test (numbered (first + 1) es)) ≤ length es
        → length (cond b ((let x : HeldEntry = record { ordinal = first; entry = e } in x) ∷ filter test (numbered (first + 1) es)) (filter test (numbered (first + 1) es))) ≤ suc (length es)
    at true le = omega (arith, le)
    at false le = omega (arith, le)

few_taken : (n : ℕ) (rs : List HeldEntry) → length (take n rs) ≤ length rs
few_taken zero rs = omega arith
few_taken (suc n) [] = omega arith
few_taken (suc n) (r ∷ rs) = omega (arith, few_taken n rs)

-- ---- sizes

optional_most : (o : Option ℕ) → optional_size o ≤ 5
optional_most None = omega arith
optional_most (Some n) = omega (arith, number_size_small n)

one_length : (extent : Extent) (r : HeldEntry) → IsLoggable r.entry → reply_length extent (r ∷ []) ≤ 44
one_length extent r is =
    let shown : Option ℕ = if shows_number extent then Some (sequence_number r.ordinal) else None in
    let size = length-ack_length shown (r.entry ∷ []) (shown_small (shows_number extent) (sequence_number r.ordinal) (omega arith)) (omega arith) in
    let most : length (entry_octets r.entry) ≤ 22 = (entry_sized r.entry is).most_of in
    omega (arith, size, most, optional_most shown)

none_length : (extent : Extent) → reply_length extent [] ≤ 44
none_length extent = omega (arith, length-ack_length None [] tt (omega arith))

taken_some : (extent : Extent) (g : ℕ) (r : HeldEntry) (more : List HeldEntry) → 0 < g → (is_empty (take g (r ∷ more)) ≡ false) × IsSmall (first_shown extent (take g (r ∷ more)))
taken_some extent zero r more p = absurd (omega (arith, p))
taken_some extent (suc k) r more p = (refl, shown_small (shows_number extent) (sequence_number r.ordinal) (omega arith))

abbrev Fits : Extent → ℕ → List HeldEntry → Type 0
Fits extent limit all = ((not (is_empty all) && is_empty (packed extent limit all)) ≡ false) × (reply_length extent (packed extent limit all) ≤ limit) × IsSmall (first_shown extent (packed extent limit all))

some_fits : (extent : Extent) (limit : ℕ) (all : List HeldEntry) → 44 ≤ limit → ((r : HeldEntry) (rs : List HeldEntry) → all ≡ r ∷ rs → IsLoggable r.entry) → Fits extent limit all
some_fits extent limit [] ge first = (refl, omega (arith, ge, none_length extent), tt)
some_fits extent limit (r ∷ more) ge first =
    let held_ = first r more refl in
    let passes : ℕ → Bool = λ n. nat_le (reply_length extent (take n (r ∷ more))) limit in
    let one : passes 1 ≡ true = le-leb (reply_length extent (r ∷ [])) limit (omega (arith, ge, one_length extent r held_)) in
    let some : 0 < greatest passes (suc (length more)) = greatest_some passes (length more) one in
    let taken = taken_some extent (greatest passes (suc (length more))) r more some in
    (taken.0, leb-true _ limit (greatest_passes passes (suc (length more)) some), taken.1)

ack_fits : (limit invoke : ℕ) (object : Id) (flags : ℕ) (first : Option ℕ) (entries : List Entry) → IsSmall first → length entries < 2 ^ 32 → ack_length first entries ≤ limit
    → limited limit invoke (Complex false invoke 26 (ack_parameters object flags first entries)) ≡ Complex false invoke 26 (ack_parameters object flags first entries)
unfolding ack_apdu
ack_fits limit invoke object flags first entries small few le =
    let size = same_octets invoke object flags first entries small few in
    rw (le-ltb limit (length (apdu_octets (Complex false invoke 26 (ack_parameters object flags first entries)))) (omega (arith, size, le))) refl

pub records_fit : (limit invoke : ℕ) (object : Id) (extent : Extent) (log : Log) → IsLog log → 44 ≤ limit → records_said limit invoke object extent log ≡ records_ack limit invoke object extent log
records_fit limit invoke object extent log is ge =
    let test : HeldEntry → Bool = λ r. is_asked log extent r.ordinal in
    let all : List HeldEntry = selected log extent in
    let rs : List HeldEntry = packed extent limit all in
    let fits = some_fits extent limit all ge (λ r more h. first_held test (oldest log) log.entries r more is.loggable h) in
    let few : length (entries_in rs) < 2 ^ 32 = omega (arith, length-entries_in rs, few_taken (greatest (λ n. nat_le (reply_length extent (take n all)) limit) (length all)) all, few_kept test (oldest log) log.entries, is.within, is.capacity.1) in
    rw fits.0 (ack_fits limit invoke object (answer_of log extent limit).flags (first_shown extent rs) (entries_in rs) fits.2 few fits.1)
