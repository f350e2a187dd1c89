-- A log so many rounds of numbers further on gives the same replies.
use Rattle.std.proofs.Common.{◌≡◌, ℕ, zero, suc, ◌+◌, ◌-◌, Bool, pos, negsuc, ℤ, List, [], ◌∷◌, ◌++◌, take, length, reverse, Option, Some, None, refl, sym, ap, ◌∙◌, arith, inl, inr}
use Rattle.std.specs.Prelude.{◌==◌, ◌&&◌, ◌||◌, nat_le, nat_lt, filter, find, option_map, if◌then◌else◌}
use Rattle.std.proofs.lemmas.Bool.{cases_Bool, cond-true, cond-false}
use Rattle.std.proofs.lemmas.Bool.Decides.{nat_tests}
use Rattle.std.proofs.lemmas.List.{reverse-append}
use Rattle.bac_wire.specs.Primitive.{Id}
use Rattle.bac_wire.specs.declared.stamp.Date4.{Date4}
use Rattle.bac_wire.specs.declared.stamp.Time4.{Time4}
use Rattle.bac_apdu.specs.declared.service.extent.Extent.{Extent}
use Rattle.bac_apdu.specs.declared.service.extent.Extent.TheVariants as extent
use Rattle.bac_log.specs.Ack.{ack_length, ack_parameters}
use Rattle.bac_log.specs.declared.entry.Entry.{Entry}
use Rattle.bac_log.specs.Select.{HeldEntry, entries_in, first_shown, greatest, has_ordinal, held, in_interval, in_interval_at, in_interval_round, is_asked, is_newer, is_older, numbered, packed, reply_length, reply_of, result_flags, selected, shows_number, time_reference}
use Rattle.bac_log.specs.TrendLog.{Log, newest, sequence_number, oldest}
use Rattle.bac_link.specs.Links.{reply_parameters}
use Rattle.bac_memory_link.specs.Ahead.{turn}

-- the same log so many rounds further on
abbrev pub log_placed : ℕ → Log → Log
log_placed rounds log = record log { before = log.before + turn rounds }

abbrev shift : ℕ → HeldEntry → HeldEntry
shift rounds r = record { ordinal = r.ordinal + turn rounds; entry = r.entry }

abbrev shifted : ℕ → List HeldEntry → List HeldEntry
shifted rounds [] = []
shifted rounds (r ∷ rs) = shift rounds r ∷ shifted rounds rs

-- ---- numbers

pub number-placed : (rounds k : ℕ) → sequence_number (k + turn rounds) ≡ sequence_number k
number-placed zero k = ap sequence_number (let e : k + turn zero ≡ k = omega arith in e)
number-placed (suc n) k =
    let e : k + turn (suc n) ≡ (k + turn n) + 4294967295 = omega arith in
    ap sequence_number e ∙ once (k + turn n) ∙ number-placed n k
  where
    once : (j : ℕ) → sequence_number (j + 4294967295) ≡ sequence_number j
    once j = omega arith

-- ---- what is held

numbered-placed : (rounds first : ℕ) (es : List Entry) → numbered (first + turn rounds) es ≡ shifted rounds (numbered first es)
numbered-placed rounds first [] = refl
numbered-placed rounds first (e ∷ es) =
    let next : (first + turn rounds) + 1 ≡ (first + 1) + turn rounds = omega arith in
    ap (λ (rs : List HeldEntry). (let r : HeldEntry = record { ordinal = first + turn rounds; entry = e } in r) ∷ rs)
    (ap (λ n. numbered n es) next ∙ numbered-placed rounds (first + 1) es)

held-placed : (rounds : ℕ) (log : Log) → held (log_placed rounds log) ≡ shifted rounds (held log)
held-placed rounds log =
    let first : (log.before + turn rounds) + 1 ≡ (log.before + 1) + turn rounds = omega arith in
    ap (λ n. numbered n log.entries) first ∙ numbered-placed rounds (oldest log) log.entries

length-shifted : (rounds : ℕ) (rs : List HeldEntry) → length (shifted rounds rs) ≡ length rs
length-shifted rounds [] = refl
length-shifted rounds (r ∷ rs) = ap suc (length-shifted rounds rs)

entries-shifted : (rounds : ℕ) (rs : List HeldEntry) → entries_in (shifted rounds rs) ≡ entries_in rs
entries-shifted rounds [] = refl
entries-shifted rounds (r ∷ rs) = ap (λ (es : List Entry). r.entry ∷ es) (entries-shifted rounds rs)

take-shifted : (rounds n : ℕ) (rs : List HeldEntry) → take n (shifted rounds rs) ≡ shifted rounds (take n rs)
take-shifted rounds zero rs = refl
take-shifted rounds (suc n) [] = refl
take-shifted rounds (suc n) (r ∷ rs) = ap (λ (l : List HeldEntry). shift rounds r ∷ l) (take-shifted rounds n rs)

append-shifted : (rounds : ℕ) (xs ys : List HeldEntry) → shifted rounds (xs ++ ys) ≡ shifted rounds xs ++ shifted rounds ys
append-shifted rounds [] ys = refl
append-shifted rounds (x ∷ xs) ys = ap (λ (l : List HeldEntry). shift rounds x ∷ l) (append-shifted rounds xs ys)

reverse-shifted : (rounds : ℕ) (rs : List HeldEntry) → reverse (shifted rounds rs) ≡ shifted rounds (reverse rs)
reverse-shifted rounds [] = refl
reverse-shifted rounds (r ∷ rs) =
    reverse-append (shift rounds r ∷ []) (shifted rounds rs)
    ∙ ap (λ (l : List HeldEntry). l ++ shift rounds r ∷ []) (reverse-shifted rounds rs)
    ∙ sym (append-shifted rounds (reverse rs) (r ∷ []))
    ∙ ap (λ (l : List HeldEntry). shifted rounds l) (sym (reverse-append (r ∷ []) rs))

filter-shifted : (rounds : ℕ) (far near : HeldEntry → Bool) (rs : List HeldEntry) → ((r : HeldEntry) → far (shift rounds r) ≡ near r) →
    filter far (shifted rounds rs) ≡ shifted rounds (filter near rs)
filter-shifted rounds far near [] same = refl
filter-shifted rounds far near (r ∷ rs) same =
    let rest = filter-shifted rounds far near rs same in
    elim (cases_Bool (near r)) [
      | inl p ↦
          cond-true (far (shift rounds r)) (shift rounds r ∷ filter far (shifted rounds rs)) (filter far (shifted rounds rs)) (same r ∙ p)
          ∙ ap (λ (l : List HeldEntry). shift rounds r ∷ l) rest
          ∙ ap (λ (l : List HeldEntry). shifted rounds l) (sym (cond-true (near r) (r ∷ filter near rs) (filter near rs) p))
      | inr p ↦
          cond-false (far (shift rounds r)) (shift rounds r ∷ filter far (shifted rounds rs)) (filter far (shifted rounds rs)) (same r ∙ p)
          ∙ rest
          ∙ ap (λ (l : List HeldEntry). shifted rounds l) (sym (cond-false (near r) (r ∷ filter near rs) (filter near rs) p))
    ]

-- ---- by time

abbrev moved : ℕ → Option ℕ → Option ℕ
moved rounds None = None
moved rounds (Some k) = Some (k + turn rounds)

abbrev ordinal_in : Option HeldEntry → Option ℕ
ordinal_in o = option_map (λ (r : HeldEntry). r.ordinal) o

find-shifted : (rounds : ℕ) (test : HeldEntry → Bool) (rs : List HeldEntry) → ((r : HeldEntry) → test (shift rounds r) ≡ test r) →
    ordinal_in (find test (shifted rounds rs)) ≡ moved rounds (ordinal_in (find test rs))
find-shifted rounds test [] same = refl
find-shifted rounds test (r ∷ rs) same = elim (cases_Bool (test r)) [
  | inl p ↦
      ap ordinal_in (cond-true (test (shift rounds r)) (Some (shift rounds r)) (find test (shifted rounds rs)) (same r ∙ p))
      ∙ ap (λ (o : Option HeldEntry). moved rounds (ordinal_in o)) (sym (cond-true (test r) (Some r) (find test rs) p))
  | inr p ↦
      ap ordinal_in (cond-false (test (shift rounds r)) (Some (shift rounds r)) (find test (shifted rounds rs)) (same r ∙ p))
      ∙ find-shifted rounds test rs same
      ∙ ap (λ (o : Option HeldEntry). moved rounds (ordinal_in o)) (sym (cond-false (test r) (Some r) (find test rs) p))
]

reference-placed : (rounds : ℕ) (log : Log) (date : Date4) (time : Time4) (count : ℤ) →
    time_reference (log_placed rounds log) date time count ≡ moved rounds (time_reference log date time count)
reference-placed rounds log date time (pos n) =
    ap (λ (l : List HeldEntry). ordinal_in (find (is_newer date time) l)) (held-placed rounds log)
    ∙ find-shifted rounds (is_newer date time) (held log) (λ r. refl)
reference-placed rounds log date time (negsuc n) =
    ap (λ (l : List HeldEntry). ordinal_in (find (is_older date time) (reverse l))) (held-placed rounds log)
    ∙ ap (λ (l : List HeldEntry). ordinal_in (find (is_older date time) l)) (reverse-shifted rounds (held log))
    ∙ find-shifted rounds (is_older date time) (reverse (held log)) (λ r. refl)

interval-placed : (t reference : ℕ) (count : ℤ) (k : ℕ) → in_interval (reference + t) count (k + t) ≡ in_interval reference count k
interval-placed t reference (pos count) k = up t reference count k
  where
    up : (t a c k : ℕ) → (nat_le (a + t) (k + t) && nat_lt (k + t) ((a + t) + c)) ≡ (nat_le a k && nat_lt k (a + c))
    up t a c k = grind (arith, nat_tests)
interval-placed t reference (negsuc less) k = down t reference less k
  where
    down : (t a c k : ℕ) → (nat_le (k + t) (a + t) && nat_le (a + t) ((k + t) + c)) ≡ (nat_le k a && nat_le a (k + c))
    down t a c k = grind (arith, nat_tests)

interval-moved : (rounds : ℕ) (o : Option ℕ) (count : ℤ) (k : ℕ) → in_interval_at (moved rounds o) count (k + turn rounds) ≡ in_interval_at o count k
interval-moved rounds None count k = refl
interval-moved rounds (Some reference) count k = interval-placed (turn rounds) reference count k

-- ---- what is selected

asked-placed : (rounds : ℕ) (log : Log) (e : Extent) (k : ℕ) → is_asked (log_placed rounds log) e (k + turn rounds) ≡ is_asked log e k
asked-placed rounds log extent.All k = refl
asked-placed rounds log (extent.ByPosition reference count) k =
    let place : (k + turn rounds) - (log.before + turn rounds) ≡ k - log.before = omega arith in
    ap (λ n. in_interval reference count n) place
asked-placed rounds log (extent.ByNumber reference count) k = ap (λ n. in_interval_round reference count n) (number-placed rounds k)
asked-placed rounds log (extent.ByTime date time count) k =
    ap (λ (o : Option ℕ). in_interval_at o count (k + turn rounds)) (reference-placed rounds log date time count)
    ∙ interval-moved rounds (time_reference log date time count) count k

selected-placed : (rounds : ℕ) (log : Log) (e : Extent) → selected (log_placed rounds log) e ≡ shifted rounds (selected log e)
selected-placed rounds log e =
    ap (λ (l : List HeldEntry). filter (λ (r : HeldEntry). is_asked (log_placed rounds log) e r.ordinal) l) (held-placed rounds log)
    ∙ filter-shifted rounds (λ (r : HeldEntry). is_asked (log_placed rounds log) e r.ordinal) (λ (r : HeldEntry). is_asked log e r.ordinal) (held log)
    (λ r. asked-placed rounds log e r.ordinal)

-- ---- what fits

first-shifted : (rounds : ℕ) (e : Extent) (rs : List HeldEntry) → first_shown e (shifted rounds rs) ≡ first_shown e rs
first-shifted rounds e [] = refl
first-shifted rounds e (r ∷ rs) = ap (λ n. if shows_number e then Some n else None) (number-placed rounds r.ordinal)

reply_length-shifted : (rounds : ℕ) (e : Extent) (rs : List HeldEntry) → reply_length e (shifted rounds rs) ≡ reply_length e rs
reply_length-shifted rounds e rs =
    ap (λ (o : Option ℕ). ack_length o (entries_in (shifted rounds rs))) (first-shifted rounds e rs)
    ∙ ap (λ (es : List Entry). ack_length (first_shown e rs) es) (entries-shifted rounds rs)

greatest_same : (p q : ℕ → Bool) (most : ℕ) → ((k : ℕ) → p k ≡ q k) → greatest p most ≡ greatest q most
greatest_same p q zero same = refl
greatest_same p q (suc n) same =
    ap (λ (b : Bool). if b then suc n else greatest p n) (same (suc n))
    ∙ ap (λ (g : ℕ). if q (suc n) then suc n else g) (greatest_same p q n same)

packed-shifted : (rounds : ℕ) (e : Extent) (limit : ℕ) (rs : List HeldEntry) → packed e limit (shifted rounds rs) ≡ shifted rounds (packed e limit rs)
packed-shifted rounds e limit rs =
    let far : ℕ → Bool = λ n. nat_le (reply_length e (take n (shifted rounds rs))) limit in
    let near : ℕ → Bool = λ n. nat_le (reply_length e (take n rs)) limit in
    let count : greatest far (length (shifted rounds rs)) ≡ greatest near (length rs) =
    ap (λ n. greatest far n) (length-shifted rounds rs)
    ∙ greatest_same far near (length rs) (λ k. ap (λ n. nat_le n limit) (ap (λ (l : List HeldEntry). reply_length e l) (take-shifted rounds k rs) ∙ reply_length-shifted rounds e (take k rs))) in
    ap (λ n. take n (shifted rounds rs)) count ∙ take-shifted rounds (greatest near (length rs)) rs

-- ---- what is shown

has-shifted : (rounds k : ℕ) (rs : List HeldEntry) → has_ordinal (k + turn rounds) (shifted rounds rs) ≡ has_ordinal k rs
has-shifted rounds k [] = refl
has-shifted rounds k (r ∷ rs) =
    ap (λ b. b || has_ordinal (k + turn rounds) (shifted rounds rs)) (same (turn rounds) r.ordinal k)
    ∙ ap (λ b. (r.ordinal == k) || b) (has-shifted rounds k rs)
  where
    same : (t a b : ℕ) → (a + t == b + t) ≡ (a == b)
    same t a b = grind (arith, nat_tests)

flags-shifted : (rounds : ℕ) (log : Log) (e : Extent) (all rs : List HeldEntry) →
    (reply_of (log_placed rounds log) e (shifted rounds all) (shifted rounds rs)).flags ≡ (reply_of log e all rs).flags
flags-shifted rounds log e all [] = refl
flags-shifted rounds log e all (r ∷ rs) =
    let low : (log.before + turn rounds) + 1 ≡ oldest log + turn rounds = omega arith in
    let high : (log.before + turn rounds) + length log.entries ≡ newest log + turn rounds = omega arith in
    let more : nat_lt (length (shifted rounds (r ∷ rs))) (length (shifted rounds all)) ≡ nat_lt (length (r ∷ rs)) (length all) =
    ap (λ n. nat_lt n (length (shifted rounds all))) (length-shifted rounds (r ∷ rs)) ∙ ap (λ n. nat_lt (length (r ∷ rs)) n) (length-shifted rounds all) in
    let first : has_ordinal ((log.before + turn rounds) + 1) (shifted rounds (r ∷ rs)) ≡ has_ordinal (oldest log) (r ∷ rs) =
    ap (λ n. has_ordinal n (shifted rounds (r ∷ rs))) low ∙ has-shifted rounds (oldest log) (r ∷ rs) in
    let last : has_ordinal ((log.before + turn rounds) + length log.entries) (shifted rounds (r ∷ rs)) ≡ has_ordinal (newest log) (r ∷ rs) =
    ap (λ n. has_ordinal n (shifted rounds (r ∷ rs))) high ∙ has-shifted rounds (newest log) (r ∷ rs) in
    ap (λ b. result_flags b (has_ordinal ((log.before + turn rounds) + length log.entries) (shifted rounds (r ∷ rs))) (nat_lt (length (shifted rounds (r ∷ rs))) (length (shifted rounds all)))) first
    ∙ ap (λ b. result_flags (has_ordinal (oldest log) (r ∷ rs)) b (nat_lt (length (shifted rounds (r ∷ rs))) (length (shifted rounds all)))) last
    ∙ ap (λ b. result_flags (has_ordinal (oldest log) (r ∷ rs)) (has_ordinal (newest log) (r ∷ rs)) b) more

-- ---- the reply

pub reply-placed : (id : Id) (rounds : ℕ) (log : Log) (e : Extent) (r : ℕ) → reply_parameters id (log_placed rounds log) e r ≡ reply_parameters id log e r
unfolding reply_parameters
reply-placed id rounds log e r =
    let S : List HeldEntry = selected log e in
    let P : List HeldEntry = packed e r S in
    let Reply : List HeldEntry → List HeldEntry → List ℕ = λ all rs. ack_parameters id (reply_of (log_placed rounds log) e all rs).flags (first_shown e rs) (entries_in rs) in
    ap (λ (l : List HeldEntry). Reply l (packed e r l)) (selected-placed rounds log e)
    ∙ ap (λ (l : List HeldEntry). Reply (shifted rounds S) l) (packed-shifted rounds e r S)
    ∙ ap (λ n. ack_parameters id n (first_shown e (shifted rounds P)) (entries_in (shifted rounds P))) (flags-shifted rounds log e S P)
    ∙ ap (λ (o : Option ℕ). ack_parameters id (reply_of log e S P).flags o (entries_in (shifted rounds P))) (first-shifted rounds e P)
    ∙ ap (λ (es : List Entry). ack_parameters id (reply_of log e S P).flags (first_shown e P) es) (entries-shifted rounds P)
