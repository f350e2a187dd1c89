-- What a question by time from 1900 on brings: the oldest records held.
use Rattle.std.proofs.Common.{◌≡◌, ℕ, zero, suc, ◌+◌, ◌-◌, ◌<◌, pos, true, List, [], ◌∷◌, length, take, drop, Option, Some, refl, sym, ap, ◌∙◌, arith}
use Rattle.std.specs.Prelude.{All, find, option_map}
use Rattle.std.specs.Ordering.{nat_cmp, ordering_then, is_gt}
use Rattle.std.specs.declared.cmp.Ordering.{Ordering}
use Rattle.std.proofs.lemmas.Bool.{cond-true, le-ltb, ne_eqb}
use Rattle.bac_wire.specs.Stamp.{order_of}
use Rattle.bac_wire.specs.declared.stamp.Date4.{Date4}
use Rattle.bac_apdu.specs.declared.service.extent.Extent.{Extent}
use Rattle.bac_apdu.specs.declared.service.extent.Extent.TheVariants.{ByTime}
use Rattle.bac_log.specs.declared.entry.Entry.{Entry}
use Rattle.bac_log.specs.Entry.{IsLoggable}
use Rattle.bac_log.specs.Select.{HeldEntry, numbered, selected, is_asked, is_newer, first_newer, in_interval_at}
use Rattle.bac_log.specs.TrendLog.{Log, oldest}
use Rattle.bac_link.specs.Standard.{first_date, first_time}
use Rattle.bac_walk.specs.Replies.{IsShown}
use Rattle.bac_log.proofs.Runs.{filter_run}

abbrev pub from_oldest : (count : ℕ) → Extent
from_oldest count = ByTime first_date first_time (pos count)

year_decides : (y : ℕ) (rest : Ordering) → 0 < y → is_gt (ordering_then (nat_cmp y 0) rest) ≡ true
year_decides y rest p = rw (le-ltb y 0 (omega arith), ne_eqb y 0 (λ e. omega arith)) refl

is_later : (e : Entry) → IsLoggable e → is_gt (order_of e.date e.time first_date first_time) ≡ true
is_later e l =
    let year : e.date.year ≡ l.stamped.moment.year - 1900 = ap (λ (d : Date4). d.year) l.stamped.same_date in
    year_decides e.date.year _ (omega (arith, year, l.stamped.exists.from))

first_found : (first : ℕ) (es : List Entry) → 0 < length es → All IsLoggable es → option_map (λ (r : HeldEntry). r.ordinal) (find (is_newer first_date first_time) (numbered first es)) ≡ Some first
first_found first [] some l = absurd (omega arith)
first_found first (e ∷ es) some l =
    ap (λ (o : Option HeldEntry). option_map (λ (r : HeldEntry). r.ordinal) o) (cond-true (is_newer first_date first_time (record { ordinal = first; entry = e })) (Some (record { ordinal = first; entry = e })) (find (is_newer first_date first_time) (numbered (first + 1) es)) (is_later e (l 0 e (omega arith))))

take_none : (n : ℕ) → take {A = Entry} n [] ≡ []
take_none zero = refl
take_none (suc n) = refl

none_selected : (log : Log) (count : ℕ) → log.entries ≡ [] → selected log (from_oldest count) ≡ numbered (oldest log) (take count log.entries)
none_selected log count none = rw none (ap (numbered _) (sym (take_none count)))

pub selected-from_oldest : (log : Log) (count : ℕ) → IsShown log → 0 < length log.entries → selected log (from_oldest count) ≡ numbered (oldest log) (take count log.entries)
selected-from_oldest log count is some =
    let found : first_newer log first_date first_time ≡ Some (oldest log) = first_found (oldest log) log.entries some is.loggable in
    let whole : (oldest log + count) - oldest log ≡ count = omega arith in
    let front : oldest log - oldest log ≡ 0 = omega arith in
    filter_run (is_asked log (from_oldest count)) (oldest log) (oldest log + count) (oldest log) log.entries (omega arith) (λ k p q. ap (λ (o : Option ℕ). in_interval_at o (pos count) k) found)
    ∙ ap (λ n. numbered (oldest log) (take n (drop (oldest log - oldest log) log.entries))) whole
    ∙ ap (λ n. numbered (oldest log) (take count (drop n log.entries))) front
