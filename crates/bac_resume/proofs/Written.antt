-- The texts of dates and times.
use Rattle.std.proofs.Common.{arith, ◌≡◌, ℕ, ◌+◌, ◌<◌, ◌==◌, nat_lt, false, List, [], ◌∷◌, ◌++◌, decimal, refl, sym, ap, ◌∙◌}
use Rattle.std.specs.Str.{IsAscii, IsUtf8, bytes_eq}
use Rattle.std.proofs.lemmas.Bool.{both_ways, cond_both}
use Rattle.std.proofs.lemmas.Fmt.{IsAscii-decimal}
use Rattle.std.proofs.lemmas.Slice.Eq.{bytes_eq-Decides}
use Rattle.std.proofs.lemmas.Str.{IsAscii-append, IsUtf8-from_ascii}
use Rattle.std.proofs.lemmas.Str.Ascii.{IsAscii-cons, IsAscii-nil}
use Rattle.bac_print.specs.Moments.{day_text, part_text, time_text, year_text}
use Rattle.bac_print.specs.Numbers.{two_digits}
use Rattle.bac_wire.specs.Stamp.{date_octets, time_octets}
use Rattle.bac_wire.specs.declared.stamp.Date4.{Date4}
use Rattle.bac_wire.specs.declared.stamp.Time4.{Time4}
use Rattle.bac_poll.specs.Stamps.{IsDate4, IsTime4, stamp_text}
use Rattle.bac_known.specs.declared.date_time.DateTime.{DateTime}
use Rattle.bac_resume.specs.Texts.{IsNoStamp, IsRead}

-- a text has no weekday
pub day_same : (d : Date4) (t : Time4) → stamp_text d t ≡ stamp_text (record d { weekday = 255 }) t
unfolding day_text
day_same d t = refl

two_ascii : (n : ℕ) → n < 256 → IsAscii (two_digits n)
two_ascii n few =
    cond_both (nat_lt n 10) (48 ∷ decimal n) (decimal n) IsAscii (λ _. IsAscii-cons 48 (decimal n) (omega arith) (IsAscii-decimal n (omega (arith, few))))
    (λ _. IsAscii-decimal n (omega (arith, few)))

part_ascii : (n : ℕ) → n < 256 → IsAscii (part_text n)
part_ascii n few = cond_both (n == 255) (42 ∷ []) (two_digits n) IsAscii (λ _. IsAscii-cons 42 [] (omega arith) IsAscii-nil) (λ _. two_ascii n few)

year_ascii : (n : ℕ) → n < 256 → IsAscii (year_text n)
year_ascii n few =
    cond_both (n == 255) (42 ∷ []) (decimal (1900 + n)) IsAscii (λ _. IsAscii-cons 42 [] (omega arith) IsAscii-nil) (λ _. IsAscii-decimal (1900 + n) (omega (arith, few)))

-- parts on both sides of an octet
between : (xs ys : List ℕ) (c : ℕ) → c < 128 → IsAscii xs → IsAscii ys → IsAscii (xs ++ (c ∷ ys))
between xs ys c few left right = IsAscii-append xs (c ∷ ys) left (IsAscii-cons c ys few right)

day_ascii : (d : Date4) → IsDate4 d → IsAscii (day_text (date_octets d))
unfolding day_text
day_ascii d is =
    between (year_text d.year) (part_text d.month ++ (45 ∷ part_text d.day)) 45 (omega arith) (year_ascii d.year is.0)
    (between (part_text d.month) (part_text d.day) 45 (omega arith) (part_ascii d.month is.1) (part_ascii d.day is.2))

time_ascii : (t : Time4) → IsTime4 t → IsAscii (time_text (time_octets t))
unfolding time_text
time_ascii t is =
    between (part_text t.hour) (part_text t.minute ++ (58 ∷ (part_text t.second ++ (46 ∷ part_text t.hundredth)))) 58 (omega arith) (part_ascii t.hour is.0)
    (between (part_text t.minute) (part_text t.second ++ (46 ∷ part_text t.hundredth)) 58 (omega arith) (part_ascii t.minute is.1)
    (between (part_text t.second) (part_text t.hundredth) 46 (omega arith) (part_ascii t.second is.2) (part_ascii t.hundredth is.3)))

pub stamp_utf8 : (d : Date4) (t : Time4) → IsDate4 d → IsTime4 t → IsUtf8 (stamp_text d t)
stamp_utf8 d t date time =
    IsUtf8-from_ascii (stamp_text d t) (between (day_text (date_octets d)) (time_text (time_octets t)) 84 (omega arith) (day_ascii d date) (time_ascii t time))

-- what is read of a text isn't written so: none is
pub no_stamp : (text : List ℕ) (at : DateTime) → IsRead text at → bytes_eq (stamp_text at.date at.time) text ≡ false → IsNoStamp text
no_stamp text at read other date time d t is =
    let same : stamp_text at.date at.time ≡ text = ap (λ (x : DateTime). stamp_text x.date x.time) (read date time d t is) ∙ sym (day_same date time) ∙ sym is in
    both_ways (bytes_eq (stamp_text at.date at.time) text) other ((bytes_eq-Decides (stamp_text at.date at.time) text).1 same)
