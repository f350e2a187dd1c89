-- Texts of dates and times that are read back.
use Rattle.std.proofs.Common.{arith, ◌≡◌, ◌≢◌, ℕ, zero, suc, ◌+◌, ◌<◌, ◌==◌, nat_lt, Bool, true, false, if◌then◌else◌, Option, Some, Result, Ok, Err, List, [], ◌∷◌, ◌++◌, length, get_or, decimal, inl, inr, Bor, refl, sym, ap, subst, ◌∙◌}
use Rattle.std.specs.Char.{digit_value}
use Rattle.std.specs.Option.{MatchOption}
use Rattle.std.specs.Result.{OkIff}
use Rattle.std.specs.Str.{bytes_eq}
use Rattle.std.specs.Str.Parse.{AllDigits, ParsesUnsigned}
use Rattle.std.proofs.lemmas.Bool.{eqb-true}
use Rattle.std.proofs.lemmas.Fmt.{decimal_is_IsNumeral, parse-decimal}
use Rattle.std.proofs.lemmas.Slice.Eq.{bytes_eq-Decides}
use Rattle.std.proofs.lemmas.Str.Pattern.{IsSplitOnceResult, split_after}
use Rattle.bac_print.specs.Moments.{day_text, part_text, time_text, year_text}
use Rattle.bac_print.specs.Numbers.{two_digits}
use Rattle.bac_wire.specs.Stamp.{date_octets, time_octets}
use Rattle.bac_wire.specs.declared.stamp.Date4.{Date4}
use Rattle.bac_wire.specs.declared.stamp.Time4.{Time4}
use Rattle.bac_known.specs.Stamps.{IsDate4, IsSeparator}

-- by a test
split : (P : List ℕ → Type 0) (b : Bool) (x y : List ℕ) → (b ≡ true → P x) → (b ≡ false → P y) → P (if b then x else y)
split P true x y one other = one refl
split P false x y one other = other refl

-- no octet of a text is this one
abbrev Lacks : ℕ → List ℕ → Type 0
Lacks c xs = (i : ℕ) → i < length xs → get_or xs i 0 ≢ c

digits_lack : (c : ℕ) (ds : List ℕ) → (digit_value c < 10 → ⊥) → AllDigits 10 ds → Lacks c ds
digits_lack c [] none all i below e = absurd (omega (arith, below))
digits_lack c (d ∷ ds) none all zero below e = none (subst (λ (x : ℕ). digit_value x < 10) e all.0)
digits_lack c (d ∷ ds) none all (suc i) below e = digits_lack c ds none all.1 i (omega (arith, below)) e

star_lacks : (c : ℕ) → c ≢ 42 → Lacks c (42 ∷ [])
star_lacks c other zero below e = other (sym e)
star_lacks c other (suc i) below e = absurd (omega (arith, below))

decimal_digits : (n : ℕ) → n < 65536 → AllDigits 10 (decimal n)
decimal_digits n few = (decimal_is_IsNumeral n (omega (arith, few))).0.1

two_digits_all : (n : ℕ) → n < 256 → AllDigits 10 (two_digits n)
two_digits_all n few =
    split (AllDigits 10) (nat_lt n 10) (48 ∷ decimal n) (decimal n) (λ is. (omega arith, decimal_digits n (omega (arith, few)))) (λ is. decimal_digits n (omega (arith, few)))

-- a separator is no digit, no star, and one octet
by_separator : (c : ℕ) (P : ℕ → Type 0) → IsSeparator c → P 45 → P 84 → P 58 → P 46 → P c
by_separator c P (inl is) dash letter colon point = subst P (sym is) dash
by_separator c P (inr (inl is)) dash letter colon point = subst P (sym is) letter
by_separator c P (inr (inr (inl is))) dash letter colon point = subst P (sym is) colon
by_separator c P (inr (inr (inr is))) dash letter colon point = subst P (sym is) point

no_digit : (c : ℕ) → IsSeparator c → digit_value c < 10 → ⊥
no_digit c sep = by_separator c (λ x. digit_value x < 10 → ⊥) sep (λ b. omega (arith, b)) (λ b. omega (arith, b)) (λ b. omega (arith, b)) (λ b. omega (arith, b))

no_star : (c : ℕ) → IsSeparator c → c ≢ 42
no_star c sep = by_separator c (λ x. x ≢ 42) sep (λ b. omega (arith, b)) (λ b. omega (arith, b)) (λ b. omega (arith, b)) (λ b. omega (arith, b))

low : (c : ℕ) → IsSeparator c → c < 128
low c sep = by_separator c (λ x. x < 128) sep (omega arith) (omega arith) (omega arith) (omega arith)

-- a part has no separator in it
part_lacks : (c n : ℕ) → IsSeparator c → n < 256 → Lacks c (part_text n)
part_lacks c n sep few =
    split (Lacks c) (n == 255) (42 ∷ []) (two_digits n) (λ is. star_lacks c (no_star c sep)) (λ is. digits_lack c (two_digits n) (no_digit c sep) (two_digits_all n few))

year_lacks : (c n : ℕ) → IsSeparator c → n < 256 → Lacks c (year_text n)
year_lacks c n sep few =
    split (Lacks c) (n == 255) (42 ∷ []) (decimal (1900 + n)) (λ is. star_lacks c (no_star c sep)) (λ is. digits_lack c (decimal (1900 + n)) (no_digit c sep) (decimal_digits (1900 + n) (omega (arith, few))))

joined_lack : (c d : ℕ) (xs ys : List ℕ) → Lacks c xs → d ≢ c → Lacks c ys → Lacks c (xs ++ (d ∷ ys))
joined_lack c d [] ys front other behind zero below e = other e
joined_lack c d [] ys front other behind (suc i) below e = behind i (omega (arith, below)) e
joined_lack c d (x ∷ xs) ys front other behind zero below e = front 0 (omega arith) e
joined_lack c d (x ∷ xs) ys front other behind (suc i) below e =
    joined_lack c d xs ys (λ j less. front (suc j) (omega (arith, less))) other behind i (omega (arith, below)) e

-- a date has no T in it
day_lacks : (d : Date4) → IsDate4 d → Lacks 84 (day_text (date_octets d))
unfolding day_text
day_lacks d is =
    joined_lack 84 45 (year_text d.year) (part_text d.month ++ (45 ∷ part_text d.day)) (year_lacks 84 d.year (inr (inl refl)) is.0) (λ e. omega (arith, e))
    (joined_lack 84 45 (part_text d.month) (part_text d.day) (part_lacks 84 d.month (inr (inl refl)) is.1) (λ e. omega (arith, e)) (part_lacks 84 d.day (inr (inl refl)) is.2))

pub date_split : (d : Date4) (text rest : List ℕ) (r : Option (Bor (List ℕ) × Bor (List ℕ))) → IsSplitOnceResult 84 text r → IsDate4 d →
    text ≡ day_text (date_octets d) ++ (84 ∷ rest) → MatchOption r ⊥ (λ x. (x.0.now ≡ day_text (date_octets d)) × (x.1.now ≡ rest))
date_split d text rest r splits date is = split_after 84 text (day_text (date_octets d)) rest r splits (omega arith) is (day_lacks d date)

-- a date begins with its year, a time with its hour
pub day_is : (d : Date4) → day_text (date_octets d) ≡ year_text d.year ++ (45 ∷ (part_text d.month ++ (45 ∷ part_text d.day)))
unfolding day_text
day_is d = refl

pub time_is : (t : Time4) → time_text (time_octets t) ≡ part_text t.hour ++ (58 ∷ (part_text t.minute ++ (58 ∷ (part_text t.second ++ (46 ∷ part_text t.hundredth)))))
unfolding time_text
time_is t = refl

-- what lies before the first separator, and behind it
pub part_split : (c n : ℕ) (text rest : List ℕ) (r : Option (Bor (List ℕ) × Bor (List ℕ))) → IsSplitOnceResult c text r → IsSeparator c → n < 256 →
    text ≡ part_text n ++ (c ∷ rest) → MatchOption r ⊥ (λ x. (x.0.now ≡ part_text n) × (x.1.now ≡ rest))
part_split c n text rest r splits sep few is = split_after c text (part_text n) rest r splits (low c sep) is (part_lacks c n sep few)

pub year_split : (c n : ℕ) (text rest : List ℕ) (r : Option (Bor (List ℕ) × Bor (List ℕ))) → IsSplitOnceResult c text r → IsSeparator c → n < 256 →
    text ≡ year_text n ++ (c ∷ rest) → MatchOption r ⊥ (λ x. (x.0.now ≡ year_text n) × (x.1.now ≡ rest))
year_split c n text rest r splits sep few is = split_after c text (year_text n) rest r splits (low c sep) is (year_lacks c n sep few)

-- digits are no star
digits_star : (ds : List ℕ) → AllDigits 10 ds → ds ≡ 42 ∷ [] → ⊥
digits_star ds all is = let b : AllDigits 10 (42 ∷ []) = subst (AllDigits 10) is all in omega (arith, b.0)

-- a star says that the part is unspecified
pub part_star : (n : ℕ) → n < 256 → part_text n ≡ 42 ∷ [] → n ≡ 255
part_star n few =
    split (λ l. l ≡ 42 ∷ [] → n ≡ 255) (n == 255) (42 ∷ []) (two_digits n) (λ is same. eqb-true n 255 is) (λ is same. absurd (digits_star (two_digits n) (two_digits_all n few) same))

pub year_star : (n : ℕ) → n < 256 → year_text n ≡ 42 ∷ [] → n ≡ 255
year_star n few =
    split (λ l. l ≡ 42 ∷ [] → n ≡ 255) (n == 255) (42 ∷ []) (decimal (1900 + n)) (λ is same. eqb-true n 255 is) (λ is same. absurd (digits_star (decimal (1900 + n)) (decimal_digits (1900 + n) (omega (arith, few))) same))

parsed : {E : Type 0} (r : Result ℕ E) (P : Type 0) (v : ℕ) → OkIff r P v → P → r ≡ Ok v
parsed (Ok x) P v is holds = ap (λ (m : ℕ). Ok m) is.1
parsed (Err e) P v is holds = absurd (is holds)

digits_parsed : {E : Type 0} (n : ℕ) (r : Result ℕ E) → n < 256 → ParsesUnsigned 8 10 (two_digits n) r → r ≡ Ok n
digits_parsed n r few =
    split (λ l. ParsesUnsigned 8 10 l r → r ≡ Ok n) (nat_lt n 10) (48 ∷ decimal n) (decimal n)
    (λ is reads. let d = decimal_is_IsNumeral n (omega (arith, few)) in
    parsed r _ _ reads ((omega arith, (omega arith, d.0.1)), omega (arith, d.1, few)) ∙ ap (λ (m : ℕ). Ok m) d.1)
    (λ is reads. parse-decimal 8 n (decimal n) r few (omega (arith, few)) refl reads)

-- any other part is read as a number, and a star isn't
pub part_parsed : {E : Type 0} (n : ℕ) (r : Result ℕ E) → n < 256 → part_text n ≢ 42 ∷ [] → ParsesUnsigned 8 10 (part_text n) r → r ≡ Ok n
part_parsed n r few =
    split (λ l. l ≢ 42 ∷ [] → ParsesUnsigned 8 10 l r → r ≡ Ok n) (n == 255) (42 ∷ []) (two_digits n) (λ is other. absurd (other refl)) (λ is other. digits_parsed n r few)

pub year_parsed : {E : Type 0} (n : ℕ) (r : Result ℕ E) → n < 256 → year_text n ≢ 42 ∷ [] → ParsesUnsigned 16 10 (year_text n) r → (r ≡ Ok (1900 + n)) × (n < 255)
year_parsed n r few =
    split (λ l. l ≢ 42 ∷ [] → ParsesUnsigned 16 10 l r → (r ≡ Ok (1900 + n)) × (n < 255)) (n == 255) (42 ∷ []) (decimal (1900 + n)) (λ is other. absurd (other refl))
    (λ is other reads. (parse-decimal 16 (1900 + n) (decimal (1900 + n)) r (omega (arith, few)) (omega (arith, few)) refl reads, below n few is))
  where
    below : (n : ℕ) → n < 256 → (n == 255) ≡ false → n < 255
    below n few other = grind (arith, few, other)

pub year_value : {E : Type 0} (r : Result ℕ E) (year n : ℕ) → r ≡ Ok year → r ≡ Ok (1900 + n) → year ≡ 1900 + n
year_value (Ok x) year n is reads = cc
year_value (Err e) year n is reads = absurd cc

-- a text that isn't this one
pub differ : (xs ys : List ℕ) (b : Bool) → b ≡ bytes_eq xs ys → b ≡ false → xs ≢ ys
differ xs ys b tells other same = let one : bytes_eq xs ys ≡ true = (bytes_eq-Decides xs ys).1 same in absurd cc

pub same_time : (hour minute second hundredth : ℕ) (t : Time4) → hour ≡ t.hour → minute ≡ t.minute → second ≡ t.second → Some hundredth ≡ Some t.hundredth →
    Some (record { hour = hour; minute = minute; second = second; hundredth = hundredth }) ≡ Some t
same_time hour minute second hundredth t h m s d =
    let e : hundredth ≡ t.hundredth = cc in
    λ i. Some (record { hour = h i; minute = m i; second = s i; hundredth = e i })
