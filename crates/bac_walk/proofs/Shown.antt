-- Numbers and entries of ordinals.
use Rattle.std.proofs.Common.{◌≡◌, ℕ, zero, suc, Bool, true, false, ◌+◌, ◌-◌, ◌≤◌, ◌<◌, nat_le, Some, List, [], ◌∷◌, ◌++◌, length, slice_get, drop, refl, sym, ap, subst, ◌∙◌, arith}
use Rattle.std.proofs.lemmas.Bool.{leb-true, leb-false, lt-ltb, le-ltb, le-leb, and_parts}
use Rattle.std.proofs.lemmas.List.{take-append-drop}
use Rattle.bac_log.specs.declared.entry.Entry.{Entry}
use Rattle.bac_log.specs.TrendLog.{sequence_number}
use Rattle.bac_link.specs.Delivery.{History, Moment, AreHeld}
use Rattle.bac_link.specs.Laws.{CoversEach}
use Rattle.bac_link.specs.Moments.{entries_from}
use Rattle.bac_link.specs.Ordinals.{is_number, distance, number_after, is_ahead}
use Rattle.bac_walk.specs.Walks.{shown_from, logged_from}
use Rattle.bac_link.specs.declared.item.Item.TheVariants.{Logged}

-- ---- numbers round the count

pub number-is : (k : ℕ) → is_number (sequence_number k) ≡ true
number-is k = rw (le-leb 1 (sequence_number k) (omega arith), le-leb (sequence_number k) 4294967295 (omega arith)) refl

pub distance-number : (s b : ℕ) → s ≤ b → b < s + 4294967295 → distance (sequence_number s) (sequence_number b) ≡ b - s
distance-number s b le near = omega arith

pub distance-behind : (s b : ℕ) → b < s → s < b + 2147483648 → 2147483648 ≤ distance (sequence_number s) (sequence_number b)
distance-behind s b lt near = omega arith

-- whatever the numbers are
pub number-distance : (next first s : ℕ) → is_number first ≡ true → next ≡ sequence_number s → first ≡ sequence_number (s + distance next first)
number-distance next first s is here =
    let both = and_parts (nat_le 1 first) (nat_le first 4294967295) is in
    let low : 1 ≤ first = leb-true 1 first both.0 in
    let high : first ≤ 4294967295 = leb-true first 4294967295 both.1 in
    omega (arith, here, low, high)

pub after-number : (k c : ℕ) → number_after (sequence_number k) c ≡ sequence_number (k + c)
after-number k c = omega arith

ahead-by : (s f : ℕ) (b : Bool) → nat_le s f ≡ b → s < f + 2147483648 → f < s + 2147483648 → is_ahead (sequence_number s) (sequence_number f) ≡ b
ahead-by s f true is above below = let le : s ≤ f = leb-true s f is in lt-ltb _ _ (omega (arith, distance-number s f le (omega arith)))
ahead-by s f false is above below = le-ltb _ _ (distance-behind s f (leb-false s f is) above)

pub ahead-number : (s f : ℕ) → s < f + 2147483648 → f < s + 2147483648 → is_ahead (sequence_number s) (sequence_number f) ≡ nat_le s f
ahead-number s f above below = ahead-by s f (nat_le s f) refl above below

pub shown_logged : (k : ℕ) (es : List Entry) → shown_from (sequence_number k) es ≡ logged_from k es
shown_logged k [] = refl
shown_logged k (e ∷ es) =
    ap (λ r. Logged (sequence_number k) e ∷ r) (ap (λ n. shown_from n es) (after-number k 1) ∙ shown_logged (k + 1) es)

-- ---- entries

-- the entries of a list that the history has from ordinal k on
get_at : (xs : List Entry) (i : ℕ) (e : Entry) (rest : List Entry) → drop i xs ≡ e ∷ rest →
    (slice_get xs i ≡ Some e) × (drop (suc i) xs ≡ rest)
get_at [] zero e rest h = absurd (cc)
get_at (x ∷ xs) zero e rest h = (cc, cc)
get_at [] (suc i) e rest h = absurd (cc)
get_at (x ∷ xs) (suc i) e rest h = get_at xs i e rest h

records_at : (H : History) (m : Moment) (es : List Entry) (k : ℕ) (rest : List Entry) →
    H.logged < k → m.oldest ≤ k → k + length es ≤ m.newest + 1 →
    drop (k - (H.logged + 1)) H.entries ≡ es ++ rest → AreHeld H m k (logged_from k es) (k + length es)
records_at H m [] k rest above oldest newest are = omega arith
records_at H m (e ∷ es) k rest above oldest newest are =
    let here = get_at H.entries (k - (H.logged + 1)) e (es ++ rest) are in
    let next : suc (k - (H.logged + 1)) ≡ (k + 1) - (H.logged + 1) = omega arith in
    let end : (k + 1) + length es ≡ k + suc (length es) = omega arith in
    let P : ℕ → Type 0 = λ n. drop n H.entries ≡ es ++ rest in
    let Q : ℕ → Type 0 = λ n. AreHeld H m (k + 1) (logged_from (k + 1) es) n in (
      refl,
      (oldest, omega arith),
      (above, here.0),
      subst Q end (records_at H m es (k + 1) rest (omega arith) (omega arith) (omega arith) (subst P next here.1)),
    )

pub records : (H : History) (m : Moment) (k c : ℕ) →
    H.logged < k → m.oldest ≤ k → k + length (entries_from H k c) ≤ m.newest + 1 →
    AreHeld H m k (logged_from k (entries_from H k c)) (k + length (entries_from H k c))
records H m k c above oldest newest =
    records_at H m (entries_from H k c) k (drop c (drop (k - (H.logged + 1)) H.entries)) above oldest newest
    (sym (take-append-drop c (drop (k - (H.logged + 1)) H.entries)))

pub length-logged_from : (k : ℕ) (es : List Entry) → length (logged_from k es) ≡ length es
length-logged_from k [] = refl
length-logged_from k (e ∷ es) = ap suc (length-logged_from (k + 1) es)

pub covers_logged : (k : ℕ) (es : List Entry) → CoversEach k (logged_from k es) (k + length es)
covers_logged k [] = omega arith
covers_logged k (e ∷ es) =
    let P : ℕ → Type 0 = λ n. CoversEach (k + 1) (logged_from (k + 1) es) n in
    let same : (k + 1) + length es ≡ k + suc (length es) = omega arith in
    (refl, subst P same (covers_logged (k + 1) es))
