-- The numbers that are missing.
use Rattle.std.proofs.Common.{◌≡◌, ◌≢◌, ◌⊎◌, inl, inr, refl, sym, subst, ◌∙◌, ℕ, ◌+◌, ◌-◌, ◌<◌, ◌≤◌, List, [], ◌∷◌, ◌++◌, Option, None, Some, arith, nat_lt, Bool, true, false, if◌then◌else◌, append-nil}
use Rattle.std.proofs.lemmas.Bool.{cases_lt, ltb-false, ltb-true}
use Rattle.std.specs.List.{Contains}
use Rattle.std.proofs.lemmas.List.Elements.{Contains-append_left, Contains-append_right, Contains-append_cases, Contains-push, Contains-push_cases}
use Rattle.bac_check.specs.declared.tally.Hole.{Hole}
use Rattle.bac_check.specs.declared.tally.Span.{Span}
use Rattle.bac_check.specs.Holes.{AreHoles, Begins, Has, Have, HasOne, IsIn, IsMissing, NoneIsMissing, Rise, RiseApart, end_of, front_of, stretch}

-- ---- lists

pub in_none : {X : Type 0} (x : X) → Contains {X = X} [] x → ⊥
in_none x (k, lt, is) = omega (arith, lt)

in_one : {X : Type 0} (x y : X) → Contains (y ∷ []) x → y ≡ x
in_one {X = X} x y it = go (Contains-push_cases [] y x it)
  where
    go : Contains {X = X} [] x ⊎ (y ≡ x) → y ≡ x
    go (inl none_of) = absurd (in_none x none_of)
    go (inr is) = is

pub in_head : {X : Type 0} (x : X) (xs : List X) → Contains (x ∷ xs) x
in_head x xs = Contains-append_left (x ∷ []) xs x (Contains-push [] x)

pub in_tail : {X : Type 0} (x y : X) (xs : List X) → Contains xs x → Contains (y ∷ xs) x
in_tail x y xs it = Contains-append_right (y ∷ []) xs x it

pub in_cases : {X : Type 0} (x y : X) (xs : List X) → Contains (y ∷ xs) x → (y ≡ x) ⊎ Contains xs x
in_cases {X = X} x y xs it = go (Contains-append_cases (y ∷ []) xs x it)
  where
    go : Contains (y ∷ []) x ⊎ Contains xs x → (y ≡ x) ⊎ Contains xs x
    go (inl a) = inl (in_one x y a)
    go (inr b) = inr b

-- ---- a row more

pub have_old : (spans : List Span) (span : Span) (n : ℕ) → Have spans n → Have (spans ++ span ∷ []) n
have_old spans span n (s, there, has) = (s, Contains-append_left spans (span ∷ []) s there, has)

pub have_new : (spans : List Span) (span : Span) (n : ℕ) → Has span n → Have (spans ++ span ∷ []) n
have_new spans span n has = (span, Contains-push spans span, has)

pub have_cases : (spans : List Span) (span : Span) (n : ℕ) → Have (spans ++ span ∷ []) n → Have spans n ⊎ Has span n
have_cases spans span n (s, there, has) = go (Contains-push_cases spans span s there)
  where
    go : Contains spans s ⊎ (span ≡ s) → Have spans n ⊎ Has span n
    go (inl old) = inl (s, old, has)
    go (inr is) = inr (subst (λ t. Has t n) (sym is) has)

-- ---- stretches

is_in_old : (holes more : List Hole) (n : ℕ) → IsIn holes n → IsIn (holes ++ more) n
is_in_old holes more n (h, there, low, high) = (h, Contains-append_left holes more h there, low, high)

is_in_new : (holes more : List Hole) (n : ℕ) → IsIn more n → IsIn (holes ++ more) n
is_in_new holes more n (h, there, low, high) = (h, Contains-append_right holes more h there, low, high)

is_in_cases : (holes more : List Hole) (n : ℕ) → IsIn (holes ++ more) n → IsIn holes n ⊎ IsIn more n
is_in_cases holes more n (h, there, low, high) = go (Contains-append_cases holes more h there)
  where
    go : Contains holes h ⊎ Contains more h → IsIn holes n ⊎ IsIn more n
    go (inl a) = inl (h, a, low, high)
    go (inr b) = inr (h, b, low, high)

is_in_stretch : (from to n : ℕ) → from ≤ n → n < to → IsIn (stretch from to) n
is_in_stretch from to n le lt = go (nat_lt from to) refl
  where
    go : (b : Bool) → nat_lt from to ≡ b → IsIn (if b then record { first = from; last = to - 1 } ∷ [] else []) n
    go true is = (record { first = from; last = to - 1 }, in_head _ [], le, omega (arith, lt))
    go false is = absurd (omega (arith, ltb-false from to is, le, lt))

in_stretch : (from to n : ℕ) → IsIn (stretch from to) n → (from ≤ n) × (n < to)
in_stretch from to n it = go (nat_lt from to) refl it
  where
    go : (b : Bool) → nat_lt from to ≡ b → IsIn (if b then record { first = from; last = to - 1 } ∷ [] else []) n → (from ≤ n) × (n < to)
    go true is (h, there, ge, le) =
        let same = in_one h (record { first = from; last = to - 1 }) there in
        (subst (λ (x : Hole). x.first ≤ n) (sym same) ge, (let at = subst (λ (x : Hole). n ≤ x.last) (sym same) le in omega (arith, ltb-true from to is, at)))
    go false is (h, there, low, high) = absurd (in_none h there)

-- ---- stretches that rise

ordered : (free : ℕ) (holes : List Hole) (x : Hole) → RiseApart free holes → Contains holes x → x.first ≤ x.last
ordered free [] x rise there = absurd (in_none x there)
ordered free (h ∷ holes) x rise there = go (in_cases x h holes there) (ordered (h.last + 2) holes x rise.2)
  where
    go : (h ≡ x) ⊎ Contains holes x → (Contains holes x → x.first ≤ x.last) → x.first ≤ x.last
    go (inl is) more = subst (λ (y : Hole). y.first ≤ y.last) is rise.1
    go (inr in_rest) more = more in_rest

one_apart_more : (free : ℕ) (holes : List Hole) (new : Hole) → RiseApart free holes → free ≤ new.first → new.first ≤ new.last
    → ((x : Hole) → Contains holes x → x.last + 2 ≤ new.first) → RiseApart free (holes ++ new ∷ [])
one_apart_more free [] new rise le is each = (le, is, tt)
one_apart_more free (h ∷ holes) new rise le is each =
    (rise.0, rise.1, one_apart_more (h.last + 2) holes new rise.2 (each h (in_head h holes)) is (λ x there. each x (in_tail x h holes there)))

stretch_apart_more : (free : ℕ) (holes : List Hole) (from to : ℕ) → RiseApart free holes → free ≤ from
    → ((x : Hole) → Contains holes x → x.last + 2 ≤ from) → RiseApart free (holes ++ stretch from to)
stretch_apart_more free holes from to rise le each = go (nat_lt from to) refl
  where
    go : (b : Bool) → nat_lt from to ≡ b → RiseApart free (holes ++ (if b then record { first = from; last = to - 1 } ∷ [] else []))
    go true is = one_apart_more free holes (record { first = from; last = to - 1 }) rise le (omega (arith, ltb-true from to is)) each
    go false is = subst (RiseApart free) (sym (append-nil holes)) rise

raised : (free low : ℕ) (holes : List Hole) → RiseApart free holes → ((x : Hole) → Contains holes x → low ≤ x.first) → RiseApart low holes
raised free low [] rise each = tt
raised free low (h ∷ holes) rise each = (each h (in_head h holes), rise.1, rise.2)

stretch_before : (from to : ℕ) (holes : List Hole) → RiseApart 0 holes → ((x : Hole) → Contains holes x → to < x.first) → RiseApart 0 (stretch from to ++ holes)
stretch_before from to holes rise each = go (nat_lt from to) refl
  where
    go : (b : Bool) → nat_lt from to ≡ b → RiseApart 0 ((if b then record { first = from; last = to - 1 } ∷ [] else []) ++ holes)
    go true is = (omega arith, omega (arith, ltb-true from to is), raised 0 ((to - 1) + 2) holes rise (λ x there. omega (arith, ltb-true from to is, each x there)))
    go false is = rise

-- ---- the holes of a row more, and before the first number

module _ (spans : List Span) (span : Span) (holes : List Hole) (last : ℕ) (are : AreHoles None spans holes) (have : Have spans last)
    (greatest : (n : ℕ) → Have spans n → n ≤ last) (up : last < span.number) (in_order : span.number ≤ end_of span) where
  -- a number that is missing lies before the last one
  before_last : (n : ℕ) → IsMissing None spans n → n < last
  before_last n it = omega (arith, it.later.1, greatest it.later.0 it.later.2)

  hole_before : (x : Hole) → Contains holes x → x.last + 2 ≤ last + 1
  hole_before x there = omega (arith, before_last x.last ((are.each x.last).0 (x, there, ordered 0 holes x are.apart there, omega arith)))

  still_missing : (n : ℕ) → IsMissing None spans n → IsMissing None (spans ++ span ∷ []) n
  still_missing n it = record {
    none = λ all. go (have_cases spans span n all);
    later = (it.later.0, it.later.1, have_old spans span it.later.0 it.later.2);
    begun = early it.begun;
  }
    where
      go : Have spans n ⊎ Has span n → ⊥
      go (inl old) = it.none old
      go (inr new) = omega (arith, before_last n it, new.0, up)

      early : Begins None n ⊎ ((m : ℕ) × (m < n) × Have spans m) → Begins None n ⊎ ((m : ℕ) × (m < n) × Have (spans ++ span ∷ []) m)
      early (inl none_of) = absurd none_of
      early (inr (m, lt, old)) = inr (m, lt, have_old spans span m old)

  between_missing : (n : ℕ) → last + 1 ≤ n → n < span.number → IsMissing None (spans ++ span ∷ []) n
  between_missing n ge lt = record {
    none = λ all. go (have_cases spans span n all);
    later = (span.number, lt, have_new spans span span.number (omega arith, in_order));
    begun = inr (last, omega (arith, ge), have_old spans span last have);
  }
    where
      go : Have spans n ⊎ Has span n → ⊥
      go (inl old) = omega (arith, ge, greatest n old)
      go (inr new) = omega (arith, lt, new.0)

  was_missing : (n : ℕ) → n < last → IsMissing None (spans ++ span ∷ []) n → IsMissing None spans n
  was_missing n lt it = record {
    none = λ old. it.none (have_old spans span n old);
    later = (last, lt, have);
    begun = early it.begun;
  }
    where
      old_one : (m : ℕ) → m < n → Have spans m ⊎ Has span m → Have spans m
      old_one m less (inl old) = old
      old_one m less (inr new) = absurd (omega (arith, less, lt, new.0, up))

      early : Begins None n ⊎ ((m : ℕ) × (m < n) × Have (spans ++ span ∷ []) m) → Begins None n ⊎ ((m : ℕ) × (m < n) × Have spans m)
      early (inl none_of) = absurd none_of
      early (inr (m, less, all)) = inr (m, less, old_one m less (have_cases spans span m all))

  -- a number that is missing isn't the last one, and lies before the row
  not_last : (n : ℕ) → IsMissing None (spans ++ span ∷ []) n → n ≢ last
  not_last n it is = it.none (have_old spans span n (subst (Have spans) (sym is) have))

  before_row : (n : ℕ) → IsMissing None (spans ++ span ∷ []) n → n < span.number
  before_row n it = go (cases_lt n span.number) (have_cases spans span it.later.0 it.later.2)
    where
      go : (n < span.number) ⊎ (span.number ≤ n) → Have spans it.later.0 ⊎ Has span it.later.0 → n < span.number
      go (inl is) later = is
      go (inr is) (inl old) = omega (arith, it.later.1, greatest it.later.0 old, up)
      go (inr is) (inr new) = absurd (it.none (have_new spans span n (is, omega (arith, it.later.1, new.1))))

  pub more_holes : AreHoles None (spans ++ span ∷ []) (holes ++ stretch (last + 1) span.number)
  more_holes = record {
    apart = stretch_apart_more 0 holes (last + 1) span.number are.apart (omega arith) hole_before;
    each = λ n. (λ lies. to n (is_in_cases holes (stretch (last + 1) span.number) n lies), λ it. back n it (cases_lt n last));
  }
    where
      to : (n : ℕ) → IsIn holes n ⊎ IsIn (stretch (last + 1) span.number) n → IsMissing None (spans ++ span ∷ []) n
      to n (inl old) = still_missing n ((are.each n).0 old)
      to n (inr new) = let at = in_stretch (last + 1) span.number n new in between_missing n at.0 at.1

      back : (n : ℕ) → IsMissing None (spans ++ span ∷ []) n → (n < last) ⊎ (last ≤ n) → IsIn (holes ++ stretch (last + 1) span.number) n
      back n it (inl is) = is_in_old holes (stretch (last + 1) span.number) n ((are.each n).1 (was_missing n is it))
      back n it (inr is) = is_in_new holes (stretch (last + 1) span.number) n
          (is_in_stretch (last + 1) span.number n (omega (arith, is, not_last n it)) (before_row n it))

module _ (spans : List Span) (holes : List Hole) (first : ℕ) (are : AreHoles None spans holes) (have : Have spans first)
    (least : (n : ℕ) → Have spans n → first ≤ n) where
  behind_first : (n : ℕ) → IsMissing None spans n → first < n
  behind_first n it = go it.begun
    where
      go : Begins None n ⊎ ((m : ℕ) × (m < n) × Have spans m) → first < n
      go (inl none_of) = absurd none_of
      go (inr (m, lt, old)) = omega (arith, lt, least m old)

  hole_behind : (x : Hole) → Contains holes x → first < x.first
  hole_behind x there = behind_first x.first ((are.each x.first).0 (x, there, omega arith, ordered 0 holes x are.apart there))

  -- one that is missing behind the first number is so without a beginning
  is_within : (from n : ℕ) → first < n → IsMissing (Some from) spans n → IsMissing None spans n
  is_within from n lt it = record { none = it.none; later = it.later; begun = inr (first, lt, have) }

  front_missing : (from n : ℕ) → from ≤ n → n < first → IsMissing (Some from) spans n
  front_missing from n ge lt = record {
    none = λ old. omega (arith, lt, least n old);
    later = (first, lt, have);
    begun = inl ge;
  }

  stays_missing : (from n : ℕ) → IsMissing None spans n → IsMissing (Some from) spans n
  stays_missing from n it = record { none = it.none; later = it.later; begun = inr (first, behind_first n it, have) }

  -- it isn't the first number
  not_first : (from n : ℕ) → IsMissing (Some from) spans n → n ≢ first
  not_first from n it is = it.none (subst (Have spans) (sym is) have)

  at_front : (from n : ℕ) → n < first → IsMissing (Some from) spans n → from ≤ n
  at_front from n lt it = go it.begun
    where
      go : Begins (Some from) n ⊎ ((m : ℕ) × (m < n) × Have spans m) → from ≤ n
      go (inl ge) = ge
      go (inr (m, less, old)) = absurd (omega (arith, lt, less, least m old))

  -- the holes from the beginning on
  pub from_beginning : (from : Option ℕ) → AreHoles from spans (front_of from first ++ holes)
  from_beginning None = are
  from_beginning (Some from) = record {
    apart = stretch_before from first holes are.apart hole_behind;
    each = λ n. (λ lies. to n (is_in_cases (stretch from first) holes n lies), λ it. back n it (cases_lt n first));
  }
    where
      to : (n : ℕ) → IsIn (stretch from first) n ⊎ IsIn holes n → IsMissing (Some from) spans n
      to n (inl front) = let at = in_stretch from first n front in front_missing from n at.0 at.1
      to n (inr old) = stays_missing from n ((are.each n).0 old)

      back : (n : ℕ) → IsMissing (Some from) spans n → (n < first) ⊎ (first ≤ n) → IsIn (stretch from first ++ holes) n
      back n it (inl is) = is_in_old (stretch from first) holes n (is_in_stretch from first n (at_front from n is it) is)
      back n it (inr is) = is_in_new (stretch from first) holes n ((are.each n).1 (is_within from n (omega (arith, is, not_first from n it)) it))

-- ---- each number once

pub above : (free : ℕ) (spans : List Span) (s : Span) → Rise free spans → Contains spans s → free ≤ s.number
above free [] s rise there = absurd (in_none s there)
above free (x ∷ spans) s rise there = go (in_cases s x spans there) (above (end_of x + 1) spans s rise.2)
  where
    go : (x ≡ s) ⊎ Contains spans s → (Contains spans s → end_of x + 1 ≤ s.number) → free ≤ s.number
    go (inl is) more = subst (λ (y : Span). free ≤ y.number) is rise.0
    go (inr rest) more = omega (arith, rise.0, rise.1, more rest)

one_only : (free : ℕ) (spans : List Span) (s other : Span) (n : ℕ) → Rise free spans → Contains spans s → Has s n → Contains spans other → Has other n → other ≡ s
one_only free [] s other n rise there has also too = absurd (in_none s there)
one_only free (x ∷ spans) s other n rise there has also too =
    go (in_cases s x spans there) (in_cases other x spans also) (λ a b. one_only (end_of x + 1) spans s other n rise.2 a has b too)
  where
    go : (x ≡ s) ⊎ Contains spans s → (x ≡ other) ⊎ Contains spans other → (Contains spans s → Contains spans other → other ≡ s) → other ≡ s
    go (inl a) (inl b) more = sym b ∙ a
    go (inl a) (inr b) more = absurd (omega (arith, subst (λ (y : Span). n ≤ end_of y) (sym a) has.1, above (end_of x + 1) spans other rise.2 b, too.0))
    go (inr a) (inl b) more = absurd (omega (arith, subst (λ (y : Span). n ≤ end_of y) (sym b) too.1, above (end_of x + 1) spans s rise.2 a, has.0))
    go (inr a) (inr b) more = more a b

has_or : (s : Span) (n : ℕ) → Has s n ⊎ (Has s n → ⊥)
has_or s n = go (cases_lt n s.number) (cases_lt (end_of s) n)
  where
    go : (n < s.number) ⊎ (s.number ≤ n) → (end_of s < n) ⊎ (n ≤ end_of s) → Has s n ⊎ (Has s n → ⊥)
    go (inl is) other = inr (λ has. omega (arith, is, has.0))
    go (inr is) (inl other) = inr (λ has. omega (arith, other, has.1))
    go (inr is) (inr other) = inl (is, other)

have_or : (spans : List Span) (n : ℕ) → Have spans n ⊎ (Have spans n → ⊥)
have_or [] n = inr (λ have. in_none have.0 have.1)
have_or (s ∷ spans) n = go (has_or s n) (have_or spans n)
  where
    none : (Has s n → ⊥) → (Have spans n → ⊥) → Have (s ∷ spans) n → ⊥
    none a b (x, there, has) = case (in_cases x s spans there)
      where
        case : (s ≡ x) ⊎ Contains spans x → ⊥
        case (inl is) = a (subst (λ y. Has y n) (sym is) has)
        case (inr rest) = b (x, rest, has)

    go : Has s n ⊎ (Has s n → ⊥) → Have spans n ⊎ (Have spans n → ⊥) → Have (s ∷ spans) n ⊎ (Have (s ∷ spans) n → ⊥)
    go (inl has) rest = inl (s, in_head s spans, has)
    go (inr bare) (inl (x, there, has)) = inl (x, in_tail x s spans there, has)
    go (inr bare) (inr none_of) = inr (none bare none_of)

pub none_missing : NoneIsMissing
none_missing from spans holes rise are = (once, whole holes refl)
  where
    Early : ℕ → Type 0
    Early n = Begins from n ⊎ ((k : ℕ) × (k ≤ n) × Have spans k)

    missing : (n m : ℕ) → Have spans m → n ≤ m → Early n → (Have spans n → ⊥) → IsMissing from spans n
    missing n m have le early bare = record {
      none = bare;
      later = (m, omega (arith, le, (λ (is : n ≡ m). bare (subst (Have spans) (sym is) have))), have);
      begun = begun early;
    }
      where
        begun : Early n → Begins from n ⊎ ((k : ℕ) × (k < n) × Have spans k)
        begun (inl starts) = inl starts
        begun (inr (k, less, there)) = inr (k, omega (arith, less, (λ (is : k ≡ n). bare (subst (Have spans) is there))), there)

    once : holes ≡ [] → (n m : ℕ) → Have spans m → n ≤ m → Early n → HasOne spans n
    once is n m have le early = go (have_or spans n)
      where
        go : Have spans n ⊎ (Have spans n → ⊥) → HasOne spans n
        go (inl (s, there, has)) = (s, there, has, λ other also too. one_only 0 spans s other n rise there has also too)
        go (inr bare) =
            let lies = subst (λ l. IsIn l n) is ((are.each n).1 (missing n m have le early bare)) in
            absurd (in_none lies.0 lies.1)

    whole : (hs : List Hole) → holes ≡ hs → ((n m : ℕ) → Have spans m → n ≤ m → Early n → HasOne spans n) → holes ≡ []
    whole [] is each = is
    whole (h ∷ hs) is each =
        let there = subst (λ l. Contains l h) (sym is) (in_head h hs) in
        let it = (are.each h.first).0 (h, there, omega arith, ordered 0 holes h are.apart there) in
        let one = each h.first it.later.0 it.later.2 (omega (arith, it.later.1)) (early it) in
        absurd (it.none (one.0, one.1, one.2))
      where
        early : IsMissing from spans h.first → Early h.first
        early it = go it.begun
          where
            go : Begins from h.first ⊎ ((m : ℕ) × (m < h.first) × Have spans m) → Early h.first
            go (inl starts) = inl starts
            go (inr (m, lt, have)) = inr (m, omega (arith, lt), have)

-- ---- rows that rise

pub rise_more : (free last : ℕ) (spans : List Span) (span : Span) → Rise free spans → ((n : ℕ) → Have spans n → n ≤ last)
    → free ≤ span.number → last < span.number → span.number ≤ end_of span → Rise free (spans ++ span ∷ [])
rise_more free last [] span rise greatest low up in_order = (low, in_order, tt)
rise_more free last (s ∷ spans) span rise greatest low up in_order =
    let top = greatest (end_of s) (s, in_head s spans, (rise.1, omega arith)) in
    (rise.0, rise.1, rise_more (end_of s + 1) last spans span rise.2 (λ n (x, there, has). greatest n (x, in_tail x s spans there, has)) (omega (arith, top, up)) up in_order)
