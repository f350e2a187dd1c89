-- What a turn covers by numbers, by ordinals.
use Rattle.std.proofs.Common.{arith, ◌≡◌, ℕ, ◌+◌, ◌-◌, ◌%◌, ◌<◌, ◌≤◌, ◌==◌, nat_le, nat_lt, Bool, true, false}
use Rattle.std.proofs.Common.{if◌then◌else◌, List, [], ◌∷◌, ◌++◌, map, refl, sym, ap, subst, ◌∙◌, ◌⊎◌, inl, inr}
use Rattle.std.proofs.lemmas.Bool.{eq-eqb, eqb-true, leb-true, ltb-true, ltb-false}
use Rattle.bac_log.specs.TrendLog.{sequence_number}
use Rattle.bac_link.specs.Delivery.{History, IsEntry, Moment}
use Rattle.bac_link.specs.Ordinals.{is_ahead, number_after}
use Rattle.bac_link.specs.declared.item.Item.{Item}
use Rattle.bac_link.specs.declared.item.Item.TheVariants.{Gap}
use Rattle.bac_walk.specs.Place.{WalkPlace}
use Rattle.bac_walk.specs.Walks.{item_of}
use Rattle.bac_walk.specs.declared.batch.Numbered.{Numbered}
use Rattle.bac_walk.proofs.Shown.{after-number, ahead-number}
use Rattle.bac_poll_laws.specs.Delivers.{AreOf, BeginsAt, Brings, CameInDoubt, IsGap, LiesIn, WasFront, WasHeld}
use Rattle.bac_poll_laws.specs.Laws.{Covers, HasSome, IsWhole, Whichever, start_of}
use Rattle.bac_poll.specs.Turns.{Turned, gap_up_to}
use Rattle.bac_poll_laws.proofs.Fronts.{Fore, Front, Left, Says}

-- ---- ordinals and numbers

same_ordinal : (s u : ℕ) → s ≤ u → u < s + 4294967295 → sequence_number s ≡ sequence_number u → s ≡ u
same_ordinal s u le near same = omega (arith, le, near, same)

pub near_ordinal : (low s u : ℕ) → LiesIn low s → LiesIn low u → sequence_number s ≡ sequence_number u → s ≡ u
near_ordinal low s u here there same = omega (arith, here.0, here.1, there.0, there.1, same)

pub fore_ahead : (low s u n b : ℕ) → n ≡ sequence_number s → b ≡ sequence_number u → LiesIn low s → LiesIn low u → is_ahead n b ≡ true → s ≤ u
fore_ahead low s u n b here there in_s in_u ahead =
    let near : is_ahead (sequence_number s) (sequence_number u) ≡ true =
    subst (λ (x : ℕ). is_ahead (sequence_number s) x ≡ true) there (subst (λ (x : ℕ). is_ahead x b ≡ true) here ahead) in
    let le : nat_le s u ≡ true = sym (ahead-number s u (omega (arith, in_s.1, in_u.0)) (omega (arith, in_s.0, in_u.1))) ∙ near in
    leb-true s u le

fore_count : (low s u n b total : ℕ) → n ≡ sequence_number s → b ≡ sequence_number u → LiesIn low s → LiesIn low u → b ≡ number_after total 1 →
    is_ahead n total ≡ true → s ≤ u
fore_count low s u n b total here there in_s in_u count ahead =
    let near : ((total + 4294967295) - n) % 4294967295 < 2147483648 = ltb-true _ _ ahead in
    omega (arith, here, there, in_s.0, in_s.1, in_u.0, in_u.1, count, near)

less : (s u : ℕ) → s ≤ u → (s ≡ u → ⊥) → s < u
less s u le other = by (nat_lt s u) refl
  where
    by : (b : Bool) → nat_lt s u ≡ b → s < u
    by true is = ltb-true s u is
    by false is = let ge : u ≤ s = ltb-false s u is in absurd (other (omega (arith, le, ge)))

-- ---- gaps

gap_mid_at : (P : Numbered → Type 0) (n b mid : ℕ) (c : Bool) → (c ≡ true → n ≡ b) → Covers P n (if c then [] else Gap n b ∷ []) mid → mid ≡ b
gap_mid_at P n b mid true same cov = cov ∙ same refl
gap_mid_at P n b mid false same cov = cov.1

pub gap_mid : (P : Numbered → Type 0) (n b mid : ℕ) → Covers P n (gap_up_to n b) mid → mid ≡ b
gap_mid P n b mid cov = gap_mid_at P n b mid (n == b) (eqb-true n b) cov

gap_rest_at : (P : Numbered → Type 0) (n b mid : ℕ) (items : List Item) (c : Bool) → (c ≡ true → n ≡ b) → Covers P n ((if c then [] else Gap n b ∷ []) ++ items) mid →
    Covers P b items mid
gap_rest_at P n b mid items true same cov = subst (λ (k : ℕ). Covers P k items mid) (same refl) cov
gap_rest_at P n b mid items false same cov = cov.1

gap_rest : (P : Numbered → Type 0) (n b mid : ℕ) (items : List Item) → Covers P n (gap_up_to n b ++ items) mid → Covers P b items mid
gap_rest P n b mid items cov = gap_rest_at P n b mid items (n == b) (eqb-true n b) cov

gap_is_at : (s u n b : ℕ) (c : Bool) → (n == b) ≡ c → n ≡ sequence_number s → b ≡ sequence_number u → s ≤ u → u < s + 4294967295 →
    IsGap s (if c then [] else Gap n b ∷ []) u
gap_is_at s u n b true is here there le near = sym (same_ordinal s u le near (sym here ∙ eqb-true n b is ∙ there))
gap_is_at s u n b false is here there le near =
    (here, there, less s u le (λ same. let equal : (n == b) ≡ true = eq-eqb n b (here ∙ ap sequence_number same ∙ sym there) in absurd (cc)))

pub gap_is : (s u n b : ℕ) → n ≡ sequence_number s → b ≡ sequence_number u → s ≤ u → u < s + 4294967295 → IsGap s (gap_up_to n b) u
gap_is s u n b here there le near = gap_is_at s u n b (n == b) refl here there le near

-- the last ordinal of number 1 up to this
pub one_before : ℕ → ℕ
one_before k = k - (k + 4294967294) % 4294967295

pub one_is : (k : ℕ) → 0 < k → (1 ≡ sequence_number (one_before k)) × (one_before k ≤ k) × (k < one_before k + 4294967295)
unfolding one_before
one_is k some = (omega (arith, some), omega (arith, some), omega (arith, some))

module _ (H : History) (low : ℕ) where
  -- a record is an entry of the window that was held at one of these moments
  abbrev pub IsOf : List Moment → Numbered → Type 0
  IsOf M held = (k : ℕ) × (held.number ≡ sequence_number k) × IsEntry H k held.entry × WasHeld M k × (low ≤ k) × (k + 1 < low + 2147483647)

  -- nothing before the ordinal of this number was held at one of these moments
  abbrev pub IsFrontOf : List Moment → ℕ → Type 0
  IsFrontOf M n = (k : ℕ) × (n ≡ sequence_number k) × LiesIn low k × WasFront M k

  -- ---- records

  -- up to which ordinal records lead, of which number
  abbrev pub LeadsTo : List Moment → ℕ → List Numbered → ℕ → Type 0
  LeadsTo M s rs next = (t : ℕ) × AreOf H M s rs t × (next ≡ sequence_number t) × LiesIn low t × (s ≤ t)

  pub records_of : (M : List Moment) (s n next : ℕ) (rs : List Numbered) → n ≡ sequence_number s → LiesIn low s →
      Covers (IsOf M) n (map item_of rs) next → LeadsTo M s rs next
  records_of M s n next [] here lies cov = (s, refl, cov ∙ here, lies, omega arith)
  records_of M s n next (r ∷ rs) here lies cov =
      let is : IsOf M (record { number = r.number; entry = r.entry }) = cov.1 in
      let same : is.0 ≡ s = near_ordinal low is.0 s (is.4, omega (arith, is.5)) lies (sym is.1 ∙ cov.0 ∙ here) in
      let number : r.number ≡ sequence_number s = cov.0 ∙ here in
      let entry : IsEntry H s r.entry = subst (λ (k : ℕ). IsEntry H k r.entry) same is.2 in
      let held : WasHeld M s = subst (WasHeld M) same is.3 in
      let next_lies : LiesIn low (s + 1) = (omega (arith, lies.0), omega (arith, same, is.5)) in
      let rest = records_of M (s + 1) (number_after r.number 1) next rs (ap (λ (k : ℕ). number_after k 1) number ∙ after-number s 1) next_lies cov.2 in
      (rest.0, (number, entry, held, rest.1), rest.2, rest.3, omega (arith, rest.4))

  -- ---- the gap of a turn

  module _ (U V : ℕ → Type 0) (M : List Moment) where
    -- where the gap of a turn ends
    GapEnds : ℕ → Turned → ℕ → Type 0
    GapEnds s t m =
        (mid : ℕ) × IsGap s t.missing mid × (m ≡ sequence_number mid) × LiesIn low mid × (s < mid → WasFront M mid ⊎ CameInDoubt H M s mid t.doubtful)

    le_of : (s u n b : ℕ) → n ≡ sequence_number s → b ≡ sequence_number u → LiesIn low s → LiesIn low u → Fore (IsOf M) (IsFrontOf M) U V n b → s ≤ u
    le_of s u n b here there in_s in_u (inl ahead) = fore_ahead low s u n b here there in_s in_u ahead
    le_of s u n b here there in_s in_u (inr count) = fore_count low s u n b count.0 here there in_s in_u count.1 count.2

    front_ends : (s n m b : ℕ) (t : Turned) → n ≡ sequence_number s → LiesIn low s → t.missing ≡ gap_up_to n b → m ≡ b →
        Front (IsOf M) (IsFrontOf M) U V n b → GapEnds s t m
    unfolding GapEnds
    front_ends s n m b t here lies is end (inl one) =
        let there : b ≡ sequence_number s = one.1 ∙ sym one.0 ∙ here in
        (s, subst (λ items. IsGap s items s) (sym is) (gap_is s s n b here there (omega arith) (omega arith)), end ∙ there, lies, λ more. absurd (omega (arith, more)))
    front_ends s n m b t here lies is end (inr front) =
        let f : IsFrontOf M b = front.0 in
        let le = le_of s f.0 n b here f.1 lies f.2 front.1 in
        (f.0, subst (λ items. IsGap s items f.0) (sym is) (gap_is s f.0 n b here f.1 le (omega (arith, lies.0, f.2.1))), end ∙ f.1, f.2, λ more. inl f.3)

    gap_ends_at : (s n m : ℕ) (t : Turned) → n ≡ sequence_number s → LiesIn low s → Covers (IsOf M) n t.missing m → Left (IsOf M) (IsFrontOf M) U V n t → GapEnds s t m
    unfolding GapEnds
    gap_ends_at s n m t here lies cov (inl none) =
        let at : m ≡ n = subst (λ items. Covers (IsOf M) n items m) none cov in
        (s, subst (λ items. IsGap s items s) (sym none) refl, at ∙ here, lies, λ more. absurd (omega (arith, more)))
    gap_ends_at s n m t here lies cov (inr (inl (b, is, front))) =
        front_ends s n m b t here lies is (gap_mid (IsOf M) n b m (subst (λ items. Covers (IsOf M) n items m) is cov)) front
    gap_ends_at s n m t here lies cov (inr (inr (doubt, (held, b, is, over)))) =
        let end = gap_mid (IsOf M) n b m (subst (λ items. Covers (IsOf M) n items m) is cov) in
        let e = records_of M s n b held here lies over in
        (e.0, subst (λ items. IsGap s items e.0) (sym is) (gap_is s e.0 n b here e.2 e.4 (omega (arith, lies.0, e.3.1))), end ∙ e.2, e.3, λ more. inr (doubt, (held, e.1)))

    -- ---- what is behind it

    -- where the records of a turn begin and end
    Behind : Bool → ℕ → List Item → List Numbered → ℕ → Type 0
    Behind c mid gap rs next =
        (start : ℕ) × (first : ℕ) × (u : ℕ) × BeginsAt c mid start first × IsGap start gap first × (start < first → WasFront M first)
        × AreOf H M first rs u × (next ≡ sequence_number u) × ((c ≡ true → HasSome rs) → LiesIn low u)

    same_behind : (mid m next : ℕ) (gap : List Item) (rs : List Numbered) → m ≡ sequence_number mid → LiesIn low mid → gap ≡ [] →
        Covers (IsOf M) m (gap ++ map item_of rs) next → Behind false mid gap rs next
    unfolding Behind
    same_behind mid m next gap rs here lies none cov =
        let e = records_of M mid m next rs here lies (subst (λ items. Covers (IsOf M) m (items ++ map item_of rs) next) none cov) in
        (mid, mid, e.0, (refl, refl), subst (λ items. IsGap mid items mid) (sym none) refl, λ more. absurd (omega (arith, more)), e.1, e.2, λ some. e.3)

    -- a new epoch of which nothing is kept yet, or whose first record has number 1
    first_behind : (mid next : ℕ) (rs : List Numbered) → Covers (IsOf M) 1 (map item_of rs) next → Behind true mid [] rs next
    unfolding Behind
    first_behind mid next [] cov = (1, 1, 1, refl, refl, λ more. absurd (omega (arith, more)), refl, cov, λ some. absurd (some refl))
    first_behind mid next (r ∷ rs) cov =
        let is : IsOf M (record { number = r.number; entry = r.entry }) = cov.1 in
        let one : 1 ≡ sequence_number is.0 = sym cov.0 ∙ is.1 in
        let e = records_of M is.0 1 next (r ∷ rs) one (is.4, omega (arith, is.5)) cov in
        (is.0, is.0, e.0, one, refl, λ more. absurd (omega (arith, more)), e.1, e.2, λ some. e.3)

    none_behind : (mid next : ℕ) (gap : List Item) (rs : List Numbered) → gap ≡ [] → Covers (IsOf M) 1 (gap ++ map item_of rs) next → Behind true mid gap rs next
    none_behind mid next gap rs none cov =
        subst (λ items. Behind true mid items rs next) (sym none) (first_behind mid next rs (subst (λ items. Covers (IsOf M) 1 (items ++ map item_of rs) next) none cov))

    anew_behind : 0 < low → (mid next b : ℕ) (gap : List Item) (rs : List Numbered) → gap ≡ gap_up_to 1 b → (b ≡ 1) ⊎ IsFrontOf M b → Covers (IsOf M) 1 (gap ++ map item_of rs) next →
        Behind true mid gap rs next
    unfolding Behind
    anew_behind some mid next b gap rs is (inl one) cov = none_behind mid next gap rs (is ∙ ap (λ (k : ℕ). gap_up_to 1 k) one) cov
    anew_behind some mid next b gap rs is (inr f) cov =
        let first = one_is f.0 (omega (arith, some, f.2.0)) in
        let rest = gap_rest (IsOf M) 1 b next (map item_of rs) (subst (λ items. Covers (IsOf M) 1 (items ++ map item_of rs) next) is cov) in
        let e = records_of M f.0 b next rs f.1 f.2 rest in (
          one_before f.0,
          f.0,
          e.0,
          first.0,
          subst (λ items. IsGap (one_before f.0) items f.0) (sym is) (gap_is (one_before f.0) f.0 1 b first.0 f.1 first.1 first.2),
          λ more. f.3,
          e.1,
          e.2,
          λ some. e.3,
        )

    behind_at : 0 < low → (c : Bool) (mid m next : ℕ) (gap : List Item) (rs : List Numbered) → m ≡ sequence_number mid → LiesIn low mid →
        (gap ≡ []) ⊎ ((c ≡ true) × ((b : ℕ) × (gap ≡ gap_up_to 1 b) × ((b ≡ 1) ⊎ IsFrontOf M b))) →
        Covers (IsOf M) (if c then 1 else m) (gap ++ map item_of rs) next → Behind c mid gap rs next
    behind_at some false mid m next gap rs here lies (inl none) cov = same_behind mid m next gap rs here lies none cov
    behind_at some false mid m next gap rs here lies (inr (begun, gone)) cov = absurd (cc)
    behind_at some true mid m next gap rs here lies (inl none) cov = none_behind mid next gap rs none cov
    behind_at some true mid m next gap rs here lies (inr (begun, (b, is, front))) cov = anew_behind some mid next b gap rs is front cov

    -- ---- all of a turn

    pub brings_of : 0 < low → (s n : ℕ) (w : WalkPlace) (t : Turned) → n ≡ sequence_number s → LiesIn low s → IsWhole (IsOf M) Whichever n t →
        Says (IsOf M) (IsFrontOf M) U V n w t →
        (u : ℕ) × Brings H M s t u × ((t.anew ≡ true → HasSome t.records) → LiesIn low u)
    unfolding GapEnds Behind
    brings_of some s n w t here lies whole says =
        let cov : Covers (IsOf M) n t.missing whole.mid = subst (λ begins. Covers (IsOf M) (start_of begins n) t.missing whole.mid) says.0 whole.before in
        let gap = gap_ends_at s n whole.mid t here lies cov says.1 in
        let rest = behind_at some t.anew gap.0 whole.mid t.poll.next t.gap t.records gap.2 gap.3 says.2 whole.behind in (
          rest.2,
          record {
            mid = gap.0;
            missing = gap.1;
            gone = gap.4;
            start = rest.0;
            first = rest.1;
            begins = rest.3;
            gap = rest.4;
            dropped = rest.5;
            records = rest.6;
            next = rest.7;
          },
          rest.8,
        )
