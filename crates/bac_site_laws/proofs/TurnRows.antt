-- The rows of a turn go on from where its log stands.
use Rattle.std.proofs.Common.{◌≡◌, ◌∙◌, append-nil, ◌<◌, ◌≤◌, ◌⊎◌, inl, inr, ℕ, ◌+◌, ◌-◌, ◌*◌, ◌==◌, nat_le, pos, Bool, true, false}
use Rattle.std.proofs.Common.{if◌then◌else◌, codes, List, [], ◌∷◌, ◌++◌, map, Option, None, Some, refl, sym, ap, subst, arith}
use Rattle.std.proofs.lemmas.Bool.{cond-false, eqb-true, eqb-false, leb-false, leb-true, ne_eqb}
use Rattle.sqlite_value.specs.declared.value.Value.TheVariants.{Int, Text}
use Rattle.sqlite.specs.Values.{or_null}
use Rattle.bac_link.specs.Ordinals.{number_after}
use Rattle.bac_link.specs.declared.item.Item.{Item}
use Rattle.bac_link.specs.declared.item.Item.TheVariants.{Gap, Logged}
use Rattle.bac_walk.specs.Walks.{item_of}
use Rattle.bac_walk.specs.declared.batch.Numbered.{Numbered}
use Rattle.bac_poll.specs.Turns.{Turned}
use Rattle.bac_poll_steps.specs.declared.turn.Beginning.{Beginning}
use Rattle.bac_poll_steps.specs.declared.turn.Line.{Line}
use Rattle.bac_poll_laws.specs.Laws.{Covers, EndAt, IsWhole, start_of}
use Rattle.bac_device_poller.specs.Puts.{PutAs, Puts, era_of, gap_columns, record_columns, why_anew, why_first}
use Rattle.bac_device_poller.specs.Puts.{with_anew, with_epoch, with_first, with_gap, with_gap_in, with_gap_row, with_gaps, with_put}
use Rattle.bac_device_poller.specs.Puts.{with_record, with_records, with_rest, with_round, with_turn}
use Rattle.bac_site_laws.specs.Rows.{Begins, GoOn, IsSaid, Missing, Recorded, Renewed, Says, Stand, behind, era, number_at, row_of}
use Rattle.bac_site_laws.proofs.Front.{AreGaps, Fine, IsNumber}

module _ (P : Numbered → Type 0) (F : ℕ → Type 0) (log : ℕ) where
  -- one row more
  pub go_more : (s : Stand) (puts : List PutAs) (t : Stand) (says : Says) (put : PutAs) → GoOn P F log s puts t → IsSaid P F t says →
      put ≡ row_of log t says → GoOn P F log s (puts ++ put ∷ []) (behind t says)
  go_more s [] t says put same said is =
      let X : Stand → Type 0 = λ x. (z : Says) × IsSaid P F s z × (put ≡ row_of log s z) × (behind x says ≡ behind s z) in
      let Y : Stand → Type 0 = λ x. IsSaid P F x says in
      let Z : Stand → Type 0 = λ x. put ≡ row_of log x says in
      (says, subst Y same said, subst Z same is, ap (λ (x : Stand). behind x says) same)
  go_more s (first ∷ puts) t says put (z, was, same, rest) said is =
      (z, was, same, go_more (behind s z) puts t says put rest said is)

  -- rows behind others
  pub go_both : (s : Stand) (xs : List PutAs) (t : Stand) (ys : List PutAs) (u : Stand) → GoOn P F log s xs t → GoOn P F log t ys u →
      GoOn P F log s (xs ++ ys) u
  go_both s [] t ys u same rest = let X : Stand → Type 0 = λ x. GoOn P F log x ys u in subst X same rest
  go_both s (x ∷ xs) t ys u (z, was, is, more) rest = (z, was, is, go_both (behind s z) xs t ys u more rest)

  module _ (start : Stand) (number : (h : Numbered) → P h → (1 ≤ h.number) × (h.number ≤ 4294967295)) where
    -- what is put so far leads there
    record UpTo (s : Puts) (t : Stand) : Type 0 where
      on : GoOn P F log start s.puts t
      logged : s.log ≡ log
      epoch : s.epoch ≡ t.epoch

    era_is : (s : Puts) (t : Stand) → UpTo s t → era_of s ≡ era log t.epoch
    era_is s t up = ap (λ (n : ℕ). n * 32768 + s.epoch) up.logged ∙ ap (λ (n : ℕ). log * 32768 + n) up.epoch

    put_on : (s : Puts) (t : Stand) (says : Says) (put : PutAs) (full : Bool) → UpTo s t → IsSaid P F t says → put ≡ row_of log t says →
        (behind t says).epoch ≡ t.epoch → UpTo (record (with_put s put) { full = full }) (behind t says)
    put_on s t says put full up said is same = record {
      on = go_more start s.puts t says put up.on said is;
      logged = up.logged;
      epoch = up.epoch ∙ sym same;
    }

    epoch_on : (s : Puts) (t : Stand) (why : List ℕ) → UpTo s t → UpTo (with_epoch s why) (record { epoch = t.epoch + 1; next = 1 })
    epoch_on s t why up = record {
      on = go_more start s.puts t (Renewed (Some why)) _ up.on tt
          (ap (λ (e : ℕ). let put : PutAs = record { tree = 6; is_new = true; columns = Int (pos e) ∷ Int (pos 1) ∷ or_null Text (Some why) ∷ [] } in put)
          (ap (λ (n : ℕ). n * 32768 + (s.epoch + 1)) up.logged ∙ ap (λ (n : ℕ). log * 32768 + (n + 1)) up.epoch));
      logged = up.logged;
      epoch = ap (λ (n : ℕ). n + 1) up.epoch;
    }

    -- what is put leads to a number
    Leads : Puts → ℕ → Type 0
    Leads s n = (t : Stand) × UpTo s t × (number_at s.full t.next ≡ n)

    -- an item comes at it
    round_on : (s : Puts) (t : Stand) (n : ℕ) → UpTo s t → number_at s.full t.next ≡ n → (u : Stand) × UpTo (with_round s) u × (u.next ≡ n)
    round_on s t n up from = by s.full from
      where
        by : (full : Bool) → number_at full t.next ≡ n → (u : Stand) × UpTo (if full then with_epoch s (codes "numbers came round") else s) u × (u.next ≡ n)
        by true is = (record { epoch = t.epoch + 1; next = 1 }, epoch_on s t (codes "numbers came round") up, is)
        by false is = (t, up, is)

    round_begun : (s : Puts) → (with_round s).full ≡ false
    round_begun s = by s.full refl
      where
        by : (full : Bool) → s.full ≡ full → (if full then with_epoch s (codes "numbers came round") else s).full ≡ false
        by true is = refl
        by false is = is

    -- ---- a gap

    row_on : (doubtful : Bool) (s : Puts) (t : Stand) (first last : ℕ) → number_at s.full t.next ≡ first → last ≤ 4294967295 →
        (first ≤ last) ⊎ (last ≡ 4294967295) → (doubtful ≡ false → F (last + 1) ⊎ (last ≡ 4294967295)) → UpTo s t →
        (u : Stand) × UpTo (with_gap_row doubtful s first last) u × (u.next ≡ last + 1)
    row_on doubtful s t first last from few lies ends up =
        let r = round_on s t first up from in
        let x : Stand = r.0 in
        let L : ℕ → Type 0 = λ n. (n ≤ last) ⊎ (last ≡ 4294967295) in
        let X : ℕ → Type 0 = λ n. UpTo (with_gap_in doubtful (with_round s) n last) (record x { next = last + 1 }) in (
          record x { next = last + 1 },
          subst X r.2
              (put_on (with_round s) x (Missing last doubtful) (record { tree = 5; is_new = true; columns = gap_columns (era_of (with_round s)) x.next last doubtful }) (last == 4294967295) r.1
              (few, subst L (sym r.2) lies, ends)
              (ap (λ (e : ℕ). let put : PutAs = record { tree = 5; is_new = true; columns = gap_columns e x.next last doubtful } in put) (era_is (with_round s) x r.1)) refl),
          refl,
        )

    -- up to a number
    part_on : (doubtful : Bool) (s : Puts) (t : Stand) (first before : ℕ) → number_at s.full t.next ≡ first → IsNumber before → first < before →
        (doubtful ≡ false → F before) → UpTo s t → Leads (with_gap_row doubtful s first (before - 1)) before
    unfolding Leads
    part_on doubtful s t first before from some above ends up =
        let back : before - 1 + 1 ≡ before = omega (arith, some.0) in
        let r = row_on doubtful s t first (before - 1) from (omega (arith, some.1)) (inl (omega (arith, above))) (λ sure. inl (subst F (sym back) (ends sure))) up in
        let u : Stand = r.0 in
        (u, r.1, cond-false (before - 1 == 4294967295) 1 u.next (ne_eqb (before - 1) 4294967295 (λ e. omega (arith, some.0, some.1, e))) ∙ (r.2 ∙ back))

    rest_on : (b : Bool) (doubtful : Bool) (s : Puts) (t : Stand) (before : ℕ) → nat_le before 1 ≡ b → IsNumber before → (doubtful ≡ false → F before) →
        number_at s.full t.next ≡ 1 → UpTo s t → Leads (if b then s else with_gap_row doubtful s 1 (before - 1)) before
    unfolding Leads
    rest_on true doubtful s t before is some ends one up =
        let below = leb-true before 1 is in (t, up, one ∙ omega (arith, some.0, below))
    rest_on false doubtful s t before is some ends one up =
        let above = leb-false before 1 is in
        part_on doubtful s t 1 before one some (omega (arith, above)) ends up

    gap_by : (b : Bool) (doubtful : Bool) (s : Puts) (t : Stand) (first before : ℕ) → nat_le before first ≡ b → IsNumber before → (doubtful ≡ false → F before) →
        number_at s.full t.next ≡ first → UpTo s t →
        Leads (if b then with_rest doubtful (with_gap_row doubtful s first 4294967295) before else with_gap_row doubtful s first (before - 1)) before
    unfolding Leads
    gap_by true doubtful s t first before is some ends from up =
        let r = row_on doubtful s t first 4294967295 from (omega arith) (inr refl) (λ sure. inr refl) up in
        rest_on (nat_le before 1) doubtful (with_gap_row doubtful s first 4294967295) r.0 before refl some ends refl r.1
    gap_by false doubtful s t first before is some ends from up =
        let above = leb-false before first is in
        part_on doubtful s t first before from some (omega (arith, above)) ends up

    gaps_on : (doubtful : Bool) (s : Puts) (t : Stand) (a : ℕ) (xs : List Item) (rest : List Item) (b : ℕ) → AreGaps xs → (doubtful ≡ false → EndAt F xs) →
        Covers P a (xs ++ rest) b → number_at s.full t.next ≡ a → UpTo s t → (mid : ℕ) × Leads (with_gaps doubtful s xs) mid × Covers P mid rest b
    unfolding Leads
    gaps_on doubtful s t a [] rest b are ends covers from up = (a, (t, up, from), covers)
    gaps_on doubtful s t a (Gap gone before ∷ xs) rest b are ends covers from up =
        let one = gap_by (nat_le before gone) doubtful s t gone before refl are.0 (λ sure. (ends sure).0) (from ∙ sym covers.0) up in
        gaps_on doubtful (with_gap doubtful s gone before) one.0 before xs rest b are.1 (λ sure. (ends sure).1) covers.1 one.2 one.1
    gaps_on doubtful s t a (Logged shown entry ∷ xs) rest b are ends covers from up = absurd are

    -- ---- records

    record_on : (s : Puts) (t : Stand) (h : Numbered) → P h → number_at s.full t.next ≡ h.number → UpTo s t → Leads (with_record s h) (number_after h.number 1)
    unfolding Leads
    record_on s t h holds from up = (record x { next = x.next + 1 }, row, by (h.number == 4294967295) refl)
      where
        few : (1 ≤ h.number) × (h.number ≤ 4294967295)
        few = number h holds

        r : (u : Stand) × UpTo (with_round s) u × (u.next ≡ h.number)
        r = round_on s t h.number up from

        x : Stand
        x = r.0

        is : x.next ≡ h.number
        is = r.2

        row : UpTo (with_record s h) (record x { next = x.next + 1 })
        row =
            put_on (with_round s) x (Recorded h) _ (h.number == 4294967295) r.1 (holds, sym is, omega (arith, is, few.1))
            (ap (λ (e : ℕ). let put : PutAs = record { tree = 5; is_new = true; columns = record_columns e h } in put) (era_is (with_round s) x r.1)) refl

        by : (b : Bool) → (h.number == 4294967295) ≡ b → number_at b (x.next + 1) ≡ number_after h.number 1
        by true last =
            let same : h.number ≡ 4294967295 = eqb-true h.number 4294967295 last in omega (arith, same)
        by false last =
            let other = eqb-false h.number 4294967295 last in omega (arith, is, few.0, few.1, other)

    records_on : (s : Puts) (t : Stand) (a : ℕ) (rs : List Numbered) (b : ℕ) → Covers P a (map item_of rs) b → number_at s.full t.next ≡ a → UpTo s t →
        Leads (with_records s rs) b
    unfolding Leads
    records_on s t a [] b covers from up = (t, up, from ∙ sym covers)
    records_on s t a (h ∷ rs) b covers from up =
        let one = record_on s t h covers.1 (from ∙ sym covers.0) up in
        records_on (with_record s h) one.0 (number_after h.number 1) rs b covers.2 one.2 one.1

    -- ---- a turn

    first_on : (s : Puts) (t : Stand) (n : ℕ) (o : Option Beginning) → (o ≡ None) ⊎ (n ≡ 1) → number_at s.full t.next ≡ n → UpTo s t → Leads (with_first s o) (start_of o n)
    unfolding Leads
    first_on s t n None may from up = (t, up, from)
    first_on s t n (Some begins) (inl none) from up = absurd (cc)
    first_on s t n (Some begins) (inr one) from up =
        (behind x (Begins begins.counted begins.number), both, ap (λ (f : Bool). number_at f (behind x (Begins begins.counted begins.number)).next) (round_begun s) ∙ next begins.counted)
      where
        r : (u : Stand) × UpTo (with_round s) u × (u.next ≡ n)
        r = round_on s t n up from

        x : Stand
        x = r.0

        both : UpTo (with_first s (Some begins)) (behind x (Begins begins.counted begins.number))
        both =
            put_on (with_round s) x (Begins begins.counted begins.number) _ (with_round s).full r.1 (r.2 ∙ one)
            (ap (λ (e : ℕ). let put : PutAs = record { tree = 6; is_new = begins.counted; columns = Int (pos e) ∷ Int (pos begins.number) ∷ or_null Text (why_first begins.counted) ∷ [] } in put) (era_is (with_round s) x r.1)) refl

        next : (c : Bool) → (if c then x.next else begins.number) ≡ (if c then n else begins.number)
        next true = r.2
        next false = refl

    anew_on : (b : Bool) (s : Puts) (t : Stand) (line : Option Line) (mid : ℕ) → number_at s.full t.next ≡ mid → UpTo s t →
        Leads (with_anew s b line) (if b then 1 else mid)
    unfolding Leads
    anew_on true s t line mid from up = (record { epoch = t.epoch + 1; next = 1 }, epoch_on s t (why_anew line) up, refl)
    anew_on false s t line mid from up = (t, up, from)

    gap_ends : (t : Turned) {n : ℕ} → IsWhole P F n t → Fine n t → (b : Bool) → t.doubtful ≡ b → EndAt F t.gap
    gap_ends t whole fine true is = subst (EndAt F) (sym (fine.alone is)) tt
    gap_ends t whole fine false is = (whole.fronts is).1

    pub turn_on : (epoch : ℕ) (full : Bool) (n : ℕ) (t : Turned) → epoch ≡ start.epoch → number_at full start.next ≡ n → Fine n t → IsWhole P F n t →
        let s : Puts = with_turn (record { log = log; epoch = epoch; full = full; puts = [] }) t in
        (u : Stand) × GoOn P F log start s.puts u × (s.epoch ≡ u.epoch) × (number_at s.full u.next ≡ t.poll.next)
    unfolding Leads
    turn_on epoch full n t there is fine whole =
        let s : Puts = record { log = log; epoch = epoch; full = full; puts = [] } in
        let none : UpTo s start = record { on = refl; logged = refl; epoch = there } in
        let a = first_on s start n t.begins fine.begins is none in
        let C : List Item → Type 0 = λ l. Covers P (start_of t.begins n) l whole.mid in
        let b = gaps_on t.doubtful (with_first s t.begins) a.0 (start_of t.begins n) t.missing [] whole.mid fine.missing (λ sure. (whole.fronts sure).0)
        (subst C (sym (append-nil t.missing)) whole.before) a.2 a.1 in
        let c = anew_on t.anew (with_gaps t.doubtful (with_first s t.begins) t.missing) b.1.0 t.line whole.mid (b.1.2 ∙ sym b.2) b.1.1 in
        let d = gaps_on false (with_anew (with_gaps t.doubtful (with_first s t.begins) t.missing) t.anew t.line) c.0 (if t.anew then 1 else whole.mid) t.gap (map item_of t.records) t.poll.next fine.gap
        (λ sure. gap_ends t whole fine (t.doubtful) refl) whole.behind c.2 c.1 in
        let e = records_on _ d.1.0 d.0 t.records t.poll.next d.2 d.1.2 d.1.1 in
        (e.0, e.1.on, e.1.epoch, e.2)
