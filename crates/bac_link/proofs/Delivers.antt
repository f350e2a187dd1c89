-- Laws of what a walk delivers.
use Rattle.std.proofs.Common.{◌≡◌, ℕ, suc, ◌+◌, ◌<◌, ◌⊎◌, inl, inr, List, [], ◌∷◌, ◌++◌, length, refl, sym, ap, subst, ◌∙◌, append_assoc, append-nil, arith, length-append, zero, ◌≤◌}
use Rattle.std.proofs.lemmas.Grind.{flat_map-append}
use Rattle.bac_log.specs.TrendLog.{sequence_number}
use Rattle.bac_log.specs.declared.entry.Entry.{Entry}
use Rattle.bac_link.specs.declared.item.Item.{Item}
use Rattle.bac_link.specs.declared.item.Item.TheVariants.{Gap, Logged}
use Rattle.bac_link.specs.Delivery.{History, IsEntry, Moment, Holds, now, later, AreHeld, Brings, Leads, items_of, DeliversTo}
use Rattle.bac_link.specs.Laws.{after_answers, moment_at, CoversEach, CanBeResumed, CanBeJoined, DeliversEachOnce}

-- the last moment stays
pub after_one : (i : ℕ) (m : Moment) → after_answers i (m ∷ []) ≡ m ∷ []
after_one zero m = refl
after_one (suc i) m = after_one i m

-- ---- what a moment holds

pub held_end : (H : History) (m : Moment) (s u : ℕ) (items : List Item) → AreHeld H m s items u → s ≤ m.newest + 1 → (s ≤ u) × (u ≤ m.newest + 1)
held_end H m s u [] are le = (omega (arith, are), omega (arith, are, le))
held_end H m s u (Gap f b ∷ items) are le = absurd are
held_end H m s u (Logged k e ∷ items) are le =
    let rest = held_end H m (s + 1) u items are.3 (omega (arith, are.1.1)) in (omega (arith, rest.0), rest.1)

pub first_held : (H : History) (m : Moment) (s u : ℕ) (items : List Item) → 0 < length items → AreHeld H m s items u → Holds m s
first_held H m s u [] some are = absurd (omega arith)
first_held H m s u (Gap f b ∷ items) some are = absurd are
first_held H m s u (Logged k e ∷ items) some are = are.1

pub held_length : (H : History) (m : Moment) (s u : ℕ) (items : List Item) → AreHeld H m s items u → u ≡ s + length items
held_length H m s u [] are = omega (arith, are)
held_length H m s u (Gap f b ∷ items) are = absurd are
held_length H m s u (Logged k e ∷ items) are = omega (arith, held_length H m (s + 1) u items are.3)

-- ---- each number once

pub CoversEach-append : (s t u : ℕ) (xs ys : List Item) → CoversEach s xs t → CoversEach t ys u → CoversEach s (xs ++ ys) u
CoversEach-append s t u [] ys first rest = let P : ℕ → Type 0 = λ n. CoversEach n ys u in subst P first rest
CoversEach-append s t u (Gap f b ∷ xs) ys first rest = (first.0, first.1, first.2, first.3, CoversEach-append first.0 t u xs ys first.4 rest)
CoversEach-append s t u (Logged k e ∷ xs) ys first rest = (first.0, CoversEach-append (s + 1) t u xs ys first.1 rest)

held_covers : (H : History) (m : Moment) (s u : ℕ) (items : List Item) → AreHeld H m s items u → CoversEach s items u
held_covers H m s u [] are = are
held_covers H m s u (Gap f b ∷ items) are = absurd are
held_covers H m s u (Logged k e ∷ items) are = (are.0, held_covers H m (s + 1) u items are.3)

brings_covers : (H : History) (m : Moment) (s u : ℕ) (items : List Item) → Brings H m s items u → CoversEach s items u
brings_covers H m s u [] are = are
brings_covers H m s u (Gap f b ∷ items) are = (m.oldest, are.1, are.0, are.2, held_covers H m m.oldest u items are.4)
brings_covers H m s u (Logged k e ∷ items) are = held_covers H m s u (Logged k e ∷ items) are

leads_covers : (H : History) (M : List Moment) (s t : ℕ) (answers : List (List Item)) → Leads H M s answers t → CoversEach s (items_of answers) t
leads_covers H M s t [] are = are
leads_covers H M s t (items ∷ answers) are =
    CoversEach-append s are.0 t items (items_of answers) (brings_covers H (now M) s are.0 items are.1) (leads_covers H (later M) are.0 t answers are.2)

pub each_once : DeliversEachOnce
each_once = λ H s t count M items d. let P : List Item → Type 0 = λ l. CoversEach s l t in subst P d.2 (leads_covers H M s t d.0 d.3)

-- ---- one after the other

pub leads-append : (H : History) (M : List Moment) (s t u : ℕ) (xs ys : List (List Item)) →
    Leads H M s xs t → Leads H (after_answers (length xs) M) t ys u → Leads H M s (xs ++ ys) u
leads-append H M s t u [] ys first rest = let P : ℕ → Type 0 = λ n. Leads H M n ys u in subst P first rest
leads-append H M s t u (x ∷ xs) ys first rest = (first.0, first.1, leads-append H (later M) first.0 t u xs ys first.2 rest)

pub joined : CanBeJoined
joined = λ H s t u count more M first rest d e.
    let P : ℕ → Type 0 = λ n. Leads H (after_answers n M) t e.0 u in (
      d.0 ++ e.0,
      omega (arith, length-append d.0 e.0, d.1, e.1),
      flat_map-append (λ (l : List Item). l) d.0 e.0 ∙ ap (λ n. n ++ items_of e.0) d.2 ∙ ap (λ n. first ++ n) e.2,
      leads-append H M s t u d.0 e.0 d.3 (subst P (sym d.1) e.3),
    )

-- ---- cut after an entry

-- where an element of two lists in a row stands
split_of : (xs ys before : List Item) (z : Item) (after : List Item) → xs ++ ys ≡ before ++ z ∷ after →
    ((rest : List Item) × (xs ≡ before ++ z ∷ rest)) ⊎ ((more : List Item) × (before ≡ xs ++ more) × (ys ≡ more ++ z ∷ after))
split_of [] ys before z after h = inr (before, refl, h)
split_of (x ∷ xs) ys [] z after h = inl (xs, cc)
split_of (x ∷ xs) ys (y ∷ before) z after h =
    let tails : xs ++ ys ≡ before ++ z ∷ after = cc in
    let heads : x ≡ y = cc in
    elim (split_of xs ys before z after tails) [
      | inl l ↦ let e = l.1 in inl (l.0, cc)
      | inr r ↦ let e = r.1 in inr (r.0, cc, r.2)
    ]

-- of what one answer brings, the items up to an entry bring the walk up to it
pub record BringsUpTo (H : History) (m : Moment) (s shown : ℕ) (e : Entry) (items : List Item) : Type 0 where
  pub k : ℕ
  pub shows : shown ≡ sequence_number k
  pub holds : Holds m k
  pub entry : IsEntry H k e
  pub are : Brings H m s items (k + 1)

held_cut : (H : History) (m : Moment) (s u shown : ℕ) (e : Entry) (before after : List Item) → AreHeld H m s (before ++ Logged shown e ∷ after) u →
    (k : ℕ) × (shown ≡ sequence_number k) × Holds m k × IsEntry H k e × AreHeld H m s (before ++ Logged shown e ∷ []) (k + 1)
held_cut H m s u shown e [] after are = (s, are.0, are.1, are.2, (are.0, are.1, are.2, refl))
held_cut H m s u shown e (Gap f b ∷ before) after are = absurd are
held_cut H m s u shown e (Logged l d ∷ before) after are =
    let rest = held_cut H m (s + 1) u shown e before after are.3 in (rest.0, rest.1, rest.2, rest.3, (are.0, are.1, are.2, rest.4))

pub brings_cut : (H : History) (m : Moment) (s u shown : ℕ) (e : Entry) (before after : List Item) → Brings H m s (before ++ Logged shown e ∷ after) u →
    BringsUpTo H m s shown e (before ++ Logged shown e ∷ [])
brings_cut H m s u shown e [] after are =
    let c = held_cut H m s u shown e [] after are in record { k = c.0; shows = c.1; holds = c.2; entry = c.3; are = c.4 }
brings_cut H m s u shown e (Gap f b ∷ before) after are =
    let c = held_cut H m m.oldest u shown e before after are.4 in
    record { k = c.0; shows = c.1; holds = c.2; entry = c.3; are = (are.0, are.1, are.2, omega (arith, length-append before (Logged shown e ∷ [])), c.4) }
brings_cut H m s u shown e (Logged l d ∷ before) after are =
    let c = held_cut H m s u shown e (Logged l d ∷ before) after are in record { k = c.0; shows = c.1; holds = c.2; entry = c.3; are = c.4 }

record LeadsUpTo (H : History) (M : List Moment) (s shown : ℕ) (e : Entry) (most : ℕ) (items : List Item) : Type 0 where
  k : ℕ
  place : ℕ
  shows : shown ≡ sequence_number k
  below : place < most
  holds : Holds (moment_at M place) k
  entry : IsEntry H k e
  to : DeliversTo H s items (k + 1) M (place + 1)

leads_cut : (H : History) (M : List Moment) (s t shown : ℕ) (e : Entry) (answers : List (List Item)) (before after : List Item) →
    Leads H M s answers t → items_of answers ≡ before ++ Logged shown e ∷ after → LeadsUpTo H M s shown e (length answers) (before ++ Logged shown e ∷ [])
leads_cut H M s t shown e [] [] after are all = absurd (cc)
leads_cut H M s t shown e [] (x ∷ before) after are all = absurd (cc)
leads_cut H M s t shown e (items ∷ answers) before after are all =
    elim (split_of items (items_of answers) before (Logged shown e) after all) [
      | inl l ↦
          let P : List Item → Type 0 = λ b. Brings H (now M) s b are.0 in
          let c = brings_cut H (now M) s are.0 shown e before l.0 (subst P l.1 are.1) in
          record {
            k = c.k;
            place = 0;
            shows = c.shows;
            below = omega arith;
            holds = c.holds;
            entry = c.entry;
            to = ((before ++ Logged shown e ∷ []) ∷ [], refl, append-nil (before ++ Logged shown e ∷ []), (c.k + 1, c.are, refl));
          }
      | inr r ↦
          let c = leads_cut H (later M) are.0 t shown e answers r.0 after are.2 r.2 in
          let all_items : items ++ items_of c.to.0 ≡ before ++ Logged shown e ∷ [] =
          ap (λ n. items ++ n) c.to.2 ∙ sym (append_assoc items r.0 (Logged shown e ∷ [])) ∙ ap (λ n. n ++ Logged shown e ∷ []) (sym r.1) in
          record {
            k = c.k;
            place = suc c.place;
            shows = c.shows;
            below = omega (arith, c.below);
            holds = c.holds;
            entry = c.entry;
            to = (items ∷ c.to.0, omega (arith, c.to.1), all_items, (are.0, are.1, c.to.3));
          }
    ]

pub resumed : CanBeResumed
resumed = λ H s t count shown entry M before after d.
    let c = leads_cut H M s t shown entry d.0 before after d.3 d.2 in (
      c.k,
      c.place,
      c.shows,
      omega (arith, c.below, d.1),
      c.holds,
      c.entry,
      c.to,
      λ rest u more e. joined H s (c.k + 1) u (c.place + 1) more M (before ++ Logged shown entry ∷ []) rest c.to e,
    )
