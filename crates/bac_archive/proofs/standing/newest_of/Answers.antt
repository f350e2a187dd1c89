use Rattle.std.proofs.Common.{◌≡◌, ◌+◌, ◌≤◌, ℕ, List, length, length-append, inl, inr, [], ◌∷◌, ◌++◌, refl, ap, subst, map, ◌∙◌, rules, arith, sym}
use Rattle.std.specs.List.Sorted.{IsSorted}
use Rattle.sqlite.specs.Effect.{Database}
use Rattle.sqlite.specs.State.{HasCleanDisk, Survives, CommitsShowing, FailsToQuery, IsUnchanged}
use Rattle.sqlite.specs.Held.{state}
use Rattle.sqlite.proofs.StateLemmas.{survives_then}
use Rattle.sqlite.proofs.Callers.{given_begin, begun_plain, unchanged_then}
use Rattle.bac_archive.specs.Schema.{HasArchive}
use Rattle.bac_archive.specs.Ask.{IsLeft, asked, falls, first, shown}
use Rattle.bac_archive.specs.Put.{item_columns}
use Rattle.bac_archive.specs.Read.{FailsToRead, item_kinds, numbers}
use Rattle.bac_archive.specs.Stands.{FailsToTell, Meets, TellsNewest, is_last}
use Rattle.bac_archive.specs.declared.asking.Question.TheVariants.{Items}
use Rattle.bac_archive.proofs.AskLemmas.{answers, answers_first, left_behind, left_by, commits_nothing, plain, same_length}
use Rattle.bac_archive.proofs.NewestLemmas.{told_nothing, told_more_row, tells_newest}
use Rattle.bac_archive.proofs.ReadLemmas.{joined, unread_item}
use Rattle.bac_archive.proofs.RowsLemmas.{because}
use Rattle.bac_archive.proofs.standing.newest_of.Goals as goal

pub returns-in_err-rows-clause-left : goal.returns-in_err-rows-clause-left
returns-in_err-rows-clause-left g c clean =
    let old = state g.S.Store c.args.conn.now in
    let new = state g.S.Store c.query.follows.lender-at-none in
    let held = c.query.follows.holds-at-none in
    let late : Survives old new (CommitsShowing (asked Items) [] old) = search rules in
    let early : HasCleanDisk old = omega (arith, clean, late.clean) in
    let failed : FailsToQuery (asked Items) [] old new c.in_err-rows.field-0.0 = search rules in
    left_by (asked Items) [] old new c.in_err-rows.field-0.0 (plain Items old (c.requires early)) failed

pub returns-in_err-rows-clause-crash : goal.returns-in_err-rows-clause-crash
returns-in_err-rows-clause-crash g c =
    let old = state g.S.Store c.args.conn.now in
    let new = state g.S.Store c.query.follows.lender-at-none in
    let held = c.query.follows.holds-at-none in
    let kept : Survives old new (CommitsShowing (asked Items) [] old) = search rules in
    commits_nothing (asked Items) [] old new (λ early. plain Items old (c.requires early)) kept

pub returns-in_err-rows-clause-cause : goal.returns-in_err-rows-clause-cause
returns-in_err-rows-clause-cause g c clean =
    let old = state g.S.Store c.args.conn.now in
    let new = state g.S.Store c.query.follows.lender-at-none in
    let held = c.query.follows.holds-at-none in
    let failed : FailsToQuery (asked Items) [] old new c.in_err-rows.field-0.0 = search rules in
    because c.from_residual.result c.in_err-rows.field-0.0 _ (search rules) (inl (Items, (c.args.conn.now, inl refl, failed)))

pub rows-init : goal.rows-init
rows-init g c =
    let old = state g.S.Store c.args.conn.now in
    let made = c.in_ok-rows.ensures in (
      refl,
      commits_nothing (asked Items) [] old _ (λ early. plain Items old (c.requires early)) made.survives,
      λ clean.
          let early : HasCleanDisk old = omega (arith, clean, made.survives.clean) in
          let begun = begun_plain g.S.Store (asked Items) [] c.args.conn.now c.in_ok-rows.rows.conn.now (plain Items old (c.requires early)) (made.begun clean) in
          (([], begun.0, told_nothing numbers 3 (is_last c.args.last.now) item_columns (first 6) _ (search rules) refl (omega arith), refl), begun.1),
    )

one_longer : {X : Type 0} (xs : List X) (x : X) (n : ℕ) → length xs ≡ n → length (xs ++ x ∷ []) ≡ n + 1
one_longer xs x n is = omega (arith, length-append xs (x ∷ []), is)

pub rows-preserved : goal.rows-preserved
rows-preserved g c =
    let old = state g.S.Store c.args.conn.now in
    let mid = state g.S.Store c.rows.rows.conn.now in
    let moved = c.next.follows.holds-at-none in
    let new = c.next.follows.lender-at-none.conn.now in
    let row = c.in-Some.row.now in (
      moved.same_reference ∙ c.rows.invariant.0,
      survives_then old mid (state g.S.Store new) _ _ _ (λ _ db none. none) (λ _ db none. none) c.rows.invariant.1 moved.survives,
      λ clean.
          let clean_mid : HasCleanDisk mid = omega (arith, moved.survives.clean) in
          let was = c.rows.invariant.2 clean_mid in
          let given = (rw (c.in_ok-row.was, c.in-Some.is) at (moved.ok clean)) (asked Items) [] was.0.0 was.0.1 in
          let step = unchanged_then old mid (state g.S.Store new) was.1 (rw (c.in_ok-row.was) at (moved.same clean)) in
          let has = subst (λ (d : Database). HasArchive d.schema) (sym step.0.now_is) (c.requires (omega (arith, clean_mid, c.rows.invariant.1.clean))) in
          let all = answers_first Items (state g.S.Store new) (was.0.0 ++ row ∷ []) has (given_begin g.S.Store (asked Items) [] new _ given) in
          let sorted = subst (IsSorted falls) (joined was.0.0 row all.0) all.1.order in
          let id = c.in_ok-epoch.ensures.read in
          let meets = subst (λ (e : ℕ). Meets item_columns 3 e (is_last c.args.last.now e) c.rows.found (first 6 row) c.in_ok-found.found) id.2 c.in_ok-found.ensures.meets in
          let told = told_more_row numbers 3 (is_last c.args.last.now) item_columns (first 6) (λ x y le. omega (arith, le)) (λ r. refl) (omega arith) was.0.0 all.0 row id.0 _ c.rows.found c.in_ok-found.found
          sorted id.1 (λ _. refl) meets was.0.2 in
          ((was.0.0 ++ row ∷ [], given, told, one_longer was.0.0 row c.rows.read was.0.3), step),
    )

pub returns-in_default-clause-told : goal.returns-in_default-clause-told
returns-in_default-clause-told g c clean =
    let old = state g.S.Store c.args.conn.now in
    let mid = state g.S.Store c.rows.rows.conn.now in
    let moved = c.next.follows.holds-at-none in
    let now = c.next.follows.lender-at-none.conn.now in
    let late : HasCleanDisk (state g.S.Store now) = search rules in
    let clean_mid : HasCleanDisk mid = omega (arith, late, moved.survives.clean) in
    let was = c.rows.invariant.2 clean_mid in
    let shown_all = (rw (c.in_ok-row.was, c.in_default.is) at (moved.ok late)) (asked Items) [] was.0.0 was.0.1 in
    let has = subst (λ (d : Database). HasArchive d.schema) (sym was.1.0.now_is) (c.requires (omega (arith, clean_mid, c.rows.invariant.1.clean))) in
    let all = answers Items mid (state g.S.Store now) was.0.0 has shown_all in
    subst (λ (d : Database). TellsNewest numbers 3 (is_last c.args.last.now) (map (shown 5) (d.trees 5)) (map item_columns c.rows.found.rows.items)) was.1.0.now_is
    (tells_newest numbers 3 (is_last c.args.last.now) (first 6) (shown 5) (λ r. refl) (λ r. refl) (mid.now.trees 5) was.0.0 (map item_columns c.rows.found.rows.items) all.each all.order was.0.2.0.kept was.0.2.0.there)

pub returns-in_default-clause-same : goal.returns-in_default-clause-same
returns-in_default-clause-same g c clean =
    let old = state g.S.Store c.args.conn.now in
    let mid = state g.S.Store c.rows.rows.conn.now in
    let moved = c.next.follows.holds-at-none in
    let now = c.next.follows.lender-at-none.conn.now in
    let same : now ≡ c.conn-in_default-1.given.0 = search rules in
    let late : HasCleanDisk (state g.S.Store now) = subst (λ h. HasCleanDisk (state g.S.Store h)) (sym same) clean in
    let was = c.rows.invariant.2 (omega (arith, late, moved.survives.clean)) in
    subst (λ h. IsUnchanged old (state g.S.Store h)) same (unchanged_then old mid (state g.S.Store now) was.1 (rw c.in_ok-row.was at (moved.same late)))

pub returns-in_default-clause-left : goal.returns-in_default-clause-left
returns-in_default-clause-left g c clean =
    let old = state g.S.Store c.args.conn.now in
    let mid = state g.S.Store c.rows.rows.conn.now in
    let moved = c.next.follows.holds-at-none in
    let now = c.next.follows.lender-at-none.conn.now in
    let same : now ≡ c.conn-in_default-1.given.0 = search rules in
    let late : HasCleanDisk (state g.S.Store now) = subst (λ h. HasCleanDisk (state g.S.Store h)) (sym same) clean in
    let was = c.rows.invariant.2 (omega (arith, late, moved.survives.clean)) in
    inl (subst (λ h. IsUnchanged old (state g.S.Store h)) same (unchanged_then old mid (state g.S.Store now) was.1 (rw c.in_ok-row.was at (moved.same late))))

pub returns-in_default-clause-crash : goal.returns-in_default-clause-crash
returns-in_default-clause-crash g c =
    let old = state g.S.Store c.args.conn.now in
    let mid = state g.S.Store c.rows.rows.conn.now in
    let moved = c.next.follows.holds-at-none in
    let now = c.next.follows.lender-at-none.conn.now in
    let same : now ≡ c.conn-in_default-1.given.0 = search rules in
    subst (λ h. Survives old (state g.S.Store h) (λ _. ⊥)) same (survives_then old mid (state g.S.Store now) _ _ _ (λ _ db none. none) (λ _ db none. none) c.rows.invariant.1 moved.survives)

pub returns-in_err-found-clause-left : goal.returns-in_err-found-clause-left
returns-in_err-found-clause-left g c clean =
    let old = state g.S.Store c.args.conn.now in
    let mid = state g.S.Store c.rows.rows.conn.now in
    let moved = c.next.follows.holds-at-none in
    let now = c.next.follows.lender-at-none.conn.now in
    let same : now ≡ c.conn-in_err-found-1.given.0 = search rules in
    let late : HasCleanDisk (state g.S.Store now) = subst (λ h. HasCleanDisk (state g.S.Store h)) (sym same) clean in
    let was = c.rows.invariant.2 (omega (arith, late, moved.survives.clean)) in
    inl (subst (λ h. IsUnchanged old (state g.S.Store h)) same (unchanged_then old mid (state g.S.Store now) was.1 (rw c.in_ok-row.was at (moved.same late))))

pub returns-in_err-epoch-clause-left : goal.returns-in_err-epoch-clause-left
returns-in_err-epoch-clause-left g c clean =
    let old = state g.S.Store c.args.conn.now in
    let mid = state g.S.Store c.rows.rows.conn.now in
    let moved = c.next.follows.holds-at-none in
    let now = c.next.follows.lender-at-none.conn.now in
    let same : now ≡ c.conn-in_err-epoch-1.given.0 = search rules in
    let late : HasCleanDisk (state g.S.Store now) = subst (λ h. HasCleanDisk (state g.S.Store h)) (sym same) clean in
    let was = c.rows.invariant.2 (omega (arith, late, moved.survives.clean)) in
    inl (subst (λ h. IsUnchanged old (state g.S.Store h)) same (unchanged_then old mid (state g.S.Store now) was.1 (rw c.in_ok-row.was at (moved.same late))))

pub returns-in_err-found-clause-crash : goal.returns-in_err-found-clause-crash
returns-in_err-found-clause-crash g c =
    let old = state g.S.Store c.args.conn.now in
    let mid = state g.S.Store c.rows.rows.conn.now in
    let moved = c.next.follows.holds-at-none in
    let now = c.next.follows.lender-at-none.conn.now in
    let same : now ≡ c.conn-in_err-found-1.given.0 = search rules in
    subst (λ h. Survives old (state g.S.Store h) (λ _. ⊥)) same (survives_then old mid (state g.S.Store now) _ _ _ (λ _ db none. none) (λ _ db none. none) c.rows.invariant.1 moved.survives)

pub returns-in_err-epoch-clause-crash : goal.returns-in_err-epoch-clause-crash
returns-in_err-epoch-clause-crash g c =
    let old = state g.S.Store c.args.conn.now in
    let mid = state g.S.Store c.rows.rows.conn.now in
    let moved = c.next.follows.holds-at-none in
    let now = c.next.follows.lender-at-none.conn.now in
    let same : now ≡ c.conn-in_err-epoch-1.given.0 = search rules in
    subst (λ h. Survives old (state g.S.Store h) (λ _. ⊥)) same (survives_then old mid (state g.S.Store now) _ _ _ (λ _ db none. none) (λ _ db none. none) c.rows.invariant.1 moved.survives)

pub returns-in_err-found-clause-cause : goal.returns-in_err-found-clause-cause
returns-in_err-found-clause-cause g c clean =
    let old = state g.S.Store c.args.conn.now in
    let mid = state g.S.Store c.rows.rows.conn.now in
    let moved = c.next.follows.holds-at-none in
    let now = c.next.follows.lender-at-none.conn.now in
    let late : HasCleanDisk (state g.S.Store now) = search rules in
    let clean_mid : HasCleanDisk mid = omega (arith, late, moved.survives.clean) in
    let was = c.rows.invariant.2 clean_mid in
    let given = (rw (c.in_ok-row.was, c.in-Some.is) at (moved.ok late)) (asked Items) [] was.0.0 was.0.1 in
    let step = unchanged_then old mid (state g.S.Store now) was.1 (rw (c.in_ok-row.was) at (moved.same late)) in
    let has = subst (λ (d : Database). HasArchive d.schema) (sym step.0.now_is) (c.requires (omega (arith, clean_mid, c.rows.invariant.1.clean))) in
    let all = answers_first Items (state g.S.Store now) (was.0.0 ++ c.in-Some.row.now ∷ []) has (given_begin g.S.Store (asked Items) [] now _ given) in
    let why : FailsToRead item_kinds c.in-Some.row.now c.in_err-found.field-0.0 = c.in_err-found.ensures.cause in
    because c.from_residual-in_err-found.result c.in_err-found.field-0.0 _ (search rules)
    (inr (inl (unread_item old.now.trees (state g.S.Store now).now.trees was.0.0 all.0 c.in-Some.row.now c.in_err-found.field-0.0 (ap (λ (d : Database). d.trees) step.0.now_is) all.1.each why)))

pub returns-in_err-epoch-clause-cause : goal.returns-in_err-epoch-clause-cause
returns-in_err-epoch-clause-cause g c clean =
    let old = state g.S.Store c.args.conn.now in
    let mid = state g.S.Store c.rows.rows.conn.now in
    let moved = c.next.follows.holds-at-none in
    let now = c.next.follows.lender-at-none.conn.now in
    let late : HasCleanDisk (state g.S.Store now) = search rules in
    let clean_mid : HasCleanDisk mid = omega (arith, late, moved.survives.clean) in
    let was = c.rows.invariant.2 clean_mid in
    let given = (rw (c.in_ok-row.was, c.in-Some.is) at (moved.ok late)) (asked Items) [] was.0.0 was.0.1 in
    let step = unchanged_then old mid (state g.S.Store now) was.1 (rw (c.in_ok-row.was) at (moved.same late)) in
    let has = subst (λ (d : Database). HasArchive d.schema) (sym step.0.now_is) (c.requires (omega (arith, clean_mid, c.rows.invariant.1.clean))) in
    let all = answers_first Items (state g.S.Store now) (was.0.0 ++ c.in-Some.row.now ∷ []) has (given_begin g.S.Store (asked Items) [] now _ given) in
    let why : FailsToRead item_kinds c.in-Some.row.now c.in_err-epoch.field-0.0 = c.in_err-epoch.ensures.cause in
    because c.from_residual-in_err-epoch.result c.in_err-epoch.field-0.0 _ (search rules)
    (inr (inl (unread_item old.now.trees (state g.S.Store now).now.trees was.0.0 all.0 c.in-Some.row.now c.in_err-epoch.field-0.0 (ap (λ (d : Database). d.trees) step.0.now_is) all.1.each why)))

pub returns-in_err-row-clause-left : goal.returns-in_err-row-clause-left
returns-in_err-row-clause-left g c clean =
    let old = state g.S.Store c.args.conn.now in
    let mid = state g.S.Store c.rows.rows.conn.now in
    let moved = c.next.follows.holds-at-none in
    let now = c.next.follows.lender-at-none.conn.now in
    let same : now ≡ c.conn-in_err-row-1.given.0 = search rules in
    let late : HasCleanDisk (state g.S.Store now) = subst (λ h. HasCleanDisk (state g.S.Store h)) (sym same) clean in
    let was = c.rows.invariant.2 (omega (arith, late, moved.survives.clean)) in
    subst (λ h. IsLeft old (state g.S.Store h)) same (left_behind old mid (state g.S.Store now) c.in_err-row.field-0.0 was.1 (rw c.in_err-row.was at (moved.kept late)))

pub returns-in_err-row-clause-crash : goal.returns-in_err-row-clause-crash
returns-in_err-row-clause-crash g c =
    let old = state g.S.Store c.args.conn.now in
    let mid = state g.S.Store c.rows.rows.conn.now in
    let moved = c.next.follows.holds-at-none in
    let now = c.next.follows.lender-at-none.conn.now in
    let same : now ≡ c.conn-in_err-row-1.given.0 = search rules in
    subst (λ h. Survives old (state g.S.Store h) (λ _. ⊥)) same (survives_then old mid (state g.S.Store now) _ _ _ (λ _ db none. none) (λ _ db none. none) c.rows.invariant.1 moved.survives)

pub returns-in_err-row-clause-cause : goal.returns-in_err-row-clause-cause
returns-in_err-row-clause-cause g c clean =
    let mid = state g.S.Store c.rows.rows.conn.now in
    let moved = c.next.follows.holds-at-none in
    let now = c.next.follows.lender-at-none.conn.now in
    let late : HasCleanDisk (state g.S.Store now) = search rules in
    let clean_mid : HasCleanDisk mid = omega (arith, late, moved.survives.clean) in
    let was = c.rows.invariant.2 clean_mid in
    let failed = (rw c.in_err-row.was at (moved.err late)) (asked Items) [] was.0.0 was.0.1 in
    let it : FailsToTell g.S.Store c.args.conn.now now c.in_err-row.field-0.0 = inl (Items, (c.rows.rows.conn.now, inr was.1, failed)) in
    let same : now ≡ c.conn-in_err-row-1.given.0 = search rules in
    because c.from_residual-in_err-row.result c.in_err-row.field-0.0 _ (search rules) (subst (λ h. FailsToTell g.S.Store c.args.conn.now h c.in_err-row.field-0.0) same it)

pub returns-clause-cause : goal.returns-clause-cause
returns-clause-cause g c clean =
    let old = state g.S.Store c.args.conn.now in
    let now = c.rows.rows.conn.now in
    let same : now ≡ c.conn-2-1.given.0 = search rules in
    let late : HasCleanDisk (state g.S.Store now) = search rules in
    let was = c.rows.invariant.2 late in
    let has = subst (λ (d : Database). HasArchive d.schema) (sym was.1.0.now_is) (c.requires (omega (arith, late, c.rows.invariant.1.clean))) in
    let all = answers_first Items (state g.S.Store now) was.0.0 has (given_begin g.S.Store (asked Items) [] now _ was.0.1) in
    let many = same_length (shown 5) ((state g.S.Store now).now.trees 5) (was.0.0 ++ all.0) all.1.each in
    let enough : 18446744073709551615 ≤ length ((state g.S.Store now).now.trees 5) = omega (arith, was.0.3, c.rows-test.false, many, length-append was.0.0 all.0) in
    inr (inr (inr (refl, subst (λ (d : Database). 18446744073709551615 ≤ length (d.trees 5)) was.1.0.now_is enough)))

pub returns-clause-left : goal.returns-clause-left
returns-clause-left g c clean =
    let now = c.rows.rows.conn.now in
    let same : now ≡ c.conn-2-1.given.0 = search rules in
    let late : HasCleanDisk (state g.S.Store now) = subst (λ h. HasCleanDisk (state g.S.Store h)) (sym same) clean in
    inl (subst (λ h. IsUnchanged (state g.S.Store c.args.conn.now) (state g.S.Store h)) same (c.rows.invariant.2 late).1)

pub returns-clause-crash : goal.returns-clause-crash
returns-clause-crash g c =
    let same : c.rows.rows.conn.now ≡ c.conn-2-1.given.0 = search rules in
    subst (λ h. Survives (state g.S.Store c.args.conn.now) (state g.S.Store h) (λ _. ⊥)) same c.rows.invariant.1
