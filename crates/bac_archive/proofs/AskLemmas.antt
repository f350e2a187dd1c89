-- What the questions that an archive is asked mean.
use Rattle.std.proofs.Common.{◌≡◌, refl, sym, ap, subst, subst₂, ◌∙◌, codes, ℕ, ◌+◌, List, [], ◌∷◌, ◌++◌, map, length, get_or, All, pos, negsuc, None, true, false, ◌⊎◌, inl, inr, arith, Result, Ok, Err, IfOk, OnOk, Less, Equal, Greater, is_lt}
use Rattle.std.specs.List.Sorted.{IsPermutation, IsSorted}
use Rattle.std.specs.declared.cmp.Ordering.{Ordering}
use Rattle.std.specs.Ordering.{ordering_then}
use Rattle.std.proofs.lemmas.List.{get_or-map, length-map}
use Rattle.std.proofs.lemmas.List.Elements.{All-get_or, All-from_get_or}
use Rattle.std.proofs.lemmas.List.Sorted.{IsPermutation-map, length_permutation, All-permutation}
use Rattle.std.proofs.lemmas.List.Concat.{flat_map_single}
use Rattle.std.proofs.lemmas.Simd.{map-map}
use Rattle.sqlite_value.specs.declared.keys.Key.{Key}
use Rattle.sqlite_value.specs.declared.keys.Collation.TheVariants.{Binary}
use Rattle.sqlite_value.specs.declared.value.Value.TheVariants.{Null, Int}
use Rattle.sqlite_value.specs.Order.{Row as Values, column, value_cmp}
use Rattle.sqlite_trees.specs.Tree.{Trees}
use Rattle.sqlite_trees.specs.declared.store.Store.{Ghosts}
use Rattle.sqlite_sql.specs.Term.{Term, Env, lit, col, eval_all}
use Rattle.sqlite_sql.specs.Query.{Query, inner, end, IsAnswer as Gives, Output, output, output_cmp}
use Rattle.sqlite_sql.specs.Program.{overlay}
use Rattle.sqlite_schema.specs.declared.command.Command.{Command}
use Rattle.sqlite_schema.specs.declared.command.Command.TheVariants.{Select}
use Rattle.sqlite_schema.specs.declared.schema.Schema.{Schema}
use Rattle.sqlite_tied.specs.Compute.{everything}
use Rattle.sqlite.specs.declared.error.Error.{Error}
use Rattle.sqlite.specs.Clock.{timed}
use Rattle.sqlite.specs.Effect.{Database}
use Rattle.sqlite.specs.Held.{Held, state}
use Rattle.sqlite.specs.Listing.{understood, reads_listing}
use Rattle.sqlite.specs.State.{State, HasCleanDisk, Shown, ShowsRows, Begins, Survives, CommitsShowing, Fails, IsUnchanged, IsNotRun, FailsToQuery, FailsToShow}
use Rattle.sqlite.proofs.StateLemmas.{survives_then, survives_weaker}
use Rattle.sqlite.proofs.Callers.{IsPlain, command_of, reads_as, begins_as, never_commits, unchanged_then}
use Rattle.bac_archive.specs.Schema.{HasArchive}
use Rattle.bac_archive.specs.Ask.{FailsToAnswer, FailsToAnswerTo, IsAnswer, IsAsWas, IsLeft, asked, falls, rises, tree_of}
use Rattle.bac_archive.specs.declared.asking.Question.{Question}
use Rattle.bac_archive.specs.declared.asking.Question.TheVariants.{Archive, Devices, Logs, Beginnings, Items, Spans}
use Rattle.bac_archive.proofs.AroundLemmas.{around, is_around}

-- all rows of a table, as these terms show them
abbrev scan : ℕ → List Term → List (Term × Key) → Query
scan tree project order = record {
  from = inner tree end;
  filter = [];
  group = None;
  project = project;
  distinct = false;
  collations = [];
  order = order;
  limit = lit (Int (negsuc 0));
  offset = lit (Int (pos 0));
}

abbrev pub rising : List (Term × Key)
rising = (col 1 0, record { collation = Binary; descending = false }) ∷ []

abbrev pub falling : List (Term × Key)
falling = (col 1 0, record { collation = Binary; descending = true }) ∷ []

-- the terms of a question, and its order
abbrev terms : Question → List Term
terms Archive = col 1 0 ∷ col 1 2 ∷ []
terms Devices = col 1 0 ∷ col 1 2 ∷ col 1 3 ∷ col 1 4 ∷ col 1 5 ∷ col 1 6 ∷ col 1 7 ∷ col 1 8 ∷ col 1 9 ∷ col 1 10 ∷ col 1 11 ∷ []
terms Logs = col 1 0 ∷ col 1 2 ∷ col 1 3 ∷ col 1 4 ∷ col 1 5 ∷ col 1 6 ∷ col 1 7 ∷ col 1 8 ∷ col 1 9 ∷ col 1 10 ∷ []
terms Beginnings = col 1 0 ∷ col 1 2 ∷ col 1 3 ∷ []
terms Items = col 1 0 ∷ col 1 2 ∷ col 1 3 ∷ col 1 4 ∷ col 1 5 ∷ col 1 6 ∷ []
terms Spans = col 1 0 ∷ col 1 2 ∷ []

abbrev order_of : Question → List (Term × Key)
order_of Archive = []
order_of Devices = rising
order_of Logs = falling
order_of Beginnings = falling
order_of Items = falling
order_of Spans = rising

abbrev names : Question → List (List ℕ)
names Archive = codes "version" ∷ codes "made" ∷ []
names Devices = codes "id" ∷ codes "address" ∷ codes "dnet" ∷ codes "dadr" ∷ codes "instance" ∷ codes "name" ∷ codes "revision" ∷ codes "whole" ∷ codes "stopped" ∷ codes "answered" ∷ codes "offset" ∷ []
names Logs = codes "id" ∷ codes "device" ∷ codes "instance" ∷ codes "name" ∷ codes "source" ∷ codes "units" ∷ codes "description" ∷ codes "restart" ∷ codes "revision" ∷ codes "stopped" ∷ []
names Beginnings = codes "id" ∷ codes "number" ∷ codes "why" ∷ []
names Items = codes "id" ∷ codes "last" ∷ codes "stamp" ∷ codes "value" ∷ codes "datum" ∷ codes "flags" ∷ []
names Spans = codes "id" ∷ codes "last" ∷ []

abbrev query_of : Question → Query
query_of q = scan (tree_of q) (terms q) (order_of q)

abbrev command : Question → Command
command q = Select (record { lets = []; body = query_of q }) (names q)

-- a question asks this, and not for the listing of the tables
record Asks (s : Schema) (has : HasArchive s) (q : Question) : Type 0 where
  pub command_is : command_of (understood (around s has) (asked q)) ≡ command q
  pub plain : IsPlain (understood (around s has) (asked q))
  pub unlisted : reads_listing (around s has) (asked q) ≡ false

asks : (s : Schema) (has : HasArchive s) (q : Question) → Asks s has q
unfolding understood everything
asks s has Archive = record { command_is = refl; plain = (refl, refl); unlisted = refl }
asks s has Devices = record { command_is = refl; plain = (refl, refl); unlisted = refl }
asks s has Logs = record { command_is = refl; plain = (refl, refl); unlisted = refl }
asks s has Beginnings = record { command_is = refl; plain = (refl, refl); unlisted = refl }
asks s has Items = record { command_is = refl; plain = (refl, refl); unlisted = refl }
asks s has Spans = record { command_is = refl; plain = (refl, refl); unlisted = refl }

abbrev env_of : Values → Env
env_of row = [] ∷ row ∷ []

-- an output is sorted by the id that it shows
abbrev pub ShowsKey : Output → Type 0
ShowsKey o = column o.0 0 ≡ column o.1 0

pub all_show : (q : Query) → ((e : Env) → ShowsKey (output q e)) → (envs : List Env) → All ShowsKey (map (output q) envs)
all_show q key [] = λ i d lt. absurd (omega (arith, lt))
all_show q key (e ∷ es) = All-from_get_or ShowsKey (map (output q) (e ∷ es)) (output q e) (λ i lt.
    subst ShowsKey (sym (get_or-map (output q) (e ∷ es) i e (output q e) (omega (arith, lt, length-map (e ∷ es) (output q))))) (key (get_or (e ∷ es) i e)))

plain_then : (o : Ordering) → is_lt (ordering_then o Equal) ≡ is_lt o
plain_then Less = refl
plain_then Equal = refl
plain_then Greater = refl

pub falls_by : (tree : ℕ) (project : List Term) (os : List Output) → All ShowsKey os → IsSorted (output_cmp (scan tree project falling)) os → IsSorted falls (map (λ (o : Output). o.1) os)
falls_by tree project os keyed sorted = λ k d low high.
    let o : Output = (d, d) in
    let len = length-map os (λ (o : Output). o.1) in
    let one = get_or-map (λ (o : Output). o.1) os (k + 1) o d (omega (arith, high, len)) in
    let two = get_or-map (λ (o : Output). o.1) os k o d (omega (arith, high, len)) in
    let a = All-get_or ShowsKey os (k + 1) o (omega (arith, high, len)) keyed in
    let b = All-get_or ShowsKey os k o (omega (arith, high, len)) keyed in
    let was = sym (plain_then (value_cmp (column (get_or os k o).0 0) (column (get_or os (k + 1) o).0 0))) ∙ sorted k o low (omega (arith, high, len)) in
    subst₂ (λ x y. is_lt (value_cmp (column y 0) (column x 0)) ≡ false) (sym one) (sym two) (subst₂ (λ x y. is_lt (value_cmp y x) ≡ false) a b was)

pub rises_by : (tree : ℕ) (project : List Term) (os : List Output) → All ShowsKey os → IsSorted (output_cmp (scan tree project rising)) os → IsSorted rises (map (λ (o : Output). o.1) os)
rises_by tree project os keyed sorted = λ k d low high.
    let o : Output = (d, d) in
    let len = length-map os (λ (o : Output). o.1) in
    let one = get_or-map (λ (o : Output). o.1) os (k + 1) o d (omega (arith, high, len)) in
    let two = get_or-map (λ (o : Output). o.1) os k o d (omega (arith, high, len)) in
    let a = All-get_or ShowsKey os (k + 1) o (omega (arith, high, len)) keyed in
    let b = All-get_or ShowsKey os k o (omega (arith, high, len)) keyed in
    let was = sym (plain_then (value_cmp (column (get_or os (k + 1) o).0 0) (column (get_or os k o).0 0))) ∙ sorted k o low (omega (arith, high, len)) in
    subst₂ (λ x y. is_lt (value_cmp (column x 0) (column y 0)) ≡ false) (sym one) (sym two) (subst₂ (λ x y. is_lt (value_cmp x y) ≡ false) a b was)

module _ (tree : ℕ) (project : List Term) (order : List (Term × Key)) (db : Trees) (rows : List Values) (a : Gives (scan tree project order) (overlay db []) [] rows) where
  abbrev query : Query
  query = scan tree project order

  abbrev envs : List Env
  envs = map env_of (overlay db [] tree)

  same_outputs : IsPermutation (map (output query) envs) a.ordered
  same_outputs = subst (λ k. IsPermutation k a.ordered) (a.distinct ∙ ap (map (output query)) (a.grouped ∙ flat_map_single env_of (overlay db [] tree))) a.same

  -- all rows are shown, in some order
  scan_rows : IsPermutation (map (λ r. eval_all project (env_of r)) (overlay db [] tree)) rows
  scan_rows =
      let inside = map-map (λ (o : Output). o.1) (output query) envs ∙ map-map (λ e. (output query e).1) env_of (overlay db [] tree) in
      subst₂ IsPermutation inside (sym a.shown) (IsPermutation-map (λ (o : Output). o.1) _ _ same_outputs)

-- and by falling ids
scan_falls : (tree : ℕ) (project : List Term) (db : Trees) (rows : List Values) → ((e : Env) → ShowsKey (output (scan tree project falling) e))
    → Gives (scan tree project falling) (overlay db []) [] rows → IsSorted falls rows
scan_falls tree project db rows key a =
    subst (IsSorted falls) (sym a.shown)
    (falls_by tree project a.ordered (All-permutation ShowsKey _ _ (same_outputs tree project falling db rows a) (all_show (scan tree project falling) key (map env_of (overlay db [] tree)))) a.sorted)

-- or by rising ones
scan_rises : (tree : ℕ) (project : List Term) (db : Trees) (rows : List Values) → ((e : Env) → ShowsKey (output (scan tree project rising) e))
    → Gives (scan tree project rising) (overlay db []) [] rows → IsSorted rises rows
scan_rises tree project db rows key a =
    subst (IsSorted rises) (sym a.shown)
    (rises_by tree project a.ordered (All-permutation ShowsKey _ _ (same_outputs tree project rising db rows a) (all_show (scan tree project rising) key (map env_of (overlay db [] tree)))) a.sorted)

scans : (q : Question) (db : Trees) (rows : List Values) → Gives (query_of q) (overlay db []) [] rows → IsAnswer q db rows
scans Archive db rows a = record { each = scan_rows 0 (terms Archive) [] db rows a; order = tt }
scans Devices db rows a = record { each = scan_rows 1 (terms Devices) rising db rows a; order = scan_rises 1 (terms Devices) db rows (λ e. refl) a }
scans Logs db rows a = record { each = scan_rows 3 (terms Logs) falling db rows a; order = scan_falls 3 (terms Logs) db rows (λ e. refl) a }
scans Spans db rows a = record { each = scan_rows 5 (terms Spans) rising db rows a; order = scan_rises 5 (terms Spans) db rows (λ e. refl) a }
scans Beginnings db rows a = record { each = scan_rows 6 (terms Beginnings) falling db rows a; order = scan_falls 6 (terms Beginnings) db rows (λ e. refl) a }
scans Items db rows a = record { each = scan_rows 5 (terms Items) falling db rows a; order = scan_falls 5 (terms Items) db rows (λ e. refl) a }

pub answers : (q : Question) (old new : State) (rows : List Values) → HasArchive old.now.schema → Shown (asked q) [] old new rows → IsAnswer q old.now.trees rows
answers q old new rows has it =
    let a = asks old.now.schema has q in
    let reads = reads_as (asked q) [] old new (around old.now.schema has) (is_around old.now.schema has) (command q) a.command_is a.plain a.unlisted rows it in
    scans q old.now.trees rows (reads.answer Null)

pub answers_first : (q : Question) (now : State) (rows : List Values) → HasArchive now.now.schema → Begins (asked q) [] now rows → (more : List Values) × IsAnswer q now.now.trees (rows ++ more)
answers_first q now rows has it =
    let a = asks now.now.schema has q in
    let reads = begins_as (asked q) [] now now (around now.now.schema has) (is_around now.now.schema has) (command q) a.command_is a.plain a.unlisted rows it in
    (reads.1.0, scans q now.now.trees (rows ++ reads.1.0) (reads.1.1 Null))

pub plain : (q : Question) (s : State) → HasArchive s.now.schema → IsPlain (understood s.now.schema (asked q))
plain q s has = subst (λ h. IsPlain (understood h (asked q))) (sym (is_around s.now.schema has)) (asks s.now.schema has q).plain

-- a question that fails leaves the database as it was, or what was committed
pub left_by : (sql : List ℕ) (params : Values) (old new : State) (e : Error) → IsPlain (understood old.now.schema sql) → FailsToQuery sql params old new e → IsLeft old new
unfolding FailsToQuery IsNotRun
left_by sql params old new e plain (inl (inl none)) = inl none.1
left_by sql params old new e plain (inl (inr failed)) = inr failed.3
left_by sql params old new e plain (inr it) =
    let bare = (subst IsPlain it.1.is plain).0 in
    inl (subst (FailsToShow old new sql it.0 (timed params it.0.formats it.1.now) e) bare it.2).3

-- what is left of a database that was unchanged before
pub left_then : (a b c : State) → IsUnchanged a b → IsLeft b c → IsLeft a c
left_then a b c p (inl q) = inl (unchanged_then a b c p q)
left_then a b c p (inr r) = inr (record {
  was_open = λ _. p.0.was_open;
  undone = λ is_open. ((r.undone is_open).0 ∙ p.0.committed_is, (r.undone is_open).1 ∙ p.0.committed_is);
  autocommit = r.autocommit;
  unmarked = r.unmarked;
  counts = record { changes = r.counts.changes ∙ p.1.changes; last_rowid = r.counts.last_rowid ∙ p.1.last_rowid };
})

pub left_behind : (a b c : State) (e : Error) → IsUnchanged a b → Fails b c ⊥ e ⊎ IsUnchanged b c → IsLeft a c
left_behind a b c e p (inl failed) = left_then a b c p (inr failed.3)
left_behind a b c e p (inr q) = left_then a b c p (inl q)

-- as many rows are shown as a table has
pub same_length : (f : Values → Values) (table rows : List Values) → IsPermutation (map f table) rows → length rows ≡ length table
same_length f table rows same = omega (arith, length_permutation _ _ same, length-map table f)

pub commits_nothing : (sql : List ℕ) (params : Values) (old new : State) → (HasCleanDisk old → IsPlain (understood old.now.schema sql))
    → Survives old new (CommitsShowing sql params old) → Survives old new (λ _. ⊥)
commits_nothing sql params old new plain h = survives_weaker old new _ _ (λ clean db. never_commits sql params old db (plain (omega (arith, clean, h.clean)))) h

-- an archive that wasn't changed is still one
pub has_still : (a b : State) → IsUnchanged a b → HasArchive a.now.schema → HasArchive b.now.schema
has_still a b same has = subst (λ (d : Database). HasArchive d.schema) (sym same.0.now_is) has

-- nor does a crash of two that come one after the other leave what neither leaves
pub crash_then : (a b c : State) → (HasCleanDisk a → HasArchive a.now.schema) → (HasCleanDisk b → HasArchive a.now.schema → IsUnchanged a b)
    → ((HasCleanDisk a → HasArchive a.now.schema) → Survives a b (λ _. ⊥)) → ((HasCleanDisk b → HasArchive b.now.schema) → Survives b c (λ _. ⊥)) → Survives a c (λ _. ⊥)
crash_then a b c has same one two =
    let first = one has in
    survives_then a b c _ _ _ (λ _ db none. none) (λ _ db none. none) first
    (two (λ clean. let early = has (omega (arith, clean, first.clean)) in has_still a b (same clean early) early))

-- the answer to a plain question changes nothing
pub shown_same : (sql : List ℕ) (params : Values) (old new : State) (rows : List Values) → IsPlain (understood old.now.schema sql) → Shown sql params old new rows → IsUnchanged old new
unfolding Shown
shown_same sql params old new rows plain it =
    let bare = (subst IsPlain it.1.is plain).0 in
    (subst (ShowsRows old new sql it.0 (timed params it.0.formats it.1.now) rows) bare it.2).3

pub if_ok : {A E : Type 0} (r : Result A E) (P Q : A → Type 0) → IfOk r P → ((a : A) → P a → Q a) → IfOk r Q
if_ok (Ok a) P Q h f = f a h
if_ok (Err e) P Q h f = tt

pub on_ok : {A E : Type 0} (r : Result A E) (X : Type 0) → X → OnOk r X
on_ok (Ok a) X x = x
on_ok (Err e) X x = tt

-- one behind what may not have been asked
pub as_was_behind : {S : Type 0} (g : Ghosts S) (a b c : Held S) → IsUnchanged (state g a) (state g b) → IsAsWas g b c → IsAsWas g a c
as_was_behind g a b c one (inl none) = inr (subst (λ h. IsUnchanged (state g a) (state g h)) (sym none) one)
as_was_behind g a b c one (inr two) = inr (unchanged_then (state g a) (state g b) (state g c) one two)

-- the database gives up on one of two questions
pub one_of_two : {S : Type 0} (g : Ghosts S) (old new : Held S) (one two : Question) (e : Error) → FailsToAnswerTo g one old new e ⊎ FailsToAnswerTo g two old new e → FailsToAnswer g old new e
one_of_two g old new one two e (inl it) = (one, it)
one_of_two g old new one two e (inr it) = (two, it)

-- or on one that is asked behind what changed nothing
pub answer_behind : {S : Type 0} (g : Ghosts S) (a b c : Held S) (e : Error) → IsUnchanged (state g a) (state g b) → FailsToAnswer g b c e → FailsToAnswer g a c e
answer_behind g a b c e same (question, (mid, was, why)) = (question, (mid, as_was_behind g a b mid same was, why))
