-- What puts come to, one after the other.
use Rattle.std.proofs.Common.{◌≡◌, ◌≢◌, ℕ, Bool, true, false, if◌then◌else◌, ◌==◌, List, [], ◌∷◌, ◌++◌, map, inl, inr, Ok, Err, Result, OnOk, IsTrue, eq-eqb, refl, sym, ap, subst, ◌∙◌}
use Rattle.std.specs.List.{AllByRecursion}
use Rattle.std.proofs.lemmas.Bool.{eqb-true, both_ways}
use Rattle.sqlite_value.specs.Order.{Row as Values}
use Rattle.sqlite_schema.specs.declared.schema.Table.{Table}
use Rattle.sqlite_schema.specs.declared.schema.Schema.{Schema}
use Rattle.sqlite_rules.specs.Edit.{is_taken}
use Rattle.sqlite_trees.specs.Tree.{Trees, put_row}
use Rattle.sqlite.specs.declared.error.Error.{Error}
use Rattle.sqlite.specs.Effect.{Database}
use Rattle.sqlite.specs.State.{State, ExecutesInside, Executes}
use Rattle.bac_archive.specs.Schema.{HasArchive}
use Rattle.bac_archive.specs.Making.{IsFilled, IsMade}
use Rattle.bac_archive.specs.Put.{AreAtOnce, AreFree, IsPut, Puts, after, given, given_all, is_new, left, many_text, row_of, table_of, text_of, text_of_all, with_row}
use Rattle.bac_archive.specs.declared.row.Put.{Put}
use Rattle.bac_archive.specs.declared.row.Put.TheVariants.{NewDevice, Device, NewLog, Log, Beginning, Lowered, Item}
use Rattle.bac_archive.proofs.ManyLemmas.{many_given, many_said, puts_many}
use Rattle.bac_archive.proofs.InsertLemmas.{Sets, Adds, adds_device, adds_log, adds_item, adds_beginning}
use Rattle.bac_archive.proofs.ChangeLemmas.{changes_device, changes_log, lowers}

same_place : (n : ℕ) → (n == n) ≡ true
same_place n = eq-eqb n n refl

-- the rows of each table, where one of them has others
each_table : (k : ℕ) (X : List Values → List Values) (old new : Trees) → new k ≡ X (old k) → (tables : List Table) → AllByRecursion (λ t. t.tree ≢ k → new t.tree ≡ old t.tree) tables
    → AllByRecursion (λ t. new t.tree ≡ (if k == t.tree then X (old t.tree) else old t.tree)) tables
each_table k X old new is [] others = tt
each_table k X old new is (t ∷ tables) others = (go (k == t.tree) refl, each_table k X old new is tables others.1)
  where
    go : (b : Bool) → (k == t.tree) ≡ b → new t.tree ≡ (if b then X (old t.tree) else old t.tree)
    go true same = subst (λ n. new n ≡ X (old n)) (eqb-true k t.tree same) is
    go false other = others.0 (λ same. both_ways _ other (subst (λ n. (k == n) ≡ true) (sym same) (same_place k)))

-- what is so of every table is so of these
of_all : (P : Table → Type 0) → ((t : Table) → P t) → (tables : List Table) → AllByRecursion P tables
of_all P all [] = tt
of_all P all (t ∷ tables) = (all t, of_all P all tables)

-- one put, which is free if it is new
sets_put : (old new : Database) (put : Put) → (is_new put ≡ true → is_taken (old.trees (table_of put).tree) (row_of put) ≡ false)
    → Sets old new (table_of put).tree (with_row put (old.trees (table_of put).tree)) → IsPut old new (put ∷ [])
sets_put old new put free it = record {
  schema = it.schema;
  rows = each_table (table_of put).tree (with_row put) old.trees new.trees it.rows_are old.schema.tables it.others;
  once = of_all _ (λ t. ((λ same new. subst (λ n. is_taken (old.trees n) (row_of put) ≡ false) same (free new)), tt)) old.schema.tables;
}

adds_put : (old new : Database) (put : Put) → Adds old new (table_of put).tree (row_of put) → with_row put (old.trees (table_of put).tree) ≡ put_row (row_of put) (old.trees (table_of put).tree) → IsPut old new (put ∷ [])
adds_put old new put it is = sets_put old new put (λ _. it.free) (subst (Sets old new (table_of put).tree) (sym is) it.sets)

is_put : (put : Put) (old new : State) (count : ℕ) → HasArchive old.now.schema → Executes (text_of put) (given put) old new (Ok count) → IsPut old.now new.now (put ∷ [])
is_put (NewDevice d) old new count has ran = adds_put old.now new.now (NewDevice d) (adds_device _ _ _ _ _ _ _ _ _ _ _ old new count has ran) refl
is_put (Device d) old new count has ran = sets_put old.now new.now (Device d) (λ e. absurd cc) (changes_device _ _ _ _ _ _ _ _ _ _ _ old new count has ran)
is_put (NewLog l) old new count has ran = adds_put old.now new.now (NewLog l) (adds_log _ _ _ _ _ _ _ _ _ _ old new count has ran) refl
is_put (Log l) old new count has ran = sets_put old.now new.now (Log l) (λ e. absurd cc) (changes_log _ _ _ _ _ _ _ _ _ _ old new count has ran)
is_put (Beginning b) old new count has ran = adds_put old.now new.now (Beginning b) (adds_beginning _ _ _ old new count has ran) refl
is_put (Lowered b) old new count has ran = sets_put old.now new.now (Lowered b) (λ e. absurd cc) (lowers _ _ _ old new count has ran)
is_put (Item i) old new count has ran = adds_put old.now new.now (Item i) (adds_item _ _ _ _ _ _ old new count has ran) refl

pub puts_one : (put : Put) (old new : State) (count : ℕ) → HasArchive old.now.schema → ExecutesInside 0 (text_of put) (given put) old new (Ok count) → Puts old new (put ∷ [])
puts_one put old new count has ran = record { put = is_put put old new count has ran.0; mode = ran.1.mode; committed = ran.1.committed_is }

-- what one statement puts
pub puts_these : (these : List Put) (old new : State) (count : ℕ) → AreAtOnce these → HasArchive old.now.schema → ExecutesInside 0 (text_of_all these) (given_all these) old new (Ok count) → Puts old new these
puts_these these old new count (inl one) has ran =
    let alone = subst (λ t. ExecutesInside 0 (text_of_all t) (given_all t) old new (Ok count)) one.1 ran in
    subst (Puts old new) (sym one.1) (puts_one one.0 old new count has alone)
puts_these these old new count (inr (xs, len, records, are)) has ran =
    let said = subst (λ t. ExecutesInside 0 (text_of_all t) (given_all t) old new (Ok count)) are ran in
    let all = subst (λ t. ExecutesInside 0 t (given_all (map Item xs)) old new (Ok count)) (many_said xs len) said in
    let bound = subst (λ p. ExecutesInside 0 many_text p old new (Ok count)) (many_given xs len) all in
    subst (Puts old new) (sym are) (record { put = puts_many xs len records old new count has bound.0; mode = bound.1.mode; committed = bound.1.committed_is })

-- ---- one after the other

left_both : (tree : ℕ) (xs ys : List Put) (rows : List Values) → left tree rows (xs ++ ys) ≡ left tree (left tree rows xs) ys
left_both tree [] ys rows = refl
left_both tree (x ∷ xs) ys rows = left_both tree xs ys (after tree rows x)

free_both : (tree : ℕ) (xs ys : List Put) (rows : List Values) → AreFree tree rows xs → AreFree tree (left tree rows xs) ys → AreFree tree rows (xs ++ ys)
free_both tree [] ys rows p q = q
free_both tree (x ∷ xs) ys rows p q = (p.0, free_both tree xs ys (after tree rows x) p.1 q)

rows_both : (a b c : Trees) (xs ys : List Put) (tables : List Table) → AllByRecursion (λ t. b t.tree ≡ left t.tree (a t.tree) xs) tables
    → AllByRecursion (λ t. c t.tree ≡ left t.tree (b t.tree) ys) tables → AllByRecursion (λ t. c t.tree ≡ left t.tree (a t.tree) (xs ++ ys)) tables
rows_both a b c xs ys [] p q = tt
rows_both a b c xs ys (t ∷ tables) p q = (q.0 ∙ ap (λ rows. left t.tree rows ys) p.0 ∙ sym (left_both t.tree xs ys (a t.tree)), rows_both a b c xs ys tables p.1 q.1)

once_both : (a b : Trees) (xs ys : List Put) (tables : List Table) → AllByRecursion (λ t. b t.tree ≡ left t.tree (a t.tree) xs) tables
    → AllByRecursion (λ t. AreFree t.tree (a t.tree) xs) tables → AllByRecursion (λ t. AreFree t.tree (b t.tree) ys) tables → AllByRecursion (λ t. AreFree t.tree (a t.tree) (xs ++ ys)) tables
once_both a b xs ys [] rows p q = tt
once_both a b xs ys (t ∷ tables) rows p q = (free_both t.tree xs ys (a t.tree) p.0 (subst (λ l. AreFree t.tree l ys) rows.0 q.0), once_both a b xs ys tables rows.1 p.1 q.1)

pub put_then : (a b c : Database) (xs ys : List Put) → IsPut a b xs → IsPut b c ys → IsPut a c (xs ++ ys)
put_then a b c xs ys p q = record {
  schema = q.schema ∙ p.schema;
  rows = rows_both a.trees b.trees c.trees xs ys a.schema.tables p.rows (subst (λ (s : Schema). AllByRecursion (λ t. c.trees t.tree ≡ left t.tree (b.trees t.tree) ys) s.tables) p.schema q.rows);
  once = once_both a.trees b.trees xs ys a.schema.tables p.rows p.once (subst (λ (s : Schema). AllByRecursion (λ t. AreFree t.tree (b.trees t.tree) ys) s.tables) p.schema q.once);
}

pub put_nothing : (db : Database) → IsPut db db []
put_nothing db = record { schema = refl; rows = of_all _ (λ t. refl) db.schema.tables; once = of_all _ (λ t. tt) db.schema.tables }

pub puts_nothing : (old : State) → IsTrue old.in_transaction → Puts old old []
puts_nothing old inside = record { put = put_nothing old.now; mode = inside; committed = refl }

pub puts_then : (a b c : State) (xs ys : List Put) → Puts a b xs → Puts b c ys → Puts a c (xs ++ ys)
puts_then a b c xs ys p q = record { put = put_then a.now b.now c.now xs ys p.put q.put; mode = q.mode; committed = q.committed ∙ p.committed }

-- rows that are put into a new archive
pub filled : {A : Type 0} (moment : List ℕ) (old made new : State) (puts : List Put) (r : Result A Error) → IsMade moment old made → OnOk r (Puts made new puts) → OnOk r (IsFilled moment old new puts)
filled moment old made new puts (Ok a) is p = record { of_puts = (made.now, is.made, p.put); mode = p.mode; committed = p.committed ∙ is.committed }
filled moment old made new puts (Err e) is p = tt
