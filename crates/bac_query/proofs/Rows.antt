-- Rows, one after the other.
use Rattle.std.proofs.Common.{◌≡◌, ℕ, ◌+◌, Ok, Err, Result, IfOk, OnOk, List, [], ◌∷◌, ◌++◌, drop, refl, sym, subst, append_assoc, append-nil}
use Rattle.std.specs.Io.KnownBytes.{Appends}
use Rattle.bac_print.specs.Output.{AppendsPart}
use Rattle.bac_query.specs.Ahead.{PrintsLeft}
use Rattle.bac_query.specs.Reading.{Answer, Held, Prints}
use Rattle.bac_query.specs.declared.fault.QueryFault.TheVariants.{Exchange, Write, Memory}
use Rattle.bac_form.specs.declared.form.Form.TheVariants.{Csv, Json}
use Rattle.bac_link.specs.declared.item.Item.{Item}
use Rattle.bac_query.specs.Json.{AreJson}
use Rattle.bac_query.specs.Rows.{AreRows, AreTexts}

-- the texts behind a text make those of all with it
abbrev pub RowsOn : (Item → List ℕ → Type 0) → List Item → List ℕ → ℕ → Type 0
RowsOn is items done i = (rest : List ℕ) → AreTexts is (drop i items) rest → AreTexts is items (done ++ rest)

-- one text more
pub row_more : (is : Item → List ℕ → Type 0) (items : List Item) (i : ℕ) (item : Item) (done one : List ℕ) → drop i items ≡ item ∷ drop (i + 1) items → is item one →
    RowsOn is items done i → RowsOn is items (done ++ one) (i + 1)
row_more is items i item done one here it so = λ rest are.
    let P : List Item → Type 0 = λ l. AreTexts is l (one ++ rest) in
    let Q : List ℕ → Type 0 = λ l. AreTexts is items l in
    subst Q (sym (append_assoc done one rest)) (so (one ++ rest) (subst P (sym here) (one, rest, refl, it, are)))

-- a text that is the rows of items was printed, or a front part of it
pub rows_printed : (items : List Item) (rows text : List ℕ) (result : Answer) (old new : Held) → AreRows items rows → text ≡ rows →
    Prints text result old new → PrintsLeft Csv items result old new
rows_printed items rows text (Ok done) old new are is prints =
    let P : List ℕ → Type 0 = λ t. Appends old new t in (rows, are, subst P is prints)
rows_printed items rows text (Err Write) old new are is prints =
    let P : List ℕ → Type 0 = λ t. AppendsPart old new t in (items, [], sym (append-nil items), (rows, are, subst P is prints))
rows_printed items rows text (Err Memory) old new are is prints = absurd prints
rows_printed items rows text (Err (Exchange fault)) old new are is prints = absurd prints

-- a text that is the lines of items was printed, or a front part of it
pub json_printed : (items : List Item) (rows text : List ℕ) (result : Answer) (old new : Held) → AreJson items rows → text ≡ rows →
    Prints text result old new → PrintsLeft Json items result old new
json_printed items rows text (Ok done) old new are is prints =
    let P : List ℕ → Type 0 = λ t. Appends old new t in (rows, are, subst P is prints)
json_printed items rows text (Err Write) old new are is prints =
    let P : List ℕ → Type 0 = λ t. AppendsPart old new t in (items, [], sym (append-nil items), (rows, are, subst P is prints))
json_printed items rows text (Err Memory) old new are is prints = absurd prints
json_printed items rows text (Err (Exchange fault)) old new are is prints = absurd prints

-- ---- what a step brought

pub ok_then : {A E : Type 0} (r : Result A E) (X Y : Type 0) → (X → Y) → OnOk r X → OnOk r Y
ok_then (Ok a) X Y f x = f x
ok_then (Err e) X Y f x = tt

pub if_ok_then : {A E : Type 0} (r : Result A E) (P Q : A → Type 0) → IfOk r P → ((a : A) → P a → Q a) → IfOk r Q
if_ok_then (Ok a) P Q holds then = then a holds
if_ok_then (Err e) P Q holds then = tt
