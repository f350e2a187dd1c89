-- Rows as the code has them.
use Rattle.std.proofs.Common.{◌≡◌, ℕ, ◌+◌, ◌<◌, Bool, true, false, if◌then◌else◌, List, ◌∷◌, length, get_or, drop, map, replicate, Option, None, Some, pos, refl, sym, ap, ◌∙◌, arith}
use Rattle.std.specs.List.{slice_get}
use Rattle.std.specs.Option.{is_some}
use Rattle.std.proofs.lemmas.List.{drop_more, get_or-replicate, length-replicate}
use Rattle.std.proofs.lemmas.Option.{slice_get-get_or}
use Rattle.sqlite_value.specs.declared.value.Value.TheVariants.{Int}
use Rattle.sqlite.specs.Values.{or_null}
use Rattle.bac_archive.specs.Items.{last_at}
use Rattle.bac_archive.specs.Put.{item_columns}
use Rattle.bac_archive.specs.declared.row.ItemRow.{ItemRow}
use Rattle.bac_resume.specs.Rows.{LogTold, untold}
use Rattle.bac_resume.specs.Stands.{is_gap, newest_record}

-- ---- the newest record

gap_is : (o : Option ℕ) → is_some (last_at (or_null (λ n. Int (pos n)) o)) ≡ is_some o
gap_is None = refl
gap_is (Some n) = refl

at_item : (items : List ItemRow) (i : ℕ) (item : ItemRow) → i < length items → item ≡ get_or items i item →
    newest_record (map item_columns (drop i items)) ≡ (if is_gap (item_columns item) then newest_record (map item_columns (drop (i + 1) items)) else Some (item_columns item))
at_item items i item less is =
    ap (λ (l : List ItemRow). newest_record (map item_columns l)) (drop_more items i item less)
    ∙ ap (λ (x : ItemRow). newest_record (map item_columns (x ∷ drop (i + 1) items))) (sym is)

pub record_here : (items : List ItemRow) (i : ℕ) (item : ItemRow) → i < length items → item ≡ get_or items i item →
    newest_record (map item_columns (drop i items)) ≡ newest_record (map item_columns items) → is_some item.last ≡ false → Some (item_columns item) ≡ newest_record (map item_columns items)
record_here items i item less is so none =
    sym (ap (λ (b : Bool). if b then newest_record (map item_columns (drop (i + 1) items)) else Some (item_columns item)) (gap_is item.last ∙ none))
    ∙ sym (at_item items i item less is) ∙ so

pub record_more : (items : List ItemRow) (i : ℕ) (item : ItemRow) → i < length items → item ≡ get_or items i item →
    newest_record (map item_columns (drop i items)) ≡ newest_record (map item_columns items) → is_some item.last ≡ true →
    newest_record (map item_columns (drop (i + 1) items)) ≡ newest_record (map item_columns items)
record_more items i item less is so none =
    sym (ap (λ (b : Bool). if b then newest_record (map item_columns (drop (i + 1) items)) else Some (item_columns item)) (gap_is item.last ∙ none))
    ∙ sym (at_item items i item less is) ∙ so

-- ---- logs of which nothing is told

at_replicate : (n log : ℕ) → log < n → slice_get (replicate n untold) log ≡ Some untold
at_replicate n log less = slice_get-get_or (replicate n untold) log untold (omega (arith, length-replicate n untold, less)) ∙ ap (λ (t : LogTold). Some t) (get_or-replicate n log untold untold less)

pub each_untold : (all : List LogTold) (n log : ℕ) → all ≡ replicate n untold → log < n → slice_get all log ≡ Some untold
each_untold all n log is less = ap (λ (l : List LogTold). slice_get l log) is ∙ at_replicate n log less
