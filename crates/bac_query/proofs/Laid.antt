-- What was written of items, in each form.
use Rattle.std.proofs.Common.{◌≡◌, ℕ, Some, None, List, [], ◌∷◌, ◌++◌, refl, sym, ap, subst, ◌∙◌, append_assoc, append-nil}
use Rattle.std.specs.Io.KnownBytes.{Appends, Keeps}
use Rattle.std.proofs.KnownBytes.{Appends-kept, Appends-nil, Appends-trans}
use Rattle.bac_link.specs.declared.item.Item.{Item}
use Rattle.bac_print.specs.Output.{AppendsPart}
use Rattle.bac_query.specs.Ends.{end_line}
use Rattle.bac_query.specs.Items.{items_text}
use Rattle.bac_query.specs.Layouts.{AppendsAll, AppendsAllPart, AppendsEnd, AppendsEndPart, AppendsItems, AppendsItemsPart}
use Rattle.bac_query.specs.Reading.{Held}
use Rattle.bac_query.specs.Json.{IsJson}
use Rattle.bac_query.specs.Rows.{AreTexts, IsRow}
use Rattle.bac_form.specs.declared.form.Form.{Form}
use Rattle.bac_form.specs.declared.form.Form.TheVariants.{Lines, Csv, Json}
use Rattle.bac_walk.specs.declared.outcome.Why.{Why}
use Rattle.bac_query.proofs.Delivered.{behind_first, items_text-append, part_of_longer}

-- ---- known bytes

-- what was kept before is there still
kept_first : (old mid new : Held) (text : List ℕ) → Keeps old mid → Appends mid new text → Appends old new text
kept_first None mid new text kept more = tt
kept_first (Some xs) None new text kept more = absurd kept
kept_first (Some xs) (Some ys) None text kept more = absurd more
kept_first (Some xs) (Some ys) (Some zs) text kept more = more ∙ ap (λ l. l ++ text) kept

part_first : (old mid new : Held) (text : List ℕ) → Keeps old mid → AppendsPart mid new text → AppendsPart old new text
part_first old mid new text kept (written, rest, split, more) = (written, rest, split, kept_first old mid new written kept more)

part_last : (old mid new : Held) (text : List ℕ) → AppendsPart old mid text → Keeps mid new → AppendsPart old new text
part_last old mid new text (written, rest, split, more) kept = (written, rest, split, Appends-kept old mid new written more kept)

-- ---- rows

pub rows_join : (is : Item → List ℕ → Type 0) (xs ys : List Item) (text more : List ℕ) → AreTexts is xs text → AreTexts is ys more → AreTexts is (xs ++ ys) (text ++ more)
rows_join is [] ys text more none are =
    let P : List ℕ → Type 0 = λ l. AreTexts is ys (l ++ more) in subst P (sym none) are
rows_join is (x ∷ xs) ys text more (row, rest, split, one, some) are =
    (row, rest ++ more, ap (λ l. l ++ more) split ∙ append_assoc row rest more, one, rows_join is xs ys rest more some are)

-- ---- items

pub laid_none : (layout : Form) (held : Held) → AppendsItems layout [] held held
laid_none Lines held = Appends-nil held
laid_none Csv held = ([], refl, Appends-nil held)
laid_none Json held = ([], refl, Appends-nil held)

pub laid_then : (layout : Form) (xs ys : List Item) (old mid new : Held) → AppendsItems layout xs old mid → AppendsItems layout ys mid new → AppendsItems layout (xs ++ ys) old new
laid_then Lines xs ys old mid new first last =
    let P : List ℕ → Type 0 = λ t. Appends old new t in
    subst P (sym (items_text-append xs ys)) (Appends-trans old mid new (items_text xs) (items_text ys) first last)
laid_then Csv xs ys old mid new (text, rows, first) (more, others, last) =
    (text ++ more, rows_join IsRow xs ys text more rows others, Appends-trans old mid new text more first last)
laid_then Json xs ys old mid new (text, rows, first) (more, others, last) =
    (text ++ more, rows_join IsJson xs ys text more rows others, Appends-trans old mid new text more first last)

pub laid_part : (layout : Form) (xs ys : List Item) (old mid new : Held) → AppendsItems layout xs old mid → AppendsItemsPart layout ys mid new → AppendsItemsPart layout (xs ++ ys) old new
laid_part Lines xs ys old mid new first last =
    let P : List ℕ → Type 0 = λ t. AppendsPart old new t in
    subst P (sym (items_text-append xs ys)) (behind_first old mid new (items_text xs) (items_text ys) first last)
laid_part Csv xs ys old mid new (text, rows, first) (some, rest, split, (more, others, last)) = (
  xs ++ some,
  rest,
  ap (λ l. xs ++ l) split ∙ sym (append_assoc xs some rest),
  (text ++ more, rows_join IsRow xs some text more rows others, behind_first old mid new text more first last),
)
laid_part Json xs ys old mid new (text, rows, first) (some, rest, split, (more, others, last)) = (
  xs ++ some,
  rest,
  ap (λ l. xs ++ l) split ∙ sym (append_assoc xs some rest),
  (text ++ more, rows_join IsJson xs some text more rows others, behind_first old mid new text more first last),
)

pub laid_longer : (layout : Form) (xs ys : List Item) (old new : Held) → AppendsItemsPart layout xs old new → AppendsItemsPart layout (xs ++ ys) old new
laid_longer Lines xs ys old new part =
    let P : List ℕ → Type 0 = λ t. AppendsPart old new t in
    subst P (sym (items_text-append xs ys)) (part_of_longer old new (items_text xs) (items_text ys) part)
laid_longer Csv xs ys old new (some, rest, split, (text, rows, part)) =
    (some, rest ++ ys, ap (λ l. l ++ ys) split ∙ append_assoc some rest ys, (text, rows, part))
laid_longer Json xs ys old new (some, rest, split, (text, rows, part)) =
    (some, rest ++ ys, ap (λ l. l ++ ys) split ∙ append_assoc some rest ys, (text, rows, part))

pub laid_kept : (layout : Form) (items : List Item) (old mid new : Held) → AppendsItems layout items old mid → Keeps mid new → AppendsItems layout items old new
laid_kept Lines items old mid new first kept = Appends-kept old mid new (items_text items) first kept
laid_kept Csv items old mid new (text, rows, first) kept = (text, rows, Appends-kept old mid new text first kept)
laid_kept Json items old mid new (text, rows, first) kept = (text, rows, Appends-kept old mid new text first kept)

pub kept_laid : (layout : Form) (items : List Item) (old mid new : Held) → Keeps old mid → AppendsItems layout items mid new → AppendsItems layout items old new
kept_laid Lines items old mid new kept last = kept_first old mid new (items_text items) kept last
kept_laid Csv items old mid new kept (text, rows, last) = (text, rows, kept_first old mid new text kept last)
kept_laid Json items old mid new kept (text, rows, last) = (text, rows, kept_first old mid new text kept last)

pub part_kept : (layout : Form) (items : List Item) (old mid new : Held) → AppendsItemsPart layout items old mid → Keeps mid new → AppendsItemsPart layout items old new
part_kept Lines items old mid new first kept = part_last old mid new (items_text items) first kept
part_kept Csv items old mid new (some, rest, split, (text, rows, first)) kept = (some, rest, split, (text, rows, part_last old mid new text first kept))
part_kept Json items old mid new (some, rest, split, (text, rows, first)) kept = (some, rest, split, (text, rows, part_last old mid new text first kept))

pub kept_part : (layout : Form) (items : List Item) (old mid new : Held) → Keeps old mid → AppendsItemsPart layout items mid new → AppendsItemsPart layout items old new
kept_part Lines items old mid new kept last = part_first old mid new (items_text items) kept last
kept_part Csv items old mid new kept (some, rest, split, (text, rows, last)) = (some, rest, split, (text, rows, part_first old mid new text kept last))
kept_part Json items old mid new kept (some, rest, split, (text, rows, last)) = (some, rest, split, (text, rows, part_first old mid new text kept last))

-- nothing more after all of it
pub none_after : (layout : Form) (items rest : List Item) (old mid new : Held) → rest ≡ [] → AppendsItems layout items old mid → AppendsItemsPart layout rest mid new → AppendsItemsPart layout items old new
none_after layout items rest old mid new none first part =
    let P : List Item → Type 0 = λ l. AppendsItemsPart layout l old new in
    subst P (ap (λ l. items ++ l) none ∙ append-nil items) (laid_part layout items rest old mid new first part)

pub all_after : (layout : Form) (items rest : List Item) (old mid new : Held) → rest ≡ [] → AppendsItems layout items old mid → AppendsItems layout rest mid new → AppendsItems layout items old new
all_after layout items rest old mid new none first more =
    let P : List Item → Type 0 = λ l. AppendsItems layout l old new in
    subst P (ap (λ l. items ++ l) none ∙ append-nil items) (laid_then layout items rest old mid new first more)

-- ---- and the end

pub laid_ended : (layout : Form) (items : List Item) (why : Why) (next : ℕ) (old mid new : Held) → AppendsItems layout items old mid → AppendsEnd layout why next mid new → AppendsAll layout items why next old new
laid_ended Lines items why next old mid new first last = Appends-trans old mid new (items_text items) (end_line why next) first last
laid_ended Csv items why next old mid new first kept = laid_kept Csv items old mid new first kept
laid_ended Json items why next old mid new first kept = laid_kept Json items old mid new first kept

pub laid_end_part : (layout : Form) (items : List Item) (why : Why) (next : ℕ) (old mid new : Held) → AppendsItems layout items old mid → AppendsEndPart layout why next mid new →
    AppendsAllPart layout items why next old new
laid_end_part Lines items why next old mid new first part = behind_first old mid new (items_text items) (end_line why next) first part
laid_end_part Csv items why next old mid new first never = absurd never
laid_end_part Json items why next old mid new first never = absurd never

pub part_ended : (layout : Form) (items : List Item) (why : Why) (next : ℕ) (old new : Held) → AppendsItemsPart layout items old new → AppendsAllPart layout items why next old new
part_ended Lines items why next old new part = part_of_longer old new (items_text items) (end_line why next) part
part_ended Csv items why next old new part = part
part_ended Json items why next old new part = part
