-- Texts that were written one behind the other.
use Rattle.std.proofs.Common.{◌≡◌, ℕ, Some, None, List, [], ◌∷◌, ◌++◌, refl, sym, ap, ◌∙◌, append_assoc}
use Rattle.std.specs.Io.KnownBytes.{Appends, Keeps}
use Rattle.std.proofs.KnownBytes.{Appends-trans}
use Rattle.bac_link.specs.declared.item.Item.{Item}
use Rattle.bac_query.specs.Items.{item_line, items_text}
use Rattle.bac_print.specs.Output.{AppendsPart}
use Rattle.bac_query.specs.Reading.{Held}
pub use Rattle.bac_walk.proofs.Runs.{runs_on}

pub items_text-append : (xs ys : List Item) → items_text (xs ++ ys) ≡ items_text xs ++ items_text ys
items_text-append [] ys = refl
items_text-append (x ∷ xs) ys = ap (λ l. item_line x ++ l) (items_text-append xs ys) ∙ sym (append_assoc (item_line x) (items_text xs) (items_text ys))

-- ---- what was written

-- a front part of a text is one of a longer text, and stands after what was written before
pub behind_first : (old mid new : Held) (text more : List ℕ) → Appends old mid text → AppendsPart mid new more → AppendsPart old new (text ++ more)
behind_first old mid new text more first (written, rest, split, appended) =
    (text ++ written, rest, ap (λ t. text ++ t) split ∙ sym (append_assoc text written rest), Appends-trans old mid new text written first appended)

pub part_of_longer : (old new : Held) (text more : List ℕ) → AppendsPart old new text → AppendsPart old new (text ++ more)
part_of_longer old new text more (written, rest, split, appended) =
    (written, rest ++ more, ap (λ t. t ++ more) split ∙ append_assoc written rest more, appended)

pub kept_behind : (old mid new : Held) (text : List ℕ) → Appends old mid text → Keeps mid new → Appends old new text
kept_behind None mid new text first kept = tt
kept_behind (Some xs) None new text first kept = absurd first
kept_behind (Some xs) (Some ys) None text first kept = absurd kept
kept_behind (Some xs) (Some ys) (Some zs) text first kept = kept ∙ first
