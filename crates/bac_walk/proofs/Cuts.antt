-- Laws of lists of items and answers.
use Rattle.std.proofs.Common.{◌≡◌, ℕ, ◌+◌, List, [], ◌∷◌, ◌++◌, refl, sym, ap, ◌∙◌, append_assoc}
use Rattle.bac_log.specs.TrendLog.{sequence_number}
use Rattle.bac_log.specs.declared.entry.Entry.{Entry}
use Rattle.bac_link.specs.declared.item.Item.{Item}
use Rattle.bac_link.specs.declared.item.Item.TheVariants.{Gap, Logged}
use Rattle.bac_link.specs.Delivery.{items_of}
use Rattle.bac_link.specs.Laws.{CoversEach}

pub items_of-append : (xs ys : List (List Item)) → items_of (xs ++ ys) ≡ items_of xs ++ items_of ys
items_of-append [] ys = refl
items_of-append (x ∷ xs) ys = ap (λ r. x ++ r) (items_of-append xs ys) ∙ sym (append_assoc x (items_of xs) (items_of ys))

-- of what covers the numbers up to a place, the items up to a record cover them up to its own
pub covers_cut : (s t k : ℕ) (e : Entry) (before after : List Item) → CoversEach s (before ++ Logged k e ∷ after) t →
    (u : ℕ) × (k ≡ sequence_number u) × CoversEach s (before ++ Logged k e ∷ []) (u + 1)
covers_cut s t k e [] after h = (s, h.0, (h.0, refl))
covers_cut s t k e (Gap f b ∷ before) after h =
    let rest = covers_cut h.0 t k e before after h.4 in (rest.0, rest.1, (h.0, h.1, h.2, h.3, rest.2))
covers_cut s t k e (Logged l d ∷ before) after h =
    let rest = covers_cut (s + 1) t k e before after h.1 in (rest.0, rest.1, (h.0, rest.2))
