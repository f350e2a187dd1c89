-- What is still to be appended makes the whole.
use Rattle.std.proofs.Common.{◌≡◌, ◌++◌, drop}
use Rattle.bac_query.specs.Items.{items_text}
use Rattle.bac_query.proofs.items.push_items.Given as goal

abbrev pub invariant-loop-item : goal.invariant-loop-item
invariant-loop-item l = l.text.items ++ items_text (drop l.item-index l.items) ≡ l.initial.text.items ++ items_text l.items
