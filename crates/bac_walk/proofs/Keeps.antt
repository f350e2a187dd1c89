-- A sink with room enough keeps all that it is given.
use Rattle.std.proofs.Common.{◌≡◌, ℕ, Bool, false, ◌+◌, ◌≤◌, inl, inr, Option, Some, None, List, [], ◌∷◌, ◌++◌, length, sym, ap, ◌∙◌, arith, length-append, append-nil, append_assoc}
use Rattle.bac_link.specs.declared.item.Item.{Item}
use Rattle.bac_walk.specs.declared.batch.Gap.{Gap as GapOf}
use Rattle.bac_walk.specs.Walks.{gap_items, item_of}
use Rattle.bac_walk.specs.Sinks.{Call, put_items, gaps_in, gaps, Takes}
use Rattle.bac_walk.specs.Kept.{IsKept}

gap_length : (gap : Option GapOf) (x : Item) → length (gap_items gap ++ x ∷ []) ≡ gaps_in gap + 1
gap_length None x = omega arith
gap_length (Some g) x = omega arith

pub kept_all : {S : Type 0} (room : S → ℕ) (items : S → List Item) (old : S) (calls : List Call) (stopped : Bool) (new : S) →
    Takes (λ a gap x taken b. IsKept (room a) (items a) gap x taken (room b) (items b)) old calls stopped new →
    length (items old) + gaps calls + length calls ≤ room old → (stopped ≡ false) × (items new ≡ items old ++ put_items calls)
kept_all room items old [] stopped new takes fits = (takes.1, ap items takes.0 ∙ sym (append-nil (items old)))
kept_all room items old (c ∷ calls) stopped new takes fits =
    elim takes [
      | inl over ↦ absurd (let e = (over.0 (omega (arith, fits))).0 in cc)
      | inr more ↦
          let one = more.1 (omega (arith, fits)) in
          let rest = kept_all room items more.0 calls stopped new more.2
          (omega (arith, fits, one.1, ap length one.2, length-append (items old) (gap_items c.gap ++ item_of c.record_put ∷ []), gap_length c.gap (item_of c.record_put))) in (
            rest.0,
            rest.1 ∙ ap (λ l. l ++ put_items calls) one.2
                ∙ append_assoc (items old) (gap_items c.gap ++ item_of c.record_put ∷ []) (put_items calls)
                ∙ ap (λ l. items old ++ l) (append_assoc (gap_items c.gap) (item_of c.record_put ∷ []) (put_items calls)),
          )
    ]

gap_count : (gap : Option GapOf) → length (gap_items gap) ≡ gaps_in gap
gap_count None = omega arith
gap_count (Some g) = omega arith

-- an item for each record, and one for each gap
pub put_length : (calls : List Call) → length (put_items calls) ≡ length calls + gaps calls
put_length [] = omega arith
put_length (c ∷ calls) = omega (arith, length-append (gap_items c.gap) (item_of c.record_put ∷ put_items calls), gap_count c.gap, put_length calls)
