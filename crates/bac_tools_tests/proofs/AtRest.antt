-- Replies of a log that doesn't change bring together what one reply without a limit would bring.
use Rattle.std.proofs.Common.{◌≡◌, ℕ, ◌+◌, ◌-◌, ◌<◌, ◌≤◌, max, List, [], ◌∷◌, ◌++◌, length, subst, arith}
use Rattle.std.proofs.lemmas.List.{length-append}
use Rattle.bac_link.specs.Delivery.{History, Moment, AreHeld, Brings, Leads, items_of}
use Rattle.bac_link.specs.declared.item.Item.{Item}
use Rattle.bac_link.specs.declared.item.Item.TheVariants.{Gap, Logged}
use Rattle.bac_walk.specs.Collects.{batches}

-- held entries are one for each ordinal, and all are within what is held
held_end : (H : History) (m : Moment) (s : ℕ) (items : List Item) (u : ℕ) → AreHeld H m s items u →
    (s + length items ≡ u) × (0 < length items → (m.oldest ≤ s) × (u ≤ m.newest + 1))
held_end H m s [] u is = (omega (arith, is), λ some. absurd (omega (arith, some)))
held_end H m s (Gap first before ∷ items) u are = absurd are
held_end H m s (Logged shown entry ∷ []) u are =
    (omega (arith, are.3), λ some. (are.1.0, omega (arith, are.3, are.1.1)))
held_end H m s (Logged shown entry ∷ y ∷ items) u are =
    let rest = held_end H m (s + 1) (y ∷ items) u are.3 in
    (omega (arith, rest.0), λ some. (are.1.0, (rest.1 (omega arith)).1))

-- one after the other
held_join : (H : History) (m : Moment) (s : ℕ) (xs : List Item) (u : ℕ) (ys : List Item) (t : ℕ) → AreHeld H m s xs u →
    AreHeld H m u ys t → AreHeld H m s (xs ++ ys) t
held_join H m s [] u ys t are more = let P : ℕ → Type 0 = λ k. AreHeld H m k ys t in subst P are more
held_join H m s (Gap first before ∷ xs) u ys t are more = absurd are
held_join H m s (Logged shown entry ∷ xs) u ys t are more =
    (are.0, are.1, are.2, held_join H m (s + 1) xs u ys t are.3 more)

-- behind the oldest there is no gap
plain : (H : History) (m : Moment) (u : ℕ) (ys : List Item) (t : ℕ) → m.oldest ≤ u → Brings H m u ys t → AreHeld H m u ys t
plain H m u [] t above brings = brings
plain H m u (Logged shown entry ∷ ys) t above brings = brings
plain H m u (Gap first before ∷ ys) t above brings = absurd (omega (arith, above, brings.1))

brings_join : (H : History) (m : Moment) (s : ℕ) (xs : List Item) (u : ℕ) (ys : List Item) (t : ℕ) → Brings H m s xs u →
    Brings H m u ys t → Brings H m s (xs ++ ys) t
brings_join H m s [] u ys t brings more = let P : ℕ → Type 0 = λ k. Brings H m k ys t in subst P brings more
brings_join H m s (Logged shown entry ∷ xs) u ys t brings more =
    let h = held_end H m s (Logged shown entry ∷ xs) u brings in
    held_join H m s (Logged shown entry ∷ xs) u ys t brings
    (plain H m u ys t (omega (arith, h.0, (h.1 (omega arith)).0)) more)
brings_join H m s (Gap first before ∷ xs) u ys t brings more =
    let h = held_end H m m.oldest xs u brings.4 in (
      brings.0,
      brings.1,
      brings.2,
      omega (arith, brings.3, length-append xs ys),
      held_join H m m.oldest xs u ys t brings.4 (plain H m u ys t (omega (arith, h.0)) more),
    )

pub leads_bring : (H : History) (m : Moment) (s : ℕ) (answers : List (List Item)) (t : ℕ) →
    Leads H (m ∷ []) s answers t → Brings H m s (items_of answers) t
leads_bring H m s [] t leads = leads
leads_bring H m s (items ∷ answers) t leads =
    brings_join H m s items leads.0 (items_of answers) t leads.1 (leads_bring H m leads.0 answers t leads.2)

-- no more lines than entries, and one gap
pub few_lines : (H : History) (m : Moment) (s : ℕ) (items : List Item) (t : ℕ) → Brings H m s items t →
    length items ≤ ((m.newest + 1) - max s m.oldest) + 1
few_lines H m s [] t brings = omega arith
few_lines H m s (Logged shown entry ∷ items) t brings =
    let h = held_end H m s (Logged shown entry ∷ items) t brings in
    let within = h.1 (omega arith) in
    omega (arith, h.0, within.0, within.1)
few_lines H m s (Gap first before ∷ items) t brings =
    let h = held_end H m m.oldest items t brings.4 in
    let within = h.1 brings.3 in
    omega (arith, h.0, within.1, brings.1)

-- each batch has an item
pub few_batches : (answers : List (List Item)) → batches answers ≤ length (items_of answers)
few_batches [] = omega arith
few_batches ([] ∷ answers) = few_batches answers
few_batches ((x ∷ xs) ∷ answers) = omega (arith, few_batches answers, length-append xs (items_of answers))
