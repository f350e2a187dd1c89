-- What is printed beside exchanges, one after the other.
use Rattle.std.proofs.Common.{◌≡◌, ◌<◌, Bool, true, false, inl, inr, Ok, Err, List, length, refl, sym, subst, ◌∙◌, arith}
use Rattle.std.specs.Io.KnownBytes.{Keeps}
use Rattle.std.proofs.KnownBytes.{Keeps-refl, Keeps-trans}
use Rattle.bac_link.specs.declared.item.Item.{Item}
use Rattle.bac_query.specs.Ahead.{Pending, PrintsFrom, PrintsLeft, PrintsOn, PrintsTo}
use Rattle.bac_query.specs.Layouts.{AppendsItems, AppendsItemsPart}
use Rattle.bac_query.specs.Reading.{Answer, Held}
use Rattle.bac_query.specs.declared.fault.QueryFault.TheVariants.{Exchange, Write, Memory}
use Rattle.bac_form.specs.declared.form.Form.{Form}
use Rattle.bac_query.proofs.Laid.{all_after, kept_laid, kept_part, laid_kept, none_after, part_kept}

pub prints_itself : (a : Pending) → PrintsOn a a
prints_itself a = (refl, at a.is_refused a.left a.held)
  where
    at : (r : Bool) (l : List Item) (h : Held) → PrintsFrom a.layout r l h (record { layout = a.layout; is_refused = r; left = l; held = h })
    at true l h = (refl, refl, Keeps-refl h)
    at false l h = inl (refl, Keeps-refl h)

to_on : (layout : Form) (l m n : List Item) (h i j : Held) (q r : Bool) (z : Form) →
    PrintsTo layout q l h m i → PrintsFrom layout q m i (record { layout = z; is_refused = r; left = n; held = j }) → PrintsTo layout r l h n j
to_on layout l m n h i j true true z first last = part_kept layout l h i j first last.2
to_on layout l m n h i j true false z first last = absurd (let e = last.0 in cc)
to_on layout l m n h i j false true z (inl (same, kept)) last =
    let P : List Item → Type 0 = λ x. AppendsItemsPart layout x h j in subst P same (kept_part layout m h i j kept last)
to_on layout l m n h i j false true z (inr (none, all)) last = none_after layout l m h i j none all last
to_on layout l m n h i j false false z (inl (same, kept)) (inl (again, stays)) = inl (again ∙ same, Keeps-trans h i j kept stays)
to_on layout l m n h i j false false z (inl (same, kept)) (inr (none, all)) =
    let P : List Item → Type 0 = λ x. AppendsItems layout x h j in inr (none, subst P same (kept_laid layout m h i j kept all))
to_on layout l m n h i j false false z (inr (none, all)) (inl (again, stays)) = inr (again ∙ none, laid_kept layout l h i j all stays)
to_on layout l m n h i j false false z (inr (none, all)) (inr (empty, more)) = inr (empty, all_after layout l m h i j none all more)

pub prints_goes : (a b c : Pending) → PrintsOn a b → PrintsOn b c → PrintsOn a c
prints_goes a b c first last =
    let P : Form → Type 0 = λ y. PrintsFrom y b.is_refused b.left b.held c in
    (last.0 ∙ first.0, from a.layout a.is_refused b.is_refused first.1 (subst P first.0 last.1))
  where
    from : (y : Form) (p q : Bool) → PrintsFrom y p a.left a.held (record b { is_refused = q }) → PrintsFrom y q b.left b.held c → PrintsFrom y p a.left a.held c
    from y true true one two = (two.0, two.1 ∙ one.1, Keeps-trans a.held b.held c.held one.2 two.2)
    from y true false one two = absurd (let e = one.0 in cc)
    from y false q one two = to_on y a.left b.left c.left a.held b.held c.held q c.is_refused c.layout one two

-- what was printed beside an exchange, and then the rest
pub prints_all : (layout : Form) (l m : List Item) (h i j : Held) (r : Bool) (result : Answer) →
    PrintsTo layout r l h m i → (r ≡ false → PrintsLeft layout m result i j) → (r ≡ true → (result ≡ Err Write) × Keeps i j) → PrintsLeft layout l result h j
prints_all layout l m h i j true result first last refused =
    let P : Answer → Type 0 = λ a. PrintsLeft layout l a h j in
    let e = refused refl in subst P (sym e.0) (part_kept layout l h i j first e.1)
prints_all layout l m h i j false (Ok done) (inl (same, kept)) last refused =
    let P : List Item → Type 0 = λ x. AppendsItems layout x h j in subst P same (kept_laid layout m h i j kept (last refl))
prints_all layout l m h i j false (Ok done) (inr (none, all)) last refused = all_after layout l m h i j none all (last refl)
prints_all layout l m h i j false (Err Write) (inl (same, kept)) last refused =
    let P : List Item → Type 0 = λ x. AppendsItemsPart layout x h j in subst P same (kept_part layout m h i j kept (last refl))
prints_all layout l m h i j false (Err Write) (inr (none, all)) last refused = none_after layout l m h i j none all (last refl)
prints_all layout l m h i j false (Err Memory) (inl (same, kept)) last refused =
    let P : List Item → Type 0 = λ x. 0 < length x in
    let e = last refl in (subst P same e.0, Keeps-trans h i j kept e.1)
prints_all layout l m h i j false (Err Memory) (inr (none, all)) last refused =
    let P : List Item → Type 0 = λ x. 0 < length x in
    let e = last refl in absurd (omega (arith, subst P none e.0))
prints_all layout l m h i j false (Err (Exchange fault)) first last refused = absurd (last refl)
