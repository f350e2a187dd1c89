-- The newest records of logs, looked for one after the other.
use Rattle.std.proofs.Common.{◌∙◌, ◌++◌, ◌∷◌, [], Bool, List, Option, inl, inr, refl, sym, ap, subst, append_assoc, append-nil}
use Rattle.std.specs.List.{AllByRecursion}
use Rattle.sqlite_value.specs.Order.{Row as Values}
use Rattle.sqlite_trees.specs.declared.store.Store.{Ghosts}
use Rattle.sqlite.specs.declared.error.Error.{Error}
use Rattle.sqlite.specs.Held.{Held}
use Rattle.bac_archive.specs.Ask.{IsAsWas}
use Rattle.bac_form.specs.declared.form.Form.{Form}
use Rattle.bac_kept.specs.LastRows.{AreLastTexts, IsLastText}
use Rattle.bac_kept.specs.Lasts.{LooksFor, LooksForEach, found_of}
use Rattle.bac_kept.specs.Records.{FailsBy, IsGap}
use Rattle.bac_kept.specs.Shown.{Told}
use Rattle.bac_kept.specs.Silence.{answer_of, silence}
use Rattle.bac_kept.specs.declared.fault.Fault.{Fault}
use Rattle.bac_kept.specs.declared.lasts.Found.{Found}
use Rattle.bac_kept.proofs.PartsLemmas.{as_was_then}

-- a gap more
pub gaps_more : (rows : List Values) (row : Values) → AllByRecursion IsGap rows → IsGap row → AllByRecursion IsGap (rows ++ row ∷ [])
gaps_more [] row all it = (it, tt)
gaps_more (r ∷ rows) row all it = (all.0, gaps_more rows row all.1 it)

-- a fault with another cause
pub fails_then : (P Q : Error → Type 0) (fault : Fault) → ((e : Error) → P e → Q e) → FailsBy P fault → FailsBy Q fault
fails_then P Q fault f (inl memory) = inl memory
fails_then P Q fault f (inr (e, is, why)) = inr (e, is, f e why)

-- that of one log more
pub looks_more : (items : List Values) (logs : List Told) (told : Told) (old mid new : List Found) → LooksForEach items logs old mid → LooksFor items told.log.id mid new
    → LooksForEach items (logs ++ told ∷ []) old new
looks_more items [] told old mid new all it = (new, subst (λ f. LooksFor items told.log.id f new) all it, refl)
looks_more items (l ∷ logs) told old mid new (first, one, rest) it = (first, one, looks_more items logs told first mid new rest it)

module _ (form : Form) (found : List Found) (last : Option (List _)) where
  -- the text of one log more
  pub texts_more : (logs : List Told) (told : Told) (rows one : List _) → AreLastTexts form found last logs rows
      → IsLastText form told (found_of found told.log.id) (silence last (answer_of told.device)) one → AreLastTexts form found last (logs ++ told ∷ []) (rows ++ one)
  texts_more [] told rows one all it = (one, [], ap (λ l. l ++ one) all ∙ sym (append-nil one), it, refl)
  texts_more (l ∷ logs) told rows one (first, rest, is, text, more) it =
      (first, rest ++ one, ap (λ x. x ++ one) is ∙ append_assoc first rest one, text, texts_more logs told rest one more it)

-- what is as it was, twice
pub as_was_twice : {S : Type 0} (g : Ghosts S) (a b c : Held S) → IsAsWas g a b → IsAsWas g b c → IsAsWas g a c
as_was_twice g a b c one (inl same) = subst (λ h. IsAsWas g a h) (sym same) one
as_was_twice g a b c one (inr two) = as_was_then g a b c one two
