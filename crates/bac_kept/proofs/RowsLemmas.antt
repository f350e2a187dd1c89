-- The rows of the items of a range, as they are given.
use Rattle.std.proofs.Common.{◌≡◌, ◌&&◌, Result, Ok, Err, IfOk, OnErr, OnOk, is_err, is_none, inl, inr, refl, sym, ap, subst, ◌∙◌, Bool, true, false, is_some, List, [], ◌∷◌, ◌++◌, append_assoc, append-nil, Option, None, Some, ◌≤◌, length, length-append, arith}
use Rattle.std.specs.Io.KnownBytes.{Appends}
use Rattle.std.specs.List.{filter}
use Rattle.std.proofs.KnownBytes.{Appends-nil, Appends-trans}
use Rattle.sqlite_value.specs.Order.{Row as Values}
use Rattle.sqlite_trees.specs.View.{doubt}
use Rattle.sqlite_trees.specs.declared.store.Store.{Ghosts}
use Rattle.sqlite.specs.declared.error.Error.{Error}
use Rattle.sqlite.specs.Effect.{Database}
use Rattle.sqlite.specs.State.{HasCleanDisk, State, IsUnchanged, Shown}
use Rattle.sqlite.specs.Held.{Held as Connected, state}
use Rattle.sqlite.proofs.Callers.{given_begin}
use Rattle.bac_archive.specs.Ask.{shown}
use Rattle.bac_archive.specs.Items.{AreFirst, AreItems, ReadsItems, bound_for, is_of, range_text}
use Rattle.bac_archive.specs.Schema.{HasArchive}
use Rattle.bac_archive.specs.declared.items.Range.{Range}
use Rattle.bac_archive.proofs.AskLemmas.{same_length}
use Rattle.bac_archive.proofs.ItemsLemmas.{begins_with, shows_items}
use Rattle.bac_archive.proofs.ReadLemmas.{joined}
use Rattle.bac_print.specs.Output.{AppendsPart, Held}
use Rattle.bac_kept.specs.Faults.{EndsBy}
use Rattle.bac_kept.specs.declared.fault.Fault.{Fault}
use Rattle.bac_kept.specs.Items.{HasPrinted, PrintsFirst, PrintsLess, led, manner_of}
use Rattle.bac_kept.specs.Seen.{epoch_of}
use Rattle.bac_kept.specs.declared.items.Progress.{Progress}
use Rattle.bac_kept.specs.declared.items.Style.{Style}
use Rattle.bac_kept.specs.declared.seen.Newest.{Newest}

pub no_part : (a : Held) (text : List _) → AppendsPart a a text
no_part a text = ([], text, refl, Appends-nil a)

pub behind_first : (old mid new : Held) (text more : List _) → Appends old mid text → AppendsPart mid new more → AppendsPart old new (text ++ more)
behind_first old mid new text more first (written, rest, split, appended) =
    (text ++ written, rest, ap (λ t. text ++ t) split ∙ sym (append_assoc text written rest), Appends-trans old mid new text written first appended)

-- a disk that has given back what was written had done so before
pub clean_before : (old new : State) → doubt old.is_clean ≤ doubt new.is_clean → HasCleanDisk new → HasCleanDisk old
clean_before old new more clean = omega (arith, more, clean)

-- the first of items without the last of them
pub first_less : (range : Range) (items rows : List Values) (row : Values) → AreFirst range items (rows ++ row ∷ []) → AreFirst range items rows
first_less range items rows row (more, are) = (row ∷ more, subst (AreItems range items) (joined rows row more) are)

-- as many were given as a range has at least
pub many_items : (range : Range) (items rows : List Values) → AreFirst range items rows → length rows ≤ length (filter (is_of range) items)
many_items range items rows (more, are) =
    let all = same_length (shown 5) (filter (is_of range) items) (rows ++ more) are.each in
    omega (arith, all, length-append rows more)

module _ {S : Type 0} (g : Ghosts S) (range : Range) (old : State) (mid : Connected S) (rows : List Values) (has : HasArchive old.now.schema) (same : IsUnchanged old (state g mid)) where
  schema_is : HasArchive (state g mid).now.schema
  schema_is = subst (λ (d : Database). HasArchive d.schema) (sym same.0.now_is) has

  -- when no row is left, those that were given are the items of the range as it was
  pub all_given : (new : Connected S) → Shown (range_text range) (bound_for range) (state g mid) (state g new) rows → AreItems range (old.now.trees 5) rows
  all_given new shown = subst (λ (d : Database). AreItems range (d.trees 5) rows) same.0.now_is (shows_items range (state g mid) (state g new) rows schema_is shown)

  -- and until then the first of them
  pub first_given : ReadsItems g range mid rows → AreFirst range (old.now.trees 5) rows
  first_given given = subst (λ (d : Database). AreFirst range (d.trees 5) rows) same.0.now_is
      (begins_with range (state g mid) rows schema_is (given_begin g (range_text range) (bound_for range) mid rows given))

led_nothing : (dated before : Bool) → [] ≡ led dated before []
led_nothing dated true = refl
led_nothing dated false = refl

-- nothing is printed yet
pub begun_is : (style : Style) (behind : Option Newest) (progress : Progress) → progress.held.items ≡ [] → progress.epoch ≡ epoch_of behind → progress.newest ≡ behind → HasPrinted style behind [] [] progress
begun_is style behind progress held epoch newest = record {
  printed = refl;
  newest = newest;
  late = [];
  all = led_nothing style.dated (is_some behind);
  waiting = held;
  epoch = epoch ∙ ap epoch_of (sym newest);
}

-- a front of the text of the first rows
pub less_printed : (style : Style) (behind : Option Newest) (range : Range) (items rows : List Values) (row : Values) (text : List _) (progress : Progress) (a b c : Held)
    → AreFirst range items (rows ++ row ∷ []) → HasPrinted style behind rows text progress → Appends a b text → PrintsLess style behind rows row text b c
    → (whole : List _) × PrintsFirst (manner_of style) range behind items whole × AppendsPart a c whole
less_printed style behind range items rows row text progress a b c first has all (more, part, inl none) =
    (text, (rows, inr (first_less range items rows row first), has.printed), subst (AppendsPart a c) (ap (λ l. text ++ l) none ∙ append-nil text) (behind_first a b c text more all part))
less_printed style behind range items rows row text progress a b c first has all (more, part, inr texts) =
    (text ++ more, (rows ++ row ∷ [], inr first, texts), behind_first a b c text more all part)

-- nothing comes to the output
pub still : (style : Style) (behind : Option Newest) (rows : List Values) (text : List _) (progress : Progress) (a : Held) → HasPrinted style behind rows text progress
    → (more : List _) × Appends a a more × HasPrinted style behind rows (text ++ more) progress
still style behind rows text progress a has = ([], Appends-nil a, subst (λ t. HasPrinted style behind rows t progress) (sym (append-nil text)) has)

pub ok_then : {A E : Type 0} (r : Result A E) (X Y : Type 0) → (X → Y) → OnOk r X → OnOk r Y
ok_then (Ok a) X Y f x = f x
ok_then (Err e) X Y f x = tt

pub both_true : (a b : Bool) → (a && b) ≡ true → (a ≡ true) × (b ≡ true)
both_true true true is = (refl, refl)
both_true true false is = absurd (let it = is in cc)
both_true false b is = absurd (let it = is in cc)

pub none_of : {X : Type 0} (o : Option X) → is_none o ≡ true → o ≡ None
none_of None is = refl
none_of (Some x) is = absurd (let it = is in cc)

pub some_of : {X : Type 0} (o : Option X) → is_none o ≡ false → (x : X) × (o ≡ Some x)
some_of None is = absurd (let it = is in cc)
some_of (Some x) is = (x, refl)

-- what holds of an Ok does where it is no error
pub ok_not_err : {A E : Type 0} (r : Result A E) (X : Type 0) → OnOk r X → is_err r ≡ false → X
ok_not_err (Ok a) X x is = x
ok_not_err (Err e) X x is = absurd (let it = is in cc)

-- what holds of it and what holds with it
pub ok_both : {A E : Type 0} (r : Result A E) (X : Type 0) (P Q : A → Type 0) → OnOk r X → IfOk r P → ((a : A) → X → P a → Q a) → IfOk r Q
ok_both (Ok a) X P Q x p f = f a x p
ok_both (Err e) X P Q x p f = tt

pub on_err : {A E : Type 0} (r : Result A E) (X : Type 0) → X → OnErr r X
on_err (Ok a) X x = tt
on_err (Err e) X x = x

-- a fault with another cause
pub ends_then : (P Q : Error → Type 0) (fault : Fault) → ((e : Error) → P e → Q e) → EndsBy P fault → EndsBy Q fault
ends_then P Q fault f (inl text) = inl text
ends_then P Q fault f (inr (e, is, why)) = inr (e, is, f e why)
