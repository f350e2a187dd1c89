-- What is printed of the items of a log, with one row more.
use Rattle.std.proofs.Common.{◌≡◌, inl, inr, refl, sym, ap, subst, ◌∙◌, ℕ, Bool, true, false, not, ◌&&◌, is_some, List, [], ◌∷◌, ◌++◌, ◌||◌, pos, append_assoc, append-nil, Option, None, Some}
use Rattle.std.proofs.Math.Bool.{or-true, and-false}
use Rattle.std.proofs.lemmas.Bool.{cases_Bool}
use Rattle.std.proofs.lemmas.List.Elements.{filter-append}
use Rattle.std.specs.List.{filter}
use Rattle.sqlite_value.specs.Order.{Row as Values, column}
use Rattle.sqlite_value.specs.declared.value.Value.{Value}
use Rattle.sqlite_value.specs.declared.value.Value.TheVariants.{Int}
use Rattle.sqlite.specs.Values.{or_null}
use Rattle.bac_archive.specs.Items.{IsItem, last_at}
use Rattle.bac_archive.specs.declared.items.Item.{Item}
use Rattle.bac_form.specs.declared.form.Form.{Form}
use Rattle.bac_form.specs.declared.form.Form.TheVariants.{Lines, Csv, Json}
use Rattle.bac_kept.specs.Items.{AreTexts, HasPrinted, IsItemText, IsRowText, between, has_sure, led, shown_rows, waits}
use Rattle.bac_kept.specs.Seen.{epoch_of, is_new, is_newer, item_at, newest_of}
use Rattle.bac_kept.specs.Shown.{Told, told_of}
use Rattle.bac_kept.specs.declared.items.Progress.{Progress}
use Rattle.bac_kept.specs.declared.items.Style.{Style}
use Rattle.bac_kept.specs.declared.seen.Newest.{Newest}

-- ---- rows that are shown, with one more

module _ (dated : Bool) (row : Values) where
  -- one that waits makes none before it sure
  sure_same : (rows : List Values) → waits dated row ≡ true → has_sure dated (rows ++ row ∷ []) ≡ has_sure dated rows
  sure_same [] so = rw so refl
  sure_same (x ∷ rows) so = ap (λ b. not (waits dated x) || b) (sure_same rows so)

  -- one that doesn't, does
  sure_now : (rows : List Values) → waits dated row ≡ false → has_sure dated (rows ++ row ∷ []) ≡ true
  sure_now [] so = rw so refl
  sure_now (x ∷ rows) so = ap (λ b. not (waits dated x) || b) (sure_now rows so) ∙ or-true (not (waits dated x))

  between_same : (before : Bool) (rows : List Values) → waits dated row ≡ true → between dated before (rows ++ row ∷ []) ≡ between dated before rows
  between_same before [] so = rw (so, and-false before) refl
  between_same before (x ∷ rows) so =
      rw (sure_same rows so, between_same before rows so, between_same true rows so) refl

  between_now : (before : Bool) (rows : List Values) → waits dated row ≡ false → between dated before (rows ++ row ∷ []) ≡ led dated before rows ++ row ∷ []
  between_now before [] so = elim (cases_Bool before) [ inl is ↦ rw (so, is) refl | inr is ↦ rw (so, is) refl ]
  between_now true (x ∷ rows) so = rw (sure_now rows so, between_now true rows so, and-false (waits dated x)) refl
  between_now false (x ∷ rows) so = elim (cases_Bool (waits dated x)) [
    | inl is ↦ rw (is, between_now false rows so) refl
    | inr is ↦ rw (is, between_now true rows so) refl
  ]

  led_now : (before : Bool) (rows : List Values) → waits dated row ≡ false → led dated before (rows ++ row ∷ []) ≡ led dated before rows ++ row ∷ []
  led_now true rows so = refl
  led_now false [] so = rw so refl
  led_now false (x ∷ rows) so = elim (cases_Bool (waits dated x)) [
    | inl is ↦ rw (is, led_now false rows so) refl
    | inr is ↦ rw is refl
  ]

  -- where nothing is shown before it, and none before it is shown by itself
  led_none : (rows : List Values) → waits dated row ≡ true → led dated false rows ≡ [] → led dated false (rows ++ row ∷ []) ≡ []
  led_none [] so none = rw so refl
  led_none (x ∷ rows) so none = elim (cases_Bool (waits dated x)) [
    | inl is ↦ rw is (led_none rows so (rw is at none))
    | inr is ↦ absurd (let it = rw is at none in cc)
  ]

  led_more : (before : Bool) (rows : List Values) → (before ≡ false → led dated false rows ≡ [] → ⊥) → led dated before (rows ++ row ∷ []) ≡ led dated before rows ++ row ∷ []
  led_more true rows some = refl
  led_more false [] some = absurd (some refl refl)
  led_more false (x ∷ rows) some = elim (cases_Bool (waits dated x)) [
    | inl is ↦ rw is (led_more false rows (λ e none. some refl (rw is none)))
    | inr is ↦ rw is refl
  ]

-- where no row is shown, none is shown by itself
none_led : (dated : Bool) (rows : List Values) → between dated false rows ≡ [] → led dated false rows ≡ []
none_led dated [] none = refl
none_led dated (x ∷ rows) none = elim (cases_Bool (waits dated x)) [
  | inl is ↦ rw is (none_led dated rows (rw is at none))
  | inr is ↦ absurd (let it = rw is at none in cc)
]

led_between : (dated : Bool) (rows : List Values) → led dated false rows ≡ [] → between dated false rows ≡ []
led_between dated [] none = refl
led_between dated (x ∷ rows) none = elim (cases_Bool (waits dated x)) [
  | inl is ↦ rw is (led_between dated rows (rw is at none))
  | inr is ↦ absurd (let it = rw is at none in cc)
]

some_newest : (item : Newest) (rows : List Values) → newest_of (Some item) rows ≡ None → ⊥
some_newest item [] none = absurd cc
some_newest item (r ∷ rows) none = some_newest (item_at r) rows none

no_newest : (rows : List Values) → newest_of None rows ≡ None → rows ≡ []
no_newest [] none = refl
no_newest (r ∷ rows) none = absurd (some_newest (item_at r) rows none)

-- where nothing is shown, a row that waits leads nothing
led_same : (dated : Bool) (behind : Option Newest) (rows : List Values) (row : Values) → newest_of behind (between dated (is_some behind) rows) ≡ None → waits dated row ≡ true
    → led dated (is_some behind) (rows ++ row ∷ []) ≡ led dated (is_some behind) rows
led_same dated None rows row none wait =
    let nothing = none_led dated rows (no_newest (between dated false rows) none) in
    led_none dated row rows wait nothing ∙ sym nothing
led_same dated (Some item) rows row none wait = absurd (some_newest item (between dated true rows) none)

-- where something is, each row behind it is led by it
led_grown : (dated : Bool) (behind : Option Newest) (rows : List Values) (row : Values) (n : Newest) → newest_of behind (between dated (is_some behind) rows) ≡ Some n
    → led dated (is_some behind) (rows ++ row ∷ []) ≡ led dated (is_some behind) rows ++ row ∷ []
led_grown dated None rows row n some =
    led_more dated row false rows (λ e none. absurd (let it : newest_of None [] ≡ Some n = subst (λ l. newest_of None l ≡ Some n) (led_between dated rows none) some in cc))
led_grown dated (Some item) rows row n some = refl

-- ---- texts

-- the newest of rows, with more
pub newest_more : (newest : Option Newest) (rows more : List Values) → newest_of newest (rows ++ more) ≡ newest_of (newest_of newest rows) more
newest_more newest [] more = refl
newest_more newest (r ∷ rows) more = newest_more (Some (item_at r)) rows more

-- the text of rows, and of more behind them
pub texts_more : (form : Form) (told : Told) (newest : Option Newest) (rows more : List Values) (text one : List ℕ) → AreTexts form told (epoch_of newest) rows text
    → AreTexts form told (epoch_of (newest_of newest rows)) more one → AreTexts form told (epoch_of newest) (rows ++ more) (text ++ one)
texts_more form told newest [] more text one all it = subst (λ t. AreTexts form told (epoch_of newest) more (t ++ one)) (sym all) it
texts_more form told newest (r ∷ rows) more text one all it =
    (all.0, all.1 ++ one, ap (λ x. x ++ one) all.2 ∙ append_assoc all.0 all.1 one, all.3, texts_more form told (Some (item_at r)) rows more all.1 one all.4 it)

-- the text of one row
one_text : (form : Form) (told : Told) (before : Option ℕ) (row : Values) (text : List ℕ) → IsRowText form told before row text → AreTexts form told before (row ∷ []) text
one_text form told before row text it = (text, [], sym (append-nil text), it, refl)

-- the last number that was read of a row is the row's
last_says : (value : Value) (last : Option ℕ) → value ≡ or_null (λ n. Int (pos n)) last → last_at value ≡ last
last_says value None is = ap last_at is
last_says value (Some n) is = ap last_at is

-- the text of what was read of a row is the row's
row_text_of : (form : Form) (told : Told) (before : Option ℕ) (row : Values) (item : Item) (text : List ℕ) → IsItem row item → IsItemText form told before item text → IsRowText form told before row text
row_text_of Lines told before row item text it is =
    is ∙ rw (it.epoch, it.number, it.stamp, it.datum, it.flags, sym (last_says (column row 1) item.last it.last)) refl
row_text_of Csv told before row item text it is = (item, it, is)
row_text_of Json told before row item text it is = (item, it, is)

-- ---- what is printed, with one row more

module _ (style : Style) (behind : Option Newest) (rows : List Values) (row : Values) (item : Item) (text : List ℕ) (progress : Progress) (is : IsItem row item)
    (has : HasPrinted style behind rows text progress) where
  new_as : is_newer behind item.epoch item.number ≡ is_new behind row
  new_as = rw (is.epoch, is.number) refl

  waits_as : (style.dated && is_some item.last) ≡ waits style.dated row
  waits_as = ap (λ last. style.dated && is_some last) (sym (last_says (column row 1) item.last is.last))

  rows_new : is_newer behind item.epoch item.number ≡ true → filter (is_new behind) (rows ++ row ∷ []) ≡ filter (is_new behind) rows ++ row ∷ []
  rows_new so = filter-append (is_new behind) rows (row ∷ []) ∙ ap (λ l. filter (is_new behind) rows ++ l) (rw (sym new_as ∙ so) refl)

  rows_old : is_newer behind item.epoch item.number ≡ false → filter (is_new behind) (rows ++ row ∷ []) ≡ filter (is_new behind) rows
  rows_old so = filter-append (is_new behind) rows (row ∷ []) ∙ ap (λ l. filter (is_new behind) rows ++ l) (rw (sym new_as ∙ so) refl) ∙ append-nil (filter (is_new behind) rows)

  abbrev old_rows : List Values
  old_rows = filter (is_new behind) rows

  abbrev told : Told
  told = told_of style.shown

  -- how far they are printed, by the rows that lie behind
  built : (new_rows : List Values) (new_text : List ℕ) (now : Progress) (late : List Values) → filter (is_new behind) (rows ++ row ∷ []) ≡ new_rows
      → AreTexts style.form told (epoch_of behind) (between style.dated (is_some behind) new_rows) new_text → now.newest ≡ newest_of behind (between style.dated (is_some behind) new_rows)
      → (between style.dated (is_some behind) new_rows ++ late) ≡ led style.dated (is_some behind) new_rows → AreTexts style.form told (epoch_of now.newest) late now.held.items
      → now.epoch ≡ epoch_of (newest_of now.newest late) → HasPrinted style behind (rows ++ row ∷ []) new_text now
  built new_rows new_text now late same printed newest all waiting epoch = record {
    printed = subst (λ l. AreTexts style.form told (epoch_of behind) (between style.dated (is_some behind) l) new_text) (sym same) printed;
    newest = subst (λ l. now.newest ≡ newest_of behind (between style.dated (is_some behind) l)) (sym same) newest;
    late = late;
    all = subst (λ l. (between style.dated (is_some behind) l ++ late) ≡ led style.dated (is_some behind) l) (sym same) all;
    waiting = waiting;
    epoch = epoch;
  }

  -- a row that doesn't lie behind changes nothing
  pub skipped : is_newer behind item.epoch item.number ≡ false → HasPrinted style behind (rows ++ row ∷ []) text progress
  skipped so = built old_rows text progress has.late (rows_old so) has.printed has.newest has.all has.waiting has.epoch

  same_shown : (style.dated && is_some item.last) ≡ true → between style.dated (is_some behind) (old_rows ++ row ∷ []) ≡ between style.dated (is_some behind) old_rows
  same_shown wait = between_same style.dated row (is_some behind) old_rows (sym waits_as ∙ wait)

  -- nor does a gap before which nothing is shown
  pub left_out : is_newer behind item.epoch item.number ≡ true → (style.dated && is_some item.last) ≡ true → progress.newest ≡ None → HasPrinted style behind (rows ++ row ∷ []) text progress
  left_out so wait none =
      let same = same_shown wait in
      built (old_rows ++ row ∷ []) text progress has.late (rows_new so)
      (subst (λ l. AreTexts style.form told (epoch_of behind) l text) (sym same) has.printed) (has.newest ∙ ap (newest_of behind) (sym same))
      (ap (λ l. l ++ has.late) same ∙ has.all ∙ sym (led_same style.dated behind old_rows row (sym has.newest ∙ none) (sym waits_as ∙ wait))) has.waiting has.epoch

  row_text : (one : List ℕ) → IsItemText style.form told progress.epoch item one → AreTexts style.form told (epoch_of (newest_of progress.newest has.late)) (row ∷ []) one
  row_text one it = one_text style.form told (epoch_of (newest_of progress.newest has.late)) row one
      (row_text_of style.form told (epoch_of (newest_of progress.newest has.late)) row item one is (subst (λ e. IsItemText style.form told e item one) has.epoch it))

  -- the texts at hand, with that of the row
  late_text : (one : List ℕ) → IsItemText style.form told progress.epoch item one → AreTexts style.form told (epoch_of progress.newest) (has.late ++ row ∷ []) (progress.held.items ++ one)
  late_text one it = texts_more style.form told progress.newest has.late (row ∷ []) progress.held.items one has.waiting (row_text one it)

  late_newest : newest_of progress.newest (has.late ++ row ∷ []) ≡ Some (item_at row)
  late_newest = newest_more progress.newest has.late (row ∷ [])

  item_is : Some (record { epoch = item.epoch; number = item.number }) ≡ Some (item_at row)
  item_is = rw (is.epoch, is.number) refl

  -- a gap behind what is shown waits
  pub held_back : (one : List ℕ) (now : Progress) (n : Newest) → is_newer behind item.epoch item.number ≡ true → (style.dated && is_some item.last) ≡ true → progress.newest ≡ Some n
      → IsItemText style.form told progress.epoch item one → now.held.items ≡ progress.held.items ++ one → now.epoch ≡ Some item.epoch → now.newest ≡ progress.newest
      → HasPrinted style behind (rows ++ row ∷ []) text now
  held_back one now n so wait some it held epoch newest =
      let same = same_shown wait in
      let grown = led_grown style.dated behind old_rows row n (sym has.newest ∙ some) in
      built (old_rows ++ row ∷ []) text now (has.late ++ row ∷ []) (rows_new so)
      (subst (λ l. AreTexts style.form told (epoch_of behind) l text) (sym same) has.printed) (newest ∙ has.newest ∙ ap (newest_of behind) (sym same))
      (ap (λ l. l ++ (has.late ++ row ∷ [])) same ∙ sym (append_assoc (between style.dated (is_some behind) old_rows) has.late (row ∷ [])) ∙ ap (λ l. l ++ row ∷ []) has.all ∙ sym grown)
      (subst (λ m. AreTexts style.form told (epoch_of m) (has.late ++ row ∷ []) now.held.items) (sym newest)
      (subst (AreTexts style.form told (epoch_of progress.newest) (has.late ++ row ∷ [])) (sym held) (late_text one it)))
      (epoch ∙ ap epoch_of item_is ∙ ap epoch_of (sym late_newest) ∙ ap (λ m. epoch_of (newest_of m (has.late ++ row ∷ []))) (sym newest))

  shown_now : (style.dated && is_some item.last) ≡ false
      → between style.dated (is_some behind) (old_rows ++ row ∷ []) ≡ between style.dated (is_some behind) old_rows ++ (has.late ++ row ∷ [])
  shown_now sure = between_now style.dated row (is_some behind) old_rows (sym waits_as ∙ sure) ∙ ap (λ l. l ++ row ∷ []) (sym has.all)
      ∙ append_assoc (between style.dated (is_some behind) old_rows) has.late (row ∷ [])

  texts_now : (one : List ℕ) → (style.dated && is_some item.last) ≡ false → IsItemText style.form told progress.epoch item one
      → AreTexts style.form told (epoch_of behind) (between style.dated (is_some behind) (old_rows ++ row ∷ [])) (text ++ (progress.held.items ++ one))
  texts_now one sure it =
      subst (λ l. AreTexts style.form told (epoch_of behind) l (text ++ (progress.held.items ++ one))) (sym (shown_now sure))
      (texts_more style.form told behind (between style.dated (is_some behind) old_rows) (has.late ++ row ∷ []) text (progress.held.items ++ one) has.printed
      (subst (λ m. AreTexts style.form told (epoch_of m) (has.late ++ row ∷ []) (progress.held.items ++ one)) has.newest (late_text one it)))

  -- the text of the rows with this one, where it is shown by itself
  pub whole_text : (one : List ℕ) → is_newer behind item.epoch item.number ≡ true → (style.dated && is_some item.last) ≡ false → IsItemText style.form told progress.epoch item one
      → AreTexts style.form told (epoch_of behind) (shown_rows style.dated behind (rows ++ row ∷ [])) (text ++ (progress.held.items ++ one))
  whole_text one so sure it =
      subst (λ l. AreTexts style.form told (epoch_of behind) (between style.dated (is_some behind) l) (text ++ (progress.held.items ++ one))) (sym (rows_new so)) (texts_now one sure it)

  -- then it is printed, with what waited
  pub printed_now : (one : List ℕ) (now : Progress) → is_newer behind item.epoch item.number ≡ true → (style.dated && is_some item.last) ≡ false
      → IsItemText style.form told progress.epoch item one → now.held.items ≡ [] → now.epoch ≡ Some item.epoch → now.newest ≡ Some (record { epoch = item.epoch; number = item.number })
      → HasPrinted style behind (rows ++ row ∷ []) (text ++ (progress.held.items ++ one)) now
  printed_now one now so sure it held epoch newest =
      let shown = shown_now sure in
      let first = between style.dated (is_some behind) old_rows in
      built (old_rows ++ row ∷ []) (text ++ (progress.held.items ++ one)) now [] (rows_new so) (texts_now one sure it)
      (newest ∙ item_is ∙ sym late_newest ∙ ap (λ m. newest_of m (has.late ++ row ∷ [])) has.newest ∙ sym (newest_more behind first (has.late ++ row ∷ [])) ∙ ap (newest_of behind) (sym shown))
      (append-nil _ ∙ between_now style.dated row (is_some behind) old_rows (sym waits_as ∙ sure) ∙ sym (led_now style.dated row (is_some behind) old_rows (sym waits_as ∙ sure)))
      held (epoch ∙ ap epoch_of (sym newest))
