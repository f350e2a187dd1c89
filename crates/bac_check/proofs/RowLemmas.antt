-- What a row says.
use Rattle.std.proofs.Common.{◌≡◌, refl, sym, subst, Bool, codes, ℕ, pos, Option, Some, None}
use Rattle.std.specs.Str.{bytes_eq}
use Rattle.sqlite_value.specs.Order.{Row as Values, column}
use Rattle.sqlite_value.specs.declared.value.Value.{Value}
use Rattle.sqlite_value.specs.declared.value.Value.TheVariants.{Int}
use Rattle.sqlite.specs.Values.{or_null}
use Rattle.bac_archive.specs.Items.{IsItem, last_at}
use Rattle.bac_archive.specs.declared.items.Item.{Item}
use Rattle.bac_check.specs.Rows.{is_new, span_of}
use Rattle.bac_check.specs.Uncounts.{FailsOnRow, IsNotTaken}
use Rattle.bac_check.specs.declared.tally.Span.{Span}
use Rattle.bac_check.specs.declared.tally.Tally.{Tally}
use Rattle.bac_check.specs.declared.tally.Uncounted.{Uncounted}
use Rattle.bac_check.specs.declared.tally.Uncounted.TheVariants.{Overlap, Backward, Memory, Database}
use Rattle.std.proofs.Common.{true}

last_says : (v : Value) (last : Option ℕ) → v ≡ or_null (λ n. Int (pos n)) last → last_at v ≡ last
last_says v None is = rw is refl
last_says v (Some n) is = rw is refl

-- what an item covers is what its row covers
pub covers : (row : Values) (item : Item) (d : Bool) → IsItem row item → d ≡ bytes_eq item.datum.now (codes "or began anew")
    → record { number = item.number; last = item.last; doubtful = d } ≡ span_of row
covers row item d it is = rw (it.number, sym (last_says (column row 1) item.last it.last), is, it.datum) refl

-- a row that isn't taken isn't counted
pub not_taken : (epoch : ℕ) (behind : Option Span) (counted : Option Tally) (row : Values) (span : Span) → span ≡ span_of row → is_new behind span ≡ true
    → (why : Uncounted) → IsNotTaken epoch counted span why → FailsOnRow epoch behind counted row why
not_taken epoch behind counted row span is new (Overlap e before over) it = subst (λ (s : Span). (is_new behind s ≡ true) × IsNotTaken epoch counted s (Overlap e before over)) is (new, it)
not_taken epoch behind counted row span is new (Backward e over) it = subst (λ (s : Span). IsNotTaken epoch counted s (Backward e over)) is it
not_taken epoch behind counted row span is new Memory it = tt
not_taken epoch behind counted row span is new (Database e) it = absurd it
