-- What is printed over a port that is honest for a log.
use Rattle.std.specs.Io.KnownBytes.{Appends}
use Rattle.std.specs.Prelude.{IfOk}
use Rattle.std.proofs.Common.{◌≡◌, ℕ, ◌+◌, ◌<◌, ◌≤◌, true, Option, None, Result, Ok, Err, List, ◌++◌, length, refl, subst, ◌∙◌}
use Rattle.bac_wire.specs.Primitive.{Id}
use Rattle.bac_apdu.specs.Npdu.{Place}
use Rattle.bac_log.specs.TrendLog.{sequence_number}
use Rattle.bac_link.specs.Delivery.{History, Moment, DeliversTo}
use Rattle.bac_link.specs.Exchanges.{client}
use Rattle.bac_link.specs.Path.{Path, towards}
use Rattle.bac_link.specs.declared.item.Item.{Item}
use Rattle.bac_link.specs.declared.link.Lost.{Lost as Loss}
use Rattle.bac_link.specs.declared.transactions.Transactions.{Transactions}
use Rattle.bac_query.specs.Ahead.{FetchesAhead, IsLeftAhead, errand}
use Rattle.bac_query.specs.Fetching.{Fetching, PrintsItems}
use Rattle.bac_query.specs.Reading.{Held, printing}
use Rattle.bac_query.specs.declared.fetching.Fetched.{Fetched}
use Rattle.bac_form.specs.declared.form.Form.TheVariants.{Lines}
use Rattle.bac_query.specs.Ends.{end_line}
use Rattle.bac_query.specs.Items.{items_text}
use Rattle.bac_query.proofs.RunsAhead.{tells_items}
use Rattle.bac_link.specs.Moments.{NeverGoesBack}
use Rattle.bac_link.specs.Moments.{AreInWindow}
use Rattle.bac_walk.specs.Came.{Came, Brought, answers_of, reaching, walk_over}
use Rattle.bac_walk.specs.Collects.{start_of}
use Rattle.bac_walk.specs.Place.{WalkPlace, walk_at, walk_from_oldest}
use Rattle.bac_walk.specs.Transacted.{TransactedIsBrought}
use Rattle.bac_link.specs.Honest.{IsHonest, IsHonestWhere, asked_log}
use Rattle.bac_walk.specs.Honest.{IsHonestEnd, HonestIsDelivered}
use Rattle.bac_walk.specs.declared.outcome.WalkFault.{WalkFault}
use Rattle.bac_walk.specs.declared.outcome.WalkFault.TheVariants.{Lost}
use Rattle.bac_walk.specs.declared.outcome.Why.TheVariants as why
use Rattle.bac_walk.proofs.Ends.{ended_as, is_loss}

-- what comes over a link that is honest for a log is delivered, and it stays honest
abbrev Law : {S : Type 0} → (S → List ℕ → Result (List ℕ) Loss → S → Type 0) → Type 0
Law asks = (path : Path) (log : Id) (count : ℕ) (H : History) (low : ℕ) → HonestIsDelivered asks (λ l M. IsHonest asks (asked_log path log count) H low l M)

abbrev GoesOn : {S : Type 0} → (S → List ℕ → Result (List ℕ) Loss → S → Type 0) → Type 0
GoesOn asks = (path : Path) (log : Id) (count : ℕ) (H : History) (low : ℕ) → IsHonestWhere asks (asked_log path log count) H low (λ l M. IsHonest asks (asked_log path log count) H low l M)

-- the lines of what such a link brought from the ordinal k on, and the end line
abbrev pub PrintsSaid : History → List Moment → ℕ → Fetched → Held → Held → Type 0
PrintsSaid H M k done old new =
    (items : List Item) × (a : ℕ) × (t : ℕ) × (done.next ≡ sequence_number t) × DeliversTo H k items t M a
    × Appends old new (items_text items ++ end_line done.why done.next) × ((e : WalkFault) → done.why ≡ why.Fault e → e ≡ Lost)

pub prints_said : {S : Type 0} (asks : S → List ℕ → Result (List ℕ) Loss → S → Type 0) (link left : S) (first last : Transactions) (w : WalkPlace) (log : Id) (number steps : ℕ) (result : Fetching) (old new : Held) →
    Law asks → GoesOn asks → TransactedIsBrought asks → first.route ≡ None → w ≡ walk_at log number →
    FetchesAhead (errand Lines w steps) asks (printing (client link first) old) result (printing (client left last) new) →
    IfOk result (λ done. (M : List Moment) (H : History) (k low : ℕ) → IsHonest asks (asked_log (towards None) log 100) H low link M → number ≡ sequence_number k →
    0 < length M → NeverGoesBack M → AreInWindow low M → low ≤ k → k < low + 2147483648 → PrintsSaid H M k done old new)
prints_said asks link left first last w log number steps (Err fault) old new law goes plain near from over = tt
prints_said {S = S} asks link left first last w log number steps (Ok done) old new law goes plain near from over = λ M H k low honest here some back window above below.
    let P : WalkPlace → Type 0 = λ v. FetchesAhead (errand Lines v steps) asks (printing (client link first) old) (Ok done) (printing (client left last) new) in
    let f : P (walk_at log number) = subst P from over in
    let B : Option Place → Type 0 = λ y. Brought (reaching asks (towards y) first.retries) (walk_over link (walk_at log number)) f.2 f.0 f.1 f.3 (walk_over f.6 f.4) in
    let run : B None = subst B near (plain first f.5 link f.6 (walk_at log number) f.4 f.2 f.0 f.1 f.3 f.7) in
    let d = law (towards None) log 100 H low (towards None) first.retries link f.6 (walk_at log number) f.4 f.2 f.0 f.1 f.3 H M low k (goes (towards None) log 100 H low) honest run here some back window (λ is. (above, below)) in
    let D : ℕ → Type 0 = λ x. DeliversTo H x f.1 d.0.1 M (length f.0) in (
      f.1,
      length f.0,
      d.0.1,
      f.8.0.1 ∙ d.0.3,
      subst D d.0.2 d.0.5,
      f.8.2,
      λ e is. is_loss e (subst IsHonestEnd (ended_as done.why steps f.2 f.3 e f.8.0.0 is) d.3),
    )

-- what it brought from the oldest record on begins at the oldest that the log held when its first batch was given
abbrev pub FromOldest : History → List Moment → Fetching → Held → Held → Type 0
FromOldest H M result old new =
    (came : List Came) × (items : List Item) × (t : ℕ) × PrintsItems Lines items result old new
    × DeliversTo H (start_of true 1 M (answers_of came)) items t M (length came)

pub from_oldest : {S : Type 0} (asks : S → List ℕ → Result (List ℕ) Loss → S → Type 0) (link left : S) (first last : Transactions) (w : WalkPlace) (log : Id) (steps : ℕ) (result : Fetching) (old new : Held) →
    Law asks → GoesOn asks → TransactedIsBrought asks → first.route ≡ None → w ≡ walk_from_oldest log →
    FetchesAhead (errand Lines w steps) asks (printing (client link first) old) result (printing (client left last) new) →
    (M : List Moment) (H : History) (low : ℕ) → IsHonest asks (asked_log (towards None) log 100) H low link M →
    0 < length M → NeverGoesBack M → AreInWindow low M → FromOldest H M result old new
from_oldest {S = S} asks link left first last w log steps result old new law goes plain near from over M H low honest some back window =
    let P : WalkPlace → Type 0 = λ v. FetchesAhead (errand Lines v steps) asks (printing (client link first) old) result (printing (client left last) new) in
    let f : P (walk_from_oldest log) = subst P from over in
    let B : Option Place → Type 0 = λ y. Brought (reaching asks (towards y) first.retries) (walk_over link (walk_from_oldest log)) f.2 f.0 f.1 f.3 (walk_over f.6 f.4) in
    let run : B None = subst B near (plain first f.5 link f.6 (walk_from_oldest log) f.4 f.2 f.0 f.1 f.3 f.7) in
    let d = law (towards None) log 100 H low (towards None) first.retries link f.6 (walk_from_oldest log) f.4 f.2 f.0 f.1 f.3 H M low 1 (goes (towards None) log 100 H low) honest run refl some back window (λ is. absurd (cc)) in
    let D : ℕ → Type 0 = λ x. DeliversTo H x f.1 d.0.1 M (length f.0) in (
      f.0,
      f.1,
      d.0.1,
      tells_items Lines (λ cause. IsLeftAhead asks f.5 f.6 f.4 last left cause) f.1 steps f.2 f.3 f.4 result old new f.8,
      subst D d.0.2 d.0.5,
    )
