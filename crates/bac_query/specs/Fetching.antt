-- What fetching the records of a trend log prints, over any writer.
use Rattle.std.specs.Prelude.{◌≡◌, ℕ, false, ◌+◌, ◌*◌, ◌<◌, ◌≤◌, ◌⊎◌, List, length, Result, Ok, Err}
use Rattle.std.specs.Io.KnownBytes.{Keeps}
use Rattle.bac_log.specs.TrendLog.{sequence_number}
use Rattle.bac_link.specs.Delivery.{History, Moment, DeliversTo, Leads}
use Rattle.bac_link.specs.Exchanges.{Failures}
use Rattle.bac_link.specs.declared.item.Item.{Item}
use Rattle.bac_query.specs.Layouts.{AppendsAll, AppendsAllPart, AppendsEnd, AppendsEndPart, AppendsItems}
use Rattle.bac_query.specs.Layouts.{AppendsItemsPart}
use Rattle.bac_link.specs.Moments.{NeverGoesBack}
use Rattle.bac_walk.specs.Came.{Came, AreSaidAt, answers_of}
use Rattle.bac_walk.specs.Collects.{IsCaughtUp, start_of, losses_of}
use Rattle.bac_link.specs.Moments.{AreInWindow}
use Rattle.bac_walk.specs.Place.{WalkPlace}
use Rattle.bac_walk.specs.Outcomes.{IsRunOf}
use Rattle.bac_walk.specs.Sinks.{IsRun, ours_around}
use Rattle.bac_walk.specs.declared.outcome.Ended.{Ended}
use Rattle.bac_walk.specs.declared.outcome.Ended.TheVariants.{CaughtUp, StepLimit}
use Rattle.bac_walk.specs.declared.outcome.Why.{Why}
use Rattle.bac_walk.specs.declared.outcome.Why.TheVariants as why
use Rattle.bac_query.specs.Reading.{Held}
use Rattle.bac_query.specs.declared.fault.QueryFault.{QueryFault}
use Rattle.bac_query.specs.declared.fault.QueryFault.TheVariants.{Exchange, Write, Memory}
use Rattle.bac_query.specs.declared.fetching.Fetched.{Fetched}
use Rattle.bac_form.specs.declared.form.Form.{Form}

-- what fetching answers
abbrev pub Fetching : Type 0
Fetching = Result Fetched QueryFault

-- the end line was written, or a front part of it, or there was no memory for it
abbrev pub PrintsEnd : Form → Why → ℕ → Fetching → Held → Held → Type 0
PrintsEnd layout why next (Ok fetched) old new =
    (fetched.why ≡ why) × (fetched.next ≡ next) × AppendsEnd layout why next old new
PrintsEnd layout why next (Err Write) old new = AppendsEndPart layout why next old new
PrintsEnd layout why next (Err Memory) old new = Keeps old new
PrintsEnd layout why next (Err (Exchange fault)) old new = ⊥

-- The text of the items and the end line were written; after a refused write, a front part of these; if there was
-- no memory for the end line, the text of the items.
abbrev pub PrintsItems : Form → List Item → Fetching → Held → Held → Type 0
PrintsItems layout items (Ok fetched) old new = AppendsAll layout items fetched.why fetched.next old new
PrintsItems layout items (Err Write) old new = (why : Why) × (next : ℕ) × AppendsAllPart layout items why next old new
PrintsItems layout items (Err Memory) old new = AppendsItems layout items old new
PrintsItems layout items (Err (Exchange fault)) old new = ⊥

-- How a run of a walk went: the items that it brought, how many steps it took, how it ended, and where it left the
-- walk.
pub record Course : Type 0 where
  pub items : List Item
  pub steps : ℕ
  pub ended : Ended
  pub place : WalkPlace

-- the four together
abbrev pub course : List Item → ℕ → Ended → WalkPlace → Course
course items steps ended place = record { items = items; steps = steps; ended = ended; place = place }

-- so many asks had failed before a call, and so many after it
abbrev pub failing : ℕ → ℕ → Failures
failing before after = record { before = before; after = after }

-- why the walk ended, and the number that comes next: those of a run of n steps that ended so and left the walk here
abbrev pub IsEnd : ℕ → ℕ → Ended → WalkPlace → Why → ℕ → Type 0
IsEnd steps n ended after why next = IsRunOf why steps n ended × (next ≡ after.next)

-- What was told or written at the end is the end of that run, of at most so many steps. If a write was refused, it was
-- that of lines of items, or of the end line.
abbrev pub EndsAs : Form → ℕ → Course → Fetching → Held → Held → Type 0
EndsAs layout steps run (Ok fetched) old new = IsEnd steps run.steps run.ended run.place fetched.why fetched.next
EndsAs layout steps run (Err Write) old new =
    (run.steps ≤ steps)
    × (AppendsItemsPart layout run.items old new
    ⊎ ((why : Why) × (next : ℕ) × IsEnd steps run.steps run.ended run.place why next
    × AppendsAllPart layout run.items why next old new))
EndsAs layout steps run (Err Memory) old new =
    (why : Why) × (next : ℕ) × IsEnd steps run.steps run.ended run.place why next
EndsAs layout steps run (Err (Exchange fault)) old new = ⊥

-- So went a run of the walk from this place on, over any link: each step brought at most 100 records and one gap, and a
-- record at least if all were whole. Over a link of ours the items are what its answers brought.
abbrev pub IsFetched : (ℕ → List Moment → History → Type 0) → ℕ → Failures → WalkPlace → Course → Type 0
IsFetched was retries failures before run =
    IsRun (ours_around was (λ r M H. Unit {0})) (losses_of retries failures.before failures.after) before run.place
    run.steps run.ended run.items
    × (length run.items ≤ 101 * run.steps) × (run.ended ≡ StepLimit → run.steps ≤ length run.items)

-- ---- what came over the link

-- What is told and printed of this run, of at most so many steps: the text of its items and the end line, which says
-- how it ended. If a write was refused, it was that of the text of the items, or of the end line; if there was no
-- memory for the end line, the text of the items is there. The link was left for the reason that the end line gives, or
-- as after whole steps.
abbrev pub TellsRun : Form → (Why → Type 0) → ℕ → Course → Fetching → Held → Held → Type 0
TellsRun layout left steps run (Ok fetched) old new =
    IsEnd steps run.steps run.ended run.place fetched.why fetched.next × left fetched.why
    × AppendsAll layout run.items fetched.why fetched.next old new
TellsRun layout left steps run (Err Write) old new =
    ((run.steps ≤ steps) × left why.StepLimit × AppendsItemsPart layout run.items old new)
    ⊎ ((cause : Why) × (next : ℕ) × IsEnd steps run.steps run.ended run.place cause next × left cause
    × AppendsAllPart layout run.items cause next old new)
TellsRun layout left steps run (Err Memory) old new =
    (cause : Why) × (next : ℕ) × IsEnd steps run.steps run.ended run.place cause next × left cause
    × AppendsItems layout run.items old new
TellsRun layout left steps run (Err (Exchange fault)) old new = ⊥

-- If the replies that came say what one log holds at these moments, in order, and the log never goes back, all within
-- half of the count, then the items are what it held from the walk's number on, or from the oldest record that it held
-- when its first batch was given; caught up, it held nothing more at an answer after the last batch.
abbrev pub IsHeadline : WalkPlace → List Came → List Item → Ended → WalkPlace → Type 0
IsHeadline walk came items ended after =
    (H : History) (M : List Moment) (low s : ℕ) → AreSaidAt H M came → walk.next ≡ sequence_number s →
    0 < length M → NeverGoesBack M → AreInWindow low M →
    (walk.fresh ≡ false → (low ≤ s) × (s < low + 2147483648)) →
    (b : ℕ) × (t : ℕ) × (b ≡ start_of walk.fresh s M (answers_of came)) × (after.next ≡ sequence_number t)
    × ((u : ℕ) × Leads H M b (answers_of came) u)
    × DeliversTo H b items t M (length came) × (ended ≡ CaughtUp → IsCaughtUp walk.fresh t M (answers_of came))
