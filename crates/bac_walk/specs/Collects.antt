-- What a run of a walk over a link of ours delivers, and how it ends.
use Rattle.std.specs.Prelude.{◌++◌, ◌≡◌, ℕ, suc, Bool, true, false, ◌+◌, ◌*◌, ◌<◌, ◌≤◌, Result, Ok, Err, List, [], ◌∷◌}
use Rattle.std.specs.Prelude.{length, drop}
use Rattle.bac_link.specs.declared.item.Item.{Item}
use Rattle.bac_walk.specs.declared.outcome.Progress.{Progress}
use Rattle.bac_walk.specs.declared.outcome.Progress.TheVariants.{Batch as BatchOf, AskOldest, CaughtUp as IsUp}
use Rattle.bac_walk.specs.declared.outcome.Step.{Step}
use Rattle.bac_walk.specs.declared.outcome.Step.TheVariants.{Batch as StepOf, CaughtUp as NoStep}
use Rattle.bac_walk.specs.declared.outcome.WalkFault.{WalkFault}
use Rattle.bac_walk.specs.declared.outcome.WalkFault.TheVariants.{Lost, Refused, BadReply}
use Rattle.bac_link.specs.declared.exchanges.Refusal.TheVariants as said
use Rattle.bac_walk.specs.declared.outcome.Ended.{Ended}
use Rattle.bac_walk.specs.declared.outcome.Ended.TheVariants.{CaughtUp, StepLimit, Stopped, Fault}
use Rattle.bac_walk.specs.declared.outcome.Why.{Why}
use Rattle.bac_walk.specs.declared.outcome.Why.TheVariants.{CaughtUp as WasUp, StepLimit as WasLimit, Fault as WasFault}
use Rattle.bac_walk.specs.declared.outcome.Why.TheVariants.{Memory}
use Rattle.bac_link.specs.Delivery.{History, Moment, now, later, items_of, Brings}
use Rattle.bac_link.specs.Laws.{moment_at, CoversEach}
use Rattle.bac_walk.specs.Turns.{NoneOfAsked, whole_reply}
use Rattle.bac_walk.specs.Delivers.{NoneFrom}
use Rattle.bac_link.specs.Links.{RisesBy}
use Rattle.bac_link.specs.declared.item.Item.TheVariants.{Gap, Logged}
use Rattle.bac_log.specs.TrendLog.{sequence_number}
use Rattle.bac_walk.specs.Walks.{items_in}

-- a log over a link of ours: its replies have at most so many octets, and are given at these moments, with this history
pub record OurLog : Type 0 where
  pub reply_size : ℕ
  pub moments : List Moment
  pub history : History

-- the three together
abbrev pub our_log : ℕ → List Moment → History → OurLog
our_log r M H = record { reply_size = r; moments = M; history = H }

-- where a walk starts: how many records a question asks for, whether it begins at the oldest record, and the ordinal of
-- its number
pub record Started : Type 0 where
  pub count : ℕ
  pub fresh : Bool
  pub ordinal : ℕ

-- the three together
abbrev pub started_at : ℕ → Bool → ℕ → Started
started_at count fresh s = record { count = count; fresh = fresh; ordinal = s }

-- how often a question is asked again, and how many asks had failed before and after
pub record Losses : Type 0 where
  pub retries : ℕ
  pub before : ℕ
  pub after : ℕ

-- the three together
abbrev pub losses_of : ℕ → ℕ → ℕ → Losses
losses_of retries before after = record { retries = retries; before = before; after = after }

-- what a run yields: its items, and how it ended
pub record Yield : Type 0 where
  pub items : List Item
  pub ended : Ended

-- the two together
abbrev pub yield : List Item → Ended → Yield
yield items ended = record { items = items; ended = ended }

-- how many answers brought a batch
abbrev pub batches : List (List Item) → ℕ
batches [] = 0
batches ([] ∷ answers) = batches answers
batches ((x ∷ xs) ∷ answers) = suc (batches answers)

-- each answer without a batch stands alone, with a batch after it
abbrev pub IsWhole : List (List Item) → Type 0
IsWhole [] = Unit {0}
IsWhole ([] ∷ []) = ⊥
IsWhole ([] ∷ [] ∷ answers) = ⊥
IsWhole ([] ∷ (x ∷ xs) ∷ answers) = IsWhole answers
IsWhole ((x ∷ xs) ∷ answers) = IsWhole answers

-- the items of a batch that came before these answers: the whole of a reply, but that a run that was stopped ends with
-- the record that stopped it
abbrev pub IsOfReply : List (List Item) → Ended → List Item → List Item → Type 0
IsOfReply (y ∷ answers) ended items reply = items ≡ reply
IsOfReply [] CaughtUp items reply = items ≡ reply
IsOfReply [] StepLimit items reply = items ≡ reply
IsOfReply [] Stopped items reply = (dropped : List Item) × (items ++ dropped ≡ reply)
IsOfReply [] (Fault e) items reply = items ≡ reply

-- Step by step the answers of a run lead from ordinal s to t. A step asks by number. If that brings nothing, none is
-- held of the ordinals that were asked for, so many, and the oldest are asked for; if these bring nothing either, the
-- run ends, caught up. A batch is the whole of a reply.
abbrev pub LeadsInSteps : Ended → OurLog → (count : ℕ) → Bool → ℕ → List (List Item) → ℕ → Type 0
LeadsInSteps ended ours count by_oldest s [] t = t ≡ s
LeadsInSteps ended ours count false s ([] ∷ answers) t =
    NoneOfAsked count s (now ours.moments)
    × LeadsInSteps ended (our_log ours.reply_size (later ours.moments) ours.history) count true s answers t
LeadsInSteps ended ours count true s ([] ∷ answers) t = (answers ≡ []) × (ended ≡ CaughtUp) × (t ≡ s)
LeadsInSteps ended ours count by_oldest s ((x ∷ xs) ∷ answers) t =
    (u : ℕ) × Brings ours.history (now ours.moments) s (x ∷ xs) u
    × IsOfReply answers ended (x ∷ xs)
    (whole_reply ours.reply_size count ours.history (now ours.moments) by_oldest s)
    × LeadsInSteps ended (our_log ours.reply_size (later ours.moments) ours.history) count false u answers t

-- the ordinal where a run begins: that of the next number, or for a walk from the oldest entry at the oldest of its
-- first batch's moment
abbrev pub start_of : Bool → ℕ → List Moment → List (List Item) → ℕ
start_of false next M answers = next
start_of true next M [] = next
start_of true next M ([] ∷ answers) = start_of true next (later M) answers
start_of true next M ((x ∷ xs) ∷ answers) = (now M).oldest

-- at some answer after the last batch no entry from t on was held, and for a walk from the oldest entry without a
-- batch none at all
abbrev pub IsCaughtUp : Bool → ℕ → List Moment → List (List Item) → Type 0
IsCaughtUp fresh t M answers =
    (i : ℕ) × (i < length answers) × (batches (drop i answers) ≡ 0) × NoneFrom t (moment_at M i)
    × (fresh ≡ true → batches answers ≡ 0 → (moment_at M i).newest < (moment_at M i).oldest)

-- why a run of so many steps may end
abbrev pub IsEnded : Ended → Bool → ℕ → List Moment → List (List Item) → ℕ → Losses → Type 0
IsEnded CaughtUp fresh t M answers steps losses = (batches answers < steps) × IsCaughtUp fresh t M answers
IsEnded StepLimit fresh t M answers steps losses = (batches answers ≡ steps) × IsWhole answers
IsEnded Stopped fresh t M answers steps losses =
    (0 < batches answers) × (batches answers ≤ steps) × IsWhole answers
IsEnded (Fault Lost) fresh t M answers steps losses = RisesBy (losses.retries + 1) losses.before losses.after
IsEnded (Fault (Refused refusal)) fresh t M answers steps losses = ⊥
IsEnded (Fault BadReply) fresh t M answers steps losses = ⊥

-- what the answers of a run of at most so many steps over a link of ours brought, each to a question for so many
-- records, and how it ended. The walk started so, and is at ordinal t
pub record Collected (ours : OurLog) (start : Started) (steps : ℕ) (losses : Losses) (run : Yield) (t : ℕ)
    (answers : List (List Item)) : Type 0 where
  pub all : items_of answers ≡ run.items
  pub leads : LeadsInSteps run.ended ours start.count false
      (start_of start.fresh start.ordinal ours.moments answers) answers t
  pub twice_steps : length answers ≤ 2 * steps
  pub twice_batches : length answers ≤ 2 * batches answers + 2
  pub end : IsEnded run.ended start.fresh t ours.moments answers steps losses

-- a walk from the oldest entry is one until its first batch
pub record IsFreshAfter (before : Bool) (answers : List (List Item)) (after : Bool) : Type 0 where
  pub none : batches answers ≡ 0 → after ≡ before
  pub some : 0 < batches answers → after ≡ false

-- whether there is a second question to ask
abbrev pub asks_next : Result Progress WalkFault → Bool
asks_next (Ok AskOldest) = true
asks_next (Ok IsUp) = false
asks_next (Ok (BatchOf b)) = false
asks_next (Err e) = false

-- the step that ends with this answer
abbrev pub finished : Result Progress WalkFault → Result Step WalkFault
finished (Ok (BatchOf b)) = Ok (StepOf b)
finished (Ok IsUp) = Ok NoStep
finished (Ok AskOldest) = Ok NoStep
finished (Err e) = Err e

-- the items of a step, and how a run of one step ends
abbrev pub step_items : Result Step WalkFault → List Item
step_items (Ok (StepOf b)) = items_in b
step_items (Ok NoStep) = []
step_items (Err e) = []

-- how a run of one step ends; a step that brings a batch is the last that the run may take
abbrev pub step_ended : Result Step WalkFault → Ended
step_ended (Ok (StepOf b)) = StepLimit
step_ended (Ok NoStep) = CaughtUp
step_ended (Err e) = Fault e

-- a batch ends what is special about a walk from the oldest entry
abbrev pub is_fresh_after : Bool → Result Step WalkFault → Bool
is_fresh_after fresh (Ok (StepOf b)) = false
is_fresh_after fresh (Ok NoStep) = fresh
is_fresh_after fresh (Err e) = fresh

-- the items of an answer, whatever it was worth: none but for a batch
abbrev pub turn_items : Result Progress WalkFault → List Item
turn_items (Ok (BatchOf b)) = items_in b
turn_items (Ok AskOldest) = []
turn_items (Ok IsUp) = []
turn_items (Err e) = []

-- over any link: items that begin at an ordinal of the walk's number cover what lies up to one of the new number.
-- A walk from the oldest entry begins at any ordinal of the number that its first item shows
abbrev pub Goes : Bool → ℕ → ℕ → List Item → Bool → ℕ → Type 0
Goes fresh before s [] after next = (next ≡ before) × (after ≡ fresh)
Goes false before s (x ∷ xs) after next =
    (before ≡ sequence_number s → (t : ℕ) × (next ≡ sequence_number t) × CoversEach s (x ∷ xs) t) × (after ≡ false)
Goes true before s (Gap first until ∷ xs) after next = ⊥
Goes true before s (Logged shown entry ∷ xs) after next =
    (shown ≡ sequence_number s → (t : ℕ) × (next ≡ sequence_number t) × CoversEach s (Logged shown entry ∷ xs) t)
    × (after ≡ false)

-- a turn and a step that aren't lost, and those of a log that the device doesn't have
abbrev pub IsFound : WalkFault → Type 0
IsFound Lost = ⊥
IsFound (Refused refusal) = Unit {0}
IsFound BadReply = Unit {0}

-- the fault of a walk of a log that the device doesn't have: a loss, or class object, code unknown-object (clause 18)
abbrev pub IsMissing : WalkFault → Type 0
IsMissing Lost = Unit {0}
IsMissing (Refused refusal) = refusal ≡ said.Error 1 31
IsMissing BadReply = ⊥

-- a turn that isn't lost
abbrev pub FoundTurn : Result Progress WalkFault → Type 0
FoundTurn (Ok p) = Unit {0}
FoundTurn (Err e) = IsFound e

-- a step that isn't lost
abbrev pub FoundStep : Result Step WalkFault → Type 0
FoundStep (Ok p) = Unit {0}
FoundStep (Err e) = IsFound e

-- a turn of a log that the device doesn't have
abbrev pub MissingTurn : Result Progress WalkFault → Type 0
MissingTurn (Ok p) = ⊥
MissingTurn (Err e) = IsMissing e

-- a step of such a log
abbrev pub MissingStep : Result Step WalkFault → Type 0
MissingStep (Ok p) = ⊥
MissingStep (Err e) = IsMissing e

-- an end of a run that isn't lost, and one of a log that the device doesn't have
abbrev pub FoundEnd : Ended → Type 0
FoundEnd CaughtUp = Unit {0}
FoundEnd StepLimit = Unit {0}
FoundEnd Stopped = Unit {0}
FoundEnd (Fault e) = IsFound e

-- the end of a run of at most so many steps over a log that the device doesn't have
abbrev pub MissingEnd : ℕ → Ended → Type 0
MissingEnd steps CaughtUp = ⊥
MissingEnd steps StepLimit = steps ≡ 0
MissingEnd steps Stopped = ⊥
MissingEnd steps (Fault e) = (0 < steps) × IsMissing e

-- why a run that keeps its items ends over a log that the device doesn't have
abbrev pub MissingWhy : ℕ → Why → Type 0
MissingWhy steps WasUp = ⊥
MissingWhy steps WasLimit = steps ≡ 0
MissingWhy steps (WasFault e) = (0 < steps) × IsMissing e
MissingWhy steps Memory = Unit {0}
