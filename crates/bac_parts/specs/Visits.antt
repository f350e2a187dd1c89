-- The parts of an archive that were opened, in their order. Read `ReadsBack` and `ReadsOn`.
use Rattle.std.specs.Prelude.{◌≡◌, ◌⊎◌, ◌++◌, ◌∷◌, [], ℕ, Bool, true, false, IsTrue, List, Option, length, map, reverse}
use Rattle.std.specs.Prelude.{Result, Ok, Err}
use Rattle.sqlite_trees.specs.View.{doubt}
use Rattle.sqlite.specs.declared.error.Error.{Error}
use Rattle.bac_files.specs.Parts.{Reading}
use Rattle.bac_files.specs.declared.not_opened.NotOpened.{NotOpened}

-- what an output holds, if that is known
abbrev pub Output : Type 0
Output = Option (List ℕ)

-- a part was read, and could be closed or not; or it wasn't opened
abbrev pub Came : Type 0
Came = Result (Result (Unit {0}) Error) NotOpened

-- A part that was visited: it was read, so its database was found and is left, and could be closed or not; or it wasn't
-- opened, for this reason.
pub data Visit : Type 0 where
  Read : (path : List ℕ) (found : Reading) (shut : Result (Unit {0}) Error) → Visit
  Barred : (path : List ℕ) (why : NotOpened) → Visit

-- where the part is
abbrev pub path_of : Visit → List ℕ
path_of (Read path found shut) = path
path_of (Barred path why) = path

-- a database is left as it was found, where the disk gave back what was written and the connection is open
abbrev pub IsAsFound : Reading → Type 0
IsAsFound found = doubt found.is_clean ≡ 0 → IsTrue found.is_open → found.left ≡ found.found

-- whatever a reader reads it leaves so
abbrev pub LeavesAll : {V : Type 0} → (V → Reading → Output → Output → V → Type 0) → Type 0
LeavesAll {V} reads = (old new : V) (found : Reading) (before after : Output) → reads old found before after new
    → IsAsFound found

-- the parts, who visits them, and the output
pub record At (P V : Type 0) : Type 0 where
  pub parts : P
  pub visitor : V
  pub output : Output

-- these
abbrev pub at_visit : {P V : Type 0} → P → V → Output → At P V
at_visit parts visitor output = record { parts = parts; visitor = visitor; output = output }

-- what is found in a part, why one isn't opened, what a read is, whether one more is wanted, and what is made of it
pub record VisitRules (P V : Type 0) : Type 1 where
  pub holds : P → List ℕ → Reading → P → Type 0
  pub bars : P → List ℕ → NotOpened → P → Type 0
  pub reads : V → Reading → Output → Output → V → Type 0
  pub wants : V → Bool
  pub ends : V → List ℕ → Came → V → Type 0

-- the rules that are these
abbrev pub visit_rules : {P V : Type 0} → (P → List ℕ → Reading → P → Type 0) → (P → List ℕ → NotOpened → P → Type 0)
    → (V → Reading → Output → Output → V → Type 0) → (V → Bool) → (V → List ℕ → Came → V → Type 0) → VisitRules P V
visit_rules holds bars reads wants ends =
    record { holds = holds; bars = bars; reads = reads; wants = wants; ends = ends }

module _ {P V : Type 0} (rules : VisitRules P V) where
  -- A part is opened, read once and closed, and is as it was; or it isn't opened, and nothing is written. The visitor
  -- takes what came.
  abbrev pub Visits : Visit → At P V → At P V → Type 0
  Visits (Read path found shut) old new = rules.holds old.parts path found new.parts × IsAsFound found
      × ((read : V) × rules.reads old.visitor found old.output new.output read
      × rules.ends read path (Ok shut) new.visitor)
  Visits (Barred path why) old new = rules.bars old.parts path why new.parts × (new.output ≡ old.output)
      × rules.ends old.visitor path (Err why) new.visitor

  -- parts are visited one after the other, each since one more was wanted
  abbrev pub VisitsEach : List Visit → At P V → At P V → Type 0
  VisitsEach [] old new = new ≡ old
  VisitsEach (one ∷ more) old new = (rules.wants old.visitor ≡ true)
      × ((mid : At P V) × Visits one old mid × VisitsEach more mid new)

  -- Of these parts, the oldest first, the newest are visited, from the newest back; so many older ones aren't, and then
  -- no more is wanted, or there is none.
  abbrev pub ReadsBack : List (List ℕ) → ℕ → At P V → At P V → Type 0
  ReadsBack paths place old new = (older : List (List ℕ)) × (visits : List Visit)
      × (paths ≡ older ++ reverse (map path_of visits)) × (place ≡ length older) × VisitsEach visits old new
      × ((older ≡ []) ⊎ (rules.wants new.visitor ≡ false))

  -- So many of them are visited, from the first on; then no more is wanted, or there is none.
  abbrev pub ReadsOn : List (List ℕ) → ℕ → At P V → At P V → Type 0
  ReadsOn paths count old new = (visits : List Visit) × (newer : List (List ℕ))
      × (paths ≡ map path_of visits ++ newer) × (count ≡ length visits) × VisitsEach visits old new
      × ((newer ≡ []) ⊎ (rules.wants new.visitor ≡ false))
