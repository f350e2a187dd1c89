-- What is kept of each object. Only private calls cite this.
use Rattle.std.specs.Prelude.{ℕ, ◌≡◌, ◌≢◌, ◌<◌, ◌≤◌, false, List}
use Rattle.std.specs.List.{AllByRecursion}
use Rattle.bac_wire.specs.Primitive.{Id}
use Rattle.bac_log.specs.TrendLog.{IsLog}
use Rattle.bac_objects.specs.Sampling.{is_due}
use Rattle.bac_objects.specs.declared.object.Body.{Body}
use Rattle.bac_objects.specs.declared.object.Body.TheVariants as body
use Rattle.bac_objects.specs.declared.object.Object as object

-- what an object with an identifier is: a Trend Log alone has records, and they are what a log can hold
abbrev pub IsBody : Id → Body → Type 0
IsBody id (body.Command c) = id.kind ≢ 20
IsBody id (body.Log l) = (id.kind ≡ 20) × (id.instance < 4194304) × IsLog l.log

-- the time between two samples, 0 of what takes none by itself
abbrev pub interval_in : Body → ℕ
interval_in (body.Command c) = 0
interval_in (body.Log l) = l.interval

-- a change after which an object is still what its identifier says, and is due as it was
abbrev pub KeepsBody : Body → Body → Type 0
KeepsBody old new = ((id : Id) → IsBody id old → IsBody id new) × (interval_in new ≡ interval_in old)

-- each object is what its identifier says
abbrev pub AreObjects : List (Id × object.Object) → Type 0
AreObjects objects = AllByRecursion (λ e. IsBody e.0 e.1.body) objects

-- as long as the clock goes on, and not up to the moment `until`, an object isn't due; moments are in hundredths of a
-- second
abbrev pub IsQuiet : ℕ → ℕ → ℕ → Body → Type 0
IsQuiet origin clock until b = (new : ℕ) → clock ≤ new → new < until → is_due origin clock new (interval_in b) ≡ false

-- the same of each object
abbrev pub AreQuiet : ℕ → ℕ → ℕ → List (Id × object.Object) → Type 0
AreQuiet origin clock until objects = AllByRecursion (λ e. IsQuiet origin clock until e.1.body) objects
