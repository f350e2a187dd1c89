-- A file that another program has open is waited for. Read `WaitsWhileInUse`.
use Rattle.std.specs.Prelude.{◌≡◌, ◌≢◌, ◌⊎◌, ◌+◌, ◌*◌, ◌<◌, ◌≤◌, ◌∷◌, [], ℕ, zero, suc, Bool, true, false, Ok, Err}
use Rattle.bac_ports.specs.Port.{Receiving}
use Rattle.bac_ports.specs.Sockets.{SocketRules}
use Rattle.bac_ports.specs.declared.port.OpenFault.{OpenFault}
use Rattle.bac_ports.specs.declared.port.SocketFault.TheVariants.{Failed}

-- the file that may be in use, and the port over which is waited
pub record AtWait (U P : Type 0) : Type 0 where
  pub file : U
  pub port : P

-- these
abbrev pub at_wait : {U P : Type 0} → U → P → AtWait U P
at_wait file port = record { file = file; port = port }

module _ {U P : Type 0} (asks : U → Bool → U → Type 0) (waits : P → ℕ → Receiving → P → Type 0) where
  -- So often in a row it waits 100 ms at most, which doesn't fail, and then finds the file in use. Over the port it
  -- does nothing else.
  abbrev pub WaitsInVain : ℕ → AtWait U P → AtWait U P → Type 0
  WaitsInVain zero old new = new ≡ old
  WaitsInVain (suc n) old new = (mid : AtWait U P) × WaitsInVain n old mid × ((heard : Receiving) × (heard ≢ Err Failed)
      × waits mid.port 100 heard new.port × asks mid.file true new.file)

  -- It waits once more, and then the wait has failed, which ends it; or the file isn't in use any more.
  abbrev pub EndsWait : AtWait U P → (still : Bool) → AtWait U P → Type 0
  EndsWait old still new = (heard : Receiving) × waits old.port 100 heard new.port
      × (((heard ≡ Err Failed) × (still ≡ true) × (new.file ≡ old.file))
      ⊎ ((heard ≢ Err Failed) × (still ≡ false) × asks old.file false new.file))

  -- It waits and asks so many times at most: each time the file is in use; or fewer times, and then it ends.
  abbrev pub AsksAgain : ℕ → AtWait U P → (still : Bool) → AtWait U P → Type 0
  AsksAgain most old still new = ((still ≡ true) × WaitsInVain most old new)
      ⊎ ((n : ℕ) × (n < most) × (mid : AtWait U P) × WaitsInVain n old mid × EndsWait mid still new)

module _ {U S P : Type 0} (asks : U → Bool → U → Type 0) (rules : SocketRules S P) where
  -- A port of this machine alone is opened, it is waited over it for so many seconds at most, and it is closed; nothing
  -- is sent. Without a port it isn't waited.
  abbrev pub Waits : ℕ → U → S → (still : Bool) → U → S → Type 0
  Waits seconds old sockets still new after =
      ((port : P) × (last : P) × (between : S)
      × rules.opens sockets (127 ∷ 0 ∷ 0 ∷ 1 ∷ 0 ∷ 0 ∷ []) 100 (Ok port) between
      × AsksAgain asks rules.receives_within (seconds * 10) (at_wait old port) still (at_wait new last)
      × rules.closes between last after)
      ⊎ ((why : OpenFault) × rules.opens sockets (127 ∷ 0 ∷ 0 ∷ 1 ∷ 0 ∷ 0 ∷ []) 100 (Err why) after
      × (still ≡ true) × (new ≡ old))

  -- It is asked once; and only where the file is in use then it is waited.
  abbrev pub WaitsWhileInUse : ℕ → U → S → (still : Bool) → U → S → Type 0
  WaitsWhileInUse seconds old sockets still new after =
      (asks old false new × (still ≡ false) × (after ≡ sockets))
      ⊎ ((first : U) × asks old true first × Waits seconds first sockets still new after)

-- Each ask counts one more at most, by this count: so it is asked once, and ten times a second at most behind that.
abbrev pub CountsAsks : {U : Type 0} → (U → Bool → U → Type 0) → (U → ℕ) → Type 0
CountsAsks {U} asks count = (old : U) (answer : Bool) (new : U) → asks old answer new → count new ≤ count old + 1
