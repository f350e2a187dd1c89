-- What writing a property prints, over any link and any writer. Read from the end.
use Rattle.std.specs.Prelude.{◌≡◌, ℕ, List, [], ◌∷◌, ◌++◌, codes, Result, Ok, Err}
use Rattle.std.specs.Io.KnownBytes.{Keeps}
use Rattle.bac_link.specs.Exchanges.{Concludes, Exchanges}
use Rattle.bac_link.specs.Path.{Path}
use Rattle.bac_link.specs.declared.exchanges.ExchangeFault.{ExchangeFault}
use Rattle.bac_link.specs.declared.link.Lost.{Lost}
use Rattle.bac_link.specs.declared.request.Request.{Request}
use Rattle.bac_query.specs.Reading.{Answer, Held, Printing, Prints, Way}
use Rattle.bac_query.specs.declared.fault.QueryFault.TheVariants.{Exchange}

-- a line says that it was done
abbrev pub PrintsDone : Answer → Held → Held → Type 0
PrintsDone result old new = Prints (codes "written" ++ 10 ∷ []) result old new

-- if the device has acknowledged it
abbrev pub PrintsIfDone : Result (List ℕ) ExchangeFault → Answer → Held → Held → Type 0
PrintsIfDone (Err fault) result old new = (result ≡ Err (Exchange fault)) × Keeps old new
PrintsIfDone (Ok datagram) result old new = PrintsDone result old new

-- an exchange of the request, and the line if it was done
abbrev pub WritesProperty : Path → ℕ → Request → Answer → Held → Held → Type 0
WritesProperty path invoke asked result old new =
    (answer : Result (List ℕ) ExchangeFault) × Concludes path invoke asked answer × PrintsIfDone answer result old new

-- and that exchange was one over the link, which is left so
abbrev pub WritesOver : {S : Type 0} → (S → List ℕ → Result (List ℕ) Lost → S → Type 0) →
    Way → Request → Printing S Held → Answer → Printing S Held → Type 0
WritesOver {S = S} asks way asked old result new =
    (answer : Result (List ℕ) ExchangeFault)
    × Exchanges asks way asked old.asker answer new.asker
    × PrintsIfDone answer result old.printed new.printed
