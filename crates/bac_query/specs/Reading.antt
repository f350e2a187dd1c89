-- What reading a property prints, over any link and any writer. Read from the end.
use Rattle.std.specs.Prelude.{◌≡◌, ℕ, List, Option, Some, None, Result, Ok, Err}
use Rattle.std.specs.Io.KnownBytes.{Appends, Keeps}
use Rattle.bac_apdu.specs.declared.service.read_property.ReadProperty.{ReadProperty}
use Rattle.bac_link.specs.Datagrams.{apdu_in}
use Rattle.bac_link.specs.Exchanges.{Client, Concludes, Exchanges}
pub use Rattle.bac_link.specs.Exchanges.{Way, next_way}
use Rattle.bac_link.specs.Path.{Path}
use Rattle.bac_link.specs.declared.exchanges.ExchangeFault.{ExchangeFault}
use Rattle.bac_link.specs.declared.exchanges.ExchangeFault.TheVariants.{BadReply}
use Rattle.bac_link.specs.declared.link.Lost.{Lost}
use Rattle.bac_link.specs.declared.request.Request.TheVariants as request
pub use Rattle.bac_print.specs.Output.{Held}
use Rattle.bac_print.specs.Output.{AppendsPart}
use Rattle.bac_query.specs.Answers.{values_in}
use Rattle.bac_query.specs.Values.{IsShown}
use Rattle.bac_query.specs.declared.reals.Reals.{Reals}
use Rattle.bac_query.specs.declared.fault.QueryFault.{QueryFault}
use Rattle.bac_query.specs.declared.fault.QueryFault.TheVariants.{Exchange, Write, Memory}

-- what a query answers
abbrev pub Answer : Type 0
Answer = Result (Unit {0}) QueryFault

-- One who asks, a link or a client over one, and what is printed of what comes: a line so far, or what an output holds
-- if that is known.
pub record Printing (A T : Type 0) : Type 0 where
  pub asker : A
  pub printed : T

-- the two together
abbrev pub printing : {A T : Type 0} → A → T → Printing A T
printing asker printed = record { asker = asker; printed = printed }

-- a client, and what the output holds to which it prints
abbrev pub Session : Type 0 → Type 0
Session S = Printing (Client S) Held

-- the whole text was written, or a front part of it
abbrev pub Prints : List ℕ → Answer → Held → Held → Type 0
Prints text (Ok done) old new = Appends old new text
Prints text (Err Write) old new = AppendsPart old new text
Prints text (Err Memory) old new = ⊥
Prints text (Err (Exchange fault)) old new = ⊥

-- the text of the values was written, or a front part of it; without memory for the text nothing was
abbrev pub PrintsShown : Reals → List ℕ → Answer → Held → Held → Type 0
PrintsShown reals values (Ok done) old new = (text : List ℕ) × IsShown reals values text × Appends old new text
PrintsShown reals values (Err Write) old new = (text : List ℕ) × IsShown reals values text × AppendsPart old new text
PrintsShown reals values (Err Memory) old new = Keeps old new
PrintsShown reals values (Err (Exchange fault)) old new = ⊥

-- nothing is printed of an ACK that can't be read
abbrev pub PrintsValues : Reals → Option (List ℕ) → Answer → Held → Held → Type 0
PrintsValues reals None result old new = (result ≡ Err (Exchange BadReply)) × Keeps old new
PrintsValues reals (Some values) result old new = PrintsShown reals values result old new

-- nothing is printed if no ACK came
abbrev pub PrintsAnswer : Reals → Result (List ℕ) ExchangeFault → Answer → Held → Held → Type 0
PrintsAnswer reals (Err fault) result old new = (result ≡ Err (Exchange fault)) × Keeps old new
PrintsAnswer reals (Ok datagram) result old new = PrintsValues reals (values_in (apdu_in datagram)) result old new

-- an exchange of the request, and the values of its ACK are printed
abbrev pub ReadsProperty : Path → ℕ → ReadProperty → Reals → Answer → Held → Held → Type 0
ReadsProperty path invoke asked reals result old new =
    (answer : Result (List ℕ) ExchangeFault) × Concludes path invoke (request.ReadProperty asked) answer
    × PrintsAnswer reals answer result old new

-- and that exchange was one over the link, which is left so
abbrev pub ReadsOver : {S : Type 0} → (S → List ℕ → Result (List ℕ) Lost → S → Type 0) →
    Way → ReadProperty → Reals → Printing S Held → Answer → Printing S Held → Type 0
ReadsOver {S = S} asks way asked reals old result new =
    (answer : Result (List ℕ) ExchangeFault)
    × Exchanges asks way (request.ReadProperty asked) old.asker answer new.asker
    × PrintsAnswer reals answer result old.printed new.printed
