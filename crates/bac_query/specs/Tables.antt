-- What a device tells of its trend logs (clause 12.25), and the table that is printed of it. Read from the end.
use Rattle.std.specs.Prelude.{◌≡◌, ◌≢◌, ◌⊎◌, ◌<◌, ◌+◌, ◌^◌, ℕ, zero, suc, List, [], ◌∷◌, ◌++◌}
use Rattle.std.specs.Prelude.{codes, decimal, None, Result, Ok, Err, IfOk}
use Rattle.bac_apdu.specs.declared.service.read_property.ReadProperty.{ReadProperty}
use Rattle.bac_wire.specs.Primitive.{Id, Unsigned}
use Rattle.bac_link.specs.Exchanges.{Exchanges, Leaves, next_way}
pub use Rattle.bac_link.specs.Exchanges.{Ask, Client, client}
use Rattle.bac_link.specs.declared.exchanges.ExchangeFault.{ExchangeFault}
use Rattle.bac_link.specs.declared.exchanges.ExchangeFault.TheVariants.{BadReply}
use Rattle.bac_link.specs.declared.request.Request.TheVariants as request
use Rattle.bac_query.specs.Cells.{IsUnanswered, ShowsCell}
use Rattle.bac_query.specs.Answers.{Tells}
use Rattle.bac_query.specs.ObjectList.{IsObject, TellsObject, TellsObjects, list_at, octets_at, whole_list}
use Rattle.bac_query.specs.Reading.{Answer, Held, Printing, Prints, Session, printing}
use Rattle.bac_query.specs.declared.fault.QueryFault.{QueryFault}
use Rattle.bac_query.specs.declared.fault.QueryFault.TheVariants.{Exchange, Write, Memory}

-- ---- a line so far

-- a client, and the text of a line so far
abbrev pub Row : Type 0 → Type 0
Row S = Printing (Client S) (List ℕ)

-- ---- one question

-- a property is asked for by the next transaction, and as often again as its retries say: an ACK came, or why none did
abbrev pub Questions : {S : Type 0} → Ask S → ReadProperty → Client S → Result (List ℕ) ExchangeFault → Client S
    → Type 0
Questions asks question old answer new =
    Exchanges asks (next_way old.transactions) (request.ReadProperty question) old.link answer new.link
    × Leaves (request.ReadProperty question) old.transactions answer new.transactions

-- ---- a log, a line

-- the properties in the order of the columns: Object_Name, Log_DeviceObjectProperty, Enable, Logging_Type,
-- Log_Interval, Record_Count, Buffer_Size, Total_Record_Count, Stop_When_Full
abbrev pub columns : List ℕ
columns = 77 ∷ 132 ∷ 133 ∷ 197 ∷ 134 ∷ 141 ∷ 126 ∷ 145 ∷ 144 ∷ []

-- a property of an object, whole
abbrev pub property_of : Id → ℕ → ReadProperty
property_of object property = record { object = object; property = property; index = None }

-- why there is no cell: its question brought no answer; or there was no memory for what came
abbrev pub FailsCell : {S : Type 0} → Ask S → ReadProperty → QueryFault → Client S → Client S → Type 0
FailsCell asks question (Exchange fault) old new = Questions asks question old (Err fault) new × IsUnanswered fault
FailsCell asks question Memory old new =
    (answer : Result (List ℕ) ExchangeFault) × Questions asks question old answer new
FailsCell asks question Write old new = ⊥

-- the cell of what came to a question, behind a tab (9)
abbrev pub AddsCell : {S : Type 0} → Ask S → ReadProperty → Row S → Answer → Row S → Type 0
AddsCell asks question old (Ok done) new =
    (answer : Result (List ℕ) ExchangeFault) × (cell : List ℕ) × Questions asks question old.asker answer new.asker
    × ShowsCell question.property answer cell × (new.printed ≡ old.printed ++ (9 ∷ cell))
AddsCell asks question old (Err fault) new = FailsCell asks question fault old.asker new.asker

-- the cells of these properties of a log, in order, up to the first that can't be made
abbrev pub AddsCells : {S : Type 0} → Ask S → Id → List ℕ → Row S → Answer → Row S → Type 0
AddsCells asks log [] old result new =
    (result ≡ Ok tt) × (new.printed ≡ old.printed) × (new.asker ≡ old.asker)
AddsCells {S = S} asks log (property ∷ properties) old result new =
    ((mid : Client S) × (between : List ℕ)
    × AddsCell asks (property_of log property) old (Ok tt) (printing mid between)
    × AddsCells asks log properties (printing mid between) result new)
    ⊎ ((fault : QueryFault) × (result ≡ Err fault)
    × AddsCell asks (property_of log property) old (Err fault) new)

-- those of the columns behind the instance of the log
abbrev pub AddsColumns : {S : Type 0} → Ask S → Id → Row S → Answer → Row S → Type 0
AddsColumns asks log old result new =
    AddsCells asks log columns (printing old.asker (old.printed ++ decimal log.instance)) result new

-- A log's line; or it has none, since a cell can't be made, or since there was no memory for its instance or its end.
abbrev pub AddsRow : {S : Type 0} → Ask S → Id → Row S → Answer → Row S → Type 0
AddsRow asks log old (Ok done) new =
    (cells : List ℕ) × AddsColumns asks log old (Ok tt) (printing new.asker cells)
    × (new.printed ≡ cells ++ 10 ∷ [])
AddsRow asks log old (Err fault) new =
    ((cells : List ℕ) × AddsColumns asks log old (Err fault) (printing new.asker cells))
    ⊎ ((fault ≡ Memory) × ((new.asker ≡ old.asker)
    ⊎ ((cells : List ℕ) × AddsColumns asks log old (Ok tt) (printing new.asker cells))))

-- the line of a log is printed once it is whole
abbrev pub PrintsRow : {S : Type 0} → Ask S → Id → Session S → Answer → Session S → Type 0
PrintsRow asks log old result new =
    ((line : List ℕ) × AddsRow asks log (printing old.asker []) (Ok tt) (printing new.asker line)
    × Prints line result old.printed new.printed)
    ⊎ ((fault : QueryFault) × (line : List ℕ) × (result ≡ Err fault)
    × AddsRow asks log (printing old.asker []) (Err fault) (printing new.asker line)
    × (new.printed ≡ old.printed))

-- ---- logs that are named

-- a line for each, in order, up to the first that fails
abbrev pub PrintsRows : {S : Type 0} → Ask S → List Id → Session S → Answer → Session S → Type 0
PrintsRows asks [] old result new =
    (result ≡ Ok tt) × (new.asker ≡ old.asker) × (new.printed ≡ old.printed)
PrintsRows {S = S} asks (log ∷ logs) old result new =
    ((mid : Client S) × (held : Held) × PrintsRow asks log old (Ok tt) (printing mid held)
    × PrintsRows asks logs (printing mid held) result new)
    ⊎ ((fault : QueryFault) × (result ≡ Err fault) × PrintsRow asks log old (Err fault) new)

-- ---- logs that the device lists

-- it ends so, and nothing more is asked or printed
abbrev pub EndsSo : {S : Type 0} → Answer → Session S → Answer → Session S → Type 0
EndsSo end old result new = (result ≡ end) × (new.asker ≡ old.asker) × (new.printed ≡ old.printed)

-- a trend log (type 20) has its line; of another object nothing is asked
abbrev pub PrintsObject : {S : Type 0} → Ask S → Id → Session S → Answer → Session S → Type 0
PrintsObject asks object old result new =
    ((object.kind ≡ 20) × PrintsRow asks object old result new)
    ⊎ ((object.kind ≢ 20) × EndsSo (Ok tt) old result new)

-- what came to the question for a place: an object
abbrev pub PrintsTold : {S : Type 0} → Ask S → Result (List ℕ) ExchangeFault → Session S → Answer → Session S → Type 0
PrintsTold asks (Err fault) old result new = EndsSo (Err (Exchange fault)) old result new
PrintsTold asks (Ok datagram) old result new =
    ((object : Id) × TellsObject datagram object × PrintsObject asks object old result new)
    ⊎ (((object : Id) → TellsObject datagram object → ⊥) × EndsSo (Err (Exchange BadReply)) old result new)

-- a place is asked for, and what came to that is printed
abbrev pub PrintsPlace : {S : Type 0} → Ask S → ℕ → Session S → Answer → Session S → Type 0
PrintsPlace {S = S} asks place old result new =
    (answer : Result (List ℕ) ExchangeFault) × (mid : Client S) × Questions asks (list_at place) old.asker answer mid
    × PrintsTold asks answer (printing mid old.printed) result new

-- so many places from this one on, each so, up to the first that fails
abbrev pub PrintsEach : {S : Type 0} → (ℕ → Session S → Answer → Session S → Type 0) → ℕ → ℕ → Session S → Answer
    → Session S → Type 0
PrintsEach prints place zero old result new = EndsSo (Ok tt) old result new
PrintsEach {S = S} prints place (suc left) old result new =
    ((mid : Client S) × (held : Held) × prints place old (Ok tt) (printing mid held)
    × PrintsEach prints (place + 1) left (printing mid held) result new)
    ⊎ ((fault : QueryFault) × (result ≡ Err fault) × prints place old (Err fault) new)

-- the object at a place of a list that was told whole
abbrev pub PrintsListedAt : {S : Type 0} → Ask S → List ℕ → ℕ → Session S → Answer → Session S → Type 0
PrintsListedAt asks values place old result new =
    (object : Id) × IsObject object (octets_at place values) × PrintsObject asks object old result new

-- what came to the question for the whole list of so many objects: the trend logs among these have their lines; it is
-- another answer, or there is none, and each place is asked for, from the first on
abbrev pub PrintsAnswered : {S : Type 0} → Ask S → Result (List ℕ) ExchangeFault → ℕ → Session S → Answer → Session S
    → Type 0
PrintsAnswered asks answer count old result new =
    ((datagram : List ℕ) × (values : List ℕ) × (answer ≡ Ok datagram) × TellsObjects datagram count values
    × PrintsEach (PrintsListedAt asks values) 0 count old result new)
    ⊎ (IfOk answer (λ datagram. (values : List ℕ) → TellsObjects datagram count values → ⊥)
    × PrintsEach (PrintsPlace asks) 1 count old result new)

-- the list of a device that has so many objects is asked for whole
abbrev pub PrintsObjects : {S : Type 0} → Ask S → ℕ → Session S → Answer → Session S → Type 0
PrintsObjects {S = S} asks count old result new =
    (answer : Result (List ℕ) ExchangeFault) × (mid : Client S) × Questions asks whole_list old.asker answer mid
    × PrintsAnswered asks answer count (printing mid old.printed) result new

-- an ACK tells a number of 32 bits
abbrev pub TellsCount : List ℕ → ℕ → Type 0
TellsCount datagram count = (count < 2 ^ 32) × Tells datagram (Unsigned count)

-- what came to the question for how many places there are
abbrev pub PrintsCounted : {S : Type 0} → Ask S → Result (List ℕ) ExchangeFault → Session S → Answer → Session S
    → Type 0
PrintsCounted asks (Err fault) old result new = EndsSo (Err (Exchange fault)) old result new
PrintsCounted asks (Ok datagram) old result new =
    ((count : ℕ) × TellsCount datagram count × PrintsObjects asks count old result new)
    ⊎ (((count : ℕ) → TellsCount datagram count → ⊥) × EndsSo (Err (Exchange BadReply)) old result new)

-- each trend log of the device's list
abbrev pub PrintsListed : {S : Type 0} → Ask S → Session S → Answer → Session S → Type 0
PrintsListed {S = S} asks old result new =
    (answer : Result (List ℕ) ExchangeFault) × (mid : Client S) × Questions asks (list_at 0) old.asker answer mid
    × PrintsCounted asks answer (printing mid old.printed) result new

-- ---- the table

-- those that are named; if none is, each of the list
abbrev pub PrintsLogs : {S : Type 0} → Ask S → List Id → Session S → Answer → Session S → Type 0
PrintsLogs asks [] old result new = PrintsListed asks old result new
PrintsLogs asks (log ∷ logs) old result new = PrintsRows asks (log ∷ logs) old result new

-- the names of the columns, with tabs (9) between them
abbrev pub head_line : List ℕ
head_line =
    codes "instance" ++ (9 ∷ (codes "name" ++ (9 ∷ (codes "logs" ++ (9 ∷ (codes "enable" ++ (9 ∷ (codes "type" ++ (9
    ∷ (codes "interval" ++ (9 ∷ (codes "records" ++ (9 ∷ (codes "buffer" ++ (9 ∷ (codes "total" ++ (9 ∷ (codes
    "stop" ++ 10 ∷ []))))))))))))))))))

-- the names are printed before anything is asked; if that is refused, nothing is
abbrev pub ListsLogs : {S : Type 0} → Ask S → List Id → Session S → Answer → Session S → Type 0
ListsLogs asks logs old result new =
    ((held : Held) × Prints head_line (Ok tt) old.printed held
    × PrintsLogs asks logs (printing old.asker held) result new)
    ⊎ ((fault : QueryFault) × (result ≡ Err fault) × Prints head_line (Err fault) old.printed new.printed
    × (new.asker ≡ old.asker))
