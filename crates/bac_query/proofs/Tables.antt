-- One step more of a table.
use Rattle.std.proofs.Common.{◌≡◌, ◌<◌, ◌+◌, ◌-◌, ℕ, suc, List, [], ◌∷◌, ◌++◌, length, get_or, drop, decimal, Ok, Err, IfOk, Result, inl, inr, refl, sym, subst, arith, add-one}
use Rattle.std.proofs.Math.Seq.{drop-cons}
use Rattle.bac_apdu.specs.declared.service.read_property.ReadProperty.{ReadProperty}
use Rattle.bac_wire.specs.Primitive.{Id}
use Rattle.bac_link.specs.declared.exchanges.ExchangeFault.{ExchangeFault}
use Rattle.bac_link.specs.declared.exchanges.ExchangeFault.TheVariants.{BadReply}
use Rattle.bac_query.specs.Reading.{Answer, Held, Prints, Session, printing}
use Rattle.bac_query.specs.ObjectList.{TellsObject, TellsObjects, list_at, whole_list}
use Rattle.bac_query.specs.Tables.{AddsCell, AddsCells, AddsRow, Ask, Client, PrintsEach, PrintsListed, PrintsListedAt, PrintsObject, PrintsObjects, PrintsPlace, PrintsRow, PrintsRows}
use Rattle.bac_query.specs.Tables.{Questions, TellsCount, columns, property_of}
use Rattle.bac_query.specs.declared.fault.QueryFault.{QueryFault}
use Rattle.bac_query.specs.declared.fault.QueryFault.TheVariants.{Exchange, Memory}

-- what is left of a list begins with the element at this place
pub split : {A : Type 0} (xs : List A) (i : ℕ) (x d : A) → i < length xs → x ≡ get_or xs i d → drop i xs ≡ x ∷ drop (i + 1) xs
split xs i x d less is = rw (is, add-one, drop-cons xs i d) refl

-- a cell more
pub next_cell : {S : Type 0} (asks : Ask S) (log : Id) (properties : List ℕ) (i p : ℕ) (question : ReadProperty) (old mid : Client S) (before between : List ℕ)
    (done : Answer → List ℕ → Client S → Type 0)
    → drop i properties ≡ p ∷ drop (i + 1) properties → question ≡ property_of log p
    → AddsCell asks question (printing old before) (Ok tt) (printing mid between)
    → ((result : Answer) (after : List ℕ) (new : Client S) → AddsCells asks log (drop i properties) (printing old before) result (printing new after) → done result after new)
    → (result : Answer) (after : List ℕ) (new : Client S) → AddsCells asks log (drop (i + 1) properties) (printing mid between) result (printing new after) → done result after new
next_cell {S = S} asks log properties i p question old mid before between done e is adds was result after new rest =
    let P : List ℕ → Type 0 = λ ps. AddsCells asks log ps (printing old before) result (printing new after) in
    let Q : ReadProperty → Type 0 = λ q. AddsCell asks q (printing old before) (Ok tt) (printing mid between) in
    was result after new (subst P (sym e) (inl (mid, between, subst Q is adds, rest)))

-- a cell that isn't made
pub no_cell : {S : Type 0} (asks : Ask S) (log : Id) (properties : List ℕ) (i p : ℕ) (question : ReadProperty) (old new : Client S) (before after : List ℕ) (fault : QueryFault)
    (done : Answer → List ℕ → Client S → Type 0) (result : Answer) → result ≡ Err fault
    → drop i properties ≡ p ∷ drop (i + 1) properties → question ≡ property_of log p
    → AddsCell asks question (printing old before) (Err fault) (printing new after)
    → ((result : Answer) (after : List ℕ) (new : Client S) → AddsCells asks log (drop i properties) (printing old before) result (printing new after) → done result after new)
    → done result after new
no_cell {S = S} asks log properties i p question old new before after fault done result err e is fails was =
    let P : List ℕ → Type 0 = λ ps. AddsCells asks log ps (printing old before) result (printing new after) in
    let Q : ReadProperty → Type 0 = λ q. AddsCell asks q (printing old before) (Err fault) (printing new after) in
    was result after new (subst P (sym e) (inr (fault, err, subst Q is fails)))

-- a log more
pub next_row : {S : Type 0} (asks : Ask S) (logs : List Id) (i : ℕ) (log : Id) (old mid : Client S) (had held : Held)
    (done : Answer → Client S → Held → Type 0)
    → drop i logs ≡ log ∷ drop (i + 1) logs
    → PrintsRow asks log (printing old had) (Ok tt) (printing mid held)
    → ((result : Answer) (new : Client S) (has : Held) → PrintsRows asks (drop i logs) (printing old had) result (printing new has) → done result new has)
    → (result : Answer) (new : Client S) (has : Held) → PrintsRows asks (drop (i + 1) logs) (printing mid held) result (printing new has) → done result new has
next_row {S = S} asks logs i log old mid had held done e prints was result new has rest =
    let P : List Id → Type 0 = λ ls. PrintsRows asks ls (printing old had) result (printing new has) in
    was result new has (subst P (sym e) (inl (mid, held, prints, rest)))

-- a log whose line isn't printed
pub no_row : {S : Type 0} (asks : Ask S) (logs : List Id) (i : ℕ) (log : Id) (old new : Client S) (had has : Held) (fault : QueryFault)
    (done : Answer → Client S → Held → Type 0) (result : Answer) → result ≡ Err fault
    → drop i logs ≡ log ∷ drop (i + 1) logs
    → PrintsRow asks log (printing old had) (Err fault) (printing new has)
    → ((result : Answer) (new : Client S) (has : Held) → PrintsRows asks (drop i logs) (printing old had) result (printing new has) → done result new has)
    → done result new has
no_row {S = S} asks logs i log old new had has fault done result err e fails was =
    let P : List Id → Type 0 = λ ls. PrintsRows asks ls (printing old had) result (printing new has) in
    was result new has (subst P (sym e) (inr (fault, err, fails)))

-- so many are left, and one more
one_left : (place count : ℕ) → place < count → count - place ≡ suc (count - (place + 1))
one_left place count less = omega arith

-- a place more, in a list that is printed from this place on
pub next_place : {S : Type 0} (prints : ℕ → Session S → Answer → Session S → Type 0) (at place count : ℕ) (old mid : Client S) (had held : Held)
    (done : Answer → Client S → Held → Type 0)
    → place < count
    → prints at (printing old had) (Ok tt) (printing mid held)
    → ((result : Answer) (new : Client S) (has : Held) → PrintsEach prints at (count - place) (printing old had) result (printing new has) → done result new has)
    → (result : Answer) (new : Client S) (has : Held) → PrintsEach prints (at + 1) (count - (place + 1)) (printing mid held) result (printing new has) → done result new has
next_place {S = S} prints at place count old mid had held done less printed was result new has rest =
    let P : ℕ → Type 0 = λ n. PrintsEach prints at n (printing old had) result (printing new has) in
    was result new has (subst P (sym (one_left place count less)) (inl (mid, held, printed, rest)))

-- a place that fails
pub no_place : {S : Type 0} (prints : ℕ → Session S → Answer → Session S → Type 0) (at place count : ℕ) (old new : Client S) (had has : Held) (fault : QueryFault)
    (done : Answer → Client S → Held → Type 0) (result : Answer) → result ≡ Err fault
    → place < count
    → prints at (printing old had) (Err fault) (printing new has)
    → ((result : Answer) (new : Client S) (has : Held) → PrintsEach prints at (count - place) (printing old had) result (printing new has) → done result new has)
    → done result new has
no_place {S = S} prints at place count old new had has fault done result err less fails was =
    let P : ℕ → Type 0 = λ n. PrintsEach prints at n (printing old had) result (printing new has) in
    was result new has (subst P (sym (one_left place count less)) (inr (fault, err, fails)))

-- ---- a row

-- a cell of it can't be made
pub no_cells : {S : Type 0} (asks : Ask S) (log : Id) (old new : Client S) (before begun after any : List ℕ) (fault : QueryFault) (result : Answer)
    → begun ≡ before ++ decimal log.instance → result ≡ Err fault
    → AddsCells asks log columns (printing old begun) (Err fault) (printing new after) → AddsRow asks log (printing old before) result (printing new any)
no_cells {S = S} asks log old new before begun after any fault result is err fails =
    let P : List ℕ → Type 0 = λ b. AddsCells asks log columns (printing old b) (Err fault) (printing new after) in
    let Q : Answer → Type 0 = λ r. AddsRow asks log (printing old before) r (printing new any) in
    subst Q (sym err) (inl (after, subst P is fails))

-- there is no memory for its end
pub no_end : {S : Type 0} (asks : Ask S) (log : Id) (old new : Client S) (before begun cells any : List ℕ) (result : Answer)
    → begun ≡ before ++ decimal log.instance → result ≡ Err Memory
    → AddsCells asks log columns (printing old begun) (Ok tt) (printing new cells) → AddsRow asks log (printing old before) result (printing new any)
no_end {S = S} asks log old new before begun cells any result is err added =
    let P : List ℕ → Type 0 = λ b. AddsCells asks log columns (printing old b) (Ok tt) (printing new cells) in
    let Q : Answer → Type 0 = λ r. AddsRow asks log (printing old before) r (printing new any) in
    subst Q (sym err) (inr (refl, inr (cells, subst P is added)))

pub whole_row : {S : Type 0} (asks : Ask S) (log : Id) (old new : Client S) (before begun cells after : List ℕ)
    → begun ≡ before ++ decimal log.instance → after ≡ cells ++ 10 ∷ []
    → AddsCells asks log columns (printing old begun) (Ok tt) (printing new cells) → AddsRow asks log (printing old before) (Ok tt) (printing new after)
whole_row {S = S} asks log old new before begun cells after is end added =
    let P : List ℕ → Type 0 = λ b. AddsCells asks log columns (printing old b) (Ok tt) (printing new cells) in
    (cells, subst P is added, end)

-- it isn't printed
pub no_line : {S : Type 0} (asks : Ask S) (log : Id) (old new : Client S) (start line : List ℕ) (had : Held) (fault : QueryFault) (result : Answer)
    → start ≡ [] → result ≡ Err fault → AddsRow asks log (printing old start) (Err fault) (printing new line) → PrintsRow asks log (printing old had) result (printing new had)
no_line {S = S} asks log old new start line had fault result none err fails =
    let P : List ℕ → Type 0 = λ b. AddsRow asks log (printing old b) (Err fault) (printing new line) in
    inr (fault, line, err, subst P none fails, refl)

pub line_of : {S : Type 0} (asks : Ask S) (log : Id) (old new : Client S) (start line text : List ℕ) (had has : Held) (result : Answer)
    → start ≡ [] → text ≡ line → AddsRow asks log (printing old start) (Ok tt) (printing new line) → Prints text result had has → PrintsRow asks log (printing old had) result (printing new has)
line_of {S = S} asks log old new start line text had has result none same added prints =
    let P : List ℕ → Type 0 = λ b. AddsRow asks log (printing old b) (Ok tt) (printing new line) in
    let Q : List ℕ → Type 0 = λ t. Prints t result had has in
    inl (line, subst P none added, subst Q same prints)

-- ---- a place of the list, and how many there are

asked : {S : Type 0} (asks : Ask S) (place : ℕ) (question : ReadProperty) (old mid : Client S) (answer said : Result (List ℕ) ExchangeFault)
    → question ≡ list_at place → answer ≡ said → Questions asks question old answer mid → Questions asks (list_at place) old said mid
asked {S = S} asks place question old mid answer said is same done =
    let P : ReadProperty → Type 0 = λ q. Questions asks q old answer mid in
    let Q : Result (List ℕ) ExchangeFault → Type 0 = λ a. Questions asks (list_at place) old a mid in
    subst Q same (subst P is done)

pub lost_place : {S : Type 0} (asks : Ask S) (place : ℕ) (question : ReadProperty) (old mid : Client S) (answer : Result (List ℕ) ExchangeFault)
    (fault : ExchangeFault) (had : Held) → question ≡ list_at place → answer ≡ Err fault → Questions asks question old answer mid
    → PrintsPlace asks place (printing old had) (Err (Exchange fault)) (printing mid had)
lost_place asks place question old mid answer fault had is same done =
    (Err fault, mid, asked asks place question old mid answer (Err fault) is same done, (refl, refl, refl))

pub told_place : {S : Type 0} (asks : Ask S) (place : ℕ) (question : ReadProperty) (old mid new : Client S) (answer : Result (List ℕ) ExchangeFault)
    (datagram : List ℕ) (object : Id) (result : Answer) (had has : Held) → question ≡ list_at place → answer ≡ Ok datagram
    → Questions asks question old answer mid → TellsObject datagram object → PrintsObject asks object (printing mid had) result (printing new has)
    → PrintsPlace asks place (printing old had) result (printing new has)
told_place asks place question old mid new answer datagram object result had has is same done told prints =
    (Ok datagram, mid, asked asks place question old mid answer (Ok datagram) is same done, inl (object, told, prints))

pub untold_place : {S : Type 0} (asks : Ask S) (place : ℕ) (question : ReadProperty) (old mid : Client S) (answer : Result (List ℕ) ExchangeFault)
    (datagram : List ℕ) (had : Held) → question ≡ list_at place → answer ≡ Ok datagram
    → Questions asks question old answer mid → ((object : Id) → TellsObject datagram object → ⊥) → PrintsPlace asks place (printing old had) (Err (Exchange BadReply)) (printing mid had)
untold_place asks place question old mid answer datagram had is same done none =
    (Ok datagram, mid, asked asks place question old mid answer (Ok datagram) is same done, inr (none, (refl, refl, refl)))

pub lost_list : {S : Type 0} (asks : Ask S) (question : ReadProperty) (old mid : Client S) (answer : Result (List ℕ) ExchangeFault)
    (fault : ExchangeFault) (had : Held) → question ≡ list_at 0 → answer ≡ Err fault → Questions asks question old answer mid
    → PrintsListed asks (printing old had) (Err (Exchange fault)) (printing mid had)
lost_list asks question old mid answer fault had is same done =
    (Err fault, mid, asked asks 0 question old mid answer (Err fault) is same done, (refl, refl, refl))

pub told_list : {S : Type 0} (asks : Ask S) (question : ReadProperty) (old mid new : Client S) (answer : Result (List ℕ) ExchangeFault)
    (datagram : List ℕ) (count : ℕ) (result : Answer) (had has : Held) → question ≡ list_at 0 → answer ≡ Ok datagram
    → Questions asks question old answer mid → TellsCount datagram count → PrintsObjects asks count (printing mid had) result (printing new has)
    → PrintsListed asks (printing old had) result (printing new has)
told_list asks question old mid new answer datagram count result had has is same done told prints =
    (Ok datagram, mid, asked asks 0 question old mid answer (Ok datagram) is same done, inl (count, told, prints))

pub untold_list : {S : Type 0} (asks : Ask S) (question : ReadProperty) (old mid : Client S) (answer : Result (List ℕ) ExchangeFault)
    (datagram : List ℕ) (had : Held) → question ≡ list_at 0 → answer ≡ Ok datagram
    → Questions asks question old answer mid → ((count : ℕ) → TellsCount datagram count → ⊥) → PrintsListed asks (printing old had) (Err (Exchange BadReply)) (printing mid had)
untold_list asks question old mid answer datagram had is same done none =
    (Ok datagram, mid, asked asks 0 question old mid answer (Ok datagram) is same done, inr (none, (refl, refl, refl)))

-- ---- the whole list

-- one answer tells it
pub told_whole : {S : Type 0} (asks : Ask S) (question : ReadProperty) (old mid new : Client S) (answer : Result (List ℕ) ExchangeFault)
    (datagram values : List ℕ) (count : ℕ) (result : Answer) (had has : Held) → question ≡ whole_list → Questions asks question old answer mid
    → answer ≡ Ok datagram → TellsObjects datagram count values
    → PrintsEach (PrintsListedAt asks values) 0 count (printing mid had) result (printing new has) → PrintsObjects asks count (printing old had) result (printing new has)
told_whole asks question old mid new answer datagram values count result had has is done said tells prints =
    (answer, mid, subst (λ q. Questions asks q old answer mid) is done, inl (datagram, values, said, tells, prints))

-- it doesn't
pub untold_whole : {S : Type 0} (asks : Ask S) (question : ReadProperty) (old mid new : Client S) (answer : Result (List ℕ) ExchangeFault)
    (count : ℕ) (result : Answer) (had has : Held) → question ≡ whole_list → Questions asks question old answer mid
    → IfOk answer (λ datagram. (values : List ℕ) → TellsObjects datagram count values → ⊥)
    → PrintsEach (PrintsPlace asks) 1 count (printing mid had) result (printing new has) → PrintsObjects asks count (printing old had) result (printing new has)
untold_whole asks question old mid new answer count result had has is done none prints =
    (answer, mid, subst (λ q. Questions asks q old answer mid) is done, inr (none, prints))
