-- What a run of a walk leaves so, and the questions for properties, by what one exchange does.
use Rattle.std.proofs.Common.{◌≡◌, ℕ, zero, suc, ◌+◌, List, [], ◌∷◌, Result, Ok, Err, inl, inr, sym, subst}
use Rattle.bac_apdu.specs.declared.service.read_property.ReadProperty.{ReadProperty}
use Rattle.bac_apdu.specs.declared.service.read_range.ReadRange.{ReadRange}
use Rattle.bac_laws.proofs.Asked.{Leads, alike, exchanged}
use Rattle.bac_link.specs.Exchanges.{Ask, Client, next_way}
use Rattle.bac_link.specs.Links.{question}
use Rattle.bac_link.specs.declared.exchanges.ExchangeFault.{ExchangeFault}
use Rattle.bac_link.specs.declared.item.Item.{Item}
use Rattle.bac_link.specs.declared.request.Request.{Request}
use Rattle.bac_link.specs.declared.request.Request.TheVariants as request
use Rattle.bac_link.specs.declared.transactions.Transactions.{Transactions}
use Rattle.bac_query.specs.Reading.{Answer, Session, printing}
use Rattle.bac_query.specs.Tables as table
use Rattle.bac_query.specs.Tables.{Questions, Row}
use Rattle.bac_query.specs.ObjectList.{list_at, whole_list}
use Rattle.bac_query.specs.declared.fault.QueryFault.TheVariants.{Exchange, Write, Memory}
use Rattle.bac_walk.specs.Came.{Came, restarted}
use Rattle.bac_walk.specs.Place.{WalkPlace}
use Rattle.bac_walk.specs.Transacted.{AsksBy, BroughtBy, ComesBy, EndsAfter, WalkBy, asked, walk_by}
use Rattle.bac_walk.specs.Walks.{question_of}
use Rattle.bac_walk.specs.declared.outcome.Ended.{Ended}
use Rattle.bac_walk.specs.declared.outcome.Ended.TheVariants.{CaughtUp, StepLimit, Stopped, Fault}
use Rattle.bac_wire.specs.Primitive.{Id}

-- ---- a walk

module _ {S : Type 0} {asks : Ask S} {reads : Request → Type 0} (leads : Leads asks reads)
    (ranges : (r : ReadRange) → reads (request.ReadRange r)) where
  pub walked : (t : Transactions) (a : S) (w : WalkPlace) (result : Result (List ℕ) ExchangeFault) (b : S)
      → AsksBy asks t a w result b → leads.to a b
  walked t a w result b is = exchanged leads (next_way t) (question w.log (question_of w)) a result b (ranges _) is

  pub come : (came : List Came) (before after : WalkBy S) → ComesBy asks before came after
      → leads.to before.link after.link
  come [] before after is = alike leads before.link after.link is.1
  come (c ∷ came) before after (mid, next, p, place, asks-by, taken, items, rest) =
      leads.on before.link mid after.link
      (walked before.transactions before.link before.place (Ok c.datagram) mid asks-by)
      (come came (walk_by mid (asked before.place before.transactions) next) after rest)

  pub ends : (steps : ℕ) (came : List Came) (here : WalkBy S) (ended : Ended) (after : WalkBy S)
      → EndsAfter asks steps came here ended after → leads.to here.link after.link
  ends steps came here CaughtUp after is = alike leads here.link after.link is.3
  ends steps came here StepLimit after is = alike leads here.link after.link is.3
  ends steps came here Stopped after is = alike leads here.link after.link is.3
  ends steps came here (Fault fault) after (few, (result, asks-by, is), same, left) =
      walked here.transactions here.link here.place result after.link asks-by

  pub brought : (before : WalkBy S) (steps : ℕ) (came : List Came) (items : List Item) (ended : Ended) (after : WalkBy S)
      → BroughtBy asks before steps came items ended after → leads.to before.link after.link
  brought before steps came items ended after is =
      leads.on before.link is.mid after.link
      (come came (walk_by before.link before.transactions (restarted before.place)) (walk_by is.mid is.half is.here) is.comes)
      (ends steps came (walk_by is.mid is.half is.here) ended after is.ends)

-- ---- properties

module _ {S : Type 0} {asks : Ask S} {reads : Request → Type 0} (leads : Leads asks reads)
    (properties : (r : ReadProperty) → reads (request.ReadProperty r)) where
  pub questioned : (q : ReadProperty) (old : Client S) (answer : Result (List ℕ) ExchangeFault) (new : Client S)
      → Questions asks q old answer new → leads.to old.link new.link
  questioned q old answer new is =
      exchanged leads (next_way old.transactions) (request.ReadProperty q) old.link answer new.link (properties q) is.0

  alike_clients : (old new : Client S) → new ≡ old → leads.to old.link new.link
  alike_clients old new is = subst (λ (c : Client S). leads.to old.link c.link) (sym is) (leads.same old.link)

  adds_cell : (q : ReadProperty) (old : Row S) (result : Answer) (new : Row S) → table.AddsCell asks q old result new
      → leads.to old.asker.link new.asker.link
  adds_cell q old (Ok done) new (answer, cell, is, shows, printed) = questioned q old.asker answer new.asker is
  adds_cell q old (Err (Exchange fault)) new is = questioned q old.asker (Err fault) new.asker is.0
  adds_cell q old (Err Memory) new (answer, is) = questioned q old.asker answer new.asker is
  adds_cell q old (Err Write) new is = absurd is

  adds_cells : (log : Id) (properties : List ℕ) (old : Row S) (result : Answer) (new : Row S)
      → table.AddsCells asks log properties old result new → leads.to old.asker.link new.asker.link
  adds_cells log [] old result new is = alike_clients old.asker new.asker is.2
  adds_cells log (property ∷ more) old result new (inl (mid, between, first, rest)) =
      leads.on old.asker.link mid.link new.asker.link
      (adds_cell (table.property_of log property) old (Ok tt) (printing mid between) first)
      (adds_cells log more (printing mid between) result new rest)
  adds_cells log (property ∷ more) old result new (inr (fault, is, first)) =
      adds_cell (table.property_of log property) old (Err fault) new first

  adds_columns : (log : Id) (old : Row S) (result : Answer) (new : Row S) → table.AddsColumns asks log old result new
      → leads.to old.asker.link new.asker.link
  adds_columns log old result new is = adds_cells log table.columns _ result new is

  adds_row : (log : Id) (old : Row S) (result : Answer) (new : Row S) → table.AddsRow asks log old result new
      → leads.to old.asker.link new.asker.link
  adds_row log old (Ok done) new (cells, is, line) = adds_columns log old (Ok tt) (printing new.asker cells) is
  adds_row log old (Err fault) new (inl (cells, is)) = adds_columns log old (Err fault) (printing new.asker cells) is
  adds_row log old (Err fault) new (inr (memory, inl is)) = alike_clients old.asker new.asker is
  adds_row log old (Err fault) new (inr (memory, inr (cells, is))) = adds_columns log old (Ok tt) (printing new.asker cells) is

  prints_row : (log : Id) (old : Session S) (result : Answer) (new : Session S) → table.PrintsRow asks log old result new
      → leads.to old.asker.link new.asker.link
  prints_row log old result new (inl (line, is, prints)) =
      adds_row log (printing old.asker []) (Ok tt) (printing new.asker line) is
  prints_row log old result new (inr (fault, line, is, adds, same)) =
      adds_row log (printing old.asker []) (Err fault) (printing new.asker line) adds

  prints_rows : (logs : List Id) (old : Session S) (result : Answer) (new : Session S)
      → table.PrintsRows asks logs old result new → leads.to old.asker.link new.asker.link
  prints_rows [] old result new is = alike_clients old.asker new.asker is.1
  prints_rows (log ∷ logs) old result new (inl (mid, held, first, rest)) =
      leads.on old.asker.link mid.link new.asker.link (prints_row log old (Ok tt) (printing mid held) first)
      (prints_rows logs (printing mid held) result new rest)
  prints_rows (log ∷ logs) old result new (inr (fault, is, first)) = prints_row log old (Err fault) new first

  ends_so : (end : Answer) (old : Session S) (result : Answer) (new : Session S) → table.EndsSo end old result new
      → leads.to old.asker.link new.asker.link
  ends_so end old result new is = alike_clients old.asker new.asker is.1

  prints_object : (object : Id) (old : Session S) (result : Answer) (new : Session S)
      → table.PrintsObject asks object old result new → leads.to old.asker.link new.asker.link
  prints_object object old result new (inl (is, prints)) = prints_row object old result new prints
  prints_object object old result new (inr (is, same)) = ends_so (Ok tt) old result new same

  prints_told : (answer : Result (List ℕ) ExchangeFault) (old : Session S) (result : Answer) (new : Session S)
      → table.PrintsTold asks answer old result new → leads.to old.asker.link new.asker.link
  prints_told (Err fault) old result new is = ends_so (Err (Exchange fault)) old result new is
  prints_told (Ok datagram) old result new (inl (object, tells, is)) = prints_object object old result new is
  prints_told (Ok datagram) old result new (inr (none, is)) = ends_so _ old result new is

  prints_place : (place : ℕ) (old : Session S) (result : Answer) (new : Session S)
      → table.PrintsPlace asks place old result new → leads.to old.asker.link new.asker.link
  prints_place place old result new (answer, mid, asks-it, prints) =
      leads.on old.asker.link mid.link new.asker.link (questioned (list_at place) old.asker answer mid asks-it)
      (prints_told answer (printing mid old.printed) result new prints)

  prints_each : (prints : ℕ → Session S → Answer → Session S → Type 0)
      → ((place : ℕ) (old : Session S) (result : Answer) (new : Session S) → prints place old result new
      → leads.to old.asker.link new.asker.link) → (left place : ℕ) (old : Session S) (result : Answer) (new : Session S)
      → table.PrintsEach prints place left old result new → leads.to old.asker.link new.asker.link
  prints_each prints one zero place old result new is = ends_so (Ok tt) old result new is
  prints_each prints one (suc left) place old result new (inl (mid, held, first, rest)) =
      leads.on old.asker.link mid.link new.asker.link (one place old (Ok tt) (printing mid held) first)
      (prints_each prints one left (place + 1) (printing mid held) result new rest)
  prints_each prints one (suc left) place old result new (inr (fault, is, first)) = one place old (Err fault) new first

  listed_at : (values : List ℕ) (place : ℕ) (old : Session S) (result : Answer) (new : Session S)
      → table.PrintsListedAt asks values place old result new → leads.to old.asker.link new.asker.link
  listed_at values place old result new (object, is, prints) = prints_object object old result new prints

  prints_answered : (answer : Result (List ℕ) ExchangeFault) (count : ℕ) (old : Session S) (result : Answer)
      (new : Session S) → table.PrintsAnswered asks answer count old result new → leads.to old.asker.link new.asker.link
  prints_answered answer count old result new (inl (datagram, values, is, tells, prints)) =
      prints_each (table.PrintsListedAt asks values) (listed_at values) count 0 old result new prints
  prints_answered answer count old result new (inr (none, prints)) =
      prints_each (table.PrintsPlace asks) prints_place count 1 old result new prints

  prints_objects : (count : ℕ) (old : Session S) (result : Answer) (new : Session S)
      → table.PrintsObjects asks count old result new → leads.to old.asker.link new.asker.link
  prints_objects count old result new (answer, mid, asks-it, prints) =
      leads.on old.asker.link mid.link new.asker.link (questioned whole_list old.asker answer mid asks-it)
      (prints_answered answer count (printing mid old.printed) result new prints)

  prints_counted : (answer : Result (List ℕ) ExchangeFault) (old : Session S) (result : Answer) (new : Session S)
      → table.PrintsCounted asks answer old result new → leads.to old.asker.link new.asker.link
  prints_counted (Err fault) old result new is = ends_so (Err (Exchange fault)) old result new is
  prints_counted (Ok datagram) old result new (inl (count, tells, prints)) = prints_objects count old result new prints
  prints_counted (Ok datagram) old result new (inr (none, is)) = ends_so _ old result new is

  prints_listed : (old : Session S) (result : Answer) (new : Session S) → table.PrintsListed asks old result new
      → leads.to old.asker.link new.asker.link
  prints_listed old result new (answer, mid, asks-it, prints) =
      leads.on old.asker.link mid.link new.asker.link (questioned (list_at 0) old.asker answer mid asks-it)
      (prints_counted answer (printing mid old.printed) result new prints)

  prints_logs : (logs : List Id) (old : Session S) (result : Answer) (new : Session S)
      → table.PrintsLogs asks logs old result new → leads.to old.asker.link new.asker.link
  prints_logs [] old result new is = prints_listed old result new is
  prints_logs (log ∷ logs) old result new is = prints_rows (log ∷ logs) old result new is

  pub lists_logs : (logs : List Id) (old : Session S) (result : Answer) (new : Session S)
      → table.ListsLogs asks logs old result new → leads.to old.asker.link new.asker.link
  lists_logs logs old result new (inl (held, head, prints)) = prints_logs logs (printing old.asker held) result new prints
  lists_logs logs old result new (inr (fault, is, head, same)) = alike_clients old.asker new.asker same
