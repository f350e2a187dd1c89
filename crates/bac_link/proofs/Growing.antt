-- Links that stay honest for a log that goes on.
use Rattle.std.proofs.Common.{◌≡◌, ℕ, zero, suc, ◌+◌, ◌-◌, ◌<◌, ◌≤◌, inl, inr, Option, Some, None, Result, Ok, Err, List, [], ◌∷◌, ◌++◌, length, length-append, replicate, slice_get, refl, sym, ap, subst, ◌∙◌, arith, append-nil, append_assoc}
use Rattle.std.proofs.lemmas.Bool.{cases_Bool}
use Rattle.std.proofs.lemmas.List.{length-replicate}
use Rattle.bac_wire.specs.Primitive.{Id}
use Rattle.bac_log.specs.declared.entry.Entry.{Entry}
use Rattle.bac_link.specs.declared.link.Lost.{Lost as Loss}
use Rattle.bac_link.specs.Datagrams.{answers_to}
use Rattle.bac_link.specs.Delivery.{History, Moment, IsEntry, now, later}
use Rattle.bac_link.specs.Growing.{GoesOn, Standing, IsStanding, IsOnward, IsGiven, StaysHonest, StaysHonestWhere, StandingStaysHonest, HonestStaysHonest, HistoriesGoOn}
use Rattle.bac_link.specs.Honest.{IsSaidOrLost, IsHonestFor, asked_octets, asked_log}
use Rattle.bac_link.specs.Moments.{AreIn, AreInWindow, IsInWindow, NeverGoesBack}
use Rattle.bac_link.specs.Path.{Path}
use Rattle.bac_log.specs.declared.entry.Datum.TheVariants.{Null}
use Rattle.bac_link.specs.Standard.{first_date, first_time}
use Rattle.bac_link.specs.Standard.{Asked, FromNumber, FromOldest, AreFrom, AreHeldFrom, SaysAt, IsSaidAt}
use Rattle.bac_link.proofs.Honest.{Asking}

-- ---- a history that goes on

pub goes_itself : (H : History) → GoesOn H H
goes_itself H = ([], refl, sym (append-nil H.entries))

pub goes_further : (A B C : History) → GoesOn A B → GoesOn B C → GoesOn A C
goes_further A B C first rest = (
  first.0 ++ rest.0,
  rest.1 ∙ first.1,
  rest.2 ∙ ap (λ l. l ++ rest.0) first.2 ∙ append_assoc A.entries first.0 rest.0,
)

get_front : (xs ys : List Entry) (i : ℕ) (e : Entry) → slice_get xs i ≡ Some e → slice_get (xs ++ ys) i ≡ Some e
get_front [] ys i e is = absurd (cc)
get_front (x ∷ xs) ys zero e is = is
get_front (x ∷ xs) ys (suc i) e is = get_front xs ys i e is

-- what was logged stays logged
pub entry_on : (H on : History) (k : ℕ) (e : Entry) → GoesOn H on → IsEntry H k e → IsEntry on k e
entry_on H on k e goes (above, is) =
    let P : ℕ → Type 0 = λ n. slice_get on.entries (k - (n + 1)) ≡ Some e in
    let Q : List Entry → Type 0 = λ l. slice_get l (k - (H.logged + 1)) ≡ Some e in
    (omega (arith, goes.1, above), subst P (sym goes.1) (subst Q (sym goes.2) (get_front H.entries goes.0 (k - (H.logged + 1)) e is)))

held_on : (H on : History) (m : Moment) (k : ℕ) (es : List Entry) → GoesOn H on → AreHeldFrom H m k es → AreHeldFrom on m k es
held_on H on m k [] goes are = tt
held_on H on m k (e ∷ es) goes are = (are.0, entry_on H on k e goes are.1, held_on H on m (k + 1) es goes are.2)

from_on : (H on : History) (m : Moment) (k count : ℕ) (first : Option ℕ) (es : List Entry) → GoesOn H on → AreFrom H m k count first es → AreFrom on m k count first es
from_on H on m k count first es goes are = (are.0, are.1, held_on H on m k es goes are.2)

says_on : (H on : History) (m : Moment) (asked : Asked) (first : Option ℕ) (es : List Entry) → GoesOn H on → SaysAt m H asked first es → SaysAt m on asked first es
says_on H on m (FromNumber n count) first [] goes says = says
says_on H on m (FromNumber n count) first (e ∷ es) goes says = (says.0, from_on H on m says.0 count first (e ∷ es) goes says.1, says.2)
says_on H on m (FromOldest count) first [] goes says = says
says_on H on m (FromOldest count) first (e ∷ es) goes says = from_on H on m m.oldest count first (e ∷ es) goes says

-- a reply that was said at a moment is said at it of any history that goes on
pub said_on : (H on : History) (m : Moment) (log : Id) (asked : Asked) (datagram : List ℕ) → GoesOn H on → IsSaidAt m H log asked datagram → IsSaidAt m on log asked datagram
said_on H on m log asked datagram goes said =
    record { asks = said.asks; heard = said.heard; reads = said.reads; counts = said.counts; says = says_on H on m asked said.heard.first said.heard.entries goes said.says }

-- ---- where a log stands

pub stays_there : (low : ℕ) (at : Standing) → IsStanding low at → IsOnward low at at
stays_there low at is = record { goes_on = goes_itself at.history; oldest = omega arith; newest = omega arith; stands = is }

pub further_on : (low : ℕ) (a b c : Standing) → IsOnward low a b → IsOnward low b c → IsOnward low a c
further_on low a b c first rest = record {
  goes_on = goes_further a.history b.history c.history first.goes_on rest.goes_on;
  oldest = omega (arith, first.oldest, rest.oldest);
  newest = omega (arith, first.newest, rest.newest);
  stands = rest.stands;
}

-- what a standing log holds stays logged
pub within_on : (low : ℕ) (at : Standing) (on : History) → IsStanding low at → GoesOn at.history on → at.moment.newest ≤ on.logged + length on.entries
within_on low at on is goes = omega (arith, is.within, goes.1, ap length goes.2, length-append at.history.entries goes.0)

-- ---- links

pub stands_on : {S : Type 0} (asks : Asking S) (stands : ℕ → S → Standing → Type 0) → StandingStaysHonest asks stands
stands_on {S = S} asks stands = λ path log count low more link at honest stood. all path log count low more link at honest stood
  where
    all : (path : Path) (log : Id) (count low more : ℕ) (link : S) (at : Standing) → StaysHonestWhere asks (asked_log path log count) low stands → stands more link at → StaysHonest asks (asked_log path log count) low more link at
    all path log count low zero link at honest stood = tt
    all path log count low (suc more) link at honest stood = λ new asked invoke answer is ask.
        let x = honest.goes_on more link new at asked invoke answer stood is ask in
        (x.0, x.1, x.2, all path log count low more new x.0 honest x.3)

fewer_asks : {S : Type 0} (asks : Asking S) (path : Path) (log : Id) (count low more : ℕ) (link : S) (at : Standing) → StaysHonest asks (asked_log path log count) low (suc more) link at → StaysHonest asks (asked_log path log count) low more link at
fewer_asks asks path log count low zero link at honest = tt
fewer_asks asks path log count low (suc more) link at honest = λ new asked invoke answer is ask.
    let x = honest new asked invoke answer is ask in
    (x.0, x.1, x.2, fewer_asks asks path log count low more new x.0 x.3)

pub stays_on : {S : Type 0} (asks : Asking S) (path : Path) (log : Id) (count low : ℕ) → StaysHonestWhere asks (asked_log path log count) low (λ n link at. StaysHonest asks (asked_log path log count) low n link at)
stays_on asks path log count low = record {
  goes_on = λ more old new at asked invoke answer honest is ask. honest new asked invoke answer is ask;
  fewer = λ more link at honest. fewer_asks asks path log count low more link at honest;
}

-- ---- moments that are known before

pub window_at : (low : ℕ) (M : List Moment) → 0 < length M → AreInWindow low M → IsInWindow low (now M)
window_at low [] some window = absurd (omega arith)
window_at low (m ∷ M) some window = window.0

in_at : (on : History) (M : List Moment) → 0 < length M → AreIn on M → (now M).newest ≤ on.logged + length on.entries
in_at on [] some are = absurd (omega arith)
in_at on (m ∷ M) some are = are.0

-- what holds of the moments that are left
record Left (on : History) (low : ℕ) (m : Moment) (M : List Moment) : Type 0 where
  some : 0 < length M
  back : NeverGoesBack M
  window : AreInWindow low M
  within : AreIn on M
  oldest : m.oldest ≤ (now M).oldest
  newest : m.newest ≤ (now M).newest

stands_now : (on : History) (low : ℕ) (m : Moment) (M : List Moment) → Left on low m M → IsStanding low (record { history = on; moment = now M })
stands_now on low m M left = record { within = in_at on M left.some left.within; window = window_at low M left.some left.window }

left_later : (on : History) (low : ℕ) (m : Moment) (M : List Moment) → Left on low m M → Left on low (now M) (later M)
left_later on low m [] left = absurd (omega (arith, left.some))
left_later on low m (n ∷ []) left = record { some = left.some; back = left.back; window = left.window; within = left.within; oldest = omega arith; newest = omega arith }
left_later on low m (n ∷ o ∷ M) left = record { some = omega arith; back = left.back.2; window = left.window.1; within = left.within.1; oldest = left.back.0; newest = left.back.1 }

-- an ask of a link that is honest at them
known_ask : {S : Type 0} (asks : Asking S) (path : Path) (log : Id) (count : ℕ) (H on : History) (low more : ℕ) (new : S) (m : Moment) (M : List Moment) (asked : Asked) (octets : List ℕ) (answer : Result (List ℕ) Loss) →
    (IsHonestFor asks (asked_log path log count) H low more new M → StaysHonest asks (asked_log path log count) low more new (record { history = on; moment = m })) →
    (IsHonestFor asks (asked_log path log count) H low more new (later M) → StaysHonest asks (asked_log path log count) low more new (record { history = on; moment = now M })) →
    GoesOn H on → IsStanding low (record { history = on; moment = m }) → Left on low m M → IsSaidOrLost (λ N. IsHonestFor asks (asked_log path log count) H low more new N) M H log asked octets answer →
    (next : Standing) × IsOnward low (record { history = on; moment = m }) next × IsGiven next log asked octets answer × StaysHonest asks (asked_log path log count) low more new next
known_ask asks path log count H on low more new m M asked octets (Err lost) stays goes_to goes is left said =
    let here : Standing = record { history = on; moment = m } in (here, stays_there low here is, tt, stays said)
known_ask asks path log count H on low more new m M asked octets (Ok datagram) stays goes_to goes is left said = elim (cases_Bool (answers_to octets datagram)) [
  | inl answers ↦
      let x = said.0 answers in (
        record { history = on; moment = now M },
        record { goes_on = goes_itself on; oldest = left.oldest; newest = left.newest; stands = stands_now on low m M left },
        (λ y. said_on H on (now M) log asked datagram goes x.0),
        goes_to x.1,
      )
  | inr other ↦
      let here : Standing = record { history = on; moment = m } in
      (here, stays_there low here is, (λ y. absurd (let e = sym y ∙ other in cc)), stays (said.1 other))
]

known_before : {S : Type 0} (asks : Asking S) (path : Path) (log : Id) (count : ℕ) (H on : History) (low more : ℕ) (link : S) (m : Moment) (M : List Moment) →
    IsHonestFor asks (asked_log path log count) H low more link M → GoesOn H on → IsStanding low (record { history = on; moment = m }) → Left on low m M →
    StaysHonest asks (asked_log path log count) low more link (record { history = on; moment = m })
known_before asks path log count H on low zero link m M honest goes is left = tt
known_before asks path log count H on low (suc more) link m M honest goes is left = λ new asked invoke answer in_it ask.
    known_ask asks path log count H on low more new m M asked (asked_octets path invoke log asked) answer
    (λ h. known_before asks path log count H on low more new m M h goes is left)
    (λ h. known_before asks path log count H on low more new (now M) (later M) h goes (stands_now on low m M left) (left_later on low m M left))
    goes is left (honest new asked invoke answer left.some left.window in_it ask)

pub honest_stays : {S : Type 0} (asks : Asking S) → HonestStaysHonest asks
honest_stays asks = λ path log count H on low more link M honest some back window goes within.
    known_before asks path log count H on low more link (now M) M honest goes (record { within = in_at on M some within; window = window_at low M some window })
    (record { some = some; back = back; window = window; within = within; oldest = omega arith; newest = omega arith })

-- ---- a history that has the entries of moments

-- what is logged where nothing is known of it
unknown : Entry
unknown = record { date = first_date; time = first_time; datum = Null; flags = None }

abbrev most : List Moment → ℕ
most [] = 0
most (m ∷ M) = m.newest + most M

in_most : (on : History) (M : List Moment) → most M ≤ on.logged + length on.entries → AreIn on M
in_most on [] le = tt
in_most on (m ∷ M) le = (omega (arith, le), in_most on M (omega (arith, le)))

pub histories_on : HistoriesGoOn
histories_on = λ H M.
    let more : List Entry = replicate (most M) unknown in
    let on : History = record { logged = H.logged; entries = H.entries ++ more } in
    (on, (more, refl, refl), in_most on M (omega (arith, length-append H.entries more, length-replicate (most M) unknown)))
