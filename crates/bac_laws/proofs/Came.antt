-- What came over a link stands in its ledger, and brought the records.
use Rattle.std.proofs.Common.{◌≡◌, ◌++◌, ◌&&◌, ◌==◌, ℕ, ◌≤◌, zero, suc, Bool, true, false, List, [], ◌∷◌, Option, None, Some, Ok, inl, inr, refl, sym, subst, ap, ◌∙◌, if◌then◌else◌, length, nat_lt, not, arith}
use Rattle.std.specs.List.{Contains}
use Rattle.std.proofs.lemmas.List.{length-append}
use Rattle.std.proofs.lemmas.List.Elements.{Contains-append_cases, Contains-append_left}
use Rattle.bac_laws.proofs.Asked.{Leads}
use Rattle.bac_laws.proofs.Walked.{come, ends}
use Rattle.bac_laws.specs.Printed.{AreBehind, HasNoMore, HasRecord}
use Rattle.bac_link.specs.Delivery.{items_of}
use Rattle.bac_link.specs.Exchanges.{Ask, Exchanges, Way, next_way}
use Rattle.bac_link.specs.Heard.{AckParameters, heard_in}
use Rattle.bac_link.specs.Requests.{request_octets}
use Rattle.bac_link.specs.declared.item.Item.{Item}
use Rattle.bac_link.specs.declared.item.Item.TheVariants.{Gap, Logged}
use Rattle.bac_link.specs.declared.request.Request.{Request}
use Rattle.bac_log.specs.declared.entry.Entry.{Entry}
use Rattle.bac_walk.specs.Came.{AreOf, Came, EndsEmpty, answers_of, restarted}
use Rattle.bac_walk.specs.Collects.{batches, turn_items}
use Rattle.bac_walk.specs.Place.{WalkPlace}
use Rattle.bac_walk.specs.Transacted.{BroughtBy, ComesBy, WalkBy, asked, walk_by}
use Rattle.bac_link.specs.Ordinals.{distance, is_ahead, number_after}
use Rattle.bac_walk.specs.Walks.{Ask as AskNext, Bring, End, IsTaken, IsTakenFrom, NextAct, Refuse, asks_oldest_now, fits, gap_of, is_past, shown_from, verdict}
use Rattle.bac_walk.specs.declared.outcome.Ended.{Ended}
use Rattle.bac_walk.specs.declared.outcome.Ended.TheVariants.{CaughtUp, StepLimit, Stopped, Fault}
use Rattle.bac_walk.specs.declared.outcome.Progress.{Progress}
use Rattle.bac_walk.specs.declared.outcome.Progress.TheVariants.{Batch as BatchOf, AskOldest, CaughtUp as IsUp}
use Rattle.bac_wire.specs.Primitive.{Id}

-- any request
abbrev pub Any : Request → Type 0
Any r = Unit {0}

-- what a link has heard, which it never forgets
pub record Hears {S : Type 0} {asks : Ask S} (leads : Leads asks Any) : Type 1 where
  pub had : S → List ℕ → Type 0
  pub keeps : (a b : S) (datagram : List ℕ) → leads.to a b → had a datagram → had b datagram
  pub hears : (a b : S) (octets datagram : List ℕ) → asks a octets (Ok datagram) b → had b datagram

-- ---- one reply

nothing_in : (number : ℕ) (entry : Entry) → Contains [] (Logged number entry) → ⊥
nothing_in number entry (k, less, is) = absurd (omega (arith, less))

no_gap : (b : Bool) (first before : ℕ) (number : ℕ) (entry : Entry)
    → Contains (if b then Gap first before ∷ [] else []) (Logged number entry) → ⊥
no_gap false first before number entry has = nothing_in number entry has
no_gap true first before number entry (zero, less, is) = absurd (let e : Gap first before ≡ Logged number entry = is in cc)
no_gap true first before number entry (suc k, less, is) = absurd (omega (arith, less))

-- a reply with records has its first number
no_bring : (b : Bool) (n : ℕ) → (if b then End else AskNext) ≡ Bring n → ⊥
no_bring true n is = absurd (let e : End ≡ Bring n = is in cc)
no_bring false n is = absurd (let e : AskNext ≡ Bring n = is in cc)

same_first : (past fitting : Bool) (m n : ℕ) → (if past then End else (if fitting then Bring m else Refuse)) ≡ Bring n → m ≡ n
same_first true fitting m n is = absurd (let e : End ≡ Bring n = is in cc)
same_first false true m n is = (let e : Bring m ≡ Bring n = is in cc)
same_first false false m n is = absurd (let e : Refuse ≡ Bring n = is in cc)

pub has_first : (w : WalkPlace) (first : Option ℕ) (count : ℕ) (entries : List Entry) (n : ℕ) → verdict w first count entries ≡ Bring n
    → first ≡ Some n
has_first w first count [] n is = absurd (no_bring (asks_oldest_now w) n is)
has_first w None count (e ∷ es) n is = absurd (let f : Refuse ≡ Bring n = is in cc)
has_first w (Some m) count (e ∷ es) n is =
    ap Some (same_first (is_past w m) ((count == length (e ∷ es)) && fits w m (length (e ∷ es))) m n is)

-- by its verdict
by_verdict : (w : WalkPlace) (first : Option ℕ) (count : ℕ) (entries : List Entry) (p : Progress) (next : WalkPlace) (act : NextAct)
    → verdict w first count entries ≡ act → IsTaken w entries act (Ok p) next → (number : ℕ) (entry : Entry)
    → Contains (turn_items (Ok p)) (Logged number entry)
    → (n : ℕ) × (first ≡ Some n) × Contains (shown_from n entries) (Logged number entry)
by_verdict w first count entries AskOldest next act is taken number entry has = absurd (nothing_in number entry has)
by_verdict w first count entries IsUp next act is taken number entry has = absurd (nothing_in number entry has)
by_verdict w first count entries (BatchOf b) next Refuse is taken number entry has = absurd taken
by_verdict w first count entries (BatchOf b) next AskNext is taken number entry has = absurd taken
by_verdict w first count entries (BatchOf b) next End is taken number entry has = absurd taken
by_verdict w first count entries (BatchOf b) next (Bring n) is (items, at) number entry has = (
  n,
  has_first w first count entries n is,
  elim (Contains-append_cases (gap_of w n) (shown_from n entries) (Logged number entry) (subst (λ (l : List Item). Contains l (Logged number entry)) items has)) [
    | inl gap ↦ absurd (no_gap (not w.fresh && nat_lt 0 (distance w.next n)) w.next n number entry gap)
    | inr shown ↦ shown
  ],
)

same_log : (w : WalkPlace) (entries : List Entry) (act : NextAct) (p : Progress) (next : WalkPlace) → IsTaken w entries act (Ok p) next
    → next.log ≡ w.log
same_log w entries Refuse p next taken = absurd taken
same_log w entries AskNext AskOldest next taken = ap (λ (at : WalkPlace). at.log) taken
same_log w entries AskNext IsUp next taken = absurd taken
same_log w entries AskNext (BatchOf b) next taken = absurd taken
same_log w entries End AskOldest next taken = absurd taken
same_log w entries End IsUp next taken = ap (λ (at : WalkPlace). at.log) taken
same_log w entries End (BatchOf b) next taken = absurd taken
same_log w entries (Bring n) AskOldest next taken = absurd taken
same_log w entries (Bring n) IsUp next taken = absurd taken
same_log w entries (Bring n) (BatchOf b) next taken = ap (λ (at : WalkPlace). at.log) taken.1

pub log_stays : (w : WalkPlace) (heard : Option AckParameters) (p : Progress) (next : WalkPlace) → IsTakenFrom w heard (Ok p) next
    → next.log ≡ w.log
log_stays w None p next taken = same_log w [] Refuse p next taken
log_stays w (Some said) p next taken = same_log w said.entries (verdict w said.first said.count said.entries) p next taken

pub has_record : (w : WalkPlace) (datagram : List ℕ) (heard : Option AckParameters) (p : Progress) (next : WalkPlace)
    → heard_in w.log datagram ≡ heard → IsTakenFrom w heard (Ok p) next → (number : ℕ) (entry : Entry)
    → Contains (turn_items (Ok p)) (Logged number entry) → HasRecord w.log datagram number entry
has_record w datagram None AskOldest next is taken number entry has = absurd taken
has_record w datagram None IsUp next is taken number entry has = absurd taken
has_record w datagram None (BatchOf b) next is taken number entry has = absurd taken
has_record w datagram (Some said) p next is taken number entry has =
    let it = by_verdict w said.first said.count said.entries p next (verdict w said.first said.count said.entries) refl taken number entry has in
    (said, is, it.0, it.1, it.2)

-- ---- the last reply of a walk that is caught up

end_past : (past fitting : Bool) (n : ℕ) → (if past then End else (if fitting then Bring n else Refuse)) ≡ End → past ≡ true
end_past true fitting n is = refl
end_past false true n is = absurd (let e : Bring n ≡ End = is in cc)
end_past false false n is = absurd (let e : Refuse ≡ End = is in cc)

no_ask : (past fitting : Bool) (n : ℕ) → (if past then End else (if fitting then Bring n else Refuse)) ≡ AskNext → ⊥
no_ask true fitting n is = absurd (let e : End ≡ AskNext = is in cc)
no_ask false true n is = absurd (let e : Bring n ≡ AskNext = is in cc)
no_ask false false n is = absurd (let e : Refuse ≡ AskNext = is in cc)

past_is : (oldest fresh ahead : Bool) → (oldest && not fresh && not ahead) ≡ true → ahead ≡ false
past_is true false false is = refl
past_is true false true is = absurd (let e : false ≡ true = is in cc)
past_is true true ahead is = absurd (let e : false ≡ true = is in cc)
past_is false fresh ahead is = absurd (let e : false ≡ true = is in cc)

-- it has no record from where the walk is on
all_behind : (w : WalkPlace) (first : Option ℕ) (count : ℕ) (entries : List Entry) → verdict w first count entries ≡ End
    → AreBehind w.next first entries
all_behind w first count [] is = tt
all_behind w None count (e ∷ es) is = absurd (let f : Refuse ≡ End = is in cc)
all_behind w (Some n) count (e ∷ es) is =
    past_is (asks_oldest_now w) w.fresh (is_ahead w.next n)
    (end_past (is_past w n) ((count == length (e ∷ es)) && fits w n (length (e ∷ es))) n is)

asks_not : (w : WalkPlace) (first : Option ℕ) (count : ℕ) (entries : List Entry) → verdict w first count entries ≡ AskNext → asks_oldest_now w ≡ true → ⊥
asks_not w first count [] is oldest =
    absurd (let e : (if true then End else AskNext) ≡ AskNext = subst (λ (b : Bool). (if b then End else AskNext) ≡ AskNext) oldest is in cc)
asks_not w None count (e ∷ es) is oldest = absurd (let f : Refuse ≡ AskNext = is in cc)
asks_not w (Some n) count (e ∷ es) is oldest =
    no_ask (is_past w n) ((count == length (e ∷ es)) && fits w n (length (e ∷ es))) n is

brings_some : (w : WalkPlace) (first : Option ℕ) (count : ℕ) (entries : List Entry) (n : ℕ) → verdict w first count entries ≡ Bring n
    → gap_of w n ++ shown_from n entries ≡ [] → ⊥
brings_some w first count [] n is none = no_bring (asks_oldest_now w) n is
brings_some w first count (e ∷ es) n is none =
    omega (arith, ap length none, length-append (gap_of w n) (Logged n e ∷ shown_from (number_after n 1) es))

no_more_by : (w : WalkPlace) (first : Option ℕ) (count : ℕ) (entries : List Entry) (p : Progress) (next : WalkPlace) (act : NextAct)
    → verdict w first count entries ≡ act → IsTaken w entries act (Ok p) next → turn_items (Ok p) ≡ [] → asks_oldest_now w ≡ true
    → AreBehind w.next first entries × (next ≡ w)
no_more_by w first count entries AskOldest next Refuse is taken none oldest = absurd taken
no_more_by w first count entries AskOldest next AskNext is taken none oldest = absurd (asks_not w first count entries is oldest)
no_more_by w first count entries AskOldest next End is taken none oldest = absurd taken
no_more_by w first count entries AskOldest next (Bring n) is taken none oldest = absurd taken
no_more_by w first count entries IsUp next Refuse is taken none oldest = absurd taken
no_more_by w first count entries IsUp next AskNext is taken none oldest = absurd taken
no_more_by w first count entries IsUp next End is taken none oldest = (all_behind w first count entries is, taken)
no_more_by w first count entries IsUp next (Bring n) is taken none oldest = absurd taken
no_more_by w first count entries (BatchOf b) next Refuse is taken none oldest = absurd taken
no_more_by w first count entries (BatchOf b) next AskNext is taken none oldest = absurd taken
no_more_by w first count entries (BatchOf b) next End is taken none oldest = absurd taken
no_more_by w first count entries (BatchOf b) next (Bring n) is (items, at) none oldest =
    absurd (brings_some w first count entries n is (sym items ∙ none))

no_more : (w : WalkPlace) (datagram : List ℕ) (heard : Option AckParameters) (p : Progress) (next : WalkPlace)
    → heard_in w.log datagram ≡ heard → IsTakenFrom w heard (Ok p) next → turn_items (Ok p) ≡ [] → asks_oldest_now w ≡ true
    → HasNoMore w.log datagram w.next × (next ≡ w)
no_more w datagram None AskOldest next is taken none oldest = absurd taken
no_more w datagram None IsUp next is taken none oldest = absurd taken
no_more w datagram None (BatchOf b) next is taken none oldest = absurd taken
no_more w datagram (Some said) p next is taken none oldest =
    let it = no_more_by w said.first said.count said.entries p next (verdict w said.first said.count said.entries) refl taken none oldest in
    ((said, is, it.0), it.1)

-- each reply with records brings an item
batches_few : (answers : List (List Item)) → batches answers ≤ length (items_of answers)
batches_few [] = omega arith
batches_few ([] ∷ answers) = batches_few answers
batches_few ((x ∷ xs) ∷ answers) = omega (arith, batches_few answers, length-append xs (items_of answers))

-- ---- all replies

module _ {S : Type 0} {asks : Ask S} {leads : Leads asks Any} (ears : Hears leads) where
  pub heard_by : (way : Way) (r : Request) (a : S) (datagram : List ℕ) (b : S) → Exchanges asks way r a (Ok datagram) b → ears.had b datagram
  heard_by way r a datagram b (tries, mid, few, front, last, is) =
      ears.hears mid b (request_octets way.path way.invoke r) datagram last

  -- a record that came of a log
  abbrev pub Known : S → Id → ℕ → Entry → Type 0
  Known link log number entry = (datagram : List ℕ) × ears.had link datagram × HasRecord log datagram number entry

  pub known_on : (a b : S) (log : Id) (number : ℕ) (entry : Entry) → leads.to a b → Known a log number entry → Known b log number entry
  known_on a b log number entry to (datagram, had, has) = (datagram, ears.keeps a b datagram to had, has)

  replies : (log : Id) (came : List Came) (before after : WalkBy S) → before.place.log ≡ log → ComesBy asks before came after
      → (number : ℕ) (entry : Entry) → Contains (items_of (answers_of came)) (Logged number entry) → Known after.link log number entry
  replies log [] before after same is number entry has = absurd (nothing_in number entry has)
  replies log (c ∷ came) before after same (mid, next, p, place, asks-by, taken, items, rest) number entry has =
      elim (Contains-append_cases c.items (items_of (answers_of came)) (Logged number entry) has) [
        | inl now ↦ known_on mid after.link log number entry
            (come leads (λ r. tt) came (walk_by mid (asked before.place before.transactions) next) after rest) (
              c.datagram,
              heard_by (next_way before.transactions) _ before.link c.datagram mid asks-by,
              subst (λ (l : Id). HasRecord l c.datagram number entry) same
                  (has_record before.place c.datagram _ p next refl taken number entry (subst (λ (l : List Item). Contains l (Logged number entry)) items now)),
            )
        | inr later ↦ replies log came (walk_by mid (asked before.place before.transactions) next) after
            (log_stays before.place _ p next taken ∙ same) rest number entry later
      ]

  -- a run's items are among those of its replies
  among_all : (ended : Ended) (came : List Came) (items : List Item) (after : WalkPlace) → AreOf ended came items after
      → (item : Item) → Contains items item → Contains (items_of (answers_of came)) item
  among_all CaughtUp came items after is item has = subst (λ (l : List Item). Contains l item) is has
  among_all StepLimit came items after is item has = subst (λ (l : List Item). Contains l item) is has
  among_all (Fault fault) came items after is item has = subst (λ (l : List Item). Contains l item) is has
  among_all Stopped came items after (front, k, entry, dropped, are, all, next, fresh, ends) item has =
      subst (λ (l : List Item). Contains l item) all (Contains-append_left items dropped item has)

  pub run_known : (before : WalkBy S) (steps : ℕ) (came : List Came) (items : List Item) (ended : Ended) (after : WalkBy S)
      → BroughtBy asks before steps came items ended after → (number : ℕ) (entry : Entry) → Contains items (Logged number entry)
      → Known after.link before.place.log number entry
  run_known before steps came items ended after is number entry has =
      known_on is.mid after.link before.place.log number entry (ends leads (λ r. tt) steps came (walk_by is.mid is.half is.here) ended after is.ends)
      (replies before.place.log came (walk_by before.link before.transactions (restarted before.place)) (walk_by is.mid is.half is.here) refl is.comes number entry
      (among_all ended came items after.place is.are (Logged number entry) has))

  -- the last reply of a walk that is caught up says so
  run_up : (log : Id) (came : List Came) (before after : WalkBy S) → before.place.log ≡ log → ComesBy asks before came after → EndsEmpty came
      → (datagram : List ℕ) × ears.had after.link datagram × HasNoMore log datagram after.place.next
  run_up log [] before after same is empty = absurd empty
  run_up log (c ∷ []) before after same (mid, next, p, place, asks-by, taken, items, (at, link, left)) (none, oldest) =
      let it = no_more before.place c.datagram (heard_in before.place.log c.datagram) p next refl taken (sym items ∙ none)
      (subst (λ (w : WalkPlace). asks_oldest_now w ≡ true) place oldest) in
      let stays : after.place.next ≡ before.place.next = ap (λ (w : WalkPlace). w.next) (at ∙ it.1) in (
        c.datagram,
        subst (λ (l : S). ears.had l c.datagram) (sym link) (heard_by (next_way before.transactions) _ before.link c.datagram mid asks-by),
        subst (λ (l : Id). HasNoMore l c.datagram after.place.next) same
            (subst (λ (n : ℕ). HasNoMore before.place.log c.datagram n) (sym stays) it.0),
      )
  run_up log (c ∷ d ∷ came) before after same (mid, next, p, place, asks-by, taken, items, rest) empty =
      run_up log (d ∷ came) (walk_by mid (asked before.place before.transactions) next) after (log_stays before.place _ p next taken ∙ same) rest empty

  pub run_caught_up : (before : WalkBy S) (steps : ℕ) (came : List Came) (items : List Item) (after : WalkBy S)
      → BroughtBy asks before steps came items CaughtUp after
      → (datagram : List ℕ) × ears.had after.link datagram × HasNoMore before.place.log datagram after.place.next
  run_caught_up before steps came items after is =
      let (empty, few, place, link, left) = is.ends in
      let it = run_up before.place.log came (walk_by before.link before.transactions (restarted before.place)) (walk_by is.mid is.half is.here) refl is.comes empty in
      let stays : after.place.next ≡ is.here.next = ap (λ (w : WalkPlace). w.next) place in (
        it.0,
        subst (λ (l : S). ears.had l it.0) (sym link) it.1,
        subst (λ (n : ℕ). HasNoMore before.place.log it.0 n) (sym stays) it.2,
      )

  -- a walk that ends at its limit of steps brought as many items
  pub run_limited : (before : WalkBy S) (steps : ℕ) (came : List Came) (items : List Item) (after : WalkBy S)
      → BroughtBy asks before steps came items StepLimit after → steps ≤ length items
  run_limited before steps came items after is =
      let (full, count, place, link, left) = is.ends in
      omega (arith, count, batches_few (answers_of came), ap length is.are)
