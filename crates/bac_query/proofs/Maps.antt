-- What came over a link, seen as what came over another that makes each of its asks one; and what each ask keeps.
use Rattle.std.proofs.Common.{◌≡◌, ◌+◌, ℕ, zero, suc, Ok, Err, Result, List, [], ◌∷◌, sym, ap, subst}
use Rattle.bac_link.specs.Exchanges.{Answers, Exchanges, Unanswered, way_by}
use Rattle.bac_link.specs.Path.{Path, towards}
use Rattle.bac_link.specs.declared.transactions.Transactions.{Transactions}
use Rattle.bac_link.specs.Requests.{next_invoke, request_octets}
use Rattle.bac_link.specs.declared.exchanges.ExchangeFault.{ExchangeFault}
use Rattle.bac_link.specs.declared.exchanges.ExchangeFault.TheVariants as fault
use Rattle.bac_link.specs.declared.exchanges.Verdict.{Verdict}
use Rattle.bac_link.specs.declared.exchanges.Verdict.TheVariants as verdict
use Rattle.bac_link.specs.declared.item.Item.{Item}
use Rattle.bac_link.specs.declared.link.Lost.{Lost as Loss}
use Rattle.bac_link.specs.declared.request.Request.{Request}
use Rattle.bac_walk.specs.Came.{Brought, Came, Comes, EndsBy, reaching, walk_over}
use Rattle.bac_walk.specs.Transacted.{BroughtBy, ComesBy, EndsAfter, asked as asked_at, walk_by}
use Rattle.bac_walk.specs.Place.{WalkPlace}
use Rattle.bac_walk.specs.Told.{HasAsked, Told}
use Rattle.bac_walk.specs.declared.outcome.Ended.{Ended}
use Rattle.bac_walk.specs.declared.outcome.Ended.TheVariants as ended
use Rattle.bac_walk.proofs.Told.{Asking}

-- each ask of the one is an ask of the other
abbrev pub Maps : {S T : Type 0} → (S → T) → Asking S → Asking T → Type 0
Maps {S = S} f asks other =
    (a b : S) (octets : List ℕ) (answer : Result (List ℕ) Loss) → asks a octets answer b → other (f a) octets answer (f b)

unanswered_maps : {S T : Type 0} (f : S → T) (asks : Asking S) (other : Asking T) → Maps f asks other →
    (octets : List ℕ) (n : ℕ) (old new : S) → Unanswered asks octets n old new → Unanswered other octets n (f old) (f new)
unanswered_maps f asks other maps octets zero old new same = ap f same
unanswered_maps f asks other maps octets (suc n) old new (mid, answer, rest, asked, none) =
    (f mid, answer, unanswered_maps f asks other maps octets n old mid rest, maps mid new octets answer asked, none)

pub answers_maps : {S T : Type 0} (f : S → T) (asks : Asking S) (other : Asking T) → Maps f asks other →
    (path : Path) (invoke : ℕ) (r : Request) (retries : ℕ) (said : Verdict) (old : S) (datagram : List ℕ) (new : S) →
    Answers asks (way_by path invoke retries) r said old datagram new → Answers other (way_by path invoke retries) r said (f old) datagram (f new)
answers_maps f asks other maps path invoke r retries said old datagram new (tries, mid, few, before, asked, is) = (
  tries,
  f mid,
  few,
  unanswered_maps f asks other maps (request_octets path invoke r) tries old mid before,
  maps mid new (request_octets path invoke r) (Ok datagram) asked,
  is,
)

exchanges_maps : {S T : Type 0} (f : S → T) (asks : Asking S) (other : Asking T) → Maps f asks other →
    (path : Path) (invoke : ℕ) (r : Request) (retries : ℕ) (old : S) (result : Result (List ℕ) ExchangeFault) (new : S) →
    Exchanges asks (way_by path invoke retries) r old result new → Exchanges other (way_by path invoke retries) r (f old) result (f new)
exchanges_maps f asks other maps path invoke r retries old (Ok datagram) new answers =
    answers_maps f asks other maps path invoke r retries verdict.Ack old datagram new answers
exchanges_maps f asks other maps path invoke r retries old (Err (fault.Refused refusal)) new (datagram, answers) =
    (datagram, answers_maps f asks other maps path invoke r retries (verdict.Refused refusal) old datagram new answers)
exchanges_maps f asks other maps path invoke r retries old (Err fault.BadReply) new (datagram, answers) =
    (datagram, answers_maps f asks other maps path invoke r retries verdict.BadReply old datagram new answers)
exchanges_maps f asks other maps path invoke r retries old (Err fault.Lost) new tries =
    unanswered_maps f asks other maps (request_octets path invoke r) (retries + 1) old new tries
exchanges_maps f asks other maps path invoke r retries old (Err fault.TooLong) new same = ap f same

comes_maps : {S T : Type 0} (f : S → T) (asks : Asking S) (other : Asking T) → Maps f asks other →
    (came : List Came) (t last : Transactions) (old : S) (w after : WalkPlace) (new : S) →
    ComesBy asks (walk_by old t w) came (walk_by new last after) → ComesBy other (walk_by (f old) t w) came (walk_by (f new) last after)
comes_maps f asks other maps [] t last old w after new (at, same, left) = (at, ap f same, left)
comes_maps f asks other maps (c ∷ came) t last old w after new (mid, next, p, here, asked, taken, items, rest) = (
  f mid,
  next,
  p,
  here,
  exchanges_maps f asks other maps (towards t.route) (next_invoke t.invoke) _ t.retries old (Ok c.datagram) mid asked,
  taken,
  items,
  comes_maps f asks other maps came (asked_at w t) last mid next after new rest,
)

ends_maps : {S T : Type 0} (f : S → T) (asks : Asking S) (other : Asking T) → Maps f asks other →
    (t last : Transactions) (steps : ℕ) (came : List Came) (here : WalkPlace) (mid : S) (why : Ended) (after : WalkPlace) (new : S) →
    EndsAfter asks steps came (walk_by mid t here) why (walk_by new last after) → EndsAfter other steps came (walk_by (f mid) t here) why (walk_by (f new) last after)
ends_maps f asks other maps t last steps came here mid ended.CaughtUp after new e = (e.0, e.1, e.2, ap f e.3, e.4)
ends_maps f asks other maps t last steps came here mid ended.StepLimit after new e = (e.0, e.1, e.2, ap f e.3, e.4)
ends_maps f asks other maps t last steps came here mid ended.Stopped after new e = (e.0, e.1, e.2, ap f e.3, e.4)
ends_maps f asks other maps t last steps came here mid (ended.Fault e) after new (few, (result, asked, is), at, left) =
    (few, (result, exchanges_maps f asks other maps (towards t.route) (next_invoke t.invoke) _ t.retries mid result new asked, is), at, left)

-- what a run brought
pub brought_maps : {S T : Type 0} (f : S → T) (asks : Asking S) (other : Asking T) → Maps f asks other →
    (t last : Transactions) (old : S) (before : WalkPlace) (steps : ℕ) (came : List Came) (items : List Item) (why : Ended) (after : WalkPlace) (new : S) →
    BroughtBy asks (walk_by old t before) steps came items why (walk_by new last after) → BroughtBy other (walk_by (f old) t before) steps came items why (walk_by (f new) last after)
brought_maps f asks other maps t last old before steps came items why after new run =
    record {
      here = run.here;
      mid = f run.mid;
      half = run.half;
      comes = comes_maps f asks other maps came t run.half old _ run.here run.mid run.comes;
      ends = ends_maps f asks other maps run.half last steps came run.here run.mid why after new run.ends;
      are = run.are;
      few = run.few;
    }

asked_maps : {S T : Type 0} (f : S → T) (asks : Asking S) (other : Asking T) → Maps f asks other →
    (path : Path) (retries : ℕ) (w : WalkPlace) (result : Result (List ℕ) ExchangeFault) (new : S) →
    HasAsked asks path retries w result new → HasAsked other path retries w result (f new)
asked_maps f asks other maps path retries w result new (link, invoke, done) =
    (f link, invoke, exchanges_maps f asks other maps path invoke _ retries link result new done)

-- what it was told last
pub told_maps : {S T : Type 0} (f : S → T) (asks : Asking S) (other : Asking T) → Maps f asks other →
    (path : Path) (retries : ℕ) (why : Ended) (w : WalkPlace) (new : S) → Told asks path retries why w new → Told other path retries why w (f new)
told_maps f asks other maps path retries ended.CaughtUp w new (datagram, asked, taken) =
    (datagram, asked_maps f asks other maps path retries w (Ok datagram) new asked, taken)
told_maps f asks other maps path retries ended.StepLimit w new told = told
told_maps f asks other maps path retries ended.Stopped w new told = told
told_maps f asks other maps path retries (ended.Fault e) w new (result, asked, is) =
    (result, asked_maps f asks other maps path retries w result new asked, is)

-- ---- what each ask keeps, all keep

abbrev pub Itself : {S : Type 0} → (S → S → Type 0) → Type 0
Itself {S = S} R = (a : S) → R a a

abbrev pub Goes : {S : Type 0} → (S → S → Type 0) → Type 0
Goes {S = S} R = (a b c : S) → R a b → R b c → R a c

abbrev pub Each : {S : Type 0} → (S → S → Type 0) → Asking S → Type 0
Each {S = S} R asks = (a b : S) (octets : List ℕ) (answer : Result (List ℕ) Loss) → asks a octets answer b → R a b

same_keeps : {S : Type 0} (R : S → S → Type 0) → Itself R → (old new : S) → new ≡ old → R old new
same_keeps {S = S} R itself old new same = let P : S → Type 0 = λ x. R old x in subst P (sym same) (itself old)

unanswered_keeps : {S : Type 0} (R : S → S → Type 0) (asks : Asking S) → Itself R → Goes R → Each R asks →
    (octets : List ℕ) (n : ℕ) (old new : S) → Unanswered asks octets n old new → R old new
unanswered_keeps R asks itself goes each octets zero old new same = same_keeps R itself old new same
unanswered_keeps R asks itself goes each octets (suc n) old new (mid, answer, rest, asked, none) =
    goes old mid new (unanswered_keeps R asks itself goes each octets n old mid rest) (each mid new octets answer asked)

exchanges_keeps : {S : Type 0} (R : S → S → Type 0) (asks : Asking S) → Itself R → Goes R → Each R asks →
    (path : Path) (invoke : ℕ) (r : Request) (retries : ℕ) (old : S) (result : Result (List ℕ) ExchangeFault) (new : S) →
    Exchanges asks (way_by path invoke retries) r old result new → R old new
exchanges_keeps R asks itself goes each path invoke r retries old (Ok datagram) new (tries, mid, few, before, asked, is) =
    goes old mid new (unanswered_keeps R asks itself goes each (request_octets path invoke r) tries old mid before)
    (each mid new (request_octets path invoke r) (Ok datagram) asked)
exchanges_keeps R asks itself goes each path invoke r retries old (Err (fault.Refused refusal)) new (datagram, (tries, mid, few, before, asked, is)) =
    goes old mid new (unanswered_keeps R asks itself goes each (request_octets path invoke r) tries old mid before)
    (each mid new (request_octets path invoke r) (Ok datagram) asked)
exchanges_keeps R asks itself goes each path invoke r retries old (Err fault.BadReply) new (datagram, (tries, mid, few, before, asked, is)) =
    goes old mid new (unanswered_keeps R asks itself goes each (request_octets path invoke r) tries old mid before)
    (each mid new (request_octets path invoke r) (Ok datagram) asked)
exchanges_keeps R asks itself goes each path invoke r retries old (Err fault.Lost) new tries =
    unanswered_keeps R asks itself goes each (request_octets path invoke r) (retries + 1) old new tries
exchanges_keeps R asks itself goes each path invoke r retries old (Err fault.TooLong) new same = same_keeps R itself old new same

comes_keeps : {S : Type 0} (R : S → S → Type 0) (asks : Asking S) → Itself R → Goes R → Each R asks →
    (path : Path) (retries : ℕ) (old : S) (w : WalkPlace) (came : List Came) (after : WalkPlace) (new : S) →
    Comes (reaching asks path retries) (walk_over old w) came (walk_over new after) → R old new
comes_keeps R asks itself goes each path retries old w [] after new (at, same) = same_keeps R itself old new same
comes_keeps R asks itself goes each path retries old w (c ∷ came) after new (mid, next, p, here, (invoke, asked), taken, items, rest) =
    goes old mid new (exchanges_keeps R asks itself goes each path invoke _ retries old (Ok c.datagram) mid asked)
    (comes_keeps R asks itself goes each path retries mid next came after new rest)

ends_keeps : {S : Type 0} (R : S → S → Type 0) (asks : Asking S) → Itself R → Goes R → Each R asks →
    (path : Path) (retries steps : ℕ) (came : List Came) (here : WalkPlace) (mid : S) (why : Ended) (after : WalkPlace) (new : S) →
    EndsBy (reaching asks path retries) steps came (walk_over mid here) why (walk_over new after) → R mid new
ends_keeps R asks itself goes each path retries steps came here mid ended.CaughtUp after new e = same_keeps R itself mid new e.3
ends_keeps R asks itself goes each path retries steps came here mid ended.StepLimit after new e = same_keeps R itself mid new e.3
ends_keeps R asks itself goes each path retries steps came here mid ended.Stopped after new e = same_keeps R itself mid new e.3
ends_keeps R asks itself goes each path retries steps came here mid (ended.Fault e) after new (few, (result, (invoke, asked), is), at) =
    exchanges_keeps R asks itself goes each path invoke _ retries mid result new asked

-- all of a run
pub brought_keeps : {S : Type 0} (R : S → S → Type 0) (asks : Asking S) → Itself R → Goes R → Each R asks →
    (path : Path) (retries : ℕ) (old : S) (before : WalkPlace) (steps : ℕ) (came : List Came) (items : List Item) (why : Ended) (after : WalkPlace) (new : S) →
    Brought (reaching asks path retries) (walk_over old before) steps came items why (walk_over new after) → R old new
brought_keeps R asks itself goes each path retries old before steps came items why after new (here, mid, comes, ends, are) =
    goes old mid new (comes_keeps R asks itself goes each path retries old _ came here mid comes)
    (ends_keeps R asks itself goes each path retries steps came here mid why after new ends)
