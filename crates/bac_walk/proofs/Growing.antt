-- What comes over a link that stays honest for a log that goes on.
use Rattle.std.proofs.Common.{◌≡◌, ℕ, zero, suc, ◌+◌, ◌-◌, ◌*◌, ◌<◌, ◌≤◌, Bool, false, Option, Result, Ok, Err, List, [], ◌∷◌, length, refl, sym, ap, subst, ◌∙◌, inl, inr, arith}
use Rattle.std.proofs.Math.Nat.{add-mul}
use Rattle.bac_wire.specs.Primitive.{Id}
use Rattle.bac_link.specs.declared.exchanges.ExchangeFault.{ExchangeFault}
use Rattle.bac_link.specs.declared.exchanges.Verdict.{Verdict}
use Rattle.bac_link.specs.declared.exchanges.Verdict.TheVariants as verdict
use Rattle.bac_link.specs.declared.item.Item.{Item}
use Rattle.bac_link.specs.declared.link.Lost.{Lost as Loss}
use Rattle.bac_link.specs.declared.transactions.Transactions.{Transactions}
use Rattle.bac_link.specs.Datagrams.{apdu_in}
use Rattle.bac_link.specs.Delivery.{History, Moment, later}
use Rattle.bac_link.specs.Exchanges.{Answers, Unanswered, way_by}
use Rattle.bac_link.specs.Growing.{Standing, IsStanding, IsOnward, IsGiven, StaysHonest, StaysHonestWhere}
use Rattle.bac_link.specs.Heard.{heard_in}
use Rattle.bac_link.specs.Honest.{IsAskedIn, asked_octets, asked_log}
use Rattle.bac_link.specs.Links.{question}
use Rattle.bac_link.specs.Moments.{NeverGoesBack}
use Rattle.bac_link.specs.Path.{Path, towards}
use Rattle.bac_link.specs.Requests.{next_invoke}
use Rattle.bac_link.specs.Standard.{IsSaidAt}
use Rattle.bac_link.proofs.Growing.{further_on, goes_further, goes_itself, honest_stays, said_on, stays_on, stays_there, within_on}
use Rattle.bac_link.proofs.Honest.{stands_honest}
use Rattle.bac_log.specs.TrendLog.{sequence_number}
use Rattle.bac_walk.specs.Came.{Came, AreSaidAt, BroughtIsDelivered, answers_of, restarted, reaching, walk_over, reaching_by}
use Rattle.bac_walk.specs.Transacted.{AsksBy, BroughtBy, BroughtIntoBy, ComesBy, EndsAfter, asked, spare, walk_by}
use Rattle.bac_walk.proofs.Transacted.{brought_plain}
use Rattle.bac_walk.specs.Collects.{batches}
use Rattle.bac_walk.specs.Growing.{AreLeftAt, DeliversGrowing, GrowingIsDelivered, HasGone, OursStayHonest, most_asks, standing_at}
use Rattle.bac_walk.specs.Honest.{IsHonestEnd, OursAreHonest, log_course}
use Rattle.bac_walk.specs.Meant.{Means}
use Rattle.bac_walk.specs.Place.{WalkPlace}
use Rattle.bac_walk.specs.Walks.{asked_by, question_of}
use Rattle.bac_walk.specs.declared.outcome.Ended.{Ended}
use Rattle.bac_walk.specs.declared.outcome.Ended.TheVariants.{CaughtUp as IsUp, StepLimit, Stopped, Fault}
use Rattle.bac_walk.specs.declared.outcome.Progress.{Progress}
use Rattle.bac_walk.specs.declared.outcome.Progress.TheVariants.{Batch as BatchOf, AskOldest, CaughtUp}
use Rattle.bac_walk.specs.declared.outcome.WalkFault.TheVariants.{Lost, Refused, BadReply}
use Rattle.bac_walk.proofs.Asking.{asked_in}
use Rattle.bac_walk.proofs.Ack.{is_ack}
use Rattle.bac_walk.proofs.Standard.{said_means}
use Rattle.bac_walk.proofs.Back.{never_back}
use Rattle.bac_walk.proofs.Came.{brought_ran, cut_of, delivered_to}
use Rattle.bac_walk.proofs.Honest.{as_ended}
use Rattle.bac_walk.specs.Outcomes.{IsRunOf}
use Rattle.bac_walk.specs.Sinks.{Call, Takes, is_stopped, put_items, sink_filled}
use Rattle.bac_walk.specs.Told.{ended_of}
use Rattle.bac_walk.specs.declared.batch.Gap.{Gap as GapOf}
use Rattle.bac_walk.specs.declared.batch.Numbered.{Numbered}
use Rattle.bac_walk.specs.declared.outcome.Why.{Why}
use Rattle.bac_walk.specs.declared.outcome.Why.TheVariants.{CaughtUp as WasUp, StepLimit as WasLimit, Fault as WasFault, Memory}
use Rattle.bac_link.specs.Moments.{AreServed}

abbrev Asking : Type 0 → Type 1
Asking S = S → List ℕ → Result (List ℕ) Loss → S → Type 0

abbrev Standings : Type 0 → Type 1
Standings S = ℕ → S → Standing → Type 0

-- what holds where a walk is asked for
record Place (low : ℕ) (log : Id) (count : ℕ) (w : WalkPlace) : Type 0 where
  ordinal : ℕ
  log_is : w.log ≡ log
  count_is : w.count ≡ count
  next : w.next ≡ sequence_number ordinal
  at : w.fresh ≡ false → (low ≤ ordinal) × (ordinal < low + 2147483648)

abbrev asked_for : Path → ℕ → WalkPlace → List ℕ
asked_for path invoke w = asked_octets path invoke w.log (asked_by w)

-- ---- asks

-- where a link stands next
abbrev Reaches : {S : Type 0} → Standings S → ℕ → Standing → ℕ → S → Type 0
Reaches stands low at more link = (next : Standing) × IsOnward low at next × stands more link next

-- what one ask of the walk's question brings
one_ask : {S : Type 0} (asks : Asking S) (stands : Standings S) (path : Path) (log : Id) (count low more : ℕ) (at : Standing) (w : WalkPlace) (invoke : ℕ) (old new : S) (answer : Result (List ℕ) Loss) →
    StaysHonestWhere asks (asked_log path log count) low stands → Place low log count w → stands (suc more) old at → asks old (asked_for path invoke w) answer new →
    (next : Standing) × IsOnward low at next × IsGiven next w.log (asked_by w) (asked_for path invoke w) answer × stands more new next
one_ask asks stands path log count low more at w invoke old new answer honest here stood asked =
    let P : Id → Type 0 = λ i. asks old (asked_octets path invoke i (asked_by w)) answer new in
    let Q : Id → Type 0 = λ i. (next : Standing) × IsOnward low at next × IsGiven next i (asked_by w) (asked_octets path invoke i (asked_by w)) answer × stands more new next in
    subst Q (sym here.log_is) (honest.goes_on more old new at (asked_by w) invoke answer stood (subst (λ n. IsAskedIn low n (asked_by w)) here.count_is (asked_in w low here.ordinal here.next here.at)) (subst P here.log_is asked))

unanswered : {S : Type 0} (asks : Asking S) (stands : Standings S) (path : Path) (log : Id) (count low more : ℕ) (at : Standing) (w : WalkPlace) (invoke n : ℕ) (old new : S) →
    StaysHonestWhere asks (asked_log path log count) low stands → Place low log count w → IsStanding low at → stands (n + more) old at → Unanswered asks (asked_for path invoke w) n old new →
    Reaches stands low at more new
unanswered asks stands path log count low more at w invoke zero old new honest here is stood none =
    let e : 0 + more ≡ more = omega arith in
    (at, stays_there low at is, subst (λ x. stands more x at) (sym none) (subst (λ k. stands k old at) e stood))
unanswered asks stands path log count low more at w invoke (suc n) old new honest here is stood (mid, answer, first, ask, none) =
    let e : suc n + more ≡ n + suc more = omega arith in
    let x = unanswered asks stands path log count low (suc more) at w invoke n old mid honest here is (subst (λ k. stands k old at) e stood) first in
    let y = one_ask asks stands path log count low more x.0 w invoke mid new answer honest here x.2 ask in
    (y.0, further_on low at x.0 y.0 x.1 y.1, y.3)

-- for fewer asks
fewer_by : {S : Type 0} (asks : Asking S) (stands : Standings S) (path : Path) (log : Id) (count low j more : ℕ) (link : S) (at : Standing) → StaysHonestWhere asks (asked_log path log count) low stands →
    stands (j + more) link at → stands more link at
fewer_by asks stands path log count low zero more link at honest stood =
    let e : 0 + more ≡ more = omega arith in subst (λ k. stands k link at) e stood
fewer_by asks stands path log count low (suc j) more link at honest stood =
    let e : suc j + more ≡ suc (j + more) = omega arith in
    fewer_by asks stands path log count low j more link at honest (honest.fewer (j + more) link at (subst (λ k. stands k link at) e stood))

answered : {S : Type 0} (asks : Asking S) (stands : Standings S) (path : Path) (log : Id) (count low more : ℕ) (at : Standing) (w : WalkPlace) (invoke retries : ℕ) (v : Verdict) (old : S) (datagram : List ℕ) (new : S) →
    StaysHonestWhere asks (asked_log path log count) low stands → Place low log count w → IsStanding low at → stands ((retries + 1) + more) old at →
    Answers asks (way_by path invoke retries) (question w.log (question_of w)) v old datagram new →
    (next : Standing) × IsOnward low at next × IsSaidAt next.moment next.history w.log (asked_by w) datagram × stands more new next × (v ≡ verdict.Ack)
answered asks stands path log count low more at w invoke retries v old datagram new honest here is stood (tries, mid, few, first, ask, answer) =
    let j : ℕ = retries - tries in
    let e : (retries + 1) + more ≡ tries + suc (j + more) = omega (arith, few) in
    let x = unanswered asks stands path log count low (suc (j + more)) at w invoke tries old mid honest here is (subst (λ k. stands k old at) e stood) first in
    let y = one_ask asks stands path log count low (j + more) x.0 w invoke mid new (Ok datagram) honest here x.2 ask in
    let said = y.2 answer.0 in (
      y.0,
      further_on low at x.0 y.0 x.1 y.1,
      said,
      fewer_by asks stands path log count low j more new y.0 honest y.3,
      sym answer.1 ∙ is_ack w.log (question_of w) (apdu_in datagram) said.heard said.reads,
    )

-- the invoke ID of the next exchange
abbrev invoke_of : Transactions → ℕ
invoke_of t = next_invoke t.invoke

-- ---- replies

after_reply : (H : History) (m : Moment) (low : ℕ) (log : Id) (count : ℕ) (w next : WalkPlace) (p : Progress) → (here : Place low log count w) → Means H m low here.ordinal w p next → Place low log count next
after_reply H m low log count w next (BatchOf b) here means = record {
  ordinal = means.0;
  log_is = ap (λ (v : WalkPlace). v.log) means.2 ∙ here.log_is;
  count_is = ap (λ (v : WalkPlace). v.count) means.2 ∙ here.count_is;
  next = ap (λ (v : WalkPlace). v.next) means.2;
  at = λ f. (means.3, means.4);
}
after_reply H m low log count w next AskOldest here means = record {
  ordinal = here.ordinal;
  log_is = ap (λ (v : WalkPlace). v.log) means.2 ∙ here.log_is;
  count_is = ap (λ (v : WalkPlace). v.count) means.2 ∙ here.count_is;
  next = ap (λ (v : WalkPlace). v.next) means.2 ∙ here.next;
  at = λ f. here.at (sym (ap (λ (v : WalkPlace). v.fresh) means.2) ∙ f);
}
after_reply H m low log count w next CaughtUp here means = record {
  ordinal = here.ordinal;
  log_is = ap (λ (v : WalkPlace). v.log) means.2 ∙ here.log_is;
  count_is = ap (λ (v : WalkPlace). v.count) means.2 ∙ here.count_is;
  next = ap (λ (v : WalkPlace). v.next) means.2 ∙ here.next;
  at = λ f. here.at (sym (ap (λ (v : WalkPlace). v.fresh) means.2) ∙ f);
}

pub later_of : (m : Moment) (M : List Moment) → 0 < length M → later (m ∷ M) ≡ M
later_of m [] some = absurd (omega (arith, some))
later_of m (n ∷ M) some = refl

-- what replies came to, and the end
abbrev Went : {S : Type 0} (asks : Asking S) (stands : Standings S) (low more : ℕ) (at : Standing) (first : Transactions) (old : S) (w : WalkPlace) (came : List Came) (here : WalkPlace) (last : Transactions) (mid new : S)
    (ended : Ended) → ComesBy asks (walk_by old first w) came (walk_by mid last here) → Type 0
Went {S = S} asks stands low more at first old w came here last mid new ended comes =
    (H : History) × (M : List Moment) × HasGone low at H M (length came) × AreSaidAt H M came
    × AreLeftAt asks stands (walk_by old first w) came (walk_by mid last here) comes (log_course H M)
    × stands more new (standing_at H M (length came)) × IsHonestEnd ended

-- a reply, and those after it
with_reply : {S : Type 0} (asks : Asking S) (stands : Standings S) (low more left : ℕ) (at then : Standing) (first : Transactions) (old : S) (w : WalkPlace) (c : Came) (came : List Came) (here : WalkPlace) (last : Transactions) (mid new : S)
    (ended : Ended) → IsOnward low at then → IsSaidAt then.moment then.history c.place.log (asked_by c.place) c.datagram →
    (comes : ComesBy asks (walk_by old first w) (c ∷ came) (walk_by mid last here)) → stands left comes.0 then → Went asks stands low more then (asked w first) comes.0 comes.1 came here last mid new ended comes.7 →
    Went asks stands low more at first old w (c ∷ came) here last mid new ended comes
with_reply {S = S} asks stands low more left at then first old w c came here last mid new ended on said comes stood (H, M, gone, says, are, end, honest) =
    let some : 0 < length M = omega (arith, gone.many) in
    let same = sym (later_of then.moment M some) in
    let A : List Moment → Type 0 = λ N. AreSaidAt H N came in
    let L : List Moment → Type 0 = λ N. AreLeftAt asks stands (walk_by comes.0 (asked w first) comes.1) came (walk_by mid last here) comes.7 (log_course H N) in
    let E : List Moment → Type 0 = λ N. stands more new (standing_at H N (length came)) in (
      H,
      then.moment ∷ M,
      record {
        goes_on = goes_further at.history then.history H on.goes_on gone.goes_on;
        many = omega (arith, gone.many);
        back = (on.oldest, on.newest, gone.back);
        window = (on.stands.window, gone.window);
        within = (within_on low then H on.stands gone.goes_on, gone.within);
      },
      (said_on then.history H then.moment c.place.log (asked_by c.place) c.datagram gone.goes_on said, subst A same says),
      ((left, then.history, gone.goes_on, stood), subst L same are),
      subst E same end,
      honest,
    )

-- at the end the link stands where the log came to
abbrev Ends : {S : Type 0} → Standings S → ℕ → ℕ → WalkPlace → Id → (count : ℕ) → ℕ → S → S → Ended → Type 0
Ends stands low more here log count left mid new ended =
    (at : Standing) → IsStanding low at → Place low log count here → stands left mid at →
    (next : Standing) × IsOnward low at next × stands more new next × IsHonestEnd ended

came_went : {S : Type 0} (asks : Asking S) (stands : Standings S) (log : Id) (count low left more : ℕ) (came : List Came) (at : Standing) (first : Transactions) (old : S) (w here : WalkPlace) (last : Transactions) (mid new : S) (ended : Ended) →
    StaysHonestWhere asks (asked_log (towards first.route) log count) low stands → Place low log count w → IsStanding low at → stands (length came * (first.retries + 1) + left) old at →
    (comes : ComesBy asks (walk_by old first w) came (walk_by mid last here)) → Ends stands low more here log count left mid new ended → Went asks stands low more at first old w came here last mid new ended comes
came_went {S = S} asks stands log count low left more [] at first old w here last mid new ended honest place is stood comes ends =
    let e : 0 * (first.retries + 1) + left ≡ left = omega arith in
    let x = ends at is (subst (λ v. Place low log count v) (sym comes.0) place) (subst (λ l. stands left l at) (sym comes.1) (subst (λ k. stands k old at) e stood)) in (
      x.0.history,
      x.0.moment ∷ [],
      record {
        goes_on = x.1.goes_on;
        many = refl;
        back = (x.1.oldest, x.1.newest, tt);
        window = (x.1.stands.window, tt);
        within = (x.1.stands.within, tt);
      },
      tt,
      tt,
      x.2,
      x.3,
    )
came_went {S = S} asks stands log count low left more (c ∷ came) at first old w here last mid new ended honest place is stood comes ends =
    let rest : ℕ = length came * (first.retries + 1) + left in
    let e : suc (length came) * (first.retries + 1) + left ≡ (first.retries + 1) + rest = omega (arith, add-mul 1 (length came) (first.retries + 1)) in
    let a = answered asks stands (towards first.route) log count low rest at w (invoke_of first) first.retries verdict.Ack old c.datagram comes.0 honest place is (subst (λ k. stands k old at) e stood) comes.4 in
    let means = said_means a.0.history a.0.moment low place.ordinal w (heard_in w.log c.datagram) a.2.heard (Ok comes.2) comes.1 a.2.reads a.2.asks a.1.stands.window place.next place.at a.2.counts a.2.says comes.5 in
    let P : WalkPlace → Type 0 = λ v. IsSaidAt a.0.moment a.0.history v.log (asked_by v) c.datagram in
    with_reply asks stands low more rest at a.0 first old w c came here last mid new ended a.1 (subst P (sym comes.3) a.2) comes a.3
    (came_went asks stands log count low left more came a.0 (asked w first) comes.0 comes.1 here last mid new ended honest (after_reply a.0.history a.0.moment low log count w comes.1 comes.2 place means) a.1.stands a.3 comes.7 ends)

-- ---- a run

-- how the run ends takes so many asks more
abbrev last_asks : Ended → ℕ → ℕ
last_asks IsUp retries = 0
last_asks StepLimit retries = 0
last_asks Stopped retries = 0
last_asks (Fault f) retries = retries + 1

same_end : {S : Type 0} (stands : Standings S) (log : Id) (count low more : ℕ) (here : WalkPlace) (mid new : S) (ended : Ended) → IsHonestEnd ended → new ≡ mid → Ends stands low more here log count (0 + more) mid new ended
same_end stands log count low more here mid new ended honest same = λ at is place stood.
    let e : 0 + more ≡ more = omega arith in
    (at, stays_there low at is, subst (λ l. stands more l at) (sym same) (subst (λ k. stands k mid at) e stood), honest)

run_ends : {S : Type 0} (asks : Asking S) (stands : Standings S) (log : Id) (count low more steps : ℕ) (first : Transactions) (came : List Came) (here after : WalkPlace) (last : Transactions) (mid new : S) (ended : Ended) →
    StaysHonestWhere asks (asked_log (towards first.route) log count) low stands → EndsAfter asks steps came (walk_by mid first here) ended (walk_by new last after) → Ends stands low more here log count (last_asks ended first.retries + more) mid new ended
run_ends asks stands log count low more steps first came here after last mid new IsUp honest ends = same_end stands log count low more here mid new IsUp tt ends.3
run_ends asks stands log count low more steps first came here after last mid new StepLimit honest ends = same_end stands log count low more here mid new StepLimit tt ends.3
run_ends asks stands log count low more steps first came here after last mid new Stopped honest ends = same_end stands log count low more here mid new Stopped tt ends.3
run_ends asks stands log count low more steps first came here after last mid new (Fault Lost) honest ends = λ at is place stood.
    let x = ends.1 in
    let P : Result (List ℕ) ExchangeFault → Type 0 = λ r. AsksBy asks first mid here r new in
    let u = unanswered asks stands (towards first.route) log count low more at here (invoke_of first) (first.retries + 1) mid new honest place is stood (subst P x.2 x.1) in
    (u.0, u.1, u.2, tt)
run_ends asks stands log count low more steps first came here after last mid new (Fault (Refused refusal)) honest ends = λ at is place stood.
    let x = ends.1 in
    let P : Result (List ℕ) ExchangeFault → Type 0 = λ r. AsksBy asks first mid here r new in
    let a = subst P x.2 x.1 in
    let b = answered asks stands (towards first.route) log count low more at here (invoke_of first) first.retries (verdict.Refused refusal) mid a.0 new honest place is stood a.1 in
    absurd (let e = b.4 in cc)
run_ends asks stands log count low more steps first came here after last mid new (Fault BadReply) honest ends = λ at is place stood.
    let x = ends.1 in
    let P : Result (List ℕ) ExchangeFault → Type 0 = λ r. AsksBy asks first mid here r new in
    elim x.2 [
      | inl unread ↦
          let a = subst P unread x.1 in
          let b = answered asks stands (towards first.route) log count low more at here (invoke_of first) first.retries verdict.BadReply mid a.0 new honest place is stood a.1 in
          absurd (let e = b.4 in cc)
      | inr (datagram, why, ok, taken) ↦
          let a = subst P ok x.1 in
          let b = answered asks stands (towards first.route) log count low more at here (invoke_of first) first.retries verdict.Ack mid datagram new honest place is stood a in
          absurd (said_means b.0.history b.0.moment low place.ordinal here (heard_in here.log datagram) b.2.heard (Err why) here b.2.reads b.2.asks b.1.stands.window place.next place.at b.2.counts b.2.says taken)
    ]

-- so many of these are questions
abbrev lasts : Ended → ℕ
lasts IsUp = 0
lasts StepLimit = 0
lasts Stopped = 0
lasts (Fault f) = 1

last_is : (ended : Ended) (retries : ℕ) → last_asks ended retries ≡ lasts ended * (retries + 1)
last_is IsUp retries = omega arith
last_is StepLimit retries = omega arith
last_is Stopped retries = omega arith
last_is (Fault f) retries = omega arith

-- a run has at most two questions a step
few_questions : {S : Type 0} (asks : Asking S) (first : Transactions) (steps : ℕ) (came : List Came) (here after : WalkPlace) (last : Transactions) (mid new : S) (ended : Ended) →
    EndsAfter asks steps came (walk_by mid first here) ended (walk_by new last after) → length came ≤ 2 * batches (answers_of came) + spare ended → length came + lasts ended ≤ 2 * steps
few_questions asks first steps came here after last mid new IsUp ends few = omega (arith, ends.1, few)
few_questions asks first steps came here after last mid new StepLimit ends few = omega (arith, ends.1, few)
few_questions asks first steps came here after last mid new Stopped ends few = omega (arith, ends.2, few)
few_questions asks first steps came here after last mid new (Fault f) ends few = omega (arith, ends.0, few)

split_asks : (steps retries c l more : ℕ) → c + l ≤ 2 * steps →
    most_asks steps retries + more ≡ (2 * steps - (c + l)) * (retries + 1) + (c * (retries + 1) + (l * (retries + 1) + more))
split_asks steps retries c l more few =
    let d : ℕ = 2 * steps - (c + l) in
    let e : 2 * steps ≡ d + (c + l) = omega (arith, few) in
    let P : ℕ → Type 0 = λ n. n * (retries + 1) + more ≡ d * (retries + 1) + (c * (retries + 1) + (l * (retries + 1) + more)) in
    subst P (sym e) (omega (arith, add-mul d (c + l) (retries + 1), add-mul c l (retries + 1)))

-- the way and the retries stay
ways_stay : {S : Type 0} (asks : Asking S) (came : List Came) (first : Transactions) (old : S) (w here : WalkPlace) (last : Transactions) (mid : S) → ComesBy asks (walk_by old first w) came (walk_by mid last here) →
    (last.route ≡ first.route) × (last.retries ≡ first.retries)
ways_stay asks [] first old w here last mid comes = (ap (λ (t : Transactions). t.route) comes.2, ap (λ (t : Transactions). t.retries) comes.2)
ways_stay asks (c ∷ came) first old w here last mid comes = ways_stay asks came (asked w first) comes.0 comes.1 here last mid comes.7

back_of : (m : Moment) (M : List Moment) → NeverGoesBack (m ∷ M) → NeverGoesBack M
back_of m [] back = tt
back_of m (n ∷ M) back = back.2

run_went : {S : Type 0} (asks : Asking S) (stands : Standings S) (first last : Transactions) (old new : S) (w after : WalkPlace) (steps : ℕ) (came : List Came) (items : List Item) (ended : Ended) (at : Standing) (low s more : ℕ) →
    StaysHonestWhere asks (asked_log (towards first.route) w.log w.count) low stands → stands (most_asks steps first.retries + more) old at → IsStanding low at → (run : BroughtBy asks (walk_by old first w) steps came items ended (walk_by new last after)) →
    w.next ≡ sequence_number s → (w.fresh ≡ false → (low ≤ s) × (s < low + 2147483648)) →
    Went asks stands low more at first old (restarted w) came run.here run.half run.mid new ended run.comes
run_went {S = S} asks stands first last old new w after steps came items ended at low s more honest stood is run next window =
    let r : ℕ = first.retries in
    let place : Place low w.log w.count (restarted w) = record { ordinal = s; log_is = refl; count_is = refl; next = next; at = window } in
    let ways = ways_stay asks came first old (restarted w) run.here run.half run.mid run.comes in
    let few = few_questions asks run.half steps came run.here after last run.mid new ended run.ends run.few in
    let left : ℕ = last_asks ended r + more in
    let all : most_asks steps r + more ≡ (2 * steps - (length came + lasts ended)) * (r + 1) + (length came * (r + 1) + left) =
    split_asks steps r (length came) (lasts ended) more few ∙ ap (λ n. (2 * steps - (length came + lasts ended)) * (r + 1) + (length came * (r + 1) + (n + more))) (sym (last_is ended r)) in
    let begun = fewer_by asks stands (towards first.route) w.log w.count low ((2 * steps - (length came + lasts ended)) * (r + 1)) (length came * (r + 1) + left) old at honest (subst (λ n. stands n old at) all stood) in
    let there = subst (λ y. StaysHonestWhere asks (asked_log (towards y) w.log w.count) low stands) (sym ways.0) honest in
    let E : ℕ → Type 0 = λ k. Ends stands low more run.here w.log w.count (last_asks ended k + more) run.mid new ended in
    came_went asks stands w.log w.count low left more came at first old (restarted w) run.here run.half run.mid new ended honest place is begun run.comes
    (subst E ways.1 (run_ends asks stands w.log w.count low more steps run.half came run.here after last run.mid new ended there run.ends))

pub growing_delivers : {S : Type 0} (asks : Asking S) (stands : Standings S) → BroughtIsDelivered asks → GrowingIsDelivered asks stands
growing_delivers asks stands law = λ first last old new w after steps came items ended at low s more honest stood is run next window.
    let went = run_went asks stands first last old new w after steps came items ended at low s more honest stood is run next window in (
      went.0,
      went.1,
      went.2,
      went.3,
      went.4,
      went.5,
      went.6,
      law (towards first.route) first.retries old new w after steps came items ended went.0 went.1 low s
          (brought_plain asks first last old new w after steps came items ended run) went.3 next (omega (arith, went.2.many)) (back_of at.moment went.1 went.2.back) went.2.window window,
    )

-- ---- what a run delivers

pub delivers_growing : {S : Type 0} (asks : Asking S) (first last : Transactions) (old new : S) (w after : WalkPlace) (steps : ℕ) (items : List Item) (ended : Ended) →
    (came : List Came) × BroughtBy asks (walk_by old first w) steps came items ended (walk_by new last after) → DeliversGrowing (reaching_by asks first) (walk_over old w) steps items ended (walk_over new after)
delivers_growing {S = S} asks first last old new w after steps items ended (came, run) = λ at s low more honest is next window.
    let path = towards first.route in
    let stands : Standings S = λ n link at. StaysHonest asks (asked_log path w.log w.count) low n link at in
    let went = run_went asks stands first last old new w after steps came items ended at low s more (stays_on asks path w.log w.count low) honest is run next window in
    let H = went.0 in
    let M = went.1 in
    let plain = brought_plain asks first last old new w after steps came items ended run in
    let ran = brought_ran asks path first.retries old new w after steps came items ended H M low s plain went.3 next (omega (arith, went.2.many)) (back_of at.moment M went.2.back) went.2.window window in
    let cut = cut_of ended came items after run.are in (
      record {
        history = H;
        moments = M;
        came = came;
        here = plain.0;
        mid = plain.1;
        from = ran.0;
        to = ran.1;
        comes = plain.2;
        gone = went.2;
        said = went.3;
        brought = record { start = ran.2; reached = ran.4.0; leads = ran.4.1; dropped = cut.0; all = cut.1; whole = cut.2; within = cut.3 };
        next = ran.3;
        delivers = delivered_to H M ran.0 ran.1 items came ran.5;
        caught_up = ran.6;
        end = went.6;
      },
      went.5,
    )

-- of fewer steps
growing_fewer : {S : Type 0} (asks : Asking S) (path : Path) (retries : ℕ) (old new : S) (w after : WalkPlace) (n steps : ℕ) (items : List Item) (ended : Ended) → n ≤ steps →
    DeliversGrowing (reaching asks path retries) (walk_over old w) n items ended (walk_over new after) → DeliversGrowing (reaching asks path retries) (walk_over old w) steps items ended (walk_over new after)
growing_fewer {S = S} asks path retries old new w after n steps items ended le delivers = λ at s low more honest is next window.
    let d : ℕ = (2 * (steps - n)) * (retries + 1) in
    let twice : 2 * steps ≡ 2 * n + 2 * (steps - n) = omega (arith, le) in
    let P : ℕ → Type 0 = λ k. k * (retries + 1) + more ≡ most_asks n retries + (d + more) in
    let e : most_asks steps retries + more ≡ most_asks n retries + (d + more) = subst P (sym twice) (omega (arith, add-mul (2 * n) (2 * (steps - n)) (retries + 1))) in
    let stands : Standings S = λ k link at. StaysHonest asks (asked_log path w.log w.count) low k link at in
    let x = delivers at s low (d + more) (subst (λ k. StaysHonest asks (asked_log path w.log w.count) low k old at) e honest) is next window in
    (x.0, fewer_by asks stands path w.log w.count low d more new (standing_at x.0.history x.0.moments (length x.0.came)) (stays_on asks path w.log w.count low) x.1)

pub few_steps : (why : Why) (steps n : ℕ) (ended : Ended) → IsRunOf why steps n ended → n ≤ steps
few_steps WasUp steps n ended run = omega (arith, run.0)
few_steps WasLimit steps n ended run = omega (arith, run.0)
few_steps (WasFault e) steps n ended run = omega (arith, run.0)
few_steps Memory steps n ended run = omega (arith, run.0)

pub growing_run : {S : Type 0} (asks : Asking S) (first last : Transactions) (old new : S) (w after : WalkPlace) (steps : ℕ) (items : List Item) (why : Why) →
    (n : ℕ) × (ended : Ended) × IsRunOf why steps n ended × ((came : List Came) × BroughtBy asks (walk_by old first w) n came items ended (walk_by new last after)) →
    DeliversGrowing (reaching_by asks first) (walk_over old w) steps items (ended_of why) (walk_over new after)
growing_run asks first last old new w after steps items why (n, ended, run, brought) =
    let P : Ended → Type 0 = λ e. DeliversGrowing (reaching_by asks first) (walk_over old w) steps items e (walk_over new after) in
    subst P (as_ended why steps n ended run)
    (growing_fewer asks (towards first.route) first.retries old new w after n steps items ended (few_steps why steps n ended run) (delivers_growing asks first last old new w after n items ended brought))

pub into_growing : {S T : Type 0} (asks : Asking S) (first last : Transactions) (puts : T → Option GapOf → Numbered → Bool → T → Type 0) (old new : S) (sink left : T) (w after : WalkPlace) (steps : ℕ) (ended : Ended) →
    BroughtIntoBy asks (sink_filled puts sink left) (walk_by old first w) steps ended (walk_by new last after) →
    (calls : List Call) × Takes puts sink calls (is_stopped ended) left × DeliversGrowing (reaching_by asks first) (walk_over old w) steps (put_items calls) ended (walk_over new after)
into_growing asks first last puts old new sink left w after steps ended (calls, takes, few, gaps, brought) =
    (calls, takes, delivers_growing asks first last old new w after steps (put_items calls) ended brought)

-- ---- links of ours

pub ours_stay : {S : Type 0} (asks : Asking S) (ours : S → Id → ℕ → List Moment → History → Type 0) →
    ((link : S) (id : Id) (r : ℕ) (M : List Moment) (H : History) → ours link id r M H → AreServed r M H) → OursAreHonest asks ours → OursStayHonest asks ours
ours_stay asks ours serves honest = λ place log count r H M low more link way valid many stood window.
    let served = serves link log r M H stood in
    let back = never_back r M H served in
    let is = stands_honest asks (λ l N. ours l log r N H) (towards place) log count H low link M (honest place log count r H low way valid many) stood more in
    honest_stays asks (towards place) log count H H low more link M is back.0 back.1 window (goes_itself H) served.entries
