-- What comes over a link that is honest for a log.
use Rattle.std.proofs.Common.{◌≡◌, ℕ, zero, suc, ◌+◌, ◌*◌, ◌<◌, ◌≤◌, Bool, false, Option, Result, Ok, Err, List, [], ◌∷◌, ◌++◌, length, length-append, drop, append_assoc, refl, sym, ap, subst, ◌∙◌, inl, inr, arith}
use Rattle.bac_wire.specs.Primitive.{Id}
use Rattle.bac_link.specs.declared.exchanges.ExchangeFault.{ExchangeFault}
use Rattle.bac_link.specs.declared.link.Lost.{Lost as Loss}
use Rattle.bac_link.specs.declared.exchanges.Verdict.{Verdict}
use Rattle.bac_link.specs.declared.exchanges.Verdict.TheVariants as verdict
use Rattle.bac_link.specs.Datagrams.{apdu_in}
use Rattle.bac_link.specs.Delivery.{History, Moment, Leads, items_of, now, later}
use Rattle.bac_link.specs.Exchanges.{Answers, IsNoAnswer, Unanswered, way_by}
use Rattle.bac_link.specs.Laws.{after_answers}
use Rattle.std.proofs.lemmas.Grind.{flat_map-append}
use Rattle.bac_link.proofs.Delivers.{leads-append}
use Rattle.bac_link.specs.Links.{question}
use Rattle.bac_link.specs.Path.{Path, towards}
use Rattle.bac_link.specs.declared.transactions.Transactions.{Transactions}
use Rattle.bac_log.specs.TrendLog.{sequence_number}
use Rattle.bac_link.specs.Moments.{NeverGoesBack}
use Rattle.bac_walk.specs.Came.{Came, Asks, Comes, AreSaidAt, EndsBy, EndsWith, IsCutIn, answers_of, restarted, reaching, walk_over}
use Rattle.bac_link.specs.Moments.{AreInWindow}
use Rattle.bac_walk.specs.Place.{WalkPlace}
use Rattle.bac_link.specs.Heard.{heard_in}
use Rattle.bac_walk.specs.Collects.{IsCaughtUp, batches}
use Rattle.bac_walk.specs.Honest.{DeliversIn, DeliversSaid, IsHonestEnd, IsLeftAt, HonestIsDelivered, log_course}
use Rattle.bac_link.specs.Honest.{IsAskedIn, IsSaidOrLost, IsHonest, IsHonestWhere, asked_octets, asked_log}
use Rattle.bac_link.proofs.Honest.{goes_on}
use Rattle.bac_link.specs.Standard.{IsSaidAt}
use Rattle.bac_walk.specs.Walks.{asked_by, question_of}
use Rattle.bac_walk.proofs.Ack.{is_ack}
use Rattle.bac_walk.proofs.Asking.{asked_in}
use Rattle.bac_walk.specs.declared.outcome.Ended.{Ended}
use Rattle.bac_walk.specs.declared.outcome.Ended.TheVariants.{CaughtUp as IsUp, StepLimit, Stopped, Fault}
use Rattle.bac_walk.specs.declared.outcome.Progress.{Progress}
use Rattle.bac_walk.specs.declared.outcome.Progress.TheVariants.{Batch as BatchOf, AskOldest, CaughtUp}
use Rattle.bac_walk.specs.declared.outcome.WalkFault.TheVariants.{Lost, Refused, BadReply}
use Rattle.bac_walk.specs.Delivers.{NoneFrom}
use Rattle.bac_walk.proofs.Joins.{after_answers-add, batches-append}
use Rattle.bac_walk.proofs.Transacted.{brought_plain}
use Rattle.bac_walk.specs.Transacted.{BroughtBy, BroughtIntoBy, spare, walk_by}
use Rattle.bac_walk.proofs.Window.{stays_in_window}
use Rattle.bac_walk.proofs.Came.{Asking, answers_came, back_later, brought_delivers, brought_ran, cut_of, some_later, start_old, window_later, window_now}
use Rattle.bac_link.specs.declared.item.Item.{Item}
use Rattle.bac_walk.specs.Meant.{Means}
use Rattle.bac_walk.specs.Outcomes.{IsRunOf}
use Rattle.bac_walk.specs.Sinks.{Call, Takes, is_stopped, put_items, sink_filled}
use Rattle.bac_walk.specs.Told.{ended_of}
use Rattle.bac_walk.specs.declared.batch.Gap.{Gap as GapOf}
use Rattle.bac_walk.specs.declared.batch.Numbered.{Numbered}
use Rattle.bac_walk.specs.declared.outcome.Why.{Why}
use Rattle.bac_walk.specs.declared.outcome.Why.TheVariants.{CaughtUp as WasUp, StepLimit as WasLimit, Fault as WasFault, Memory}
use Rattle.bac_walk.proofs.Standard.{said_means}

-- ---- an exchange

-- what holds where a walk is asked for
record Here (low : ℕ) (log : Id) (count : ℕ) (M : List Moment) (w : WalkPlace) : Type 0 where
  ordinal : ℕ
  log_is : w.log ≡ log
  count_is : w.count ≡ count
  next : w.next ≡ sequence_number ordinal
  some : 0 < length M
  window : AreInWindow low M
  at : w.fresh ≡ false → (low ≤ ordinal) × (ordinal < low + 2147483648)

abbrev asked_for : Path → ℕ → WalkPlace → List ℕ
asked_for path invoke w = asked_octets path invoke w.log (asked_by w)

-- what one ask of the walk's question brings
one_ask : {S : Type 0} (asks : Asking S) (stands : S → List Moment → Type 0) (path : Path) (log : Id) (count : ℕ) (H : History) (low : ℕ) (M : List Moment) (w : WalkPlace) (invoke : ℕ) (old new : S) (answer : Result (List ℕ) Loss) →
    IsHonestWhere asks (asked_log path log count) H low stands → Here low log count M w → stands old M → asks old (asked_for path invoke w) answer new →
    IsSaidOrLost (λ N. stands new N) M H w.log (asked_by w) (asked_for path invoke w) answer
one_ask asks stands path log count H low M w invoke old new answer honest here at asked =
    let P : Id → Type 0 = λ i. asks old (asked_octets path invoke i (asked_by w)) answer new in
    let Q : Id → Type 0 = λ i. IsSaidOrLost (λ N. stands new N) M H i (asked_by w) (asked_octets path invoke i (asked_by w)) answer in
    subst Q (sym here.log_is) (honest old new M (asked_by w) invoke answer at here.some here.window (subst (λ n. IsAskedIn low n (asked_by w)) here.count_is (asked_in w low here.ordinal here.next here.at)) (subst P here.log_is asked))

unanswered : {S : Type 0} (asks : Asking S) (stands : S → List Moment → Type 0) (path : Path) (log : Id) (count : ℕ) (H : History) (low : ℕ) (M : List Moment) (w : WalkPlace) (invoke n : ℕ) (old mid : S) →
    IsHonestWhere asks (asked_log path log count) H low stands → Here low log count M w → stands old M → Unanswered asks (asked_for path invoke w) n old mid → stands mid M
unanswered asks stands path log count H low M w invoke zero old mid honest here at none = subst (λ x. stands x M) (sym none) at
unanswered asks stands path log count H low M w invoke (suc n) old mid honest here at (before, answer, first, asked, none) =
    let at_before = unanswered asks stands path log count H low M w invoke n old before honest here at first in
    last answer (one_ask asks stands path log count H low M w invoke before mid answer honest here at_before asked) none
  where
    last : (answer : Result (List ℕ) Loss) → IsSaidOrLost (λ N. stands mid N) M H w.log (asked_by w) (asked_for path invoke w) answer → IsNoAnswer (asked_for path invoke w) answer → stands mid M
    last (Ok datagram) said none = said.1 none
    last (Err lost) said none = said

answered : {S : Type 0} (asks : Asking S) (stands : S → List Moment → Type 0) (path : Path) (log : Id) (count : ℕ) (H : History) (low : ℕ) (M : List Moment) (w : WalkPlace) (invoke retries : ℕ) (v : Verdict) (old : S) (datagram : List ℕ) (new : S) →
    IsHonestWhere asks (asked_log path log count) H low stands → Here low log count M w → stands old M → Answers asks (way_by path invoke retries) (question w.log (question_of w)) v old datagram new →
    IsSaidAt (now M) H w.log (asked_by w) datagram × stands new (later M) × (v ≡ verdict.Ack)
answered asks stands path log count H low M w invoke retries v old datagram new honest here at (tries, mid, few, first, asked, is) =
    let at_mid = unanswered asks stands path log count H low M w invoke tries old mid honest here at first in
    let said = (one_ask asks stands path log count H low M w invoke mid new (Ok datagram) honest here at_mid asked).0 is.0 in
    (said.0, said.1, sym is.1 ∙ is_ack w.log (question_of w) (apdu_in datagram) said.0.heard said.0.reads)

-- ---- replies

after_reply : (H : History) (low : ℕ) (log : Id) (count : ℕ) (M : List Moment) (w next : WalkPlace) (p : Progress) → (here : Here low log count M w) → Means H (now M) low here.ordinal w p next →
    Here low log count (later M) next
after_reply H low log count M w next (BatchOf b) here means = record {
  ordinal = means.0;
  log_is = ap (λ (v : WalkPlace). v.log) means.2 ∙ here.log_is;
  count_is = ap (λ (v : WalkPlace). v.count) means.2 ∙ here.count_is;
  next = ap (λ (v : WalkPlace). v.next) means.2;
  some = some_later M here.some;
  window = window_later low M here.window;
  at = λ f. (means.3, means.4);
}
after_reply H low log count M w next AskOldest here means = record {
  ordinal = here.ordinal;
  log_is = ap (λ (v : WalkPlace). v.log) means.2 ∙ here.log_is;
  count_is = ap (λ (v : WalkPlace). v.count) means.2 ∙ here.count_is;
  next = ap (λ (v : WalkPlace). v.next) means.2 ∙ here.next;
  some = some_later M here.some;
  window = window_later low M here.window;
  at = λ f. here.at (sym (ap (λ (v : WalkPlace). v.fresh) means.2) ∙ f);
}
after_reply H low log count M w next CaughtUp here means = record {
  ordinal = here.ordinal;
  log_is = ap (λ (v : WalkPlace). v.log) means.2 ∙ here.log_is;
  count_is = ap (λ (v : WalkPlace). v.count) means.2 ∙ here.count_is;
  next = ap (λ (v : WalkPlace). v.next) means.2 ∙ here.next;
  some = some_later M here.some;
  window = window_later low M here.window;
  at = λ f. here.at (sym (ap (λ (v : WalkPlace). v.fresh) means.2) ∙ f);
}

honest_comes : {S : Type 0} (asks : Asking S) (stands : S → List Moment → Type 0) (path : Path) (retries : ℕ) (log : Id) (count : ℕ) (H : History) (low : ℕ) (came : List Came) (M : List Moment) (old new : S) (w after : WalkPlace) →
    IsHonestWhere asks (asked_log path log count) H low stands → Here low log count M w → stands old M → Comes (reaching asks path retries) (walk_over old w) came (walk_over new after) →
    AreSaidAt H M came × stands new (after_answers (length came) M) × Here low log count (after_answers (length came) M) after
honest_comes asks stands path retries log count H low [] M old new w after honest here at comes =
    (tt, subst (λ x. stands x M) (sym comes.1) at, subst (λ v. Here low log count M v) (sym comes.0) here)
honest_comes asks stands path retries log count H low (c ∷ came) M old new w after honest here at (mid, next, p, place, asked, taken, is, rest) =
    let said = answered asks stands path log count H low M w asked.0 retries verdict.Ack old c.datagram mid honest here at asked.1 in
    let means = said_means H (now M) low here.ordinal w (heard_in w.log c.datagram) said.0.heard (Ok p) next said.0.reads said.0.asks (window_now low M here.some here.window) here.next here.at said.0.counts said.0.says taken in
    let more = honest_comes asks stands path retries log count H low came (later M) mid new next after honest (after_reply H low log count M w next p here means) said.1 rest in
    let P : WalkPlace → Type 0 = λ v. IsSaidAt (now M) H v.log (asked_by v) c.datagram in
    ((subst P (sym place) said.0, more.0), more.1, more.2)

-- ---- a run

ended_honest : {S : Type 0} (asks : Asking S) (stands : S → List Moment → Type 0) (path : Path) (retries steps : ℕ) (log : Id) (count : ℕ) (H : History) (low : ℕ) (came : List Came) (M : List Moment) (here after : WalkPlace) (mid new : S) (ended : Ended) →
    IsHonestWhere asks (asked_log path log count) H low stands → Here low log count M here → stands mid M → EndsBy (reaching asks path retries) steps came (walk_over mid here) ended (walk_over new after) → stands new M × IsHonestEnd ended
ended_honest asks stands path retries steps log count H low came M here after mid new IsUp honest is at ends = (subst (λ x. stands x M) (sym ends.3) at, tt)
ended_honest asks stands path retries steps log count H low came M here after mid new StepLimit honest is at ends = (subst (λ x. stands x M) (sym ends.3) at, tt)
ended_honest asks stands path retries steps log count H low came M here after mid new Stopped honest is at ends = (subst (λ x. stands x M) (sym ends.3) at, tt)
ended_honest asks stands path retries steps log count H low came M here after mid new (Fault Lost) honest is at (few, (result, asked, lost), place) =
    let P : Result (List ℕ) ExchangeFault → Type 0 = λ r. Asks asks path retries mid here r new in
    let a = subst P lost asked in
    (unanswered asks stands path log count H low M here a.0 (retries + 1) mid new honest is at a.1, tt)
ended_honest asks stands path retries steps log count H low came M here after mid new (Fault (Refused refusal)) honest is at (few, (result, asked, refused), place) =
    let P : Result (List ℕ) ExchangeFault → Type 0 = λ r. Asks asks path retries mid here r new in
    let a = subst P refused asked in
    let said = answered asks stands path log count H low M here a.0 retries (verdict.Refused refusal) mid a.1.0 new honest is at a.1.1 in
    absurd (let e = said.2 in cc)
ended_honest asks stands path retries steps log count H low came M here after mid new (Fault BadReply) honest is at (few, (result, asked, bad), place) =
    let P : Result (List ℕ) ExchangeFault → Type 0 = λ r. Asks asks path retries mid here r new in
    elim bad [
      | inl unread ↦
          let a = subst P unread asked in
          let said = answered asks stands path log count H low M here a.0 retries verdict.BadReply mid a.1.0 new honest is at a.1.1 in
          absurd (let e = said.2 in cc)
      | inr (datagram, why, ok, taken) ↦
          let a = subst P ok asked in
          let said = answered asks stands path log count H low M here a.0 retries verdict.Ack mid datagram new honest is at a.1 in
          absurd (said_means H (now M) low is.ordinal here (heard_in here.log datagram) said.0.heard (Err why) here said.0.reads said.0.asks (window_now low M is.some is.window) is.next is.at said.0.counts said.0.says taken)
    ]

pub honest_delivers : {S : Type 0} (asks : Asking S) (stands : S → List Moment → Type 0) → HonestIsDelivered asks stands
honest_delivers asks stands = λ path retries old new w after steps came items ended H M low s honest at run next some back window in_window.
    let here : Here low w.log w.count M (restarted w) = record { ordinal = s; log_is = refl; count_is = refl; next = next; some = some; window = window; at = in_window } in
    let all = honest_comes asks stands path retries w.log w.count H low came M old run.1 (restarted w) run.0 honest here at run.2 in
    let end = ended_honest asks stands path retries steps w.log w.count H low came (after_answers (length came) M) run.0 after run.1 new ended honest all.2 all.1 run.3 in
    (brought_delivers asks path retries old new w after steps came items ended H M low s run all.0 next some back window in_window, all.0, end.0, end.1)

-- ---- what a run delivers

pub as_ended : (why : Why) (steps n : ℕ) (ended : Ended) → IsRunOf why steps n ended → ended ≡ ended_of why
as_ended WasUp steps n ended run = run.1
as_ended WasLimit steps n ended run = run.1
as_ended (WasFault e) steps n ended run = run.1
as_ended Memory steps n ended run = run.1

pub delivers_said : {S : Type 0} (asks : Asking S) (first last : Transactions) (old new : S) (w after : WalkPlace) (steps : ℕ) (items : List Item) (ended : Ended) →
    (came : List Came) × BroughtBy asks (walk_by old first w) steps came items ended (walk_by new last after) → DeliversSaid asks (towards first.route) (spare ended) (walk_over old w) items ended (walk_over new after)
delivers_said {S = S} asks first last old new w after steps items ended (came, by_turns) = λ H M s low honest next some back window at.
    let path : Path = towards first.route in
    let retries : ℕ = first.retries in
    let run = brought_plain asks first last old new w after steps came items ended by_turns in
    let here : Here low w.log w.count M (restarted w) = record { ordinal = s; log_is = refl; count_is = refl; next = next; some = some; window = window; at = at } in
    let stands : S → List Moment → Type 0 = λ link N. IsHonest asks (asked_log path w.log w.count) H low link N in
    let goes = goes_on asks path w.log w.count H low in
    let all = honest_comes asks stands path retries w.log w.count H low came M old run.1 (restarted w) run.0 goes here honest run.2 in
    let end = ended_honest asks stands path retries steps w.log w.count H low came (after_answers (length came) M) run.0 after run.1 new ended goes all.2 all.1 run.3 in
    let ran = brought_ran asks path retries old new w after steps came items ended H M low s run all.0 next some back window at in
    let cut = cut_of ended came items after run.4 in
    let L : ℕ → Type 0 = λ n. IsLeftAt asks (asked_log path w.log w.count) low old new (log_course H M) n in
    let F : ℕ → Type 0 = λ n. n ≤ 2 * batches (answers_of came) + spare ended in (
      ran.0,
      ran.1,
      answers_of came,
      record { start = ran.2; reached = ran.4.0; leads = ran.4.1; dropped = cut.0; all = cut.1; whole = cut.2; within = cut.3 },
      ran.3,
      ran.5,
      subst L (sym (answers_came came)) (
        end.0,
        λ moments told is.
            let at_moments : S → List Moment → Type 0 = λ link N. moments link ≡ N in
            let b = honest_comes asks at_moments path retries w.log w.count H low came M old run.1 (restarted w) run.0 told here is run.2 in
            (ended_honest asks at_moments path retries steps w.log w.count H low came (after_answers (length came) M) run.0 after run.1 new ended told b.2 b.1 run.3).0,
      ),
      ran.6,
      end.1,
      subst F (sym (answers_came came)) by_turns.few,
    )

pub delivers_run : {S : Type 0} (asks : Asking S) (first last : Transactions) (old new : S) (w after : WalkPlace) (steps : ℕ) (items : List Item) (why : Why) →
    (n : ℕ) × (ended : Ended) × IsRunOf why steps n ended × ((came : List Came) × BroughtBy asks (walk_by old first w) n came items ended (walk_by new last after)) →
    DeliversSaid asks (towards first.route) (spare (ended_of why)) (walk_over old w) items (ended_of why) (walk_over new after)
delivers_run asks first last old new w after steps items why (n, ended, run, brought) =
    let P : Ended → Type 0 = λ e. DeliversSaid asks (towards first.route) (spare e) (walk_over old w) items e (walk_over new after) in
    subst P (as_ended why steps n ended run) (delivers_said asks first last old new w after n items ended brought)

pub into_said : {S T : Type 0} (asks : Asking S) (first last : Transactions) (puts : T → Option GapOf → Numbered → Bool → T → Type 0) (old new : S) (sink left : T) (w after : WalkPlace) (steps : ℕ) (ended : Ended) →
    BroughtIntoBy asks (sink_filled puts sink left) (walk_by old first w) steps ended (walk_by new last after) →
    (calls : List Call) × Takes puts sink calls (is_stopped ended) left × DeliversSaid asks (towards first.route) (spare ended) (walk_over old w) (put_items calls) ended (walk_over new after)
into_said asks first last puts old new sink left w after steps ended (calls, takes, few, gaps, brought) =
    (calls, takes, delivers_said asks first last old new w after steps (put_items calls) ended brought)

-- ---- one run, and another from where it ended

pub some_after : (count : ℕ) (M : List Moment) → 0 < length M → 0 < length (after_answers count M)
some_after zero M some = some
some_after (suc count) M some = some_after count (later M) (some_later M some)

pub back_after : (count : ℕ) (M : List Moment) → NeverGoesBack M → NeverGoesBack (after_answers count M)
back_after zero M back = back
back_after (suc count) M back = back_after count (later M) (back_later M back)

-- a walk from a number on, caught up after the second of two runs, is caught up after both
up_joined : (fresh resumed : Bool) (t count : ℕ) (M : List Moment) (xs ys : List (List Item)) → length xs ≡ count → fresh ≡ false →
    IsCaughtUp resumed t (after_answers count M) ys → IsCaughtUp fresh t M (xs ++ ys)
up_joined fresh resumed t count M xs ys is old up =
    let N : List Moment → Type 0 = λ m. NoneFrom t (now m) in
    let B : List (List Item) → Type 0 = λ l. batches l ≡ 0 in (
      count + up.0,
      omega (arith, length-append xs ys, up.1, is),
      subst B (sym (drop_both xs ys count up.0 is)) up.2,
      subst N (sym (after_answers-add count up.0 M)) up.3,
      λ f none. absurd (let e = sym old ∙ f in cc),
    )
  where
    drop_both : (xs ys : List (List Item)) (count i : ℕ) → length xs ≡ count → drop (count + i) (xs ++ ys) ≡ drop i ys
    drop_both [] ys zero i is = let e : zero + i ≡ i = omega arith in ap (λ k. drop k ys) e
    drop_both [] ys (suc n) i is = absurd (omega (arith, is))
    drop_both (x ∷ xs) ys zero i is = absurd (omega (arith, is))
    drop_both (x ∷ xs) ys (suc n) i is =
        let e : suc n + i ≡ suc (n + i) = omega arith in
        ap (λ k. drop k (x ∷ (xs ++ ys))) e ∙ drop_both xs ys n i (omega (arith, is))

-- the last answer of two runs is that of the second
ends_behind : (item : Item) (rest : List Item) (xs ys : List (List Item)) → EndsWith item rest ys → EndsWith item rest (xs ++ ys)
ends_behind item rest [] ys ends = ends
ends_behind item rest (x ∷ []) [] ends = absurd ends
ends_behind item rest (x ∷ []) (y ∷ ys) ends = ends
ends_behind item rest (x ∷ z ∷ xs) ys ends = ends_behind item rest (z ∷ xs) ys ends

cut_behind : (items more rest : List Item) (xs ys : List (List Item)) → IsCutIn more rest ys → IsCutIn (items ++ more) rest (xs ++ ys)
cut_behind items more rest xs ys (before, item, is, ends) =
    (items ++ before, item, ap (λ l. items ++ l) is ∙ sym (append_assoc items before (item ∷ [])), ends_behind item rest xs ys ends)

pub said_joins : {S : Type 0} (asks : Asking S) (path : Path) (spare_one spare_two : ℕ) (old half new : S) (w mid resumed after : WalkPlace) (xs ys : List Item) (e f : Ended) →
    DeliversSaid asks path spare_one (walk_over old w) xs e (walk_over half mid) → DeliversSaid asks path spare_two (walk_over half resumed) ys f (walk_over new after) → resumed.log ≡ w.log → resumed.count ≡ w.count → resumed.next ≡ mid.next → resumed.fresh ≡ false → w.fresh ≡ false →
    DeliversSaid asks path (spare_one + spare_two) (walk_over old w) (xs ++ ys) f (walk_over new after)
said_joins {S = S} asks path spare_one spare_two old half new w mid resumed after xs ys e f first second log_is count_is next_is by_number had_number = λ H M s low honest next some back window at.
    let a = first H M s low honest next some back window at in
    let count : ℕ = length a.2 in
    let P : ℕ → Type 0 = λ n. DeliversIn H n xs a.1 M a.2 in
    let one = subst P (a.3.start ∙ start_old w.fresh s M a.2 had_number) a.5 in
    let place = stays_in_window H M low s a.1 count xs some window (at had_number).0 (at had_number).1 (one.0, one.1, one.2, one.3) in
    let left : List Moment = after_answers count M in
    let R : Id → Type 0 = λ i. IsHonest asks (asked_log path i w.count) H low half left in
    let Rc : ℕ → Type 0 = λ n. IsHonest asks (asked_log path resumed.log n) H low half left in
    let b = second H left a.1 low (subst Rc (sym count_is) (subst R (sym log_is) a.6.0)) (next_is ∙ a.4) (some_after count M some) (back_after count M back) place.2 (λ old. (place.0, place.1)) in
    let more : ℕ = length b.2 in
    let begun : b.0 ≡ a.1 = b.3.start ∙ start_old resumed.fresh a.1 left b.2 by_number in
    let E : ℕ → Type 0 = λ n. DeliversIn H n ys b.1 left b.2 in
    let two = subst E begun b.5 in
    let F : ℕ → Type 0 = λ n. Leads H left n b.2 b.3.reached in
    let G : List Moment → Type 0 = λ N. Leads H N a.1 b.2 b.3.reached in
    let leads = leads-append H M s a.1 b.3.reached one.0 b.2 one.3 (subst (λ n. Leads H (after_answers n M) a.1 b.2 b.3.reached) (sym one.1) (subst F begun b.3.leads)) in
    let K : Id → Type 0 = λ i. IsHonest asks (asked_log path i w.count) H low new (after_answers more left) in
    let Kc : ℕ → Type 0 = λ n. IsHonest asks (asked_log path resumed.log n) H low new (after_answers more left) in
    let L : List Moment → Type 0 = λ N. IsHonest asks (asked_log path w.log w.count) H low new N in
    let T : Id → Type 0 = λ i. (moments : S → List Moment) → IsHonestWhere asks (asked_log path i w.count) H low (λ link N. moments link ≡ N) → moments half ≡ left → moments new ≡ after_answers more left in
    let Tc : ℕ → Type 0 = λ n. (moments : S → List Moment) → IsHonestWhere asks (asked_log path resumed.log n) H low (λ link N. moments link ≡ N) → moments half ≡ left → moments new ≡ after_answers more left in
    let both = sym (after_answers-add count more M) in
    let counted : length (one.0 ++ b.2) ≡ count + more = omega (arith, length-append one.0 b.2, one.1) in
    let D : ℕ → Type 0 = λ n. Leads H (after_answers n M) a.1 two.0 b.1 in
    let to = leads-append H M s a.1 b.1 one.0 two.0 one.3 (subst D (sym one.1) two.3) in
    let Z : ℕ → Type 0 = λ n. IsLeftAt asks (asked_log path w.log w.count) low old new (log_course H M) n in (
      s,
      b.1,
      one.0 ++ b.2,
      record {
        start = sym (start_old w.fresh s M (one.0 ++ b.2) had_number);
        reached = b.3.reached;
        leads = leads;
        dropped = b.3.dropped;
        all = append_assoc xs ys b.3.dropped ∙ ap (λ l. xs ++ l) b.3.all ∙ ap (λ l. l ++ items_of b.2) (sym one.2) ∙ sym (flat_map-append (λ (l : List Item). l) one.0 b.2);
        whole = b.3.whole;
        within = λ stopped. cut_behind xs ys b.3.dropped one.0 b.2 (b.3.within stopped);
      },
      b.4,
      (
        one.0 ++ two.0,
        omega (arith, length-append one.0 two.0, length-append one.0 b.2, two.1),
        flat_map-append (λ (l : List Item). l) one.0 two.0 ∙ ap (λ l. l ++ items_of two.0) one.2 ∙ ap (λ l. xs ++ l) two.2,
        to,
        omega (arith, batches-append one.0 two.0, batches-append one.0 b.2, two.4),
      ),
      subst Z (sym counted) (subst L both (subst K log_is (subst Kc count_is b.6.0)), (λ moments told is. subst T log_is (subst Tc count_is b.6.1) moments told (a.6.1 moments told is) ∙ both)),
      (λ up. let c = b.7 up in up_joined w.fresh resumed.fresh b.1 count M one.0 b.2 one.1 had_number c),
      b.8,
      omega (arith, length-append one.0 b.2, batches-append one.0 b.2, one.1, one.4, a.9, b.9),
    )
