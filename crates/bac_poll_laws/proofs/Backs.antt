-- Each two questions backwards bring an older record, and none is begun again.
use Rattle.std.proofs.Common.{arith, ◌≡◌, ℕ, zero, suc, ◌+◌, ◌*◌, ◌-◌, ◌≤◌, ◌<◌, nat_le, Bool, true, false}
use Rattle.std.proofs.Common.{if◌then◌else◌, Option, None, Some, List, [], ◌∷◌, length, refl, sym, subst, ◌∙◌, inl, inr}
use Rattle.std.proofs.lemmas.Bool.{and_parts, leb-true, ltb-true}
use Rattle.bac_log.specs.declared.entry.Entry.{Entry}
use Rattle.bac_link.specs.Delivery.{History, Moment}
use Rattle.bac_link.specs.Heard.{AckParameters, heard_in}
use Rattle.bac_link.specs.Ordinals.{distance}
use Rattle.bac_walk.specs.Walks.{Ask, Bring, End, NextAct, Refuse, verdict, with_numbers}
use Rattle.bac_walk.specs.declared.batch.Numbered.{Numbered}
use Rattle.bac_poll.specs.Back.{back}
use Rattle.bac_poll.specs.Poll.{ack_in, after_heard, after_too_many, are_asked, at_stage, count_at, has_last, has_more}
use Rattle.bac_poll.specs.Poll.{more_of, reply_from, reply_in, reply_of}
use Rattle.bac_poll.specs.State.{PollState, Reply}
use Rattle.bac_poll.specs.Turns.{Turned, first_number, last_in}
use Rattle.bac_poll_steps.specs.declared.stage.Aim.{Aim}
use Rattle.bac_poll_steps.specs.declared.stage.Stage.{Stage}
use Rattle.bac_poll_steps.specs.declared.stage.Stage.TheVariants as stage
use Rattle.bac_poll_laws.specs.Backwards.{BackwardsAreFew, IsLoggedIn, NoneIsBegunAgain, SayBack}
use Rattle.bac_poll_laws.specs.Bounds.{again_one, count_of, lost_one, oldest_one}
use Rattle.bac_poll_laws.specs.Delivers.{Given, GoesOn, IsWithin, ShowHeld, ShowsHeld, after_given, asking_less}
use Rattle.bac_poll_laws.specs.Laws.{Answer, Answers, Counted, HasSome, HoldsOfEach, IsAt, IsLast, IsRun, IsStanding}
use Rattle.bac_poll_laws.specs.Laws.{Replied, Restarted, Revised, ShowsOnly, Whichever, after_answer}
use Rattle.bac_poll_laws.proofs.Bounds.{half_low}
use Rattle.bac_poll_laws.proofs.Delivered.{less_stage, less_standing, shows_of}
use Rattle.bac_poll_laws.proofs.Once.{IsRunReply, any_answer, begins_standing, heard_run, one_answer}
use Rattle.bac_poll_laws.proofs.Ordered.{IsOf}
use Rattle.bac_poll_laws.proofs.Older.{AtBack, BackAt, Below, Ends, Left, Refers, Steps, back_steps, first_same}
use Rattle.bac_poll_laws.proofs.Older.{from_before, from_first, last_logged, none_again}
use Rattle.bac_poll_steps.specs.declared.turn.PollEnd.{PollEnd}

-- ---- a reply to a question backwards

-- its records lie before the number up to which was asked
abbrev IsUpTo : PollState → Option Reply → Type 0
IsUpTo p None = Unit {0}
IsUpTo p (Some reply) =
    (aim : Aim) → p.stage ≡ stage.Back aim → HasSome reply.records →
    (distance (first_number reply.records) p.reference < p.walk.count) × (length reply.records ≤ distance (first_number reply.records) p.reference + 1)

with_up : (p : PollState) (c : Bool) (rs : List Numbered) (last more : Bool) →
    (c ≡ true → (aim : Aim) → p.stage ≡ stage.Back aim → (distance (first_number rs) p.reference < p.walk.count) × (length rs ≤ distance (first_number rs) p.reference + 1)) →
    IsUpTo p (if c then Some (record { records = rs; last = last; more = more }) else None)
with_up p true rs last more up = λ aim at some. up refl aim at
with_up p false rs last more up = tt

asked_up : (p : PollState) (first count : ℕ) → are_asked p p.stage first count ≡ true → (aim : Aim) → p.stage ≡ stage.Back aim →
    (distance first p.reference < p.walk.count) × (count ≤ distance first p.reference + 1)
asked_up p first count asked aim at =
    let both = and_parts _ _ (subst (λ (s : Stage). are_asked p s first count ≡ true) at asked) in (ltb-true _ _ both.0, leb-true _ _ both.1)

act_up : (p : PollState) (act : NextAct) (es : List Entry) (last more : Bool) → IsUpTo p (reply_of p act es last more)
act_up p Refuse es last more = tt
act_up p Ask es last more = λ aim at some. absurd some
act_up p End es last more = λ aim at some. absurd some
act_up p (Bring first) es last more =
    let rs = with_numbers first es in
    with_up p (are_asked p p.stage (first_number rs) (length rs)) rs last more (asked_up p (first_number rs) (length rs))

heard_up : (p : PollState) (heard : Option AckParameters) (last more : Bool) → IsUpTo p (reply_from p heard last more)
heard_up p None last more = tt
heard_up p (Some h) last more = act_up p (verdict p.walk h.first h.count h.entries) h.entries last more

-- ---- one answer

module _ (H : History) (low : ℕ) where
  each_logged : (m : Moment) (rs : List Numbered) → HoldsOfEach (IsOf H low (m ∷ [])) rs → HoldsOfEach (IsLoggedIn H low) rs
  each_logged m [] all = tt
  each_logged m (r ∷ rs) all = ((all.0.0, all.0.1, all.0.2, all.0.4, all.0.5), each_logged m rs all.1)

  shows_logged : (m : Moment) (reply : Option Reply) → ShowsOnly (IsOf H low (m ∷ [])) reply → ShowsOnly (IsLoggedIn H low) reply
  shows_logged m None shows = tt
  shows_logged m (Some reply) shows = each_logged m reply.records shows

  one_shown : (m : Moment) (p : PollState) (answer : Answer) → IsWithin low m → ShowsHeld low m H p answer → Answers (IsLoggedIn H low) p answer
  one_shown m p (Replied datagram) within shows = shows_logged m (reply_in p datagram) (shows_of H low m [] within p datagram shows.0)
  one_shown m p (Counted count) within shows = tt
  one_shown m p (Revised revision) within shows = shows
  one_shown m p (Restarted restart moment) within shows = shows

  ends_by : (n : ℕ) (held : List Numbered) (reference count : ℕ) → 0 < low → Left H low n held reference → count ≤ 100 → IsRun (IsLoggedIn H low) (first_number held) held → HasSome held → (rs : List Numbered) → IsRun (IsLoggedIn H low) (first_number rs) rs →
      (HasSome rs → (distance (first_number rs) reference < count) × (length rs ≤ distance (first_number rs) reference + 1)) →
      (l : Numbered) → last_in rs ≡ Some l → Ends (IsLoggedIn H low) (Below H low n) count held rs l
  ends_by n held reference count some left many kept has [] run up l last = absurd (cc)
  ends_by n held reference count some left many kept has (r ∷ rs) run up l last =
      let near = up tt in by left.3 (omega (arith, near.0, many)) near.1
    where
      by : Refers H low n left.0 (first_number held) reference → distance r.number reference < 100 → length (r ∷ rs) ≤ distance r.number reference + 1 →
          Ends (IsLoggedIn H low) (Below H low n) count held (r ∷ rs) l
      by (inl at) near upto = from_first H low n left.0 held reference left.1 left.2 at.0 at.1 r rs run near upto l last
          (λ ended. first_same H low held l kept has (last_logged H low r.number (r ∷ rs) l run last) ended)
      by (inr at) near upto = from_before H low n left.0 held reference some left.1 left.2 at.0 at.1 r rs run near upto l last

  -- what is shown of a reply, by its records
  abbrev Shows : (List Numbered → ℕ → Type 0) → PollState → List Numbered → Type 0
  Shows Z p rs =
      IsRun (IsLoggedIn H low) (first_number rs) rs → (HasSome rs → (distance (first_number rs) p.reference < p.walk.count) × (length rs ≤ distance (first_number rs) p.reference + 1)) →
      (l : Numbered) → last_in rs ≡ Some l → Ends (IsLoggedIn H low) Z p.walk.count p.held rs l

  heard_steps : (Z : List Numbered → ℕ → Type 0) (p : PollState) (reply : Option Reply) (aim : Aim) → p.stage ≡ stage.Back aim → ((rs : List Numbered) → Shows Z p rs) →
      IsRunReply (IsLoggedIn H low) Whichever reply → IsUpTo p reply → Steps Z p.walk.count aim (after_heard p reply)
  heard_steps Z p None aim at ends run up = λ going. absurd (cc)
  heard_steps Z p (Some reply) aim at ends run up =
      let q : PollState = record p { more = more_of p reply; held = [] } in
      subst (λ (s : Stage). Steps Z p.walk.count aim (at_stage q s p.held reply)) (sym at)
      (back_steps (IsLoggedIn H low) Z p.walk.count q aim p.held reply.records refl (λ l last. ends reply.records run (up aim at) l last))

  answer_steps : (Z : List Numbered → ℕ → Type 0) (p : PollState) (answer : Answer) (aim : Aim) → p.stage ≡ stage.Back aim → ((rs : List Numbered) → Shows Z p rs) → Answers (IsLoggedIn H low) p answer →
      Steps Z p.walk.count aim (after_answer p answer)
  answer_steps Z p (Replied datagram) aim at ends shows =
      let heard = heard_in p.walk.log datagram in
      let last = has_last (ack_in datagram) in
      let more = has_more (ack_in datagram) in
      heard_steps Z p (reply_in p datagram) aim at ends (heard_run (IsLoggedIn H low) Whichever p heard last more shows) (heard_up p heard last more)
  answer_steps Z p (Counted count) aim at ends shows = subst (λ (s : Stage). Steps Z p.walk.count aim (count_at p s count)) (sym at) (λ going. absurd (cc))
  answer_steps Z p (Revised revision) aim at ends shows = let never : stage.Revision ≡ stage.Back aim = sym shows ∙ at in absurd (cc)
  answer_steps Z p (Restarted restart moment) aim at ends shows = let never : stage.Restart ≡ stage.Back aim = sym shows ∙ at in absurd (cc)

-- ---- one answer after the other

less_held : (n : ℕ) (p : PollState) → (asking_less n p).held ≡ p.held
less_held zero p = refl
less_held (suc n) p = less_held n (after_too_many p)

less_reference : (n : ℕ) (p : PollState) → (asking_less n p).reference ≡ p.reference
less_reference zero p = refl
less_reference (suc n) p = less_reference n (after_too_many p)

less_many : (n : ℕ) (p : PollState) → p.walk.count ≤ 100 → (asking_less n p).walk.count ≤ 100
less_many zero p many = many
less_many (suc n) p many = less_many n (after_too_many p) (half_low p.walk.count (nat_le p.walk.count 1) many)

module _ (H : History) (low : ℕ) where
  pub left_some : (n : ℕ) (held : List Numbered) (reference : ℕ) → Left H low n held reference → 1 ≤ n
  left_some n held reference left = by left.3
    where
      by : Refers H low n left.0 (first_number held) reference → 1 ≤ n
      by (inl at) = omega (arith, at.1)
      by (inr at) = omega (arith, at.1)

  -- what one answer is behind so many questions that are left
  pub one_older : (n : ℕ) (p : PollState) (given : Given) (aim : Aim) → 0 < low → p.stage ≡ stage.Back aim → IsStanding (IsLoggedIn H low) Whichever p → Left H low n p.held p.reference →
      p.walk.count ≤ 100 → Answers (IsLoggedIn H low) (asking_less given.less p) given.answer → Steps (Below H low n) (asking_less given.less p).walk.count aim (after_given p given)
  one_older n p given aim some at is left many shows =
      let q = asking_less given.less p in
      let still : Left H low n q.held q.reference =
      subst (λ (held : List Numbered). Left H low n held q.reference) (sym (less_held given.less p)) (subst (Left H low n p.held) (sym (less_reference given.less p)) left) in
      let stands = less_standing (IsLoggedIn H low) Whichever given.less p is in
      let back : q.stage ≡ stage.Back aim = less_stage given.less p ∙ at in
      let held = subst (IsAt (IsLoggedIn H low) Whichever q) back stands.1 in
      answer_steps H low (Below H low n) q given.answer aim back (λ rs run up l last. ends_by H low n q.held q.reference q.walk.count some still (less_many given.less p many) held.1 held.2 rs run up l last) shows

  -- a poll that goes on stands
  pub one_stands : (P : Numbered → Type 0) (p : PollState) (given : Given) → IsStanding P Whichever p → Answers P (asking_less given.less p) given.answer → (after_given p given).end ≡ None →
      IsStanding P Whichever (after_given p given).poll
  one_stands P p given is shows going =
      let q = asking_less given.less p in
      (one_answer P Whichever tt q given.answer (less_standing P Whichever given.less p is) shows (any_answer P q given.answer)).1 going

  all_older : (n : ℕ) (p : PollState) (given : List Given) (aim : Aim) → 0 < low → p.stage ≡ stage.Back aim → IsStanding (IsLoggedIn H low) Whichever p → Left H low n p.held p.reference →
      p.walk.count ≤ 100 → SayBack low H p given → length given ≤ n
  all_older n p [] aim some at is left many says = omega arith
  all_older n p (given ∷ []) aim some at is left many says = let one = left_some n p.held p.reference left in omega (arith, one)
  all_older n p (given ∷ next ∷ rest) aim some at is left many says =
      let q = asking_less given.less p in
      let t = after_given p given in
      let Z = Below H low n in
      let shows = one_shown H low given.moment q given.answer says.0 says.1 in
      let steps = one_older n p given aim some at is left many shows says.2.0 in
      let there = subst (AtBack Z q.walk.count aim t.anew t.poll) says.2.2.1 steps in
      let on = subst (λ (anew : Bool). BackAt Z q.walk.count aim anew t.poll says.2.2.0) says.2.1 there in
      let fewer = less_many given.less p many in
      let stands = one_stands (IsLoggedIn H low) p given is shows says.2.0 in
      let others = all_older on.0.0 t.poll (next ∷ rest) says.2.2.0 some says.2.2.1 stands on.0.2 (omega (arith, on.1, fewer)) says.3 in
      omega (arith, others, on.0.1)

  -- ---- none is begun again

  again_none : (end : Option PollEnd) (anew : Bool) (s : Stage) → (end ≡ None → anew ≡ false → oldest_one s ≡ 0) → again_one end anew s ≡ 0
  again_none None false s none = none refl refl
  again_none None true s none = refl
  again_none (Some why) anew s none = refl

  -- whatever is held back
  abbrev Whatever : List Numbered → ℕ → Type 0
  Whatever held reference = Unit {0}

  back_found : (p : PollState) (given : Given) (aim : Aim) → p.stage ≡ stage.Back aim → IsStanding (IsLoggedIn H low) Whichever p → Answers (IsLoggedIn H low) (asking_less given.less p) given.answer →
      again_one (after_given p given).end (after_given p given).anew (after_given p given).poll.stage ≡ 0
  back_found p given aim at is shows =
      let q = asking_less given.less p in
      let t = after_given p given in
      let back : q.stage ≡ stage.Back aim = less_stage given.less p ∙ at in
      let held = subst (IsAt (IsLoggedIn H low) Whichever q) back (less_standing (IsLoggedIn H low) Whichever given.less p is).1 in
      let steps = answer_steps H low Whatever q given.answer aim back
      (λ rs run up l last. ((λ ended. (first_same H low q.held l held.1 held.2 (last_logged H low (first_number rs) rs l run last) ended, (λ alone. tt), (λ more. tt))), (λ short. tt))) shows in
      again_none t.end t.anew t.poll.stage (λ going sure. none_again Whatever q.walk.count aim t.anew t.poll t.poll.stage (steps going) sure)

  pub one_found : (p : PollState) (given : Given) (s : Stage) → p.stage ≡ s → IsStanding (IsLoggedIn H low) Whichever p → Answers (IsLoggedIn H low) (asking_less given.less p) given.answer →
      lost_one s (after_given p given) ≡ 0
  one_found p given stage.Joins at is shows = omega arith
  one_found p given stage.Prior at is shows = omega arith
  one_found p given stage.Ahead at is shows = omega arith
  one_found p given stage.Again at is shows = omega arith
  one_found p given stage.Each at is shows = omega arith
  one_found p given stage.ByNumber at is shows = omega arith
  one_found p given (stage.Oldest aim) at is shows = omega arith
  one_found p given (stage.Counts aim) at is shows = omega arith
  one_found p given (stage.UpTo aim) at is shows = omega arith
  one_found p given (stage.Back aim) at is shows = let none = back_found p given aim at is shows in omega (arith, none)
  one_found p given stage.Revision at is shows = omega arith
  one_found p given stage.Restart at is shows = omega arith

  -- answers, one after the other, show none but such records
  abbrev pub SayLogged : PollState → List Given → Type 0
  SayLogged p [] = Unit {0}
  SayLogged p (given ∷ others) =
      Answers (IsLoggedIn H low) (asking_less given.less p) given.answer × IsLast (after_given p given) others × SayLogged (after_given p given).poll others

  pub all_found : (p : PollState) (given : List Given) → IsStanding (IsLoggedIn H low) Whichever p → SayLogged p given → count_of lost_one p given ≡ 0
  all_found p [] is says = refl
  all_found p (given ∷ []) is says = let one = one_found p given p.stage refl is says.0 in omega (arith, one)
  all_found p (given ∷ next ∷ rest) is says =
      let one = one_found p given p.stage refl is says.0 in
      let stands = one_stands (IsLoggedIn H low) p given is says.0 says.1 in
      let others = all_found (after_given p given).poll (next ∷ rest) stands says.2 in omega (arith, one, others)

  going_on : (t : Turned) (others : List Given) → GoesOn t others → IsLast t others
  going_on t [] goes = tt
  going_on t (given ∷ others) goes = goes.0

  say_logged : (p : PollState) (given : List Given) → ShowHeld low H p given → SayLogged p given
  say_logged p [] says = tt
  say_logged p (given ∷ others) says =
      (one_shown H low given.moment (asking_less given.less p) given.answer says.0 says.1, going_on (after_given p given) others says.2, say_logged (after_given p given).poll others says.3)

pub backwards_few : BackwardsAreFew
backwards_few H low k p answers back says =
    all_older H low (2 * (k - low) + 2) p answers back.aim back.some back.asked back.stands (k, back.first, back.lies, inl (back.from, refl)) back.many says

pub none_again_begun : NoneIsBegunAgain
none_again_begun H low s p answers joined says =
    all_found H low p answers
    (subst (IsStanding (IsLoggedIn H low) Whichever) (sym joined.is)
    ((begins_standing (IsLoggedIn H low) Whichever joined.log joined.device joined.many joined.told).0 joined.at joined.known)) (say_logged H low p answers says)
