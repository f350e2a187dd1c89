-- How many questions a log costs.
use Rattle.std.proofs.Common.{arith, ◌≡◌, ℕ, ◌+◌, ◌≤◌, ◌==◌, ◌&&◌, not, Bool, true, false, if◌then◌else◌, List, [], ◌∷◌}
use Rattle.std.proofs.Common.{length, Option, None, Some, refl, sym, ap, subst, ◌∙◌, ◌⊎◌, inl, inr}
use Rattle.std.proofs.lemmas.Bool.{eq-eqb}
use Rattle.bac_walk.specs.declared.batch.Numbered.{Numbered}
use Rattle.bac_poll_laws.specs.Asks.{ShowsKnown, having_heard}
use Rattle.bac_poll.specs.Joins.{ahead, asks_again, found, goes_nowhere, goes_on}
use Rattle.bac_poll.specs.Known.{number_in, records_behind}
use Rattle.bac_poll.specs.Poll.{after_reply, at_stage}
use Rattle.bac_poll_laws.specs.Questions.{AreAll, AreEach, IsKnown, IsPlain, QuestionsAreFew, one_if_kept, with_news}
use Rattle.bac_poll.specs.State.{KeptAs, PollState, Reply}
use Rattle.bac_poll.specs.Turns.{Turned, ends}
use Rattle.bac_poll_steps.specs.declared.stage.Stage.TheVariants.{Ahead, Joins}
use Rattle.bac_poll_steps.specs.declared.turn.PollEnd.{PollEnd}
use Rattle.bac_poll_steps.specs.declared.turn.PollEnd.TheVariants.{CaughtUp}
use Rattle.bac_poll_laws.proofs.Asks.{asks_once, goes}

-- a reply that brings nothing and ends the poll
Stops : Turned → Type 0
Stops t = (t.records ≡ []) × (t.end ≡ Some CaughtUp)

-- one that brings nothing, and after which what follows is asked for
Looks : Turned → Type 0
Looks t = (t.records ≡ []) × (t.end ≡ None) × (t.poll.stage ≡ Ahead) × (t.poll.more ≡ false)

-- one that brings news
Brings : Turned → Type 0
Brings t = (one_if_kept t.records ≡ 1) × (t.end ≡ None) × (t.poll.stage ≡ Joins)

ended : (end : Option PollEnd) → end ≡ Some CaughtUp → end ≡ None → ⊥
ended end up none = let never : Some CaughtUp ≡ None = sym up ∙ none in absurd (cc)

step_known : (p : PollState) (reply : Reply) → IsKnown p reply → Stops (after_reply p reply) ⊎ Brings (after_reply p reply)
unfolding Stops Brings
step_known p reply (kept, held, shows, flags) = by (records_behind kept.number reply.records) refl
  where
    by : (news : List Numbered) → records_behind kept.number reply.records ≡ news → Stops (after_reply p reply) ⊎ Brings (after_reply p reply)
    by [] none = let said = flags none in inl ((asks_once p reply kept held shows).0 none said.0 said.1)
    by (first ∷ others) news =
        let all = (asks_once p reply kept held shows).1 first others news in
        inr (ap one_if_kept all.0, all.1, all.2)

exact : (p : PollState) (replies : List Reply) → AreAll p replies → AreEach IsKnown p replies → length replies ≡ with_news p replies + 1
unfolding Stops Brings
exact p [] all each = absurd all
exact p (reply ∷ []) all each = by (step_known p reply each.0)
  where
    by : Stops (after_reply p reply) ⊎ Brings (after_reply p reply) → length (reply ∷ []) ≡ with_news p (reply ∷ []) + 1
    by (inl stops) = let none : one_if_kept (after_reply p reply).records ≡ 0 = ap one_if_kept stops.0 in omega (arith, none)
    by (inr brings) = absurd (all brings.1)
exact p (reply ∷ next ∷ rest) all each = by (step_known p reply each.0) (exact (after_reply p reply).poll (next ∷ rest) all.1 each.1)
  where
    by : Stops (after_reply p reply) ⊎ Brings (after_reply p reply) → length (next ∷ rest) ≡ with_news (after_reply p reply).poll (next ∷ rest) + 1 →
        length (reply ∷ next ∷ rest) ≡ with_news p (reply ∷ next ∷ rest) + 1
    by (inl stops) more = absurd (ended (after_reply p reply).end stops.1 all.0)
    by (inr brings) more =
        let one : one_if_kept (after_reply p reply).records ≡ 1 = brings.0 in omega (arith, more, one)

-- ---- without LAST_ITEM

heard_some : (a b : Bool) (rs : List Numbered) → length rs ≡ 1 → (if length rs == 0 then a else b) ≡ b
heard_some a b rs one = subst (λ (n : ℕ). (if n == 0 then a else b) ≡ b) (sym one) refl

looks_at : (q : PollState) (reply : Reply) (last more : Bool) → last ≡ false → length reply.records ≡ 1 → q.more ≡ false →
    Looks (goes_nowhere q (last && not more) (length reply.records == 1))
unfolding Looks
looks_at q reply false more a one whole =
    subst (λ (b : Bool). ((goes_nowhere q false b).records ≡ []) × ((goes_nowhere q false b).end ≡ None) × ((goes_nowhere q false b).poll.stage ≡ Ahead) × ((goes_nowhere q false b).poll.more ≡ false))
    (sym (eq-eqb (length reply.records) 1 one)) (refl, refl, refl, whole)
looks_at q reply true more a one whole = absurd (cc)

none_kept : (p : PollState) (reply : Reply) (kept : KeptAs) (held : Numbered) → ShowsKnown p reply kept held → records_behind kept.number reply.records ≡ [] → reply.more ≡ false →
    (reply.last ≡ true) ⊎ (length reply.records ≡ 1) → Stops (after_reply p reply) ⊎ Looks (after_reply p reply)
unfolding Stops Looks
none_kept p reply kept held shows none whole (inl last) = inl ((asks_once p reply kept held shows).0 none last whole)
none_kept p reply kept held shows none whole (inr one) = by reply.last refl
  where
    by : (last : Bool) → reply.last ≡ last → Stops (after_reply p reply) ⊎ Looks (after_reply p reply)
    by true is = inl ((asks_once p reply kept held shows).0 none is whole)
    by false is =
        let same = goes p reply kept held shows ∙ ap (λ news. goes_on (found (having_heard p reply) held) reply news) none in
        inr (subst (λ t. (t.records ≡ []) × (t.end ≡ None) × (t.poll.stage ≡ Ahead) × (t.poll.more ≡ false)) (sym same)
        (looks_at (found (having_heard p reply) held) reply reply.last reply.more is one (heard_some p.more reply.more reply.records one ∙ whole)))

ahead_stops : (q : PollState) (records : List Numbered) (more : Bool) → records ≡ [] → q.more ≡ more → more ≡ false → Stops (ahead q records)
unfolding Stops
ahead_stops q [] more none is whole =
    subst (λ (b : Bool). ((if b then asks_again q [] (number_in q.newest) else ends q CaughtUp).records ≡ []) × ((if b then asks_again q [] (number_in q.newest) else ends q CaughtUp).end ≡ Some CaughtUp))
    (sym (is ∙ whole)) (refl, refl)
ahead_stops q (r ∷ rs) more none is whole = absurd (cc)

heard_none : (a b : Bool) (rs : List Numbered) → rs ≡ [] → (if length rs == 0 then a else b) ≡ a
heard_none a b [] none = refl
heard_none a b (r ∷ rs) none = absurd (cc)

-- where such a poll stands, and how many more it costs
IsPlace : PollState → ℕ → Type 0
IsPlace p more = ((p.stage ≡ Joins) × (more ≡ 2)) ⊎ ((p.stage ≡ Ahead) × (p.more ≡ false) × (more ≡ 1))

-- what a reply does there
Does : PollState → Reply → ℕ → Type 0
Does p reply more = Stops (after_reply p reply) ⊎ ((Looks (after_reply p reply) × (more ≡ 2)) ⊎ (Brings (after_reply p reply) × (more ≡ 2)))

step_plain : (p : PollState) (reply : Reply) (more : ℕ) → IsPlace p more → IsPlain p reply → Does p reply more
unfolding IsPlace Does Stops Looks Brings
step_plain p reply more (inl at) (inl (kept, held, shows, flags)) = by (records_behind kept.number reply.records) refl
  where
    put : Stops (after_reply p reply) ⊎ Looks (after_reply p reply) → Does p reply more
    put (inl stops) = inl stops
    put (inr looks) = inr (inl (looks, at.1))

    by : (news : List Numbered) → records_behind kept.number reply.records ≡ news → Does p reply more
    by [] none = let said = flags none in put (none_kept p reply kept held shows none said.0 said.1)
    by (first ∷ others) news =
        let all = (asks_once p reply kept held shows).1 first others news in
        inr (inr ((ap one_if_kept all.0, all.1, all.2), at.1))
step_plain p reply more (inl at) (inr none) = let never : Joins ≡ Ahead = sym at.0 ∙ none.0 in absurd (cc)
step_plain p reply more (inr at) (inl (kept, held, shows, flags)) = let never : Ahead ≡ Joins = sym at.0 ∙ shows.asked in absurd (cc)
step_plain p reply more (inr at) (inr none) =
    let q : PollState = having_heard p reply in
    let same : after_reply p reply ≡ ahead q reply.records = ap (λ stage. at_stage q stage p.held reply) at.0 in
    inl (subst (λ t. (t.records ≡ []) × (t.end ≡ Some CaughtUp)) (sym same) (ahead_stops q reply.records p.more none.1 (heard_none p.more reply.more reply.records none.1) at.1))

few : (p : PollState) (replies : List Reply) (more : ℕ) → IsPlace p more → AreAll p replies → AreEach IsPlain p replies → length replies ≤ with_news p replies + more
unfolding IsPlace Does Stops Looks Brings
few p [] more at all each = absurd all
few p (reply ∷ []) more at all each = by (step_plain p reply more at each.0) at
  where
    by : Does p reply more → IsPlace p more → length (reply ∷ []) ≤ with_news p (reply ∷ []) + more
    by (inl stops) (inl here) = let two : more ≡ 2 = here.1 in omega (arith, two)
    by (inl stops) (inr here) = let one : more ≡ 1 = here.2 in omega (arith, one)
    by (inr (inl looks)) here = absurd (all looks.0.1)
    by (inr (inr brings)) here = absurd (all brings.0.1)
few p (reply ∷ next ∷ rest) more at all each =
    by (step_plain p reply more at each.0) (λ (n : ℕ) (place : IsPlace (after_reply p reply).poll n). few (after_reply p reply).poll (next ∷ rest) n place all.1 each.1)
  where
    by : Does p reply more → ((n : ℕ) → IsPlace (after_reply p reply).poll n → length (next ∷ rest) ≤ with_news (after_reply p reply).poll (next ∷ rest) + n) →
        length (reply ∷ next ∷ rest) ≤ with_news p (reply ∷ next ∷ rest) + more
    by (inl stops) others = absurd (ended (after_reply p reply).end stops.1 all.0)
    by (inr (inl (looks, two))) others = let rest_few = others 1 (inr (looks.2, looks.3, refl)) in omega (arith, rest_few, two)
    by (inr (inr (brings, two))) others =
        let rest_few = others 2 (inl (brings.2, refl)) in
        let one : one_if_kept (after_reply p reply).records ≡ 1 = brings.0 in
        omega (arith, rest_few, two, one)

pub questions_few : QuestionsAreFew
unfolding IsPlace
questions_few p replies all = (exact p replies all, λ at. few p replies 2 (inl (at, refl)) all)
