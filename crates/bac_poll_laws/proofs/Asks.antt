-- How often a log is asked.
use Rattle.std.proofs.Common.{◌≡◌, ℕ, suc, ◌-◌, ◌==◌, ◌&&◌, not, Bool, true, false, List, [], ◌∷◌, length, slice_get}
use Rattle.std.proofs.Common.{None, Some, refl, sym, ap, subst, ◌∙◌, arith}
use Rattle.std.proofs.lemmas.Bool.{eqb-true}
use Rattle.bac_walk.specs.declared.batch.Numbered.{Numbered}
use Rattle.bac_poll_laws.specs.Asks.{AsksOnceMore, ShowsKnown, having_heard}
use Rattle.bac_poll.specs.Joins.{found, goes_nowhere, goes_on, joined, joins_by, joins_from}
use Rattle.bac_poll.specs.Known.{records_behind}
use Rattle.bac_poll_laws.specs.Laws.{Whichever}
use Rattle.bac_poll.specs.Poll.{after_reply, at_stage}
use Rattle.bac_poll.specs.State.{KeptAs, PollState, Reply}
use Rattle.bac_poll.specs.Turns.{Turned, brings_to, last_in, number_or}
use Rattle.bac_poll_steps.specs.declared.stage.Stage.TheVariants.{Joins}
use Rattle.bac_poll_steps.specs.declared.turn.PollEnd.TheVariants.{CaughtUp}
use Rattle.bac_poll_laws.proofs.Wholes.{split}

-- the turn of a reply that shows the newest known record as it is known
pub goes : (p : PollState) (reply : Reply) (kept : KeptAs) (held : Numbered) → ShowsKnown p reply kept held →
    after_reply p reply ≡ goes_on (found (having_heard p reply) held) reply (records_behind kept.number reply.records)
goes p reply kept held shows =
    let q = having_heard p reply in
    ap (λ stage. at_stage q stage p.held reply) shows.asked
    ∙ ap (λ means. joins_by q reply means) shows.same
    ∙ ap (λ newest. joins_from q reply newest) shows.newest
    ∙ ap (λ shown. joined q kept reply shown) shows.shown

nothing : (q : PollState) (reply : Reply) (last more : Bool) (alone : Bool) → last ≡ true → more ≡ false →
    ((goes_nowhere q (last && not more) alone).records ≡ []) × ((goes_nowhere q (last && not more) alone).end ≡ Some CaughtUp)
nothing q reply true false alone a b = (refl, refl)
nothing q reply false more alone a b = absurd (cc)
nothing q reply true true alone a b = absurd (cc)

step : (r s : Numbered) (rs : List Numbered) → last_in (r ∷ s ∷ rs) ≡ last_in (s ∷ rs)
step r s rs =
    let at : length (r ∷ s ∷ rs) - 1 ≡ suc (length (s ∷ rs) - 1) = omega arith in
    ap (λ (i : ℕ). slice_get (r ∷ s ∷ rs) i) at

last_some : (r : Numbered) (rs : List Numbered) → (l : Numbered) × (last_in (r ∷ rs) ≡ Some l)
last_some r [] = (r, refl)
last_some r (s ∷ rs) = let rest = last_some s rs in (rest.0, step r s rs ∙ rest.1)

-- a turn keeps these, and goes on from this number
KeepsTo : List Numbered → ℕ → Turned → Type 0
KeepsTo rs number t = (t.records ≡ rs) × (t.end ≡ None) × (t.poll.stage ≡ Joins) × (t.poll.reference ≡ number)

keeps : (q : PollState) (reply : Reply) (r : Numbered) (rs : List Numbered) → KeepsTo (r ∷ rs) (number_or 0 (last_in (r ∷ rs))) (goes_on q reply (r ∷ rs))
unfolding KeepsTo
keeps q reply r rs =
    let l = last_some r rs in
    let K : Turned → Type 0 = λ t. (t.records ≡ r ∷ rs) × (t.end ≡ None) × (t.poll.stage ≡ Joins) × (t.poll.reference ≡ number_or 0 (last_in (r ∷ rs))) in
    let B : K (brings_to q (r ∷ rs) (last_in (r ∷ rs))) =
    subst (λ last. (((brings_to q (r ∷ rs) last).records ≡ r ∷ rs) × ((brings_to q (r ∷ rs) last).end ≡ None) × ((brings_to q (r ∷ rs) last).poll.stage ≡ Joins) × ((brings_to q (r ∷ rs) last).poll.reference ≡ number_or 0 last)))
    (sym l.1) (refl, refl, refl, refl) in
    split (λ held. Unit {0}) Whichever K (length (r ∷ rs) == 0) _ _
    (λ none. let same : length (r ∷ rs) ≡ 0 = eqb-true _ _ none in let never : ⊥ = omega (arith, same) in absurd never) (λ some. B)

pub asks_once : AsksOnceMore
unfolding KeepsTo
asks_once p reply kept held shows =
    let q = found (having_heard p reply) held in
    let is = goes p reply kept held shows in (
      λ none last more. subst (λ t. (t.records ≡ []) × (t.end ≡ Some CaughtUp)) (sym (is ∙ ap (λ news. goes_on q reply news) none))
          (nothing q reply reply.last reply.more (length reply.records == 1) last more),
      λ first others news. subst (KeepsTo (first ∷ others) (number_or 0 (last_in (first ∷ others)))) (sym (is ∙ ap (λ behind. goes_on q reply behind) news))
          (keeps q reply first others),
    )
