-- What the last reply with records said.
use Rattle.std.proofs.Common.{◌≡◌, ℕ, ◌<◌, Bool, List, [], ◌∷◌, ◌++◌, length, Option, Some, Ok, Err, refl, sym, ap, ◌∙◌, arith}
use Rattle.bac_link.specs.declared.item.Item.{Item}
use Rattle.bac_link.specs.declared.transactions.Transactions.{Transactions}
use Rattle.bac_walk.specs.Came.{Came, EndsFull, answers_of, restarted}
use Rattle.bac_walk.specs.Collects.{batches}
use Rattle.bac_walk.specs.Place.{WalkPlace}
use Rattle.bac_walk.specs.Transacted.{BroughtBy, ComesBy, EndsAfter, asked as asked_at, walk_by}
use Rattle.bac_walk.specs.declared.outcome.Ended.{Ended}
use Rattle.bac_walk.specs.declared.outcome.Ended.TheVariants as ended
use Rattle.bac_walk.specs.declared.outcome.Why.{Why}
use Rattle.bac_walk.specs.declared.outcome.Why.TheVariants as why
use Rattle.bac_walk.proofs.Told.{Asking}
use Rattle.bac_query.specs.Fetching.{Fetching, PrintsEnd}
use Rattle.bac_form.specs.declared.form.Form.{Form}
use Rattle.bac_query.specs.More.{TellsMore, if_caught_up, more_after, more_last, more_with, says_more}
use Rattle.bac_query.specs.Reading.{Held}

-- ---- replies, one after the other

pub more_append : (was : Bool) (xs ys : List Came) → more_after was (xs ++ ys) ≡ more_after (more_after was xs) ys
more_append was [] ys = refl
more_append was (c ∷ xs) ys = more_append (more_with was c.datagram c.items) xs ys

with_records : (was : Bool) (datagram : List ℕ) (items : List Item) → 0 < length items → more_with was datagram items ≡ says_more datagram
with_records was datagram [] some = absurd (omega (arith, some))
with_records was datagram (item ∷ items) some = refl

-- replies without records leave it
no_records : (was : Bool) (came : List Came) → batches (answers_of came) < 1 → more_after was came ≡ was
no_records was [] none = refl
no_records was (c ∷ came) none = here c.items (λ less. no_records was came less) none
  where
    here : (items : List Item) → (batches (answers_of came) < 1 → more_after was came ≡ was) → batches (items ∷ answers_of came) < 1 →
        more_after (more_with was c.datagram items) came ≡ was
    here [] behind none = behind none
    here (item ∷ items) behind none = absurd (omega (arith, none))

-- over a link that keeps the last answer the last reply is that one
last_records : {S : Type 0} (asks : Asking S) (last : S → Option (List ℕ)) → ((a b : S) (octets datagram : List ℕ) → asks a octets (Ok datagram) b → last b ≡ Some datagram) →
    (was : Bool) (c : Came) (came : List Came) (t u : Transactions) (old new : S) (w after : WalkPlace) → ComesBy asks (walk_by old t w) (c ∷ came) (walk_by new u after) → EndsFull (c ∷ came) →
    (datagram : List ℕ) × (last new ≡ Some datagram) × (more_after was (c ∷ came) ≡ says_more datagram)
last_records asks last keeps was c [] t u old new w after (mid, next, p, place, answered, taken, is, (at, same, left)) full =
    (c.datagram, ap last same ∙ keeps _ mid _ c.datagram answered.4, with_records was c.datagram c.items full)
last_records asks last keeps was c (d ∷ came) t u old new w after (mid, next, p, place, answered, taken, is, rest) full =
    last_records asks last keeps (more_with was c.datagram c.items) d came (asked_at w t) u mid new next after rest full

-- ---- one step

pub step_more : {S : Type 0} (asks : Asking S) (last : S → Option (List ℕ)) → ((a b : S) (octets datagram : List ℕ) → asks a octets (Ok datagram) b → last b ≡ Some datagram) →
    (was : Bool) (t z : Transactions) (old new : S) (before after : WalkPlace) (came : List Came) (items : List Item) (end : Ended) →
    BroughtBy asks (walk_by old t before) 1 came items end (walk_by new z after) → more_last was end (last new) ≡ more_after was came
step_more {S = S} asks last keeps was t z old new before after came items end run = by end run.ends
  where
    whole : (came : List Came) → ComesBy asks (walk_by old t (restarted before)) came (walk_by run.mid run.half run.here) → EndsFull came → 0 < batches (answers_of came) → new ≡ run.mid →
        (datagram : List ℕ) × (last new ≡ Some datagram) × (more_after was came ≡ says_more datagram)
    whole [] comes full some same = absurd (omega (arith, some))
    whole (c ∷ came) comes full some same =
        let (datagram, is, says) = last_records asks last keeps was c came t run.half old run.mid (restarted before) run.here comes full in
        (datagram, ap last same ∙ is, says)

    by : (end : Ended) → EndsAfter asks 1 came (walk_by run.mid run.half run.here) end (walk_by new z after) → more_last was end (last new) ≡ more_after was came
    by ended.CaughtUp ends = sym (no_records was came ends.1)
    by ended.StepLimit ends =
        let (datagram, is, says) = whole came run.comes ends.0 (omega (arith, ends.1)) ends.3 in
        ap (more_last was ended.StepLimit) is ∙ sym says
    by ended.Stopped ends =
        let (datagram, is, says) = whole came run.comes ends.0 ends.1 ends.3 in
        ap (more_last was ended.Stopped) is ∙ sym says
    by (ended.Fault fault) ends = sym (no_records was came ends.0)

-- ---- how a walk ends

other_end : (a b : Bool) (cause : Why) → (cause ≡ why.CaughtUp → ⊥) → if_caught_up cause a ≡ if_caught_up cause b
other_end a b why.CaughtUp other = absurd (other refl)
other_end a b why.StepLimit other = refl
other_end a b (why.Fault fault) other = refl
other_end a b why.Memory other = refl

-- an end line that isn't that of a walk that is caught up is told alike, whatever was said
pub tells_alike : (layout : Form) (a b : Bool) (cause : Why) (next : ℕ) (result : Fetching) (old new : Held) → (cause ≡ why.CaughtUp → ⊥) → PrintsEnd layout cause next result old new →
    TellsMore a result → TellsMore b result
tells_alike layout a b cause next (Ok fetched) old new other prints tells = tells ∙ other_end a b fetched.why (λ is. other (sym prints.0 ∙ is))
tells_alike layout a b cause next (Err fault) old new other prints tells = tt
