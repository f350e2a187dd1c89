-- What is held where a walk of a log at rest got a reply is loggable.
use Rattle.std.proofs.Common.{◌≡◌, ◌+◌, ℕ, zero, suc, ◌<◌, ◌⊎◌, inl, inr, max, nat_le, nat_lt, Bool, true, false, if◌then◌else◌, Option, None, Result, List, [], ◌∷◌, ◌++◌, length, refl, subst, arith}
use Rattle.std.specs.Prelude.{All}
use Rattle.bac_wire.specs.Canon.{IsValid}
use Rattle.bac_wire.specs.Primitive.{Id, Object}
use Rattle.bac_apdu.specs.Npdu.{Place}
use Rattle.bac_log.specs.Entry.{IsLoggable}
use Rattle.bac_log.specs.TrendLog.{sequence_number}
use Rattle.bac_link.specs.Delivery.{History, Moment}
use Rattle.bac_link.specs.Moments.{log_at}
use Rattle.bac_link.specs.Path.{towards}
use Rattle.bac_link.specs.declared.item.Item.{Item}
use Rattle.bac_link.specs.declared.link.Lost.{Lost as Loss}
use Rattle.bac_walk.specs.Came.{Came, Brought, Comes, EndsBy, EndsEmpty, answers_of, reaching, walk_over}
use Rattle.bac_walk.specs.Collects.{batches}
use Rattle.bac_walk.specs.Outcomes.{IsRunOf}
use Rattle.bac_walk.specs.Place.{WalkPlace, walk_at}
use Rattle.bac_walk.specs.Rests.{Rested, rest_from}
use Rattle.bac_walk.specs.Honest.{RepliesAreLoggable}
use Rattle.bac_walk.specs.Turns.{whole_reply, reply_count}
use Rattle.bac_walk.specs.declared.outcome.Ended.{Ended}
use Rattle.bac_walk.specs.declared.outcome.Ended.TheVariants.{CaughtUp, StepLimit, Stopped, Fault}
use Rattle.bac_walk.specs.declared.outcome.WalkFault.{WalkFault}
use Rattle.bac_walk.specs.declared.outcome.Why.{Why}
use Rattle.bac_walk.specs.declared.outcome.Why.TheVariants as why
use Rattle.bac_client_tests.proofs.Foreign.{most_asked}

-- at rest no walk ends with a fault
rest_whole : (r : ℕ) (H : History) (m : Moment) (s steps : ℕ) (e : WalkFault) → (rest_from r 100 H m s steps).ended ≡ Fault e → ⊥
rest_whole r H m s zero e is = absurd cc
rest_whole r H m s (suc steps) e is =
    let by_oldest = nat_le (s + 100) (max s m.oldest) in
    let u = max s m.oldest + reply_count r 100 H m by_oldest s in
    let more = rest_from r 100 H m u steps in
    by (nat_lt m.newest (max s m.oldest)) (record { items = whole_reply r 100 H m by_oldest s ++ more.items; next = more.next; ended = more.ended })
    (λ f. rest_whole r H m u steps e f) is
  where
    by : (b : Bool) (x : Rested) → (x.ended ≡ Fault e → ⊥) → (if b then record { items = []; next = s; ended = CaughtUp } else x).ended ≡ Fault e → ⊥
    by true x whole f = absurd cc
    by false x whole f = whole f

whole_why : (w : Why) (steps : ℕ) (ended : Ended) (e : WalkFault) → IsRunOf w steps steps ended → w ≡ why.Fault e → ended ≡ Fault e
whole_why why.CaughtUp steps ended e run is = absurd cc
whole_why why.StepLimit steps ended e run is = absurd cc
whole_why (why.Fault f) steps ended e run is = let a = run.1 in cc
whole_why why.Memory steps ended e run is = absurd cc

-- so a reply came, unless memory ran out
came_some : {S : Type 0} (asks : S → List ℕ → Result (List ℕ) Loss → S → Type 0) (place : Option Place) (retries steps n : ℕ) (came : List Came) (here after : WalkPlace) (mid new : S)
    (ended : Ended) (w : Why) → 0 < steps → ((e : WalkFault) → w ≡ why.Fault e → ⊥) → IsRunOf w steps n ended →
    EndsBy (reaching asks (towards place) retries) n came (walk_over mid here) ended (walk_over new after) → (w ≡ why.Memory) ⊎ (0 < length came)
came_some asks place retries steps n came here after mid new ended why.Memory some whole run ends = inl refl
came_some asks place retries steps n came here after mid new ended (why.Fault e) some whole run ends = absurd (whole e refl)
came_some asks place retries steps n came here after mid new CaughtUp why.CaughtUp some whole run ends = inr (not_empty came ends.0)
  where
    not_empty : (came : List Came) → EndsEmpty came → 0 < length came
    not_empty [] empty = absurd empty
    not_empty (c ∷ came) empty = omega arith
came_some asks place retries steps n came here after mid new StepLimit why.CaughtUp some whole run ends = absurd (let e = run.1 in cc)
came_some asks place retries steps n came here after mid new Stopped why.CaughtUp some whole run ends = absurd (let e = run.1 in cc)
came_some asks place retries steps n came here after mid new (Fault f) why.CaughtUp some whole run ends = absurd (let e = run.1 in cc)
came_some asks place retries steps n came here after mid new StepLimit why.StepLimit some whole run ends = inr (many came (omega (arith, ends.1, run.0, some)))
  where
    many : (came : List Came) → 0 < batches (answers_of came) → 0 < length came
    many [] full = absurd (omega (arith, full))
    many (c ∷ came) full = omega arith
came_some asks place retries steps n came here after mid new CaughtUp why.StepLimit some whole run ends = absurd (let e = run.1 in cc)
came_some asks place retries steps n came here after mid new Stopped why.StepLimit some whole run ends = absurd (let e = run.1 in cc)
came_some asks place retries steps n came here after mid new (Fault f) why.StepLimit some whole run ends = absurd (let e = run.1 in cc)

pub all_loggable : {S : Type 0} (asks : S → List ℕ → Result (List ℕ) Loss → S → Type 0) (ours : S → Id → ℕ → List Moment → History → Type 0) →
    RepliesAreLoggable asks ours → (way : Option Place) (retries steps n : ℕ) (came : List Came) (items : List Item) (ended : Ended) (reason : Why) (w after : WalkPlace) (old new : S)
    (log : Id) (number r s : ℕ) (m : Moment) (H : History) → way ≡ None → w ≡ walk_at log number → number ≡ sequence_number s → IsValid (Object log) → ours old log r (m ∷ []) H → 0 < steps →
    IsRunOf reason steps steps (rest_from r 100 H m s steps).ended → IsRunOf reason steps n ended → Brought (reaching asks (towards way) retries) (walk_over old w) n came items ended (walk_over new after) →
    (reason ≡ why.Memory) ⊎ All IsLoggable (log_at m H).entries
all_loggable {S = S} asks ours law way retries steps n came items ended reason w after old new log number r s m H near from here valid is_ours some rests run ran =
    let P : Option Place → WalkPlace → Type 0 = λ y v. Brought (reaching asks (towards y) retries) (walk_over old v) n came items ended (walk_over new after) in
    let B : Option Place → Type 0 = λ y. P y (walk_at log number) in
    let b : P None (walk_at log number) = subst B near (subst (P way) from ran) in
    elim (came_some asks None retries steps n came b.0 after b.1 new ended reason some
    (λ e is. rest_whole r H m s steps e (whole_why reason steps (rest_from r 100 H m s steps).ended e rests is)) run b.3) [
      | inl memory ↦ inl memory
      | inr full ↦ inr (held came b.0 b.1 full b.2)
    ]
  where
    held : (came : List Came) (left : WalkPlace) (mid : S) → 0 < length came → Comes (reaching asks (towards None) retries) (walk_over old (walk_at log number)) came (walk_over mid left) → All IsLoggable (log_at m H).entries
    held [] left mid full comes = absurd (omega (arith, full))
    held (c ∷ more) left mid full comes = law None retries old mid (walk_at log number) left c more r s (m ∷ []) H is_ours tt valid most_asked here comes
