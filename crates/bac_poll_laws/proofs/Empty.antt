-- How a first run ends of a log that shows no record.
use Rattle.std.proofs.Common.{arith, ◌≡◌, ℕ, ◌<◌, ◌==◌, Bool, true, false, Option, None, Some, List, [], refl, sym, ap}
use Rattle.std.proofs.Common.{subst, if◌then◌else◌}
use Rattle.std.proofs.lemmas.Bool.{eqb-true}
use Rattle.bac_wire.specs.Primitive.{Id}
use Rattle.bac_link.specs.Ordinals.{is_ahead, number_after}
use Rattle.bac_walk.specs.declared.batch.Numbered.{Numbered}
use Rattle.bac_poll.specs.Poll.{after_count, after_reply, oldest_none, starting}
use Rattle.bac_poll.specs.Starts.{starts_at, starts_none, total_of}
use Rattle.bac_poll.specs.State.{PollState, Reply, ToldAs}
use Rattle.bac_poll.specs.Turns.{Turned, asks_at}
use Rattle.bac_poll_steps.specs.declared.stage.Aim.TheVariants.{Starts}
use Rattle.bac_poll_steps.specs.declared.stage.Stage.TheVariants.{UpTo}
use Rattle.bac_poll_steps.specs.declared.turn.PollEnd.TheVariants.{CaughtUp, SaysMore}
use Rattle.bac_poll_laws.specs.Bounds.{WhicheverRecord}
use Rattle.bac_poll_laws.specs.Empty.{EmptyEnds, EndsAt, LooksOn, end_of_none}
use Rattle.bac_poll_laws.specs.Laws.{Whichever}
use Rattle.bac_poll_laws.proofs.Wholes.{split}

-- of no record the beginning alone is put
starts_ends : (p : PollState) (first : ℕ) (counted : Option ℕ) → p.more ≡ false → EndsAt CaughtUp first (starts_at p first [] counted)
starts_ends p first None whole = (refl, ap (λ (more : Bool). Some (if more then SaysMore else CaughtUp)) whole, refl)
starts_ends p first (Some counted) whole =
    split WhicheverRecord Whichever (EndsAt CaughtUp first) (is_ahead counted first) _ _
    (λ behind. (refl, ap (λ (more : Bool). Some (if more then SaysMore else CaughtUp)) whole, refl))
    (λ here. (refl, ap (λ (more : Bool). Some (if more then SaysMore else CaughtUp)) whole, refl))

-- replies without a record
no_records : Bool → Bool → Reply
no_records last more = record { records = []; last = last; more = more }

-- all that is said
abbrev Ends : Id → Id → ℕ → Option ℕ → Option ℕ → ToldAs → ToldAs → Reply → Reply → Type 0
Ends log device many begins count word told oldest up =
    LooksOn (after_count (starting log device many begins word told) count)
    × (total_of count ≡ 0 → EndsAt (end_of_none begins count) (number_after (total_of count) 1) (after_reply (after_count (starting log device many begins word told) count).poll oldest))
    × (0 < total_of count →
    LooksOn (after_reply (after_count (starting log device many begins word told) count).poll oldest)
    × EndsAt (end_of_none begins count) (number_after (total_of count) 1)
    (after_reply (after_reply (after_count (starting log device many begins word told) count).poll oldest).poll up))

never : {A : Type 0} → 0 < 0 → A
never less = absurd (omega (arith, less))

some_not : (n : ℕ) → 0 < n → (n == 0) ≡ false
some_not n some = by (n == 0) refl
  where
    by : (c : Bool) → (n == 0) ≡ c → c ≡ false
    by false is = refl
    by true is = let none : n ≡ 0 = eqb-true n 0 is in let less : 0 < 0 = omega (arith, none, some) in never less

-- where something was logged those up to the count are asked for
looks : (q : PollState) → 0 < q.total → oldest_none q Starts ≡ asks_at q (UpTo Starts) q.total
looks q some = subst (λ (c : Bool). (if c then starts_none q else asks_at q (UpTo Starts) q.total) ≡ asks_at q (UpTo Starts) q.total) (sym (some_not q.total some)) refl

ends : (log device : Id) (many : ℕ) (begins count : Option ℕ) (word told : ToldAs) (l m l2 m2 : Bool) → Ends log device many begins count word told (no_records l m) (no_records l2 m2)
unfolding no_records
ends log device many None None word told l m l2 m2 = ((refl, refl), (λ none. (refl, refl, refl)), (λ some. never some))
ends log device many (Some b) None word told l m l2 m2 = ((refl, refl), (λ none. (refl, refl, refl)), (λ some. never some))
ends log device many None (Some total) word told l m l2 m2 =
    let q : PollState = record (after_count (starting log device many None word told) (Some total)).poll { more = false; held = [] } in
    let z : PollState = record (after_count (starting log device many None word told) (Some 0)).poll { more = false; held = [] } in (
      (refl, refl),
      λ none.
          subst (λ (n : ℕ). EndsAt CaughtUp (number_after n 1) (after_reply (after_count (starting log device many None word told) (Some n)).poll (no_records l m))) (sym none)
          (starts_ends z (number_after 0 1) (Some (number_after 0 1)) refl),
      λ some.
          subst (λ (t : Turned). LooksOn t × EndsAt CaughtUp (number_after total 1) (after_reply t.poll (no_records l2 m2))) (sym (looks q some))
          ((refl, refl), starts_ends (record q { stage = UpTo Starts; reference = total }) (number_after total 1) (Some (number_after total 1)) refl),
    )
ends log device many (Some b) (Some total) word told l m l2 m2 =
    let q : PollState = record (after_count (starting log device many (Some b) word told) (Some total)).poll { more = false; held = [] } in
    let z : PollState = record (after_count (starting log device many (Some b) word told) (Some 0)).poll { more = false; held = [] } in (
      (refl, refl),
      λ none.
          subst (λ (n : ℕ). EndsAt CaughtUp (number_after n 1) (after_reply (after_count (starting log device many (Some b) word told) (Some n)).poll (no_records l m))) (sym none)
          (starts_ends z (number_after 0 1) (Some b) refl),
      λ some.
          subst (λ (t : Turned). LooksOn t × EndsAt CaughtUp (number_after total 1) (after_reply t.poll (no_records l2 m2))) (sym (looks q some))
          ((refl, refl), starts_ends (record q { stage = UpTo Starts; reference = total }) (number_after total 1) (Some b) refl),
    )

pub empty_ends : EmptyEnds
unfolding no_records
empty_ends log device many begins count word told oldest up none no_more =
    subst (λ (rs : List Numbered). Ends log device many begins count word told (record { records = rs; last = oldest.last; more = oldest.more }) up) (sym none)
    (subst (λ (rs : List Numbered). Ends log device many begins count word told (no_records oldest.last oldest.more) (record { records = rs; last = up.last; more = up.more })) (sym no_more)
    (ends log device many begins count word told oldest.last oldest.more up.last up.more))
