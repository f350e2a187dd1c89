-- A step of a log's poll, by what holds of the records and of the numbers that it shows.
use Rattle.std.proofs.Common.{◌≡◌, ◌∙◌, inl, inr, ℕ, ◌==◌, Bool, true, false, Option, None, Some, List, [], ◌∷◌, ◌++◌}
use Rattle.std.proofs.Common.{length, refl, sym, subst}
use Rattle.bac_link.specs.Ordinals.{number_after}
use Rattle.bac_link.specs.declared.item.Item.{Item}
use Rattle.bac_link.specs.declared.item.Item.TheVariants.{Gap, Logged}
use Rattle.bac_walk.specs.declared.batch.Numbered.{Numbered}
use Rattle.bac_poll.specs.Poll.{after, after_too_many, more_of, reply_in}
use Rattle.bac_poll.specs.State.{PollState, Reply}
use Rattle.bac_poll.specs.Turns.{Turned, first_in, first_number, number_or}
use Rattle.bac_poll_steps.specs.declared.stage.Aim.{Aim}
use Rattle.bac_poll_steps.specs.declared.stage.Stage.{Stage}
use Rattle.bac_poll_steps.specs.declared.stage.Stage.TheVariants.{Joins, Prior, Ahead, Again, Each, Oldest, ByNumber}
use Rattle.bac_poll_steps.specs.declared.stage.Stage.TheVariants.{Counts, UpTo, Back, Revision, Restart}
use Rattle.bac_poll_laws.specs.Laws.{Answer, Clears, Counted, Covers, EachShownOnce, EndAt, Goes, HoldsOfEach, IsAmong}
use Rattle.bac_poll_laws.specs.Laws.{IsAt, IsClearAt, IsOneOf, IsRun, IsStanding, IsWhole, Replied}
use Rattle.bac_poll_laws.specs.Laws.{Restarted, Revised, ShowsOnly, after_answer, is_bare}
use Rattle.bac_site_laws.specs.Steps.{Ended, Fewer, IsAsked, IsShown, IsStep, Step, Took, after_step}

-- ---- what holds of less holds of more

module _ (P Q : Numbered → Type 0) (F G : ℕ → Type 0) (f : (h : Numbered) → P h → Q h) (g : (k : ℕ) → F k → G k) where
  run_as : (n : ℕ) (rs : List Numbered) → IsRun P n rs → IsRun Q n rs
  run_as n [] run = tt
  run_as n (r ∷ rs) run = (run.0, f r run.1, run_as (number_after r.number 1) rs run.2)

  covers_as : (a : ℕ) (xs : List Item) (b : ℕ) → Covers P a xs b → Covers Q a xs b
  covers_as a [] b c = c
  covers_as a (Gap gone before ∷ xs) b c = (c.0, covers_as before xs b c.1)
  covers_as a (Logged shown entry ∷ xs) b c =
      (c.0, f (record { number = shown; entry = entry }) c.1, covers_as (number_after shown 1) xs b c.2)

  ends_as : (xs : List Item) → EndAt F xs → EndAt G xs
  ends_as [] e = tt
  ends_as (Gap gone before ∷ xs) e = (g before e.0, ends_as xs e.1)
  ends_as (Logged shown entry ∷ xs) e = ends_as xs e

  pub at_as : (p : PollState) (stage : Stage) → IsAt P F p stage → IsAt Q G p stage
  at_as p Joins is = tt
  at_as p Prior is = tt
  at_as p Ahead is = tt
  at_as p Again is = run_as p.next p.held is
  at_as p Each is = is
  at_as p ByNumber is = (run_as (first_number p.held) p.held is.0, is.1)
  at_as p (Oldest aim) is = is
  at_as p (Counts aim) is = is
  at_as p (UpTo aim) is = is
  at_as p (Back aim) is = (is.0, run_as (first_number p.held) p.held is.1, is.2)
  at_as p Revision is = (run_as (first_number p.held) p.held is.0, g _ is.1)
  at_as p Restart is = (run_as (first_number p.held) p.held is.0, g _ is.1)

  whole_as : (n : ℕ) (t : Turned) → IsWhole P F n t → IsWhole Q G n t
  whole_as n t w = record {
    mid = w.mid;
    before = covers_as _ t.missing w.mid w.before;
    behind = covers_as _ _ t.poll.next w.behind;
    fronts = λ sure. (ends_as t.missing (w.fronts sure).0, ends_as t.gap (w.fronts sure).1);
  }

  pub goes_as : (n : ℕ) (t : Turned) → Goes P F n t → Goes Q G n t
  goes_as n t goes = (whole_as n t goes.0, λ none. ((goes.1 none).0, at_as t.poll t.poll.stage (goes.1 none).1))

-- ---- among some records

among_left : (xs ys : List Numbered) (h : Numbered) → IsAmong xs h → IsAmong (xs ++ ys) h
among_left [] ys h is = elim is [ ]
among_left (x ∷ xs) ys h (inl same) = inl same
among_left (x ∷ xs) ys h (inr rest) = inr (among_left xs ys h rest)

among_right : (xs ys : List Numbered) (h : Numbered) → IsAmong ys h → IsAmong (xs ++ ys) h
among_right [] ys h is = is
among_right (x ∷ xs) ys h is = inr (among_right xs ys h is)

each_among : (S rs : List Numbered) → ((h : Numbered) → IsAmong rs h → IsAmong S h) → HoldsOfEach (IsAmong S) rs
each_among S [] f = tt
each_among S (r ∷ rs) f = (f r (inl refl), each_among S rs (λ h is. f h (inr is)))

pub each_all : (P : Numbered → Type 0) (rs : List Numbered) → HoldsOfEach P rs → (h : Numbered) → IsAmong rs h → P h
each_all P [] all h is = elim is [ ]
each_all P (r ∷ rs) all h (inl same) = subst P same all.0
each_all P (r ∷ rs) all h (inr rest) = each_all P rs all.1 h rest

append_all : (P : Numbered → Type 0) (xs ys : List Numbered) → ((h : Numbered) → IsAmong xs h → P h) → ((h : Numbered) → IsAmong ys h → P h) →
    (h : Numbered) → IsAmong (xs ++ ys) h → P h
append_all P [] ys f g h is = g h is
append_all P (x ∷ xs) ys f g h (inl same) = f h (inl same)
append_all P (x ∷ xs) ys f g h (inr rest) = append_all P xs ys (λ k among. f k (inr among)) g h rest

run_among : (P : Numbered → Type 0) (S : List Numbered) (n : ℕ) (rs : List Numbered) → IsRun P n rs →
    ((h : Numbered) → IsAmong rs h → IsAmong S h) → IsRun (IsAmong S) n rs
run_among P S n [] run f = tt
run_among P S n (r ∷ rs) run f =
    (run.0, f r (inl refl), run_among P S (number_after r.number 1) rs run.2 (λ h is. f h (inr is)))

run_all : (P : Numbered → Type 0) (n : ℕ) (rs : List Numbered) → IsRun P n rs → (h : Numbered) → IsAmong rs h → P h
run_all P n [] run h is = elim is [ ]
run_all P n (r ∷ rs) run h (inl same) = subst P same run.1
run_all P n (r ∷ rs) run h (inr rest) = run_all P (number_after r.number 1) rs run.2 h rest

-- the records that are held back, where they count
abbrev pub held_at : PollState → Stage → List Numbered
held_at p Joins = []
held_at p Prior = []
held_at p Ahead = []
held_at p Again = p.held
held_at p Each = []
held_at p ByNumber = p.held
held_at p (Oldest aim) = []
held_at p (Counts aim) = []
held_at p (UpTo aim) = []
held_at p (Back aim) = p.held
held_at p Revision = p.held
held_at p Restart = p.held

module _ (P : Numbered → Type 0) (F : ℕ → Type 0) where
  held_all : (p : PollState) (stage : Stage) → IsAt P F p stage → (h : Numbered) → IsAmong (held_at p stage) h → P h
  held_all p Again is h among = run_all P p.next p.held is h among
  held_all p ByNumber is h among = run_all P (first_number p.held) p.held is.0 h among
  held_all p (Back aim) is h among = run_all P (first_number p.held) p.held is.1 h among
  held_all p Revision is h among = run_all P (first_number p.held) p.held is.0 h among
  held_all p Restart is h among = run_all P (first_number p.held) p.held is.0 h among
  held_all p Joins is h among = absurd among
  held_all p Prior is h among = absurd among
  held_all p Ahead is h among = absurd among
  held_all p Each is h among = absurd among
  held_all p (Oldest aim) is h among = absurd among
  held_all p (Counts aim) is h among = absurd among
  held_all p (UpTo aim) is h among = absurd among

  -- one of these numbers and 1
  abbrev pub fronts_of : ℕ → List ℕ
  fronts_of a = 1 ∷ a ∷ []

  one_of : (a : ℕ) → IsOneOf (fronts_of a) 1
  one_of a = inl refl

  -- a poll at a stage stands so with a list of records, and with a number at which a gap may end
  record Among (S : List Numbered) (p : PollState) (stage : Stage) : Type 0 where
    number : ℕ
    may : F number
    at : IsAt (IsAmong S) (IsOneOf (fronts_of number)) p stage

  among_at : (S : List Numbered) (p : PollState) (stage : Stage) → F 1 → ((h : Numbered) → IsAmong (held_at p stage) h → IsAmong S h) → IsAt P F p stage → Among S p stage
  among_at S p Joins one f is = record { number = 1; may = one; at = tt }
  among_at S p Prior one f is = record { number = 1; may = one; at = tt }
  among_at S p Ahead one f is = record { number = 1; may = one; at = tt }
  among_at S p Again one f is = record { number = 1; may = one; at = run_among P S p.next p.held is f }
  among_at S p Each one f is = record { number = 1; may = one; at = is }
  among_at S p ByNumber one f is = record { number = 1; may = one; at = (run_among P S (first_number p.held) p.held is.0 f, is.1) }
  among_at S p (Oldest aim) one f is = record { number = 1; may = one; at = is }
  among_at S p (Counts aim) one f is = record { number = 1; may = one; at = is }
  among_at S p (UpTo aim) one f is = record { number = 1; may = one; at = is }
  among_at S p (Back aim) one f is = record { number = 1; may = one; at = (is.0, run_among P S (first_number p.held) p.held is.1 f, is.2) }
  among_at S p Revision one f is =
      record { number = number_or (number_after p.total 1) (first_in p.held); may = is.1; at = (run_among P S (first_number p.held) p.held is.0 f, inr (inl refl)) }
  among_at S p Restart one f is =
      record { number = number_or (number_after p.total 1) (first_in p.held); may = is.1; at = (run_among P S (first_number p.held) p.held is.0 f, inr (inl refl)) }

  -- the same, and a reply says that nothing stands before that number
  record Cleared (S : List Numbered) (p : PollState) (more : Bool) (stage : Stage) (reply : Reply) : Type 0 where
    number : ℕ
    may : F number
    at : IsAt (IsAmong S) (IsOneOf (fronts_of number)) p stage
    clear : IsClearAt (IsOneOf (fronts_of number)) p more stage reply

  no_clear : (S : List Numbered) (p : PollState) (more : Bool) (stage : Stage) (reply : Reply) → Among S p stage →
      ((n : ℕ) → IsClearAt (IsOneOf (fronts_of n)) p more stage reply) → Cleared S p more stage reply
  no_clear S p more stage reply a c = record { number = a.number; may = a.may; at = a.at; clear = c a.number }

  up_to_clear : (S : List Numbered) (p : PollState) (more : Bool) (aim : Aim) (reply : Reply) (b : Bool) → F 1 → (length reply.records == 0) ≡ b →
      IsAt (IsAmong S) (IsOneOf (fronts_of 1)) p (UpTo aim) → IsClearAt F p more (UpTo aim) reply → Cleared S p more (UpTo aim) reply
  up_to_clear S p more aim reply true one none at clear =
      record { number = number_after p.total 1; may = clear none; at = at; clear = λ empty. inr (inl refl) }
  up_to_clear S p more aim reply false one some at clear =
      record { number = 1; may = one; at = at; clear = λ empty. absurd (let e : false ≡ true = sym some ∙ empty in cc) }

  back_clear : (S : List Numbered) (p : PollState) (more : Bool) (aim : Aim) (reply : Reply) (b : Bool) → F 1 → is_bare p more reply ≡ b →
      IsAt (IsAmong S) (IsOneOf (fronts_of 1)) p (Back aim) → IsClearAt F p more (Back aim) reply → Cleared S p more (Back aim) reply
  back_clear S p more aim reply true one none at clear =
      record { number = first_number p.held; may = clear none; at = at; clear = λ bare. inr (inl refl) }
  back_clear S p more aim reply false one some at clear =
      record { number = 1; may = one; at = at; clear = λ bare. absurd (let e : false ≡ true = sym some ∙ bare in cc) }

  cleared : (S : List Numbered) (p : PollState) (more : Bool) (stage : Stage) (reply : Reply) → F 1 →
      ((h : Numbered) → IsAmong (held_at p stage) h → IsAmong S h) → IsAt P F p stage → IsClearAt F p more stage reply → Cleared S p more stage reply
  cleared S p more Joins reply one f is clear = no_clear S p more Joins reply (among_at S p Joins one f is) (λ n. tt)
  cleared S p more Prior reply one f is clear = no_clear S p more Prior reply (among_at S p Prior one f is) (λ n. tt)
  cleared S p more Ahead reply one f is clear = no_clear S p more Ahead reply (among_at S p Ahead one f is) (λ n. tt)
  cleared S p more Again reply one f is clear = no_clear S p more Again reply (among_at S p Again one f is) (λ n. tt)
  cleared S p more Each reply one f is clear = no_clear S p more Each reply (among_at S p Each one f is) (λ n. tt)
  cleared S p more ByNumber reply one f is clear = no_clear S p more ByNumber reply (among_at S p ByNumber one f is) (λ n. tt)
  cleared S p more (Oldest aim) reply one f is clear = no_clear S p more (Oldest aim) reply (among_at S p (Oldest aim) one f is) (λ n. tt)
  cleared S p more (Counts aim) reply one f is clear = no_clear S p more (Counts aim) reply (among_at S p (Counts aim) one f is) (λ n. tt)
  cleared S p more (UpTo aim) reply one f is clear = up_to_clear S p more aim reply (length reply.records == 0) one refl is clear
  cleared S p more (Back aim) reply one f is clear =
      back_clear S p more aim reply (is_bare p more reply) one refl (is.0, run_among P S (first_number p.held) p.held is.1 f, is.2) clear
  cleared S p more Revision reply one f is clear = no_clear S p more Revision reply (among_at S p Revision one f is) (λ n. tt)
  cleared S p more Restart reply one f is clear = no_clear S p more Restart reply (among_at S p Restart one f is) (λ n. tt)

  fronts_all : (a : ℕ) → F 1 → F a → (k : ℕ) → IsOneOf (fronts_of a) k → F k
  fronts_all a one may k (inl same) = subst F same one
  fronts_all a one may k (inr (inl same)) = subst F same may
  fronts_all a one may k (inr (inr is)) = elim is [ ]

  -- ---- a step

  reply_step : EachShownOnce → F 1 → (p : PollState) (datagram : List ℕ) (o : Option Reply) → reply_in p datagram ≡ o → IsStanding P F p →
      ShowsOnly P o → Clears F p o → Goes P F p.next (after p datagram)
  reply_step law one p datagram None is stands shows clear =
      let S = held_at p p.stage in
      let a = among_at S p p.stage one (λ h among. among) stands.1 in
      let X : Option Reply → Type 0 = λ r. ShowsOnly (IsAmong S) r in
      let Y : Option Reply → Type 0 = λ r. Clears (IsOneOf (fronts_of a.number)) p r in
      goes_as (IsAmong S) P (IsOneOf (fronts_of a.number)) F (held_all p p.stage stands.1) (fronts_all a.number one a.may) p.next (after p datagram)
      ((law S (fronts_of a.number) (one_of a.number) p (stands.0, a.at)).0 datagram (subst X (sym is) tt) (subst Y (sym is) tt))
  reply_step law one p datagram (Some reply) is stands shows clear =
      let S = held_at p p.stage ++ reply.records in
      let a = cleared S p (more_of p reply) p.stage reply one (λ h among. among_left (held_at p p.stage) reply.records h among) stands.1 clear in
      let X : Option Reply → Type 0 = λ r. ShowsOnly (IsAmong S) r in
      let Y : Option Reply → Type 0 = λ r. Clears (IsOneOf (fronts_of a.number)) p r in
      goes_as (IsAmong S) P (IsOneOf (fronts_of a.number)) F
      (append_all P (held_at p p.stage) reply.records (held_all p p.stage stands.1) (each_all P reply.records shows))
      (fronts_all a.number one a.may) p.next (after p datagram)
      ((law S (fronts_of a.number) (one_of a.number) p (stands.0, a.at)).0 datagram
      (subst X (sym is) (each_among S reply.records (λ h among. among_right (held_at p p.stage) reply.records h among))) (subst Y (sym is) a.clear))

  other_step : EachShownOnce → F 1 → (p : PollState) (answer : Answer) → IsStanding P F p → IsAsked p answer → IsShown P F p answer → Goes P F p.next (after_answer p answer)
  other_step law one p (Replied datagram) stands asked shows = reply_step law one p datagram (reply_in p datagram) refl stands shows.0 shows.1
  other_step law one p (Counted count) stands asked shows =
      let S = held_at p p.stage in
      let a = among_at S p p.stage one (λ h among. among) stands.1 in
      goes_as (IsAmong S) P (IsOneOf (fronts_of a.number)) F (held_all p p.stage stands.1) (fronts_all a.number one a.may) p.next _
      ((law S (fronts_of a.number) (one_of a.number) p (stands.0, a.at)).1 count)
  other_step law one p (Revised revision) stands asked shows =
      let S = held_at p p.stage in
      let a = among_at S p p.stage one (λ h among. among) stands.1 in
      goes_as (IsAmong S) P (IsOneOf (fronts_of a.number)) F (held_all p p.stage stands.1) (fronts_all a.number one a.may) p.next _
      ((law S (fronts_of a.number) (one_of a.number) p (stands.0, a.at)).2 asked revision)
  other_step law one p (Restarted restart moment) stands asked shows =
      let S = held_at p p.stage in
      let a = among_at S p p.stage one (λ h among. among) stands.1 in
      goes_as (IsAmong S) P (IsOneOf (fronts_of a.number)) F (held_all p p.stage stands.1) (fronts_all a.number one a.may) p.next _
      ((law S (fronts_of a.number) (one_of a.number) p (stands.0, a.at)).3 asked restart moment)

  -- fewer records are asked for by a poll that stands where it did
  fewer_at : (p : PollState) (stage : Stage) → IsAt P F p stage → IsAt P F (after_too_many p) stage
  fewer_at p Joins is = tt
  fewer_at p Prior is = tt
  fewer_at p Ahead is = tt
  fewer_at p Again is = is
  fewer_at p Each is = is
  fewer_at p ByNumber is = is
  fewer_at p (Oldest aim) is = aimed aim is
    where
      aimed : (aim : Aim) → IsAt P F p (Oldest aim) → IsAt P F (after_too_many p) (Oldest aim)
      aimed Aim.Finds is = tt
      aimed Aim.Renews is = is
      aimed Aim.Starts is = is
  fewer_at p (Counts aim) is = aimed aim is
    where
      aimed : (aim : Aim) → IsAt P F p (Counts aim) → IsAt P F (after_too_many p) (Counts aim)
      aimed Aim.Finds is = tt
      aimed Aim.Renews is = is
      aimed Aim.Starts is = is
  fewer_at p (UpTo aim) is = aimed aim is
    where
      aimed : (aim : Aim) → IsAt P F p (UpTo aim) → IsAt P F (after_too_many p) (UpTo aim)
      aimed Aim.Finds is = tt
      aimed Aim.Renews is = is
      aimed Aim.Starts is = is
  fewer_at p (Back aim) is = (aimed aim is.0, is.1, is.2)
    where
      aimed : (aim : Aim) → IsAt P F p (Oldest aim) → IsAt P F (after_too_many p) (Oldest aim)
      aimed Aim.Finds is = tt
      aimed Aim.Renews is = is
      aimed Aim.Starts is = is
  fewer_at p Revision is = is
  fewer_at p Restart is = is

  pub one_step : EachShownOnce → F 1 → (p : PollState) (step : Step) → IsStanding P F p → IsStep P F p step → Goes P F p.next (after_step p step)
  one_step law one p (Took answer) stands is = other_step law one p answer stands is.0 is.1
  one_step law one p (Ended why) stands is =
      (record { mid = p.next; before = refl; behind = refl; fronts = λ sure. (tt, tt) }, λ none. absurd (cc))
  one_step law one p Fewer stands is =
      (record { mid = p.next; before = refl; behind = refl; fronts = λ sure. (tt, tt) }, λ none. (stands.0, fewer_at p p.stage stands.1))
