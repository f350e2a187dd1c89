-- What every event keeps of what was delivered.
use Rattle.std.proofs.Common.{◌≡◌, ℕ, zero, suc, Bool, true, false, ◌+◌, ◌-◌, ◌<◌, ◌≤◌, ◌⊎◌, inl, inr, if◌then◌else◌, List, [], ◌∷◌, ◌++◌, length, take, Option, Some, None, refl, sym, ap, subst, ◌∙◌, arith, length-append, nat_lt}
use Rattle.std.proofs.lemmas.Bool.{ltb-true, ltb-false}
use Rattle.std.proofs.lemmas.List.{length-take, take_all}
use Rattle.bac_log.specs.TrendLog.{sequence_number}
use Rattle.bac_link.specs.declared.item.Item.{Item}
use Rattle.bac_link.specs.Delivery.{History, Moment, Brings, Leads, items_of}
use Rattle.bac_link.specs.Laws.{moment_at}
use Rattle.bac_walk.specs.Collects.{batches, start_of}
use Rattle.bac_walk.specs.Delivers.{NoneFrom}
use Rattle.bac_walk.specs.Near.{IsNear}
use Rattle.bac_walk.specs.Place.{WalkPlace}
use Rattle.bac_walk.specs.Turns.{NoneOfAsked}
use Rattle.bac_walk.specs.Walks.{asks_oldest_now}
use Rattle.bac_walk.proofs.Came.{or_true}
use Rattle.std.proofs.Common.{append-nil}
use Rattle.bac_world.specs.Network.{restarted}
use Rattle.bac_world.specs.Runs.{WasCaughtUp}
use Rattle.bac_world.proofs.Grows.{moment_at-grow, moment_at-last, idle, length-idle, one_after, Leads-after, length-after, items_of-after, items_of-padded, batches-after, start_of-more, start_of-first, Led, led_grown, led_padded, led_before}

-- when the walk was caught up: before the request that is open
abbrev pub CaughtPart : History → List Moment → Bool → ℕ → ℕ → Bool → List (List Item) → Option ℕ → Type 0
CaughtPart H M fresh s began waits done None = Unit {0}
CaughtPart H M fresh s began waits done (Some n) =
    (i : ℕ) × (t : ℕ) × (i < length M) × (waits ≡ true → i < began) × (n ≡ sequence_number t) × Led H M fresh s (take i done) t × NoneFrom t (moment_at M i)

-- what was delivered, by the answers up to the last that brought a batch: the walk is at ordinal t
pub record DonePart (H : History) (M : List Moment) (fresh : Bool) (s began : ℕ) (waits : Bool) (walk : WalkPlace) (items : List Item) (caught : Option ℕ)
    (done : List (List Item)) (t : ℕ) : Type 0 where
  pub short : length done ≤ length M
  pub behind : waits ≡ true → length done ≤ began
  pub led : Led H M fresh s done t
  pub all : items_of done ≡ items
  pub next : walk.next ≡ sequence_number t
  pub early : walk.fresh ≡ true → (fresh ≡ true) × (done ≡ [])
  pub late : walk.fresh ≡ false → fresh ≡ true → 0 < batches done
  pub asked : walk.fresh ≡ false → walk.asks_oldest ≡ true →
      (q : ℕ) × (q < length M) × (waits ≡ true → q < began) × (length done ≤ q) × NoneOfAsked walk.count t (moment_at M q)
  pub near : waits ≡ true → walk.fresh ≡ false → (q : ℕ) → began ≤ q → q < length M → IsNear t (moment_at M q)
  pub up : CaughtPart H M fresh s began waits done caught

-- ---- a request begins

caught_asked : (H : History) (M : List Moment) (fresh : Bool) (s began : ℕ) (waits : Bool) (done : List (List Item)) (caught : Option ℕ) →
    CaughtPart H M fresh s began waits done caught → CaughtPart H M fresh s (length M) true done caught
caught_asked H M fresh s began waits done None c = tt
caught_asked H M fresh s began waits done (Some n) c = (c.0, c.1, c.2, λ w. c.2, c.4, c.5, c.6)

pub done_asked : (H : History) (M : List Moment) (fresh : Bool) (s began : ℕ) (waits : Bool) (walk : WalkPlace) (items : List Item) (caught : Option ℕ)
    (done : List (List Item)) (t : ℕ) → DonePart H M fresh s began waits walk items caught done t →
    DonePart H M fresh s (length M) true walk items caught done t
done_asked H M fresh s began waits walk items caught done t d = record {
  short = d.short;
  behind = λ w. d.short;
  led = d.led;
  all = d.all;
  next = d.next;
  early = d.early;
  late = d.late;
  asked = λ f a. let q = d.asked f a in (q.0, q.1, λ w. q.1, q.3, q.4);
  near = λ w f q from below. absurd (omega (arith, from, below));
  up = caught_asked H M fresh s began waits done caught d.up;
}

-- ---- a device answers

caught_grown : (H : History) (M N : List Moment) (fresh : Bool) (s began : ℕ) (waits : Bool) (done : List (List Item)) (caught : Option ℕ) → length done ≤ length M →
    CaughtPart H M fresh s began waits done caught → CaughtPart H (M ++ N) fresh s began waits done caught
caught_grown H M N fresh s began waits done None short c = tt
caught_grown H M N fresh s began waits done (Some n) short c =
    let P : Moment → Type 0 = λ m. NoneFrom c.1 m in (
      c.0,
      c.1,
      omega (arith, c.2, length-append M N),
      c.3,
      c.4,
      led_grown H M N fresh s c.1 (take c.0 done) (omega (arith, take_short c.0 done, short)) c.5,
      subst P (sym (moment_at-grow M N c.0 c.2)) c.6,
    )
  where
    take_short : (i : ℕ) (xs : List (List Item)) → length (take i xs) ≤ length xs
    take_short i xs = omega (arith, length-take i xs)

near_grown : (M : List Moment) (m : Moment) (began t : ℕ) → ((q : ℕ) → began ≤ q → q < length M → IsNear t (moment_at M q)) → IsNear t m →
    (q : ℕ) → began ≤ q → q < length (M ++ m ∷ []) → IsNear t (moment_at (M ++ m ∷ []) q)
near_grown M m began t old new q from below = at (nat_lt q (length M)) refl
  where
    P : Moment → Type 0
    P n = IsNear t n

    at : (b : Bool) → nat_lt q (length M) ≡ b → IsNear t (moment_at (M ++ m ∷ []) q)
    at true is =
        let lt : q < length M = ltb-true q (length M) is in
        subst P (sym (moment_at-grow M (m ∷ []) q lt)) (old q from lt)
    at false is =
        let ge : length M ≤ q = ltb-false q (length M) is in
        let last : q ≡ length M = omega (arith, ge, below, length-append M (m ∷ [])) in
        let Q : ℕ → Type 0 = λ k. IsNear t (moment_at (M ++ m ∷ []) k) in
        subst Q (sym last) (subst P (sym (moment_at-last M m)) new)

pub done_grown : (H : History) (M : List Moment) (m : Moment) (fresh : Bool) (s began : ℕ) (waits : Bool) (walk : WalkPlace) (items : List Item) (caught : Option ℕ)
    (done : List (List Item)) (t : ℕ) → (walk.fresh ≡ false → IsNear t m) → DonePart H M fresh s began waits walk items caught done t →
    DonePart H (M ++ m ∷ []) fresh s began waits walk items caught done t
done_grown H M m fresh s began waits walk items caught done t near d =
    let N : List Moment = m ∷ [] in
    let R : Moment → Type 0 = λ k. NoneOfAsked walk.count t k in
    record {
      short = omega (arith, d.short, length-append M N);
      behind = d.behind;
      led = led_grown H M N fresh s t done d.short d.led;
      all = d.all;
      next = d.next;
      early = d.early;
      late = d.late;
      asked = λ f a. let q = d.asked f a in
          (q.0, omega (arith, q.1, length-append M N), q.2, q.3, subst R (sym (moment_at-grow M N q.0 q.1)) q.4);
      near = λ w f. near_grown M m began t (d.near w f) (near f);
      up = caught_grown H M N fresh s began waits done caught d.short d.up;
    }

-- ---- a request is given up, or its answer brings nothing

caught_closed : (H : History) (M : List Moment) (fresh : Bool) (s began : ℕ) (waits : Bool) (done : List (List Item)) (caught : Option ℕ) →
    CaughtPart H M fresh s began waits done caught → CaughtPart H M fresh s began false done caught
caught_closed H M fresh s began waits done None c = tt
caught_closed H M fresh s began waits done (Some n) c = (c.0, c.1, c.2, λ w. absurd (cc), c.4, c.5, c.6)

pub done_closed : (H : History) (M : List Moment) (fresh : Bool) (s began : ℕ) (waits : Bool) (walk : WalkPlace) (items : List Item) (caught : Option ℕ)
    (done : List (List Item)) (t : ℕ) → DonePart H M fresh s began waits walk items caught done t →
    DonePart H M fresh s began false (restarted walk) items caught done t
done_closed H M fresh s began waits walk items caught done t d = record {
  short = d.short;
  behind = λ w. absurd (cc);
  led = d.led;
  all = d.all;
  next = d.next;
  early = d.early;
  late = d.late;
  asked = λ f a. absurd (cc);
  near = λ w f q from below. absurd (cc);
  up = caught_closed H M fresh s began waits done caught d.up;
}

-- no entry of those asked for from the next number on is held: the oldest are asked for next
pub done_idle : (H : History) (M : List Moment) (fresh : Bool) (s began : ℕ) (waits : Bool) (walk : WalkPlace) (items : List Item) (caught : Option ℕ)
    (done : List (List Item)) (t p : ℕ) → DonePart H M fresh s began waits walk items caught done t →
    waits ≡ true → began ≤ p → p < length M → NoneOfAsked walk.count t (moment_at M p) →
    DonePart H M fresh s began false (record walk { asks_oldest = true }) items caught done t
done_idle H M fresh s began waits walk items caught done t p d w from below none = record {
  short = d.short;
  behind = λ w. absurd (cc);
  led = d.led;
  all = d.all;
  next = d.next;
  early = d.early;
  late = d.late;
  asked = λ f a. (p, below, λ w. absurd (cc), omega (arith, d.behind w), none);
  near = λ w f q from below. absurd (cc);
  up = caught_closed H M fresh s began waits done caught d.up;
}

-- ---- nothing newer is held

led_whole : (H : History) (M : List Moment) (fresh : Bool) (s t : ℕ) (done : List (List Item)) (i : ℕ) → length done ≤ i → Led H M fresh s done t → Led H M fresh s (take i done) t
led_whole H M fresh s t done i le led =
    let P : List (List Item) → Type 0 = λ xs. Led H M fresh s xs t in
    subst P (sym (take_all i done le)) led

caught_now : (H : History) (M : List Moment) (fresh : Bool) (s began : ℕ) (waits : Bool) (walk : WalkPlace) (items : List Item) (caught : Option ℕ)
    (done : List (List Item)) (t p : ℕ) → DonePart H M fresh s began waits walk items caught done t →
    0 < walk.count → waits ≡ true → began ≤ p → p < length M → ((i : ℕ) → i < p → (moment_at M i).oldest ≤ (moment_at M p).oldest) → asks_oldest_now walk ≡ true →
    (((moment_at M p).newest < (moment_at M p).oldest) ⊎ ((walk.fresh ≡ false) × ((moment_at M p).oldest < t))) →
    CaughtPart H M fresh s began false done (Some walk.next)
caught_now H M fresh s began waits walk items caught done t p d some w from below before oldest (inl empty) = (
  p,
  t,
  below,
  λ w. absurd (cc),
  d.next,
  led_whole H M fresh s t done p (omega (arith, d.behind w)) d.led,
  λ k low held. omega (arith, held.0, held.1, empty),
)
caught_now H M fresh s began waits walk items caught done t p d some w from below before oldest (inr past) =
    let q = d.asked past.0 (or_true walk.fresh walk.asks_oldest oldest past.0) in
    let lt : q.0 < began = q.2 w in
    let low : (moment_at M q.0).oldest ≤ (moment_at M p).oldest = before q.0 (omega arith) in
    let less : (moment_at M p).oldest < t = past.1 in (
      q.0,
      t,
      q.1,
      λ w. absurd (cc),
      d.next,
      led_whole H M fresh s t done q.0 q.3 d.led,
      λ k above held. q.4 t (omega arith) (omega (arith, some)) (omega arith, omega (arith, held.0, held.1, above)),
    )

pub done_up : (H : History) (M : List Moment) (fresh : Bool) (s began : ℕ) (waits : Bool) (walk : WalkPlace) (items : List Item) (caught : Option ℕ)
    (done : List (List Item)) (t p : ℕ) → DonePart H M fresh s began waits walk items caught done t →
    0 < walk.count → waits ≡ true → began ≤ p → p < length M → ((i : ℕ) → i < p → (moment_at M i).oldest ≤ (moment_at M p).oldest) → asks_oldest_now walk ≡ true →
    (((moment_at M p).newest < (moment_at M p).oldest) ⊎ ((walk.fresh ≡ false) × ((moment_at M p).oldest < t))) →
    DonePart H M fresh s began false (restarted walk) items (Some walk.next) done t
done_up H M fresh s began waits walk items caught done t p d some w from below before oldest none = record {
  short = d.short;
  behind = λ w. absurd (cc);
  led = d.led;
  all = d.all;
  next = d.next;
  early = d.early;
  late = d.late;
  asked = λ f a. absurd (cc);
  near = λ w f q from below. absurd (cc);
  up = caught_now H M fresh s began waits walk items caught done t p d some w from below before oldest none;
}

-- ---- a batch

caught_after : (H : History) (M : List Moment) (fresh : Bool) (s began : ℕ) (waits : Bool) (done : List (List Item)) (caught : Option ℕ) (k : ℕ) (b : List Item) →
    CaughtPart H M fresh s began waits done caught → waits ≡ true → began ≤ length done + k →
    CaughtPart H M fresh s began false (done ++ (idle k ++ b ∷ [])) caught
caught_after H M fresh s began waits done None k b c w from = tt
caught_after H M fresh s began waits done (Some n) k b c w from =
    let lt : c.0 < began = c.3 w in
    (c.0, c.1, c.2, λ w. absurd (cc), c.4, led_before H M fresh s c.1 done c.0 k (b ∷ []) (omega arith) c.5, c.6)

start_after : (fresh : Bool) (s : ℕ) (M : List Moment) (done more : List (List Item)) → (fresh ≡ true → 0 < batches done) → start_of fresh s M (done ++ more) ≡ start_of fresh s M done
start_after false s M done more some = refl
start_after true s M done more some = start_of-more s M done more (some refl)

-- after others
done_more : (H : History) (M : List Moment) (fresh : Bool) (s began : ℕ) (waits : Bool) (walk after : WalkPlace) (items : List Item) (caught : Option ℕ)
    (done : List (List Item)) (t u p : ℕ) (b : List Item) → DonePart H M fresh s began waits walk items caught done t →
    waits ≡ true → began ≤ p → p < length M → walk.fresh ≡ false → after.fresh ≡ false → after.asks_oldest ≡ false → after.next ≡ sequence_number u →
    Brings H (moment_at M p) t b u → 0 < length b →
    DonePart H M fresh s began false after (items ++ b) caught (done ++ (idle (p - length done) ++ b ∷ [])) u
done_more H M fresh s began waits walk after items caught done t u p [] d w from below old f a next brings some = absurd (omega arith)
done_more H M fresh s began waits walk after items caught done t u p (x ∷ b) d w from below old f a next brings some =
    let k = p - length done in
    let place : p ≡ length done + k = omega (arith, d.behind w) in
    let begin = start_of fresh s M done in
    let same : start_of fresh s M (done ++ (idle k ++ (x ∷ b) ∷ [])) ≡ begin = start_after fresh s M done (idle k ++ (x ∷ b) ∷ []) (d.late old) in
    let P : ℕ → Type 0 = λ n. Leads H M n (done ++ (idle k ++ (x ∷ b) ∷ [])) u in
    let Q : ℕ → Type 0 = λ n. Brings H (moment_at M n) t (x ∷ b) u in
    record {
      short = omega (arith, length-after done k (x ∷ b));
      behind = λ w. absurd (cc);
      led = subst P (sym same) (Leads-after H M begin t k done (x ∷ b) u d.led (subst Q place brings));
      all = items_of-after done k (x ∷ b) ∙ ap (λ l. l ++ x ∷ b) d.all;
      next = next;
      early = λ g. absurd (cc);
      late = λ g h. batches-after done k x b;
      asked = λ g h. absurd (cc);
      near = λ w f q from below. absurd (cc);
      up = caught_after H M fresh s began waits done caught k (x ∷ b) d.up w (omega arith);
    }

-- the first of a walk from the oldest entry
done_first : (H : History) (M : List Moment) (s began : ℕ) (waits : Bool) (walk after : WalkPlace) (caught : Option ℕ) (t u p : ℕ) (b : List Item) →
    DonePart H M true s began waits walk [] caught [] t →
    waits ≡ true → began ≤ p → p < length M → after.fresh ≡ false → after.asks_oldest ≡ false → after.next ≡ sequence_number u →
    Brings H (moment_at M p) (moment_at M p).oldest b u → 0 < length b →
    DonePart H M true s began false after b caught (idle p ++ b ∷ []) u
done_first H M s began waits walk after caught t u p [] d w from below f a next brings some = absurd (omega arith)
done_first H M s began waits walk after caught t u p (x ∷ b) d w from below f a next brings some =
    let same : start_of true s M (idle p ++ (x ∷ b) ∷ []) ≡ (moment_at M p).oldest = start_of-first s M p x b in
    let P : ℕ → Type 0 = λ n. Leads H M n (idle p ++ (x ∷ b) ∷ []) u in
    record {
      short = omega (arith, length-after [] p (x ∷ b));
      behind = λ w. absurd (cc);
      led = subst P (sym same) (one_after H M (moment_at M p).oldest p (x ∷ b) u brings);
      all = items_of-after [] p (x ∷ b);
      next = next;
      early = λ g. absurd (cc);
      late = λ g h. batches-after [] p x b;
      asked = λ g h. absurd (cc);
      near = λ w f q from below. absurd (cc);
      up = caught_after H M true s began waits [] caught p (x ∷ b) d.up w (omega arith);
    }

pub done_batch : (H : History) (M : List Moment) (fresh : Bool) (s began : ℕ) (waits : Bool) (walk after : WalkPlace) (items : List Item) (caught : Option ℕ)
    (done : List (List Item)) (t u p : ℕ) (b : List Item) → DonePart H M fresh s began waits walk items caught done t →
    waits ≡ true → began ≤ p → p < length M → (first : Bool) → walk.fresh ≡ first → after.fresh ≡ false → after.asks_oldest ≡ false → after.next ≡ sequence_number u →
    Brings H (moment_at M p) (if first then (moment_at M p).oldest else t) b u → 0 < length b →
    (more : List (List Item)) × DonePart H M fresh s began false after (items ++ b) caught more u
done_batch H M fresh s began waits walk after items caught done t u p b d w from below false is f a next brings some =
    (done ++ (idle (p - length done) ++ b ∷ []), done_more H M fresh s began waits walk after items caught done t u p b d w from below is f a next brings some)
done_batch H M fresh s began waits walk after items caught done t u p b d w from below true is f a next brings some =
    let early = d.early is in
    let none : items ≡ [] = sym d.all ∙ ap items_of early.1 in
    let P : Bool → Type 0 = λ v. DonePart H M v s began waits walk items caught done t in
    let Q : List (List Item) → Type 0 = λ l. DonePart H M true s began waits walk items caught l t in
    let R : List Item → Type 0 = λ l. DonePart H M true s began waits walk l caught [] t in
    let S : Bool → Type 0 = λ v. DonePart H M v s began false after (items ++ b) caught (idle p ++ b ∷ []) u in
    let T : List Item → Type 0 = λ l. DonePart H M true s began false after (l ++ b) caught (idle p ++ b ∷ []) u in (
      idle p ++ b ∷ [],
      subst S (sym early.0) (subst T (sym none)
          (done_first H M s began waits walk after caught t u p b (subst R none (subst Q early.1 (subst P early.0 d))) w from below f a next brings some)),
    )

-- ---- all answers of a run

was_caught : (H : History) (M : List Moment) (fresh : Bool) (s began : ℕ) (waits : Bool) (done : List (List Item)) (caught : Option ℕ) (k : ℕ) → length M ≤ length done + k →
    CaughtPart H M fresh s began waits done caught → WasCaughtUp H M fresh s (done ++ idle k) caught
was_caught H M fresh s began waits done None k le c = tt
was_caught H M fresh s began waits done (Some n) k le c =
    let P : List (List Item) → Type 0 = λ xs. Led H M fresh s (take c.0 (done ++ xs)) c.1 in
    (c.0, c.1, c.2, c.4, subst P (append-nil (idle k)) (led_before H M fresh s c.1 done c.0 k [] (omega (arith, c.2, le)) c.5), c.6)

batches-padded : (done : List (List Item)) (k : ℕ) → batches (done ++ idle k) ≡ batches done
batches-padded [] zero = refl
batches-padded [] (suc k) = batches-padded [] k
batches-padded ([] ∷ done) k = batches-padded done k
batches-padded ((x ∷ b) ∷ done) k = ap suc (batches-padded done k)

no_batch : (fresh : Bool) (done : List (List Item)) (k : ℕ) → (fresh ≡ true → 0 < batches done) → batches (done ++ idle k) ≡ 0 → fresh ≡ false
no_batch false done k late none = refl
no_batch true done k late none = absurd (omega (arith, late refl, batches-padded done k, none))

pub stands_of : (H : History) (M : List Moment) (fresh : Bool) (s began : ℕ) (waits : Bool) (walk : WalkPlace) (items : List Item) (caught : Option ℕ)
    (done : List (List Item)) (t : ℕ) → DonePart H M fresh s began waits walk items caught done t →
    (answers : List (List Item)) × (length answers ≡ length M) × (items_of answers ≡ items) × Led H M fresh s answers t × WasCaughtUp H M fresh s answers caught
    × (walk.fresh ≡ false → batches answers ≡ 0 → fresh ≡ false)
stands_of H M fresh s began waits walk items caught done t d =
    let k = length M - length done in (
      done ++ idle k,
      omega (arith, length-append done (idle k), length-idle k, d.short),
      items_of-padded done k ∙ d.all,
      led_padded H M fresh s t done k d.led,
      was_caught H M fresh s began waits done caught k (omega arith) d.up,
      λ f none. no_batch fresh done k (d.late f) none,
    )
