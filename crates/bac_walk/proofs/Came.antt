-- What came over a link is delivered.
use Rattle.std.proofs.Common.{◌≡◌, ℕ, zero, suc, ◌+◌, ◌<◌, ◌≤◌, ◌⊎◌, ◌||◌, if◌then◌else◌, inl, inr, Bool, true, false, Result, Ok, Err, List, [], ◌∷◌, length, length-append, drop, take, ◌++◌, refl, sym, ap, subst, ◌∙◌, arith, append_assoc, append-nil}
use Rattle.std.proofs.Math.Seq.{take-append_seam}
use Rattle.bac_link.proofs.Delivers.{brings_cut}
pub use Rattle.bac_link.proofs.Growing.{window_at as window_now}
use Rattle.bac_walk.proofs.Joins.{start_of-nil}
use Rattle.bac_link.specs.declared.item.Item.TheVariants.{Logged}
use Rattle.bac_link.specs.Ordinals.{number_after}
use Rattle.bac_walk.specs.declared.outcome.Ended.{Ended}
use Rattle.bac_walk.specs.declared.outcome.Ended.TheVariants.{CaughtUp as IsUp, StepLimit, Stopped, Fault}
use Rattle.bac_walk.proofs.Shown.{after-number}
use Rattle.bac_link.specs.Laws.{moment_at}
use Rattle.bac_link.specs.declared.item.Item.{Item}
use Rattle.bac_link.specs.declared.link.Lost.{Lost as Loss}
use Rattle.bac_link.specs.Delivery.{History, Moment, Brings, Leads, DeliversTo, now, later, items_of}
use Rattle.bac_link.specs.Path.{Path}
use Rattle.bac_log.specs.TrendLog.{sequence_number}
use Rattle.bac_link.specs.Moments.{NeverGoesBack}
use Rattle.bac_walk.specs.Came.{Came, Comes, Brought, AreSaidAt, AreOf, EndsBy, EndsEmpty, EndsWith, BroughtIsDelivered, CameIsDelivered, SaidIsTaken, IsCutIn, answers_of, restarted, reaching, walk_over}
use Rattle.bac_walk.specs.Collects.{batches, turn_items, IsCaughtUp, start_of}
use Rattle.bac_walk.specs.Delivers.{NoneFrom}
use Rattle.bac_link.specs.Moments.{IsInWindow, AreInWindow}
use Rattle.bac_walk.specs.Place.{WalkPlace}
use Rattle.bac_link.specs.Heard.{heard_in}
use Rattle.bac_link.specs.Standard.{HoldsNumber, IsSaidAt}
use Rattle.bac_walk.specs.Turns.{base}
use Rattle.bac_walk.specs.Walks.{asks_oldest_now, asked_by}
use Rattle.bac_walk.specs.declared.outcome.Progress.{Progress}
use Rattle.bac_walk.specs.declared.outcome.Progress.TheVariants.{Batch as BatchOf, AskOldest, CaughtUp}
use Rattle.bac_walk.proofs.Brought.{full_batch, one_batch}
use Rattle.bac_walk.specs.Honest.{DeliversIn}
use Rattle.bac_log.specs.declared.entry.Entry.{Entry}
use Rattle.bac_walk.specs.Meant.{Means}
use Rattle.bac_walk.proofs.Standard.{said_means}
use Rattle.bac_walk.proofs.Turns.{or_left}

abbrev pub Asking : Type 0 → Type 1
Asking S = S → List ℕ → Result (List ℕ) Loss → S → Type 0

pub window_later : (low : ℕ) (M : List Moment) → AreInWindow low M → AreInWindow low (later M)
window_later low [] window = window
window_later low (m ∷ []) window = window
window_later low (m ∷ n ∷ M) window = window.1

pub some_later : (M : List Moment) → 0 < length M → 0 < length (later M)
some_later [] some = some
some_later (m ∷ []) some = some
some_later (m ∷ n ∷ M) some = omega arith

rises_now : (M : List Moment) → 0 < length M → NeverGoesBack M → (now M).oldest ≤ (now (later M)).oldest
rises_now [] some back = absurd (omega arith)
rises_now (m ∷ []) some back = omega arith
rises_now (m ∷ n ∷ M) some back = back.0

pub back_later : (M : List Moment) → NeverGoesBack M → NeverGoesBack (later M)
back_later [] back = back
back_later (m ∷ []) back = back
back_later (m ∷ n ∷ M) back = back.2

-- at one of these answers nothing was held from t on
abbrev Up : List Moment → Bool → ℕ → List (List Item) → Type 0
Up M fresh t answers =
    (i : ℕ) × (i < length answers) × (batches (drop i answers) ≡ 0) × NoneFrom t (moment_at M i)
    × (fresh ≡ true → batches answers ≡ 0 → (moment_at M i).newest < (moment_at M i).oldest)

-- or at any earlier moment at which the walk's number wasn't held
abbrev UpBefore : ℕ → List Moment → WalkPlace → ℕ → List (List Item) → Type 0
UpBefore low M w t answers =
    (w.asks_oldest ≡ true) × (w.fresh ≡ false) × (batches answers ≡ 0)
    × ((m : Moment) → (HoldsNumber m w.next → ⊥) → m.oldest ≤ (now M).oldest → NoneFrom t m)

-- what the walk delivers from where it is
abbrev Delivers : ℕ → History → List Moment → ℕ → WalkPlace → WalkPlace → List Came → Type 0
Delivers low H M s w after came =
    (b : ℕ) × (t : ℕ) × (b ≡ start_of w.fresh s M (answers_of came)) × (after.next ≡ sequence_number t) × Leads H M b (answers_of came) t
    × (EndsEmpty came → Up M w.fresh t (answers_of came) ⊎ UpBefore low M w t (answers_of came))

base_of : (w : WalkPlace) (s : ℕ) (m : Moment) → w.fresh ≡ false → base w s m ≡ s
base_of w s m old = rw old refl

-- a walk begins with its first batch, and one from a number on at its ordinal
start_full : (fresh : Bool) (s : ℕ) (M : List Moment) (xs : List Item) (answers : List (List Item)) → 0 < length xs →
    (if fresh then (now M).oldest else s) ≡ start_of fresh s M (xs ∷ answers)
start_full false s M xs answers full = refl
start_full true s M [] answers full = absurd (omega arith)
start_full true s M (x ∷ xs) answers full = refl

start_idle : (fresh : Bool) (s : ℕ) (M : List Moment) (xs : List Item) (answers : List (List Item)) → xs ≡ [] →
    start_of fresh s (later M) answers ≡ start_of fresh s M (xs ∷ answers)
start_idle false s M xs answers none = refl
start_idle true s M [] answers none = refl
start_idle true s M (x ∷ xs) answers none = absurd (cc)

pub start_old : (fresh : Bool) (s : ℕ) (M : List Moment) (answers : List (List Item)) → fresh ≡ false → start_of fresh s M answers ≡ s
start_old false s M answers old = refl
start_old true s M answers old = absurd (cc)

start_at : (fresh was : Bool) (s b : ℕ) (M : List Moment) (xs : List Item) (answers : List (List Item)) → xs ≡ [] → fresh ≡ was →
    b ≡ start_of fresh s (later M) answers → b ≡ start_of was s M (xs ∷ answers)
start_at fresh was s b M xs answers none same at =
    let P : Bool → Type 0 = λ f. b ≡ start_of f s (later M) answers in
    subst P same at ∙ start_idle was s M xs answers none

pub or_true : (a b : Bool) → (a || b) ≡ true → a ≡ false → b ≡ true
or_true true b h f = absurd (cc)
or_true false b h f = h

empty_none : (t : ℕ) (m : Moment) → m.newest < m.oldest → NoneFrom t m
empty_none t m none = λ k low held. omega (arith, none, held.0, held.1)

some_batch : (xs : List Item) (answers : List (List Item)) → 0 < length xs → batches (xs ∷ answers) ≡ suc (batches answers)
some_batch [] answers some = absurd (omega arith)
some_batch (x ∷ xs) answers some = refl

later_up : (M : List Moment) (fresh : Bool) (t : ℕ) (items : List Item) (answers : List (List Item)) (was : Bool) →
    (was ≡ true → batches (items ∷ answers) ≡ 0 → (fresh ≡ true) × (batches answers ≡ 0)) → Up (later M) fresh t answers → Up M was t (items ∷ answers)
later_up M fresh t items answers was same up =
    (suc up.0, omega (arith, up.1), up.2, up.3, λ f b. let o = same f b in up.4 o.0 o.1)

-- a reply, and those after it
with_rest : (H : History) (M : List Moment) (low s : ℕ) (w next after : WalkPlace) (p : Progress) (c : Came) (came : List Came) →
    0 < length M → NeverGoesBack M → IsInWindow low (now M) →
    Means H (now M) low s w p next → c.items ≡ turn_items (Ok p) → c.place ≡ w → w.next ≡ sequence_number s → (w.fresh ≡ false → (low ≤ s) × (s < low + 2147483648)) →
    (came ≡ [] → after ≡ next) →
    ((u : ℕ) → next.next ≡ sequence_number u → (next.fresh ≡ false → (low ≤ u) × (u < low + 2147483648)) → Delivers low H (later M) u next after came) →
    Delivers low H M s w after (c ∷ came)
with_rest H M low s w next after (BatchOf b) c came some back window means is place here at last rest =
    let u = means.0 in
    let fresh : next.fresh ≡ false = ap (λ (v : WalkPlace). v.fresh) means.2 in
    let asks : next.asks_oldest ≡ false = ap (λ (v : WalkPlace). v.asks_oldest) means.2 in
    let more = rest u (ap (λ (v : WalkPlace). v.next) means.2) (λ f. (means.3, means.4)) in
    let P : List Item → Type 0 = λ xs. Brings H (now M) (base w s (now M)) xs u in
    let Q : ℕ → Type 0 = λ n. Leads H (later M) n (answers_of came) more.1 in
    let full : 0 < length c.items = omega (arith, ap length is, full_batch b) in
    let begun : more.0 ≡ u = more.2 ∙ start_old next.fresh u (later M) (answers_of came) fresh in
    (base w s (now M), more.1, start_full w.fresh s M c.items (answers_of came) full, more.3, (u, subst P (sym is) means.1, subst Q begun more.4), up full asks came more.5)
  where
    up : 0 < length c.items → next.asks_oldest ≡ false → (came : List Came) → {t : ℕ} →
        (EndsEmpty came → Up (later M) next.fresh t (answers_of came) ⊎ UpBefore low (later M) next t (answers_of came)) →
        EndsEmpty (c ∷ came) → Up M w.fresh t (answers_of (c ∷ came)) ⊎ UpBefore low M w t (answers_of (c ∷ came))
    up full asks [] more ends = absurd (omega (arith, full, ap length ends.0))
    up full asks (d ∷ came) {t = t} more ends =
        elim (more ends) [
          | inl found ↦ inl (later_up M next.fresh t c.items (answers_of (d ∷ came)) w.fresh (λ f b. absurd (omega (arith, b, some_batch c.items (answers_of (d ∷ came)) full))) found)
          | inr before ↦ absurd (let e = sym asks ∙ before.0 in cc)
        ]
with_rest H M low s w next after AskOldest c came some back window means is place here at last rest =
    let fresh : next.fresh ≡ w.fresh = ap (λ (v : WalkPlace). v.fresh) means.2 in
    let same_next : next.next ≡ w.next = ap (λ (v : WalkPlace). v.next) means.2 in
    let more = rest s (same_next ∙ here) (λ f. at (sym fresh ∙ f)) in
    let P : List Item → Type 0 = λ xs. Brings H (now M) more.0 xs more.0 in
    (more.0, more.1, start_at next.fresh w.fresh s more.0 M c.items (answers_of came) is fresh more.2, more.3, (more.0, subst P (sym is) refl, more.4), up same_next fresh came more.5)
  where
    old : w.fresh ≡ false
    old = or_left w.fresh w.asks_oldest means.0

    up : next.next ≡ w.next → next.fresh ≡ w.fresh → (came : List Came) → {t : ℕ} →
        (EndsEmpty came → Up (later M) next.fresh t (answers_of came) ⊎ UpBefore low (later M) next t (answers_of came)) →
        EndsEmpty (c ∷ came) → Up M w.fresh t (answers_of (c ∷ came)) ⊎ UpBefore low M w t (answers_of (c ∷ came))
    up same_next fresh [] more ends =
        let N : WalkPlace → Type 0 = λ v. asks_oldest_now v ≡ true in
        absurd (let e = sym means.0 ∙ subst N place ends.1 in cc)
    up same_next fresh (d ∷ came) {t = t} more ends =
        elim (more ends) [
          | inl found ↦ inl (later_up M next.fresh t c.items (answers_of (d ∷ came)) w.fresh (λ f b. absurd (let e = sym old ∙ f in cc)) found)
          | inr before ↦
              let N : ℕ → Type 0 = λ n. HoldsNumber (now M) n → ⊥ in
              let B : List Item → Type 0 = λ xs. batches (xs ∷ answers_of (d ∷ came)) ≡ 0 in
              inl (
                zero,
                omega arith,
                subst B (sym is) before.2,
                before.3 (now M) (subst N (sym same_next) means.1) (rises_now M some back),
                λ f b. absurd (let e = sym old ∙ f in cc),
              )
        ]
with_rest H M low s w next after CaughtUp c came some back window means is place here at last rest =
    let fresh : next.fresh ≡ w.fresh = ap (λ (v : WalkPlace). v.fresh) means.2 in
    let same_next : next.next ≡ w.next = ap (λ (v : WalkPlace). v.next) means.2 in
    let more = rest s (same_next ∙ here) (λ f. at (sym fresh ∙ f)) in
    let P : List Item → Type 0 = λ xs. Brings H (now M) more.0 xs more.0 in
    (more.0, more.1, start_at next.fresh w.fresh s more.0 M c.items (answers_of came) is fresh more.2, more.3, (more.0, subst P (sym is) refl, more.4), up came more)
  where
    B : List (List Item) → List Item → Type 0
    B answers xs = batches (xs ∷ answers) ≡ 0

    up : (came : List Came) → (more : Delivers low H (later M) s next after came) →
        EndsEmpty (c ∷ came) → Up M w.fresh more.1 (answers_of (c ∷ came)) ⊎ UpBefore low M w more.1 (answers_of (c ∷ came))
    up [] more ends =
        let none : batches (c.items ∷ []) ≡ 0 = subst (B []) (sym is) refl in
        elim means.1 [
          | inl empty ↦ inl (zero, omega arith, none, empty_none more.1 (now M) empty, λ f b. empty)
          | inr past ↦
              let asks : w.asks_oldest ≡ true = or_true w.fresh w.asks_oldest means.0 past.0 in
              let fresh : next.fresh ≡ false = ap (λ (v : WalkPlace). v.fresh) means.2 ∙ past.0 in
              let t_is : more.1 ≡ s = more.4 ∙ more.2 ∙ start_old next.fresh s (later M) [] fresh in
              inr (asks, past.0, none, λ m gone le k low held. gone (s, (omega (arith, le, past.1), omega (arith, t_is, low, held.1)), here))
        ]
    up (d ∷ came) more ends =
        let fresh : next.fresh ≡ w.fresh = ap (λ (v : WalkPlace). v.fresh) means.2 in
        elim (more.5 ends) [
          | inl found ↦ inl (later_up M next.fresh more.1 c.items (answers_of (d ∷ came)) w.fresh (λ f b. (fresh ∙ f, subst (B (answers_of (d ∷ came))) is b)) found)
          | inr before ↦
              let N : WalkPlace → Type 0 = λ v. UpBefore low (later M) v more.1 (answers_of (d ∷ came)) in
              let was = subst N means.2 before in
              inr (was.0, was.1, subst (B (answers_of (d ∷ came))) (sym is) was.2, λ m gone le. was.3 m gone (omega (arith, le, rises_now M some back)))
        ]

came_leads : {S : Type 0} (asks : Asking S) (path : Path) (retries : ℕ) (came : List Came) (old new : S) (w after : WalkPlace)
    (H : History) (M : List Moment) (low s : ℕ) →
    Comes (reaching asks path retries) (walk_over old w) came (walk_over new after) → AreSaidAt H M came → w.next ≡ sequence_number s →
    0 < length M → NeverGoesBack M → AreInWindow low M → (w.fresh ≡ false → (low ≤ s) × (s < low + 2147483648)) →
    Delivers low H M s w after came
came_leads asks path retries [] old new w after H M low s comes said here some back window at =
    (s, s, sym (start_of-nil w.fresh s M), ap (λ (v : WalkPlace). v.next) comes.0 ∙ here, refl, λ ends. absurd ends)
came_leads asks path retries (c ∷ came) old new w after H M low s (mid, next, p, place, asked, taken, is, rest) said here some back window at =
    let P : WalkPlace → Type 0 = λ v. IsSaidAt (now M) H v.log (asked_by v) c.datagram in
    let says = subst P place said.0 in
    let means = said_means H (now M) low s w (heard_in w.log c.datagram) says.heard (Ok p) next says.reads says.asks (window_now low M some window) here at says.counts says.says taken in
    with_rest H M low s w next after p c came some back (window_now low M some window) means is place here at (after_is came rest)
    (λ u shown in_window. came_leads asks path retries came mid new next after H (later M) low u rest said.1 shown (some_later M some) (back_later M back) (window_later low M window) in_window)
  where
    after_is : (came : List Came) → Comes (reaching asks path retries) (walk_over mid next) came (walk_over new after) → came ≡ [] → after ≡ next
    after_is [] rest none = rest.0
    after_is (d ∷ came) rest none = absurd (cc)

length_answers : (came : List Came) → length (answers_of came) ≡ length came
length_answers [] = refl
length_answers (c ∷ came) = omega (arith, length_answers came)

pub came_delivers : {S : Type 0} (asks : Asking S) → CameIsDelivered asks
came_delivers asks = λ path retries old new w after came H M low s comes said here some back window at.
    let d = came_leads asks path retries came old new w after H M low s comes said here some back window at in (
      d.0,
      d.1,
      d.2,
      d.3,
      d.4,
      (answers_of came, length_answers came, refl, d.4),
      λ asks_number ends. elim (d.5 ends) [ inl found ↦ found | inr before ↦ absurd (let e = sym asks_number ∙ before.0 in cc) ],
    )

pub said_taken : SaidIsTaken
said_taken = λ m H low s w after datagram bad says here window at taken.
    said_means H m low s w (heard_in w.log datagram) says.heard (Err bad) after says.reads says.asks window here at says.counts says.says taken

-- ---- answers that are cut

same_front : (xs ys zs : List Item) → xs ++ zs ≡ ys ++ zs → xs ≡ ys
same_front xs ys zs is =
    let size : length xs ≡ length ys = omega (arith, length-append xs zs, length-append ys zs, ap length is) in
    sym (take-append_seam xs zs) ∙ ap (λ n. take n (xs ++ zs)) size ∙ ap (λ l. take (length ys) l) is ∙ take-append_seam ys zs

batches_behind : (x : List Item) (xs ys : List (List Item)) → batches xs ≡ batches ys → batches (x ∷ xs) ≡ batches (x ∷ ys)
batches_behind [] xs ys is = is
batches_behind (y ∷ x) xs ys is = ap suc is

-- answers of which the last is cut behind an entry lead behind that
record CutBehind (H : History) (M : List Moment) (b shown : ℕ) (rest : List Item) (answers : List (List Item)) : Type 0 where
  k : ℕ
  cut : List (List Item)
  size : length cut ≡ length answers
  all : items_of cut ++ rest ≡ items_of answers
  leads : Leads H M b cut (k + 1)
  many : batches cut ≡ batches answers
  shows : shown ≡ sequence_number k

leads_to_cut : (H : History) (M : List Moment) (b u shown : ℕ) (e : Entry) (rest : List Item) (answers : List (List Item)) →
    Leads H M b answers u → EndsWith (Logged shown e) rest answers → CutBehind H M b shown rest answers
leads_to_cut H M b u shown e rest [] leads ends = absurd ends
leads_to_cut H M b u shown e rest (answer ∷ []) leads (front, is) =
    let z : Item = Logged shown e in
    let P : List Item → Type 0 = λ l. Brings H (now M) b l leads.0 in
    let c = brings_cut H (now M) b leads.0 shown e front rest (subst P (sym is) leads.1) in
    record {
      k = c.k;
      cut = (front ++ z ∷ []) ∷ [];
      size = refl;
      all = ap (λ l. l ++ rest) (append-nil (front ++ z ∷ [])) ∙ append_assoc front (z ∷ []) rest ∙ is ∙ sym (append-nil answer);
      leads = (c.k + 1, c.are, refl);
      many = one_batch (front ++ z ∷ []) (omega (arith, length-append front (z ∷ [])))
          ∙ sym (one_batch answer (omega (arith, length-append front (z ∷ rest), ap length is)));
      shows = c.shows;
    }
leads_to_cut H M b u shown e rest (answer ∷ next ∷ answers) leads ends =
    let c = leads_to_cut H (later M) leads.0 u shown e rest (next ∷ answers) leads.2 ends in
    record {
      k = c.k;
      cut = answer ∷ c.cut;
      size = ap suc c.size;
      all = append_assoc answer (items_of c.cut) rest ∙ ap (λ l. answer ++ l) c.all;
      leads = (leads.0, leads.1, c.leads);
      many = batches_behind answer c.cut (next ∷ answers) c.many;
      shows = c.shows;
    }

pub answers_came : (came : List Came) → length (answers_of came) ≡ length came
answers_came came = length_answers came

-- so many answers deliver it
pub delivered_to : (H : History) (M : List Moment) (b t : ℕ) (items : List Item) (came : List Came) → DeliversIn H b items t M (answers_of came) →
    DeliversTo H b items t M (length came)
delivered_to H M b t items came d = (d.0, d.1 ∙ answers_came came, d.2, d.3)

-- a run that brought this, from ordinal s
abbrev pub Ran : WalkPlace → WalkPlace → ℕ → List Came → List Item → Ended → History → List Moment → Type 0
Ran w after s came items ended H M =
    (b : ℕ) × (t : ℕ) × (b ≡ start_of w.fresh s M (answers_of came)) × (after.next ≡ sequence_number t)
    × ((u : ℕ) × Leads H M b (answers_of came) u)
    × DeliversIn H b items t M (answers_of came) × (ended ≡ IsUp → IsCaughtUp w.fresh t M (answers_of came))

abbrev CameTo : WalkPlace → WalkPlace → ℕ → List Came → History → List Moment → Type 0
CameTo w here s came H M =
    (b : ℕ) × (t : ℕ) × (b ≡ start_of w.fresh s M (answers_of came)) × (here.next ≡ sequence_number t)
    × Leads H M b (answers_of came) t
    × DeliversTo H b (items_of (answers_of came)) t M (length came)
    × (false ≡ false → EndsEmpty came → IsCaughtUp w.fresh t M (answers_of came))

whole_run : (w here after : WalkPlace) (s : ℕ) (came : List Came) (items : List Item) (ended : Ended) (H : History) (M : List Moment) →
    CameTo w here s came H M → restarted after ≡ restarted here → items ≡ items_of (answers_of came) → (ended ≡ IsUp → EndsEmpty came) → Ran w after s came items ended H M
whole_run w here after s came items ended H M d place is up =
    (d.0, d.1, d.2, ap (λ (v : WalkPlace). v.next) place ∙ d.3, (d.1, d.4), (answers_of came, refl, sym is, d.4, refl), λ e. d.6 refl (up e))

run_ended : {S : Type 0} (asks : Asking S) (path : Path) (retries : ℕ) (new mid : S) (w here after : WalkPlace) (s steps : ℕ) (came : List Came) (items : List Item) (ended : Ended) (H : History) (M : List Moment) →
    CameTo w here s came H M → EndsBy (reaching asks path retries) steps came (walk_over mid here) ended (walk_over new after) → AreOf ended came items after → Ran w after s came items ended H M
run_ended asks path retries new mid w here after s steps came items IsUp H M d ends are = whole_run w here after s came items IsUp H M d ends.2 are (λ e. ends.0)
run_ended asks path retries new mid w here after s steps came items StepLimit H M d ends are = whole_run w here after s came items StepLimit H M d ends.2 are (λ e. absurd (cc))
run_ended asks path retries new mid w here after s steps came items (Fault f) H M d ends are = whole_run w here after s came items (Fault f) H M d ends.2 are (λ e. absurd (cc))
run_ended asks path retries new mid w here after s steps came items Stopped H M d ends (before, k, e, dropped, cut, all, next, old, within) =
    let c = leads_to_cut H M d.0 d.1 k e dropped (answers_of came) d.4 within in (
      d.0,
      c.k + 1,
      d.2,
      next ∙ ap (λ n. number_after n 1) c.shows ∙ after-number c.k 1,
      (d.1, d.4),
      (c.cut, c.size, same_front (items_of c.cut) items dropped (c.all ∙ sym all), c.leads, c.many),
      λ e. absurd (cc),
    )

pub brought_ran : {S : Type 0} (asks : Asking S) (path : Path) (retries : ℕ) (old new : S) (w after : WalkPlace) (steps : ℕ) (came : List Came) (items : List Item) (ended : Ended)
    (H : History) (M : List Moment) (low s : ℕ) →
    Brought (reaching asks path retries) (walk_over old w) steps came items ended (walk_over new after) → AreSaidAt H M came → w.next ≡ sequence_number s →
    0 < length M → NeverGoesBack M → AreInWindow low M → (w.fresh ≡ false → (low ≤ s) × (s < low + 2147483648)) →
    Ran w after s came items ended H M
brought_ran asks path retries old new w after steps came items ended H M low s run said here some back window at =
    run_ended asks path retries new run.1 w run.0 after s steps came items ended H M
    (came_delivers asks path retries old run.1 (restarted w) run.0 came H M low s run.2 said here some back window at) run.3 run.4

pub brought_delivers : {S : Type 0} (asks : Asking S) → BroughtIsDelivered asks
brought_delivers asks = λ path retries old new w after steps came items ended H M low s run said here some back window at.
    let ran = brought_ran asks path retries old new w after steps came items ended H M low s run said here some back window at in
    (ran.0, ran.1, ran.2, ran.3, ran.4, delivered_to H M ran.0 ran.1 items came ran.5, ran.6)

-- the items of a run are those of its replies, but where it was stopped those up to one of the last reply
pub cut_of : (ended : Ended) (came : List Came) (items : List Item) (after : WalkPlace) → AreOf ended came items after →
    (dropped : List Item) × (items ++ dropped ≡ items_of (answers_of came)) × ((ended ≡ Stopped → ⊥) → dropped ≡ [])
    × (ended ≡ Stopped → IsCutIn items dropped (answers_of came))
cut_of IsUp came items after are = ([], append-nil items ∙ are, λ on. refl, λ e. absurd (cc))
cut_of StepLimit came items after are = ([], append-nil items ∙ are, λ on. refl, λ e. absurd (cc))
cut_of (Fault f) came items after are = ([], append-nil items ∙ are, λ on. refl, λ e. absurd (cc))
cut_of Stopped came items after are = (are.3, are.5, λ on. absurd (on refl), λ e. (are.0, Logged are.1 are.2, are.4, are.8))
