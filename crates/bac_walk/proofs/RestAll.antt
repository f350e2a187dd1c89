-- With steps enough, a walk over a log that doesn't change takes all that is held.
use Rattle.std.proofs.Common.{◌≡◌, ℕ, zero, suc, Bool, true, false, ◌+◌, ◌-◌, ◌<◌, ◌≤◌, min, max, All, nat_le, nat_lt, if◌then◌else◌, List, [], ◌∷◌, ◌++◌, length, take, drop, refl, sym, ap, subst, ◌∙◌, arith, append_assoc, zero-add, add-zero}
use Rattle.bac_log.specs.declared.entry.Entry.{Entry}
use Rattle.std.proofs.Math.Seq.{drop-append_seam}
use Rattle.std.proofs.lemmas.Bool.{leb-false, ltb-true, ltb-false, le-ltb}
use Rattle.bac_link.specs.declared.item.Item.{Item}
use Rattle.bac_link.specs.declared.item.Item.TheVariants.{Gap, Logged}
use Rattle.bac_walk.specs.declared.outcome.Ended.TheVariants.{CaughtUp}
use Rattle.bac_log.specs.TrendLog.{sequence_number}
use Rattle.bac_link.specs.Delivery.{History, Moment}
use Rattle.bac_link.specs.Moments.{IsMoment, AreServed, log_at, entries_from}
use Rattle.bac_walk.specs.Turns.{whole_reply, reply_count}
use Rattle.bac_walk.specs.Rests.{Rested, rest_from, rest_all}
use Rattle.bac_log.specs.Entry.{IsLoggable}
use Rattle.bac_walk.proofs.Bridge.{fitting_some, fitting_most, cut_loggable}
use Rattle.bac_walk.proofs.Held.{Sound-now, In-now}
use Rattle.bac_walk.proofs.Turns.{entries_count}
use Rattle.bac_walk.specs.Walks.{logged_from}

take-more : (c d : ℕ) (xs : List Entry) → take (c + d) xs ≡ take c xs ++ take d (drop c xs)
take-more zero d xs = rw zero-add refl
take-more (suc c) d [] = let e : suc c + d ≡ suc (c + d) = omega arith in rw e (nothing d)
  where
    nothing : (n : ℕ) → ◌≡◌ {A = List Entry} [] (take n [])
    nothing zero = refl
    nothing (suc n) = refl
take-more (suc c) d (x ∷ xs) = let e : suc c + d ≡ suc (c + d) = omega arith in rw e (ap (λ l. x ∷ l) (take-more c d xs))

drop-more : (k c : ℕ) (xs : List Entry) → drop (k + c) xs ≡ drop c (drop k xs)
drop-more zero c xs = rw zero-add refl
drop-more (suc k) c [] = let e : suc k + c ≡ suc (k + c) = omega arith in rw e (nothing c)
  where
    nothing : (n : ℕ) → ◌≡◌ {A = List Entry} [] (drop n [])
    nothing zero = refl
    nothing (suc n) = refl
drop-more (suc k) c (x ∷ xs) = let e : suc k + c ≡ suc (k + c) = omega arith in rw e (drop-more k c xs)

entries-split : (H : History) (b c d : ℕ) → H.logged < b → entries_from H b (c + d) ≡ entries_from H b c ++ entries_from H (b + c) d
entries-split H b c d above =
    let at : (b + c) - (H.logged + 1) ≡ (b - (H.logged + 1)) + c = omega arith in
    take-more c d (drop (b - (H.logged + 1)) H.entries)
    ∙ ap (λ l. take c (drop (b - (H.logged + 1)) H.entries) ++ take d l)
    (sym (drop-more (b - (H.logged + 1)) c H.entries) ∙ ap (λ n. drop n H.entries) (sym at))

logged_from-append : (k : ℕ) (es fs : List Entry) → logged_from k (es ++ fs) ≡ logged_from k es ++ logged_from (k + length es) fs
logged_from-append k [] fs = rw add-zero refl
logged_from-append k (e ∷ es) fs =
    let at : (k + 1) + length es ≡ k + suc (length es) = omega arith in
    let P : ℕ → Type 0 = λ n. logged_from (k + 1) (es ++ fs) ≡ logged_from (k + 1) es ++ logged_from n fs in
    ap (λ l. Logged (sequence_number k) e ∷ l) (subst P at (logged_from-append (k + 1) es fs))

-- all that is left after so many entries from b on
after_some : (H : History) (m : Moment) (b c : ℕ) (past : Bool) → nat_lt m.newest (max (b + c) m.oldest) ≡ past →
    H.logged < b → m.oldest ≤ b → b + c ≤ m.newest + 1 → 0 < c →
    (logged_from (b + c) (entries_from H (b + c) ((m.newest + 1) - (b + c))) ≡ (rest_all H m (b + c)).items)
    × (m.newest + 1 ≡ (rest_all H m (b + c)).next) × (CaughtUp ≡ (rest_all H m (b + c)).ended)
after_some H m b c true is above low high some =
    let end : m.newest + 1 ≡ b + c = omega (arith, ltb-true _ _ is) in
    let none : (m.newest + 1) - (b + c) ≡ 0 = omega arith in
    rw (is, none) (refl, end, refl)
after_some H m b c false is above low high some =
    let top : max (b + c) m.oldest ≡ b + c = omega arith in
    let near : nat_lt (b + c) m.oldest ≡ false = le-ltb (b + c) m.oldest (omega arith) in
    rw (is, near, top) (refl, refl, refl)

count_some : (r count : ℕ) (H : History) (m : Moment) (s : ℕ) (far : Bool) → 0 < count → AreServed r (m ∷ []) H → All IsLoggable (log_at m H).entries →
    nat_le (s + count) (max s m.oldest) ≡ far → max s m.oldest ≤ m.newest →
    (0 < reply_count r count H m far s) × (max s m.oldest + reply_count r count H m far s ≤ m.newest + 1)
count_some r count H m s far positive served loggable is held =
    let sound = Sound-now r (m ∷ []) H served in
    let within = In-now r (m ∷ []) H served in
    let b = max s m.oldest in
    let c = min ((if far then max s m.oldest else s) + count) (m.newest + 1) - max s m.oldest in
    let some : (0 < c) × (b + c ≤ m.newest + 1) = at far is in
    let long : length (entries_from H b c) ≡ c = entries_count H m b c sound within (omega arith) (λ h. some.1) in (
      fitting_some r b (entries_from H b c) (omega (arith, served.least))
          (cut_loggable m H sound within loggable b c (omega arith) (omega (arith, some.1))) (omega (arith, long, some.0)),
      omega (arith, fitting_most r b (entries_from H b c), long, some.1),
    )
  where
    at : (f : Bool) → nat_le (s + count) (max s m.oldest) ≡ f →
        (0 < min ((if f then max s m.oldest else s) + count) (m.newest + 1) - max s m.oldest)
        × (max s m.oldest + (min ((if f then max s m.oldest else s) + count) (m.newest + 1) - max s m.oldest) ≤ m.newest + 1)
    at true e = (omega (arith, held, positive), omega (arith, held))
    at false e = let near = leb-false _ _ e in (omega (arith, near, held), omega (arith, near, held))

pub rests_all : (r count : ℕ) (H : History) (m : Moment) (s steps : ℕ) → 0 < count → AreServed r (m ∷ []) H → All IsLoggable (log_at m H).entries →
    (m.newest + 1) - max s m.oldest < steps → rest_from r count H m s steps ≡ rest_all H m s
rests_all r count H m s zero positive served loggable enough = absurd (omega arith)
rests_all r count H m s (suc n) positive served loggable enough = by_end (λ u ge lt. rests_all r count H m u n positive served loggable lt) (nat_lt m.newest (max s m.oldest)) refl
  where
    by_end : ((u : ℕ) → m.oldest ≤ u → (m.newest + 1) - max u m.oldest < n → rest_from r count H m u n ≡ rest_all H m u) → (past : Bool) → nat_lt m.newest (max s m.oldest) ≡ past → rest_from r count H m s (suc n) ≡ rest_all H m s
    by_end again true is = rw is refl
    by_end again false is =
        let sound = Sound-now r (m ∷ []) H served in
        let within = In-now r (m ∷ []) H served in
        let b = max s m.oldest in
        let far = nat_le (s + count) (max s m.oldest) in
        let c = reply_count r count H m far s in
        let held : b ≤ m.newest = ltb-false _ _ is in
        let many = count_some r count H m s far positive served loggable refl held in
        let es = entries_from H b c in
        let long : length es ≡ c = entries_count H m b c sound within (omega arith) (λ h. many.1) in
        let left = after_some H m b c (nat_lt m.newest (max (b + c) m.oldest)) refl (omega (arith, sound.above)) (omega arith) many.1 many.0 in
        let next : rest_from r count H m (b + c) n ≡ rest_all H m (b + c) = again (b + c) (omega arith) (omega (arith, many.0)) in
        let G : List Item = (if nat_lt s m.oldest then Gap (sequence_number s) (sequence_number m.oldest) ∷ [] else []) in
        let sum : c + ((m.newest + 1) - (b + c)) ≡ (m.newest + 1) - b = omega (arith, many.1) in
        let joined : whole_reply r count H m far s ++ (rest_all H m (b + c)).items ≡ G ++ logged_from b (entries_from H b ((m.newest + 1) - b)) =
        append_assoc G (logged_from b es) (rest_all H m (b + c)).items
        ∙ ap (λ l. G ++ (logged_from b es ++ l)) (sym left.0)
        ∙ ap (λ k. G ++ (logged_from b es ++ logged_from (b + k) (entries_from H (b + c) ((m.newest + 1) - (b + c))))) (sym long)
        ∙ ap (λ l. G ++ l) (sym (logged_from-append b es (entries_from H (b + c) ((m.newest + 1) - (b + c)))))
        ∙ ap (λ l. G ++ logged_from b l) (sym (entries-split H b c ((m.newest + 1) - (b + c)) (omega (arith, sound.above))))
        ∙ ap (λ k. G ++ logged_from b (entries_from H b k)) sum in
        let more : Rested → Rested = λ x. record { items = whole_reply r count H m far s ++ x.items; next = x.next; ended = x.ended } in
        let one : more (rest_from r count H m (b + c) n) ≡ more (rest_all H m (b + c)) = ap more next in
        let two : more (rest_all H m (b + c)) ≡ record { items = G ++ logged_from b (entries_from H b ((m.newest + 1) - b)); next = m.newest + 1; ended = CaughtUp } =
        ap (λ (l : List Item). record { items = l; next = (rest_all H m (b + c)).next; ended = (rest_all H m (b + c)).ended }) joined
        ∙ ap (λ (k : ℕ). record { items = G ++ logged_from b (entries_from H b ((m.newest + 1) - b)); next = k; ended = (rest_all H m (b + c)).ended }) (sym left.1)
        ∙ ap (λ (e : _). record { items = G ++ logged_from b (entries_from H b ((m.newest + 1) - b)); next = m.newest + 1; ended = e }) (sym left.2) in
        rw is (one ∙ two)

-- what follows an entry
cut_logged : (b : ℕ) (es : List Entry) (shown : ℕ) (e : Entry) (before after : List Item) → logged_from b es ≡ before ++ Logged shown e ∷ after →
    (j : ℕ) × (j < length es) × (shown ≡ sequence_number (b + j)) × (after ≡ logged_from (b + (j + 1)) (drop (j + 1) es))
cut_logged b [] shown e [] after is = absurd (cc)
cut_logged b [] shown e (x ∷ before) after is = absurd (cc)
cut_logged b (f ∷ es) shown e [] after is =
    let head : Logged (sequence_number b) f ≡ Logged shown e = cc in
    let n : sequence_number b ≡ shown = cc in
    let tail : logged_from (b + 1) es ≡ after = cc in
    (0, omega arith, rw add-zero (sym n), sym tail)
cut_logged b (f ∷ es) shown e (x ∷ before) after is =
    let tail : logged_from (b + 1) es ≡ before ++ Logged shown e ∷ after = cc in
    let rest = cut_logged (b + 1) es shown e before after tail in
    let at : (b + 1) + rest.0 ≡ b + (rest.0 + 1) = omega arith in
    let at_next : (b + 1) + (rest.0 + 1) ≡ b + ((rest.0 + 1) + 1) = omega arith in
    let P : ℕ → Type 0 = λ k. after ≡ logged_from k (drop (rest.0 + 1) es) in
    let same : drop ((rest.0 + 1) + 1) (f ∷ es) ≡ drop (rest.0 + 1) es = (let s1 : (rest.0 + 1) + 1 ≡ suc (rest.0 + 1) = omega arith in rw s1 refl) in
    let Q : List Entry → Type 0 = λ l. after ≡ logged_from (b + ((rest.0 + 1) + 1)) l in
    (rest.0 + 1, omega (arith, rest.1), rest.2 ∙ ap sequence_number at, subst Q (sym same) (subst P at_next rest.3))

from_held : (H : History) (m : Moment) (b shown : ℕ) (e : Entry) (before after : List Item) → IsMoment H.logged m → m.newest ≤ H.logged + length H.entries →
    m.oldest ≤ b → b ≤ m.newest → logged_from b (entries_from H b ((m.newest + 1) - b)) ≡ before ++ Logged shown e ∷ after →
    (k : ℕ) × (shown ≡ sequence_number k) × (after ≡ (rest_all H m (k + 1)).items)
from_held H m b shown e before after sound within low high is =
    let count = (m.newest + 1) - b in
    let long : length (entries_from H b count) ≡ count = entries_count H m b count sound within low (λ h. omega arith) in
    let c = cut_logged b (entries_from H b count) shown e before after is in
    let j = c.0 + 1 in
    let split : entries_from H b count ≡ entries_from H b j ++ entries_from H (b + j) ((m.newest + 1) - (b + j)) =
    ap (λ n. entries_from H b n) (let e1 : count ≡ j + ((m.newest + 1) - (b + j)) = omega (arith, c.1, long) in e1)
    ∙ entries-split H b j ((m.newest + 1) - (b + j)) (omega (arith, sound.above)) in
    let short : length (entries_from H b j) ≡ j = entries_count H m b j sound within low (λ h. omega (arith, c.1, long)) in
    let rest : drop j (entries_from H b count) ≡ entries_from H (b + j) ((m.newest + 1) - (b + j)) =
    ap (λ l. drop j l) split ∙ ap (λ n. drop n (entries_from H b j ++ entries_from H (b + j) ((m.newest + 1) - (b + j)))) (sym short)
    ∙ drop-append_seam (entries_from H b j) (entries_from H (b + j) ((m.newest + 1) - (b + j))) in
    let left = after_some H m b j (nat_lt m.newest (max (b + j) m.oldest)) refl (omega (arith, sound.above)) low (omega (arith, c.1, long)) (omega arith) in
    let next : (b + c.0) + 1 ≡ b + j = omega arith in
    (b + c.0, c.2, c.3 ∙ ap (λ l. logged_from (b + j) l) rest ∙ left.0 ∙ ap (λ n. (rest_all H m n).items) (sym next))

pub rest_resumes : (H : History) (m : Moment) (s shown : ℕ) (entry : Entry) (before after : List Item) → IsMoment H.logged m → m.newest ≤ H.logged + length H.entries →
    (rest_all H m s).items ≡ before ++ Logged shown entry ∷ after →
    (k : ℕ) × (shown ≡ sequence_number k) × (after ≡ (rest_all H m (k + 1)).items)
rest_resumes H m s shown entry before after sound within is =
    by_end (nat_lt m.newest (max s m.oldest)) (nat_lt s m.oldest) refl refl (picked (nat_lt m.newest (max s m.oldest)) refl ∙ is)
  where
    pick : Bool → Bool → List Item
    pick true lt = []
    pick false lt = (if lt then Gap (sequence_number s) (sequence_number m.oldest) ∷ [] else [])
        ++ logged_from (max s m.oldest) (entries_from H (max s m.oldest) ((m.newest + 1) - max s m.oldest))

    picked : (past : Bool) → nat_lt m.newest (max s m.oldest) ≡ past → pick (nat_lt m.newest (max s m.oldest)) (nat_lt s m.oldest) ≡ (rest_all H m s).items
    picked true e = rw e refl
    picked false e = rw e refl

    by_end : (past lt : Bool) → nat_lt m.newest (max s m.oldest) ≡ past → nat_lt s m.oldest ≡ lt →
        pick past lt ≡ before ++ Logged shown entry ∷ after → (k : ℕ) × (shown ≡ sequence_number k) × (after ≡ (rest_all H m (k + 1)).items)
    by_end true lt a b eq = nothing before eq
      where
        nothing : (l : List Item) → [] ≡ l ++ Logged shown entry ∷ after → (k : ℕ) × (shown ≡ sequence_number k) × (after ≡ (rest_all H m (k + 1)).items)
        nothing [] e = absurd (cc)
        nothing (x ∷ l) e = absurd (cc)
    by_end false false a b eq = from_held H m (max s m.oldest) shown entry before after sound within (omega arith) (ltb-false _ _ a) eq
    by_end false true a b eq = gone before eq
      where
        gone : (l : List Item) → Gap (sequence_number s) (sequence_number m.oldest) ∷ logged_from (max s m.oldest) (entries_from H (max s m.oldest) ((m.newest + 1) - max s m.oldest)) ≡ l ++ Logged shown entry ∷ after →
            (k : ℕ) × (shown ≡ sequence_number k) × (after ≡ (rest_all H m (k + 1)).items)
        gone [] e = absurd (let h : Gap (sequence_number s) (sequence_number m.oldest) ≡ Logged shown entry = cc in cc)
        gone (x ∷ l) e =
            let tail : logged_from (max s m.oldest) (entries_from H (max s m.oldest) ((m.newest + 1) - max s m.oldest)) ≡ l ++ Logged shown entry ∷ after = cc in
            from_held H m (max s m.oldest) shown entry l after sound within (omega arith) (ltb-false _ _ a) tail
