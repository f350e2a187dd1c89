-- The replies of a batch.
use Rattle.std.proofs.Common.{◌≡◌, ◌∙◌, ℕ, ◌≤◌, List, [], ◌∷◌, ◌++◌, All, length, map, refl, sym, ap, subst, arith}
use Rattle.std.proofs.Common.{append-nil, append_assoc}
use Rattle.std.proofs.lemmas.List.Elements.{All-cons, All-head, All-nil, All-tail}
use Rattle.bac_archive.specs.declared.row.Put.{Put}
use Rattle.bac_drive.specs.Chain.{Chain}
use Rattle.bac_drive.proofs.Chains.{pushed}
use Rattle.bac_ports.specs.Port.{Receiving}
use Rattle.bac_drive.specs.Event.{Event, Kept, Printed, Read, Sent, Waited, Warned}
use Rattle.bac_drive.specs.Happens.{Steps}
use Rattle.bac_drive.specs.declared.machine.Next.{Next}
use Rattle.bac_batch.specs.Batch.{Batched}
use Rattle.bac_batch.specs.Laws.{AreCutShort, BatchedSteps, BatchesAreReplies, Inside, WasWanted, joined, keeps_of}
use Rattle.bac_batch.specs.Laws.{traffic_of}
use Rattle.bac_batch.proofs.Inside.{inside}
use Rattle.bac_batch.proofs.Parts.{joined_append, keeps_append, traffic_append}
use Rattle.bac_batch.proofs.Stepped.{cons_parts, no_snoc}

-- ---- lists

pub split : {S E : Type 0} (step : S → E → S → Type 0) (a c : S) (es fs : List E) → Chain step a (es ++ fs) c →
    (b : S) × Chain step a es b × Chain step b fs c
split step a c [] fs chain = (a, refl, chain)
split step a c (e ∷ es) fs (mid, one, more) =
    let rest = split step mid c es fs more in (rest.0, (mid, one, rest.1), rest.2)

map_none : {A B : Type 0} (f : A → B) (l : List A) → [] ≡ map f l → l ≡ []
map_none f [] is = refl
map_none f (x ∷ l) is = absurd (omega (arith, ap length is))

-- the last of a list that is mapped
map_last : {A B : Type 0} (f : A → B) (l : List A) (ys : List B) (y : B) → ys ++ y ∷ [] ≡ map f l →
    (a : List A) × (x : A) × (l ≡ a ++ x ∷ []) × (y ≡ f x)
map_last f [] ys y is = absurd (no_snoc ys y is)
map_last f (z ∷ l) [] y is =
    let (one, rest) = cons_parts y (f z) [] (map f l) is in
    ([], z, ap (λ (t : List _). z ∷ t) (map_none f l rest), one)
map_last f (z ∷ l) (u ∷ ys) y is =
    let (one, rest) = cons_parts u (f z) (ys ++ y ∷ []) (map f l) is in
    let (a, x, l_is, y_is) = map_last f l ys y rest in
    (z ∷ a, x, ap (λ (t : List _). z ∷ t) l_is, y_is)

all_last : {X : Type 0} (P : X → Type 0) (a : List X) (x : X) → All P (a ++ x ∷ []) → P x
all_last P [] x all = All-head P x [] all
all_last P (z ∷ a) x all = all_last P a x (All-tail P z (a ++ x ∷ []) all)

-- rows among those that are put stand somewhere among the events
kept_among : (es : List Event) (us ws : List (List Put)) (rows : List Put) → keeps_of es ≡ us ++ rows ∷ ws →
    (before behind : List Event) × (es ≡ before ++ Kept rows ∷ behind)
kept_among [] [] ws rows is = absurd (omega (arith, ap length is))
kept_among [] (u ∷ us) ws rows is = absurd (omega (arith, ap length is))
kept_among (Kept (put ∷ puts) ∷ es) [] ws rows is =
    let (one, rest) = cons_parts (put ∷ puts) rows (keeps_of es) ws is in
    ([], es, ap (λ (l : List Put). Kept l ∷ es) one)
kept_among (Kept (put ∷ puts) ∷ es) (u ∷ us) ws rows is =
    let (one, rest) = cons_parts (put ∷ puts) u (keeps_of es) (us ++ rows ∷ ws) is in
    let (before, behind, same) = kept_among es us ws rows rest in
    (Kept (put ∷ puts) ∷ before, behind, ap (λ (l : List Event). Kept (put ∷ puts) ∷ l) same)
kept_among (Kept [] ∷ es) us ws rows is =
    let (before, behind, same) = kept_among es us ws rows is in
    (Kept [] ∷ before, behind, ap (λ (l : List Event). Kept [] ∷ l) same)
kept_among (Sent octets to answer ∷ es) us ws rows is =
    let (before, behind, same) = kept_among es us ws rows is in
    (Sent octets to answer ∷ before, behind, ap (λ (l : List Event). Sent octets to answer ∷ l) same)
kept_among (Waited within heard ∷ es) us ws rows is =
    let (before, behind, same) = kept_among es us ws rows is in
    (Waited within heard ∷ before, behind, ap (λ (l : List Event). Waited within heard ∷ l) same)
kept_among (Read ms ∷ es) us ws rows is =
    let (before, behind, same) = kept_among es us ws rows is in
    (Read ms ∷ before, behind, ap (λ (l : List Event). Read ms ∷ l) same)
kept_among (Printed text ∷ es) us ws rows is =
    let (before, behind, same) = kept_among es us ws rows is in
    (Printed text ∷ before, behind, ap (λ (l : List Event). Printed text ∷ l) same)
kept_among (Warned text ∷ es) us ws rows is =
    let (before, behind, same) = kept_among es us ws rows is in
    (Warned text ∷ before, behind, ap (λ (l : List Event). Warned text ∷ l) same)

-- events that are cut short, in two parts
pub cut_split : (es fs gs : List Event) → AreCutShort es (fs ++ gs) →
    (early late : List Event) × (es ≡ early ++ late) × AreCutShort early fs × AreCutShort late gs
cut_split es [] gs cut = ([], es, refl, tt, cut)
cut_split (e ∷ es) (f ∷ fs) gs (one, more) =
    let (early, late, is, first, rest) = cut_split es fs gs more in
    (e ∷ early, late, ap (λ (l : List Event). e ∷ l) is, (one, first), rest)
cut_split [] (f ∷ fs) gs cut = absurd cut

-- ---- a batch

module _ {M : Type 0} (gives : M → Next → M → Type 0) (hears : M → Receiving → M → Type 0) (reads : M → ℕ → M →
    Type 0) where
  -- one of the replies of the machine inside
  one_wanted : (start : M) (front inner : List Event) (last : M) (us ws : List (List Put)) (rows : List Put) →
      Chain (Steps gives hears reads) start inner last → AreCutShort (traffic_of front) (traffic_of inner) →
      keeps_of inner ≡ us ++ rows ∷ ws → WasWanted gives hears reads start front rows
  one_wanted start front inner last us ws rows run cut is =
      let (before, behind, same) = kept_among inner us ws rows is in
      let P : List Event → Type 0 = λ l. Chain (Steps gives hears reads) start l last in
      let Q : List Event → Type 0 = λ l. AreCutShort (traffic_of front) l in
      let parts = ap traffic_of same ∙ traffic_append before (Kept rows ∷ behind) in
      let (early, late, whole, first, rest) = cut_split (traffic_of front) (traffic_of before)
      (traffic_of (Kept rows ∷ behind)) (subst Q parts cut) in
      (before, behind, last, subst P same run, (early, late, whole, first))

  -- some of them, one behind the other
  all_wanted : (start : M) (front inner : List Event) (last : M) (us group ws : List (List Put)) →
      Chain (Steps gives hears reads) start inner last → AreCutShort (traffic_of front) (traffic_of inner) →
      keeps_of inner ≡ us ++ (group ++ ws) → All (WasWanted gives hears reads start front) group
  all_wanted start front inner last us [] ws run cut is = All-nil (WasWanted gives hears reads start front)
  all_wanted start front inner last us (rows ∷ group) ws run cut is =
      All-cons (WasWanted gives hears reads start front) rows group
      (one_wanted start front inner last us (group ++ ws) rows run cut is)
      (all_wanted start front inner last (us ++ rows ∷ []) group ws run cut (is
      ∙ sym (append_assoc us (rows ∷ []) (group ++ ws))))

  batch : (start : M) (front inner : List Event) (new : Batched M) (last : M) (puts : List Put) → (puts ≡ [] → ⊥) →
      Inside gives (Steps gives hears reads) start (front ++ Kept puts ∷ []) new inner last → keeps_of (Kept puts ∷ []) ≡ puts ∷ [] →
      (replies : List (List Put)) × (puts ≡ joined replies) × (length replies ≤ 64) × All
      (WasWanted gives hears reads start front) replies
  batch start front inner new last puts some i one =
      let (groups, held, all, kept, rest, small) = i.batches in
      let put = ap (λ (l : List (List Put)). keeps_of front ++ l) (sym one) ∙ sym (keeps_append front (Kept puts ∷ []))
      ∙ kept in
      let (others, group, is, of) = map_last joined groups (keeps_of front) puts put in
      let S : List (List Put) → Type 0 = λ group. length group ≤ 64 in
      let A : List (List (List Put)) → Type 0 = λ l. All S l in
      let J : List (List (List Put)) → List (List Put) = λ l. joined l ++ held in
      let T : List Event → Type 0 = λ l. AreCutShort l (traffic_of inner) in
      let whole =
      all ∙ ap J is ∙ ap (λ (l : List (List Put)). l ++ held) (joined_append others (group ∷ []))
      ∙ append_assoc (joined others) (group ++ []) held
      ∙ ap (λ (l : List (List Put)). joined others ++ (l ++ held)) (append-nil group) in (
        group,
        of,
        all_last S others group (subst A is small),
        all_wanted start front inner last (joined others) group held i.run
            (subst T (traffic_append front (Kept puts ∷ []) ∙ append-nil (traffic_of front)) i.traffic) whole,
      )

  by : (start : M) (front inner : List Event) (new : Batched M) (last : M) (puts : List Put) →
      Inside gives (Steps gives hears reads) start (front ++ Kept puts ∷ []) new inner last →
      (replies : List (List Put)) × (puts ≡ joined replies) × (length replies ≤ 64) × All
      (WasWanted gives hears reads start front) replies
  by start front inner new last [] i = ([], refl, omega arith, All-nil (WasWanted gives hears reads start front))
  by start front inner new last (put ∷ puts) i = batch start front inner new last (put ∷ puts)
      (λ none. omega (arith, ap length none)) i refl

  pub batches_are_replies : BatchesAreReplies gives hears reads
  batches_are_replies = λ old new front behind puts nothing chain.
      let (mid, first, (next, one, more)) = split (BatchedSteps gives hears reads) old new front (Kept puts ∷ behind)
      chain in
      let (inner, last, i) = inside gives hears reads old next (front ++ Kept puts ∷ []) nothing
      (pushed (BatchedSteps gives hears reads) old mid next front (Kept puts) first one) in
      by old.machine front inner next last puts i
