-- Lists of moments that grow at the end, and of answers that fall behind them.
use Rattle.std.proofs.Common.{◌≡◌, ℕ, zero, suc, Bool, true, false, ◌+◌, ◌-◌, ◌%◌, ◌<◌, ◌≤◌, List, [], ◌∷◌, ◌++◌, length, take, refl, sym, ap, subst, ◌∙◌, arith, length-append, append-nil}
use Rattle.bac_link.specs.declared.item.Item.{Item}
use Rattle.bac_link.specs.Delivery.{History, Moment, now, later, Brings, Leads, items_of}
use Rattle.bac_link.specs.Laws.{after_answers, moment_at}
use Rattle.bac_link.proofs.Delivers.{leads-append}
use Rattle.bac_walk.specs.Collects.{batches, start_of}
use Rattle.bac_walk.proofs.Cuts.{items_of-append}
use Rattle.bac_walk.proofs.Joins.{after_answers-add}

-- of fewer than 256 transactions in a row each is known by its invoke ID
pub mod_close : (a b : ℕ) → a ≤ b → b < a + 256 → a % 256 ≡ b % 256 → a ≡ b
mod_close a b le lt same = omega arith

pub moment_at-grow : (M N : List Moment) (i : ℕ) → i < length M → moment_at (M ++ N) i ≡ moment_at M i
moment_at-grow [] N i lt = absurd (omega arith)
moment_at-grow (m ∷ M) N zero lt = refl
moment_at-grow (m ∷ []) N (suc i) lt = absurd (omega arith)
moment_at-grow (m ∷ n ∷ M) N (suc i) lt = moment_at-grow (n ∷ M) N i (omega arith)

pub moment_at-last : (M : List Moment) (m : Moment) → moment_at (M ++ m ∷ []) (length M) ≡ m
moment_at-last [] m = refl
moment_at-last (n ∷ []) m = refl
moment_at-last (n ∷ o ∷ M) m = moment_at-last (o ∷ M) m

pub Leads-grow : (H : History) (M N : List Moment) (s t : ℕ) (xs : List (List Item)) → length xs ≤ length M → Leads H M s xs t → Leads H (M ++ N) s xs t
Leads-grow H M N s t [] le are = are
Leads-grow H [] N s t (x ∷ xs) le are = absurd (omega arith)
Leads-grow H (m ∷ []) N s t (x ∷ []) le are = are
Leads-grow H (m ∷ []) N s t (x ∷ y ∷ xs) le are = absurd (omega arith)
Leads-grow H (m ∷ n ∷ M) N s t (x ∷ xs) le are = (are.0, are.1, Leads-grow H (n ∷ M) N are.0 t xs (omega arith) are.2)

pub start_of-grow : (fresh : Bool) (s : ℕ) (M N : List Moment) (xs : List (List Item)) → length xs ≤ length M → start_of fresh s (M ++ N) xs ≡ start_of fresh s M xs
start_of-grow false s M N xs le = refl
start_of-grow true s M N [] le = refl
start_of-grow true s [] N (x ∷ xs) le = absurd (omega arith)
start_of-grow true s (m ∷ []) N ([] ∷ []) le = refl
start_of-grow true s (m ∷ M) N ((x ∷ b) ∷ xs) le = refl
start_of-grow true s (m ∷ []) N ([] ∷ y ∷ xs) le = absurd (omega arith)
start_of-grow true s (m ∷ n ∷ M) N ([] ∷ xs) le = start_of-grow true s (n ∷ M) N xs (omega arith)

-- ---- answers that bring nothing

abbrev pub idle : ℕ → List (List Item)
idle zero = []
idle (suc k) = [] ∷ idle k

pub length-idle : (k : ℕ) → length (idle k) ≡ k
length-idle zero = refl
length-idle (suc k) = ap suc (length-idle k)

items_of-idle : (k : ℕ) → items_of (idle k) ≡ []
items_of-idle zero = refl
items_of-idle (suc k) = items_of-idle k

Leads-idle : (H : History) (M : List Moment) (s k : ℕ) → Leads H M s (idle k) s
Leads-idle H M s zero = refl
Leads-idle H M s (suc k) = (s, refl, Leads-idle H (later M) s k)

pub one_after : (H : History) (M : List Moment) (s k : ℕ) (b : List Item) (t : ℕ) → Brings H (moment_at M k) s b t → Leads H M s (idle k ++ b ∷ []) t
one_after H M s zero b t brings = (t, brings, refl)
one_after H M s (suc k) b t brings = (s, refl, one_after H (later M) s k b t brings)

pub Leads-after : (H : History) (M : List Moment) (s t k : ℕ) (done : List (List Item)) (b : List Item) (u : ℕ) → Leads H M s done t →
    Brings H (moment_at M (length done + k)) t b u → Leads H M s (done ++ (idle k ++ b ∷ [])) u
Leads-after H M s t k done b u are brings =
    let P : List Moment → Type 0 = λ N. Brings H (now N) t b u in
    leads-append H M s t u done (idle k ++ b ∷ []) are
    (one_after H (after_answers (length done) M) t k b u (subst P (after_answers-add (length done) k M) brings))

pub length-after : (done : List (List Item)) (k : ℕ) (b : List Item) → length (done ++ (idle k ++ b ∷ [])) ≡ length done + k + 1
length-after done k b = omega (arith, length-append done (idle k ++ b ∷ []), length-append (idle k) (b ∷ []), length-idle k)

pub items_of-after : (done : List (List Item)) (k : ℕ) (b : List Item) → items_of (done ++ (idle k ++ b ∷ [])) ≡ items_of done ++ b
items_of-after done k b =
    items_of-append done (idle k ++ b ∷ []) ∙ ap (λ l. items_of done ++ l)
    (items_of-append (idle k) (b ∷ []) ∙ ap (λ l. l ++ (b ++ [])) (items_of-idle k) ∙ append-nil b)

pub items_of-padded : (done : List (List Item)) (k : ℕ) → items_of (done ++ idle k) ≡ items_of done
items_of-padded done k = items_of-append done (idle k) ∙ ap (λ l. items_of done ++ l) (items_of-idle k) ∙ append-nil (items_of done)

pub batches-after : (done : List (List Item)) (k : ℕ) (x : Item) (b : List Item) → 0 < batches (done ++ (idle k ++ (x ∷ b) ∷ []))
batches-after [] zero x b = omega arith
batches-after [] (suc k) x b = batches-after [] k x b
batches-after ([] ∷ done) k x b = batches-after done k x b
batches-after ((y ∷ ys) ∷ done) k x b = omega arith

-- ---- the answers before a place, if what is put after them stands there or later

take-idle : (i k : ℕ) (rest : List (List Item)) → i ≤ k → take i (idle k ++ rest) ≡ idle i
take-idle zero k rest le = refl
take-idle (suc i) zero rest le = absurd (omega arith)
take-idle (suc i) (suc k) rest le = ap (λ (l : List (List Item)). [] ∷ l) (take-idle i k rest (omega arith))

pub take-behind : (done : List (List Item)) (i k : ℕ) (rest : List (List Item)) → i ≤ length done + k →
    take i (done ++ (idle k ++ rest)) ≡ take i done ++ idle (i - length done)
take-behind [] zero k rest le = refl
take-behind [] (suc i) k rest le =
    let same : suc i ≡ suc i - length (let none : List (List Item) = [] in none) = omega arith in
    take-idle (suc i) k rest (omega arith) ∙ ap idle same
take-behind (x ∷ done) zero k rest le = let none : 0 - length (x ∷ done) ≡ 0 = omega arith in ap idle (sym none)
take-behind (x ∷ done) (suc i) k rest le =
    let same : i - length done ≡ suc i - length (x ∷ done) = omega arith in
    ap (λ l. x ∷ l) (take-behind done i k rest (omega arith) ∙ ap (λ n. take i done ++ idle n) same)

-- ---- where a run begins doesn't change once there is a batch

pub start_of-more : (s : ℕ) (M : List Moment) (xs ys : List (List Item)) → 0 < batches xs → start_of true s M (xs ++ ys) ≡ start_of true s M xs
start_of-more s M [] ys some = absurd (omega arith)
start_of-more s M ([] ∷ xs) ys some = start_of-more s (later M) xs ys some
start_of-more s M ((x ∷ b) ∷ xs) ys some = refl

pub start_of-first : (s : ℕ) (M : List Moment) (k : ℕ) (x : Item) (b : List Item) → start_of true s M (idle k ++ (x ∷ b) ∷ []) ≡ (moment_at M k).oldest
start_of-first s M zero x b = refl
start_of-first s M (suc k) x b = start_of-first s (later M) k x b

start_of-padded : (fresh : Bool) (s : ℕ) (M : List Moment) (done : List (List Item)) (k : ℕ) → start_of fresh s M (done ++ idle k) ≡ start_of fresh s M done
start_of-padded false s M done k = refl
start_of-padded true s M [] zero = refl
start_of-padded true s M [] (suc k) = start_of-padded true s (later M) [] k
start_of-padded true s M ([] ∷ done) k = start_of-padded true s (later M) done k
start_of-padded true s M ((x ∷ b) ∷ done) k = refl

-- ---- answers that lead from where the run begins

abbrev pub Led : History → List Moment → Bool → ℕ → List (List Item) → ℕ → Type 0
Led H M fresh s xs t = Leads H M (start_of fresh s M xs) xs t

pub led_grown : (H : History) (M N : List Moment) (fresh : Bool) (s t : ℕ) (xs : List (List Item)) → length xs ≤ length M → Led H M fresh s xs t → Led H (M ++ N) fresh s xs t
led_grown H M N fresh s t xs le led =
    let P : ℕ → Type 0 = λ b. Leads H (M ++ N) b xs t in
    subst P (sym (start_of-grow fresh s M N xs le)) (Leads-grow H M N (start_of fresh s M xs) t xs le led)

pub led_padded : (H : History) (M : List Moment) (fresh : Bool) (s t : ℕ) (xs : List (List Item)) (k : ℕ) → Led H M fresh s xs t → Led H M fresh s (xs ++ idle k) t
led_padded H M fresh s t xs k led =
    let P : ℕ → Type 0 = λ b. Leads H M b (xs ++ idle k) t in
    subst P (sym (start_of-padded fresh s M xs k)) (leads-append H M (start_of fresh s M xs) t t xs (idle k) led (Leads-idle H (after_answers (length xs) M) t k))

-- the same of the answers before a place
pub led_before : (H : History) (M : List Moment) (fresh : Bool) (s t : ℕ) (done : List (List Item)) (i k : ℕ) (rest : List (List Item)) → i ≤ length done + k →
    Led H M fresh s (take i done) t → Led H M fresh s (take i (done ++ (idle k ++ rest))) t
led_before H M fresh s t done i k rest le led =
    let P : List (List Item) → Type 0 = λ xs. Led H M fresh s xs t in
    subst P (sym (take-behind done i k rest le)) (led_padded H M fresh s t (take i done) (i - length done) led)
