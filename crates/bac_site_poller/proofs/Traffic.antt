-- Events of which some go over the port and the clock, and others with the same of these, a wait cut short maybe.
use Rattle.std.proofs.Common.{◌≡◌, ◌∙◌, ℕ, suc, Bool, true, false, cond, List, [], ◌∷◌, ◌++◌, All, length}
use Rattle.std.proofs.Common.{refl, sym, ap, subst, arith}
use Rattle.std.specs.List.{Contains}
use Rattle.std.proofs.lemmas.List.Elements.{All-cons, All-nil, All-weaker}
use Rattle.bac_ports.specs.Port.{Receiving, Sending}
use Rattle.bac_drive.specs.Event.{Event, Kept, Printed, Read, Sent, Waited, Warned}
use Rattle.bac_batch.specs.Laws.{AreCutShort, IsCutShort, is_traffic, traffic_of}
use Rattle.bac_batch.proofs.Stepped.{cons_parts}

here : {X : Type 0} (x : X) (xs : List X) → Contains (x ∷ xs) x
here x xs = (0, omega arith, refl)

later : {X : Type 0} (y : X) (xs : List X) (x : X) → Contains xs x → Contains (y ∷ xs) x
later y xs x (k, below, is) = (suc k, omega (arith, below), is)

-- what holds of each holds of this one
of_each : {X : Type 0} (P : X → Type 0) (xs : List X) (x : X) → All P xs → Contains xs x → P x
of_each P xs x all (k, below, is) = subst P is (all k x below)

-- what goes over the port and the clock is kept
abbrev IsKept : List Event → Event → Type 0
IsKept kept e = is_traffic e ≡ true → Contains kept e

kept_by : (e : Event) (es : List Event) (b : Bool) → is_traffic e ≡ b → All (IsKept (traffic_of es)) es →
    All (IsKept (cond b (e ∷ traffic_of es) (traffic_of es))) (e ∷ es)
kept_by e es true is all =
    let kept = traffic_of es in
    All-cons (IsKept (e ∷ kept)) e es (λ _. here e kept)
    (All-weaker (IsKept kept) (IsKept (e ∷ kept)) (λ x q t. later e kept x (q t)) es all)
kept_by e es false is all =
    All-cons (IsKept (traffic_of es)) e es (λ t. absurd (let f : false ≡ true = sym is ∙ t in cc)) all

kept_in : (es : List Event) → All (IsKept (traffic_of es)) es
kept_in [] = All-nil (IsKept [])
kept_in (e ∷ es) = kept_by e es (is_traffic e) refl (kept_in es)

-- and no other
only_by : (e : Event) (es : List Event) (b : Bool) → All (Contains es) (traffic_of es) →
    All (Contains (e ∷ es)) (cond b (e ∷ traffic_of es) (traffic_of es))
only_by e es true all =
    All-cons (Contains (e ∷ es)) e (traffic_of es) (here e es)
    (All-weaker (Contains es) (Contains (e ∷ es)) (λ x is. later e es x is) (traffic_of es) all)
only_by e es false all = All-weaker (Contains es) (Contains (e ∷ es)) (λ x is. later e es x is) (traffic_of es) all

kept_of : (es : List Event) → All (Contains es) (traffic_of es)
kept_of [] = All-nil (Contains [])
kept_of (e ∷ es) = only_by e es (is_traffic e) (kept_of es)

-- the same is among those that are cut short
abbrev IsAmong : List Event → Event → Type 0
IsAmong es e = (f : Event) × Contains es f × IsCutShort f e

cut_among : (es fs : List Event) → AreCutShort es fs → All (IsAmong es) fs
cut_among [] [] cut = All-nil (IsAmong [])
cut_among (e ∷ es) (f ∷ fs) (one, more) =
    All-cons (IsAmong (e ∷ es)) f fs (e, here e es, one)
    (All-weaker (IsAmong es) (IsAmong (e ∷ es)) (λ x (y, is, cut). (y, later e es y is, cut)) fs (cut_among es fs more))
cut_among [] (f ∷ fs) cut = absurd cut
cut_among (e ∷ es) [] cut = absurd cut

-- so it is of what goes over the port and the clock
among : (es fs : List Event) → AreCutShort (traffic_of es) (traffic_of fs) → (e : Event) → is_traffic e ≡ true →
    Contains fs e → IsAmong es e
among es fs cut e is there =
    let (f, of, short) = of_each (IsAmong (traffic_of es)) (traffic_of fs) e
    (cut_among (traffic_of es) (traffic_of fs) cut)
    (of_each (λ x. is_traffic x ≡ true → Contains (traffic_of fs) x) fs e (kept_in fs) there is) in
    (f, of_each (Contains es) (traffic_of es) f (kept_of es) of, short)

pub sent_among : (es fs : List Event) (octets to : List ℕ) (answer : Sending) →
    AreCutShort (traffic_of es) (traffic_of fs) →
    Contains fs (Sent octets to answer) → Contains es (Sent octets to answer)
sent_among es fs octets to answer cut there = by r.0 r.1 r.2
  where
    r : IsAmong es (Sent octets to answer)
    r = among es fs cut (Sent octets to answer) refl there

    by : (f : Event) → Contains es f → IsCutShort f (Sent octets to answer) → Contains es (Sent octets to answer)
    by (Sent sent peer got) of is = subst (Contains es) is of
    by (Waited within heard) of is = subst (Contains es) is of
    by (Read ms) of is = subst (Contains es) is of
    by (Kept puts) of is = subst (Contains es) is of
    by (Printed text) of is = subst (Contains es) is of
    by (Warned text) of is = subst (Contains es) is of

pub waited_among : (es fs : List Event) (most : ℕ) (heard : Receiving) → AreCutShort (traffic_of es) (traffic_of fs) →
    Contains fs (Waited most heard) → (less : ℕ) × Contains es (Waited less heard)
waited_among es fs most heard cut there = by r.0 r.1 r.2
  where
    r : IsAmong es (Waited most heard)
    r = among es fs cut (Waited most heard) refl there

    by : (f : Event) → Contains es f → IsCutShort f (Waited most heard) → (less : ℕ) × Contains es (Waited less heard)
    by (Waited less other) of (shorter, is) = (less, subst (λ (h : Receiving). Contains es (Waited less h)) is of)
    by (Sent sent peer got) of is = (most, subst (Contains es) is of)
    by (Read ms) of is = (most, subst (Contains es) is of)
    by (Kept puts) of is = (most, subst (Contains es) is of)
    by (Printed text) of is = (most, subst (Contains es) is of)
    by (Warned text) of is = (most, subst (Contains es) is of)

-- events whose traffic is in two parts are in two parts
pub record InParts (es early late : List Event) : Type 0 where
  pub before : List Event
  pub behind : List Event
  pub is : es ≡ before ++ behind
  pub early_is : traffic_of before ≡ early
  pub late_is : traffic_of behind ≡ late

-- one more before them, which is no traffic, or the first of it
more_parts : (e : Event) (es early late : List Event) → is_traffic e ≡ false → InParts es early late →
    InParts (e ∷ es) early late
more_parts e es early late stays parts =
    let C : Bool → List Event = λ b. cond b (e ∷ traffic_of parts.before) (traffic_of parts.before) in
    record {
      before = e ∷ parts.before;
      behind = parts.behind;
      is = ap (λ (l : List Event). e ∷ l) parts.is;
      early_is = ap C stays ∙ parts.early_is;
      late_is = parts.late_is;
    }

first_parts : (e f : Event) (es early late : List Event) → is_traffic e ≡ true → e ≡ f → InParts es early late →
    InParts (e ∷ es) (f ∷ early) late
first_parts e f es early late goes same parts =
    let C : Bool → List Event = λ b. cond b (e ∷ traffic_of parts.before) (traffic_of parts.before) in
    record {
      before = e ∷ parts.before;
      behind = parts.behind;
      is = ap (λ (l : List Event). e ∷ l) parts.is;
      early_is = ap C goes ∙ ap (λ (l : List Event). e ∷ l) parts.early_is ∙ ap (λ (x : Event). x ∷ early) same;
      late_is = parts.late_is;
    }

parts_by : (e f : Event) (es early late : List Event) (b : Bool) → is_traffic e ≡ b →
    cond b (e ∷ traffic_of es) (traffic_of es) ≡ f ∷ early ++ late →
    (traffic_of es ≡ early ++ late → InParts es early late) →
    (traffic_of es ≡ f ∷ early ++ late → InParts es (f ∷ early) late) →
    InParts (e ∷ es) (f ∷ early) late
parts_by e f es early late true goes is first more =
    let (one, rest) = cons_parts e f (traffic_of es) (early ++ late) is in
    first_parts e f es early late goes one (first rest)
parts_by e f es early late false stays is first more = more_parts e es (f ∷ early) late stays (more is)

pub traffic_split : (es early late : List Event) → traffic_of es ≡ early ++ late → InParts es early late
traffic_split es [] late is = record { before = []; behind = es; is = refl; early_is = refl; late_is = is }
traffic_split [] (f ∷ early) late is = absurd (omega (arith, ap length is))
traffic_split (e ∷ es) (f ∷ early) late is =
    parts_by e f es early late (is_traffic e) refl is (λ rest. traffic_split es early late rest)
    (λ rest. traffic_split es (f ∷ early) late rest)
