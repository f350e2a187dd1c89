-- Lines that are played in parts.
use Rattle.std.proofs.Common.{◌≡◌, ℕ, suc, ◌+◌, List, [], ◌∷◌, ◌++◌, length, Option, Result, Ok, Err, sym, ap, subst, ◌∙◌, arith, append_assoc, append-nil, length-append}
use Rattle.std.specs.Io.KnownBytes.{Appends, Keeps}
use Rattle.std.proofs.KnownBytes.{Appends-trans, Appends-kept}
use Rattle.bac_script.specs.Replay.{Played, play, then_play, PlaysAll}
use Rattle.bac_script.specs.Fault.{at_line, Refusal}
use Rattle.bac_script.specs.Session.{step, SessionState}
use Rattle.bac_script.specs.Stops.{LineStops, FaultStops, Stops}
use Rattle.bac_script.specs.declared.replay.fault.ReplayFault.{ReplayFault}
use Rattle.bac_script.specs.declared.replay.fault.ReplayFault.TheVariants.{BadLine, Build, Read, TooLong, Write, Memory}

-- what follows lines that were played whole is played from the state that they led to
abbrev Follows : Played → Played → Played → Type 0
Follows whole first rest = (whole.0 ≡ first.0 ++ rest.0) × (whole.1 ≡ rest.1)

Follows-step : (r : Result (List ℕ × SessionState) Refusal) (n : ℕ) (f g : SessionState → Played) (t : SessionState) (rest : Played)
    → (then_play n r f).1 ≡ Ok t → ((u : SessionState) → (f u).1 ≡ Ok t → Follows (g u) (f u) rest) → Follows (then_play n r g) (then_play n r f) rest
Follows-step (Ok x) n f g t rest played more =
    let next = more x.1 played in
    (ap (λ l. x.0 ++ l) next.0 ∙ sym (append_assoc x.0 (f x.1).0 rest.0), next.1)
Follows-step (Err e) n f g t rest played more = cc

pub play-append : (before after : List (List ℕ)) (n : ℕ) (s t : SessionState) → (play n s before).1 ≡ Ok t
    → Follows (play n s (before ++ after)) (play n s before) (play (n + length before) t after)
play-append [] after n s t played =
    let same : s ≡ t = cc in
    let count : n ≡ n + 0 = omega arith in
    (ap (λ k. (play k s after).0) count ∙ ap (λ u. (play (n + 0) u after).0) same, ap (λ k. (play k s after).1) count ∙ ap (λ u. (play (n + 0) u after).1) same)
play-append (x ∷ more) after n s t played =
    let count : (n + 1) + length more ≡ n + suc (length more) = omega arith in
    subst (λ k. Follows (play n s (x ∷ (more ++ after))) (play n s (x ∷ more)) (play k t after)) count
    (Follows-step (step s x) n (λ u. play (n + 1) u more) (λ u. play (n + 1) u (more ++ after)) t (play ((n + 1) + length more) t after) played (λ u ok. play-append more after (n + 1) u t ok))

-- how far the playing of all the lines has come: these are left, and the next one has this number
pub record Progress (old new : Option (List ℕ)) (s : SessionState) (all rest : List (List ℕ)) (number : ℕ) (t : SessionState) : Type 0 where
  pub before : List (List ℕ)
  pub split : all ≡ before ++ rest
  pub counted : number ≡ 1 + length before
  pub played : PlaysAll old new s before t

pub Progress-end : {old new : Option (List ℕ)} {s : SessionState} {all : List (List ℕ)} {number : ℕ} {t : SessionState} → Progress old new s all [] number t → PlaysAll old new s all t × (number ≡ 1 + length all)
Progress-end {old} {new} {s} {all} {number} {t} p =
    let same : p.before ≡ all = sym (p.split ∙ append-nil p.before) in
    (subst (λ l. PlaysAll old new s l t) same p.played, p.counted ∙ ap (λ l. 1 + length l) same)

module _ (old mid new : Option (List ℕ)) (s : SessionState) (all : List (List ℕ)) (line : List ℕ) (rest : List (List ℕ)) (number : ℕ) (t : SessionState) (p : Progress old mid s all (line ∷ rest) number t) where
  -- all the lines, by those that were played
  whole : Follows (play 1 s all) (play 1 s p.before) (then_play number (step t line) (λ u. play (number + 1) u rest))
  whole =
      let joined = play-append p.before (line ∷ rest) 1 s t p.played.state in
      let numbered = subst (λ k. Follows (play 1 s (p.before ++ (line ∷ rest))) (play 1 s p.before) (play k t (line ∷ rest))) (sym p.counted) joined in
      subst (λ l. Follows (play 1 s l) (play 1 s p.before) (play number t (line ∷ rest))) (sym p.split) numbered

  pub Progress-more : (text : List ℕ) (u : SessionState) → step t line ≡ Ok (text, u) → Appends mid new text → Progress old new s all rest (number + 1) u
  Progress-more text u stepped written =
      let joined = play-append p.before (line ∷ []) 1 s t p.played.state in
      let k = 1 + length p.before in
      let one : then_play k (step t line) (λ v. play (k + 1) v []) ≡ (text ++ [], Ok u) = ap (λ r. then_play k r (λ v. play (k + 1) v [])) stepped in
      record {
        before = p.before ++ line ∷ [];
        split = p.split ∙ sym (append_assoc p.before (line ∷ []) rest);
        counted = omega (arith, p.counted, length-append p.before (line ∷ []));
        played = record {
          state = joined.1 ∙ ap (λ r. r.1) one;
          text = subst (Appends old new) (sym (joined.0 ∙ ap (λ r. (play 1 s p.before).0 ++ r.0) one ∙ ap (λ l. (play 1 s p.before).0 ++ l) (append-nil text))) (Appends-trans _ _ _ _ _ p.played.text written);
        };
      }

  fault_stops : (f : ReplayFault) (e : Refusal) → step t line ≡ Err e → f ≡ at_line number e → Keeps mid new → FaultStops old new s all f
  fault_stops f e stepped is kept =
      let one : then_play number (step t line) (λ u. play (number + 1) u rest) ≡ ([], Err (at_line number e)) = ap (λ r. then_play number r (λ u. play (number + 1) u rest)) stepped in (
        whole.1 ∙ ap (λ r. r.1) one ∙ ap Err (sym is),
        subst (Appends old new) (sym (whole.0 ∙ ap (λ r. (play 1 s p.before).0 ++ r.0) one ∙ append-nil (play 1 s p.before).0)) (Appends-kept _ _ _ _ p.played.text kept),
      )

  pub Stops-from_line : (f : ReplayFault) → LineStops mid new number t line f → Stops old new s all f
  Stops-from_line (BadLine k) h = fault_stops (BadLine k) h.0 h.1 h.2 h.3
  Stops-from_line (Build f) h = fault_stops (Build f) h.0 h.1 h.2 h.3
  Stops-from_line Read h = h
  Stops-from_line TooLong h = h
  Stops-from_line Write (text, u, stepped, (written, left, cut, appended)) =
      let first = (play 1 s p.before).0 in
      let later = (play (number + 1) u rest).0 in
      let one = ap (λ r. first ++ (then_play number r (λ v. play (number + 1) v rest)).0) stepped in (
        first ++ written,
        left ++ later,
        whole.0 ∙ one ∙ ap (λ l. first ++ (l ++ later)) cut ∙ ap (λ l. first ++ l) (append_assoc written left later) ∙ sym (append_assoc first written (left ++ later)),
        Appends-trans _ _ _ _ _ p.played.text appended,
      )
  Stops-from_line Memory kept = (p.before, line ∷ rest, t, p.split, record { state = p.played.state; text = Appends-kept _ _ _ _ p.played.text kept })
