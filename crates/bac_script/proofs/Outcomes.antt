-- How a replay ends, told outcome by outcome.
use Rattle.std.proofs.Common.{◌≡◌, ℕ, subst, List, Option, None, Some, Result, Ok, Err, OnOk}
use Rattle.bac_objects.specs.declared.build.BuildFault.{BuildFault}
use Rattle.bac_script.specs.Outcomes.{OfScript, IsPlayed, IsTooLong, IsUnread, IsUnwritten, IsCutShort}
use Rattle.bac_script.specs.Replay.{Ends, Replays}
use Rattle.bac_script.specs.declared.replay.fault.ReplayFault.{ReplayFault}
use Rattle.bac_script.specs.declared.replay.fault.ReplayFault.TheVariants.{BadLine, Build, Read, TooLong, Write, Memory}

-- a fault of a known reader is that of its script
ended : (limit : ℕ) (have left old new : Option (List ℕ)) (f : ReplayFault) (P : List ℕ → Type 0)
    → ((script : List ℕ) → Ends limit script left old new (Err f) → P script)
    → Replays limit have left old new (Err f) → OfScript have P
unfolding Replays
ended limit None left old new f P to h = tt
ended limit (Some script) left old new f P to h = to script h

pub told_done : (limit : ℕ) (have left old new : Option (List ℕ)) (r : Result (Unit {0}) ReplayFault) → Replays limit have left old new r
    → OnOk r (OfScript have (IsPlayed limit old new None))
unfolding Ends Replays
told_done limit None left old new (Ok x) h = tt
told_done limit (Some script) left old new (Ok x) h = h
told_done limit have left old new (Err f) h = tt

module _ (limit : ℕ) (have left old new : Option (List ℕ)) (r : Result (Unit {0}) ReplayFault) (h : Replays limit have left old new r) where
  same : (f : ReplayFault) → r ≡ Err f → Replays limit have left old new (Err f)
  same f e = subst (λ (x : Result (Unit {0}) ReplayFault). Replays limit have left old new x) e h

  pub told_bad_line : (n : ℕ) → r ≡ Err (BadLine n) → OfScript have (IsPlayed limit old new (Some (BadLine n)))
  unfolding Ends
  told_bad_line n e = ended limit have left old new (BadLine n) (IsPlayed limit old new (Some (BadLine n))) (λ script k. k) (same (BadLine n) e)

  pub told_build : (f : BuildFault) → r ≡ Err (Build f) → OfScript have (IsPlayed limit old new (Some (Build f)))
  unfolding Ends
  told_build f e = ended limit have left old new (Build f) (IsPlayed limit old new (Some (Build f))) (λ script k. k) (same (Build f) e)

  pub told_too_long : r ≡ Err TooLong → OfScript have (IsTooLong limit old new)
  unfolding Ends
  told_too_long e = ended limit have left old new TooLong (IsTooLong limit old new) (λ script k. (k.0, (k.1, k.2))) (same TooLong e)

  pub told_unread : r ≡ Err Read → OfScript have (IsUnread limit left old new)
  unfolding Ends
  told_unread e = ended limit have left old new Read (IsUnread limit left old new) (λ script k. k) (same Read e)

  pub told_unwritten : r ≡ Err Write → OfScript have (IsUnwritten limit old new)
  unfolding Ends
  told_unwritten e = ended limit have left old new Write (IsUnwritten limit old new) (λ script k. k) (same Write e)

  pub told_cut_short : r ≡ Err Memory → OfScript have (IsCutShort limit old new)
  unfolding Ends
  told_cut_short e = ended limit have left old new Memory (IsCutShort limit old new) (λ script k. k) (same Memory e)
