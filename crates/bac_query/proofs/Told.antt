-- What the turns of a search come to.
use Rattle.std.proofs.Common.{◌≡◌, inl, inr, ℕ, zero, suc, ◌||◌, Bool, false, is_some, List, [], ◌∷◌, ◌++◌, length, Option, None, Some, Ok, Err, refl, sym, ap, ◌∙◌, arith}
use Rattle.std.proofs.lemmas.List.{append-nil, append_assoc, length-append}
use Rattle.std.specs.Io.KnownBytes.{Appends}
use Rattle.std.proofs.Math.Bool.{or-false, or_assoc}
use Rattle.std.proofs.KnownBytes.{Appends-nil, Appends-trans, Appends-kept}
use Rattle.bac_query.specs.Announcements.{Announcement, announced}
use Rattle.bac_query.specs.Finding.{Seeks, Settles, Turns, asked}
use Rattle.bac_query.specs.Hearing.{Hears, Held, Left, PortRules, ReceivesBy, Shows, Standing, given_up, searching}
use Rattle.bac_query.specs.Turns.{Along, ComesTo, Fails, IsLast, Received, Sent, Tells, Turn, asked_in, came_in, has_device, line_of, lines_of}
use Rattle.bac_query.specs.declared.find_fault.FindFault.{FindFault}
use Rattle.bac_query.specs.declared.find_fault.FindFault.TheVariants.{Socket, Refused, NoAnswer, Write, Memory}
use Rattle.bac_ports.specs.Port.{Sending}
use Rattle.bac_ports.specs.declared.port.Heard.{Heard}
use Rattle.bac_ports.specs.declared.port.SocketFault.TheVariants.{Timeout, Failed}

-- ---- lists

asked_both : (xs ys : List Turn) → asked_in (xs ++ ys) ≡ asked_in xs ++ asked_in ys
asked_both [] ys = refl
asked_both (Sent address sent ∷ xs) ys = ap (λ l. address ∷ l) (asked_both xs ys)
asked_both (Received wait heard ∷ xs) ys = asked_both xs ys

came_both : (xs ys : List Turn) → came_in (xs ++ ys) ≡ came_in xs ++ came_in ys
came_both [] ys = refl
came_both (Sent address sent ∷ xs) ys = came_both xs ys
came_both (Received wait (Ok heard) ∷ xs) ys = ap (λ l. heard ∷ l) (came_both xs ys)
came_both (Received wait (Err fault) ∷ xs) ys = came_both xs ys

lines_both : (xs ys : List Heard) → lines_of (xs ++ ys) ≡ lines_of xs ++ lines_of ys
lines_both [] ys = refl
lines_both (heard ∷ xs) ys =
    ap (λ l. line_of (announced heard) ++ l) (lines_both xs ys) ∙ sym (append_assoc (line_of (announced heard)) (lines_of xs) (lines_of ys))

device_both : (xs ys : List Heard) → has_device (xs ++ ys) ≡ (has_device xs || has_device ys)
device_both [] ys = refl
device_both (heard ∷ xs) ys =
    ap (λ b. is_some (announced heard) || b) (device_both xs ys) ∙ sym (or_assoc (is_some (announced heard)) (has_device xs) (has_device ys))

-- ---- lines after lines

appends_both : (held between after : Held) (xs ys : List Heard) → Appends held between (lines_of xs) → Appends between after (lines_of ys) →
    Appends held after (lines_of (xs ++ ys))
appends_both held between after xs ys first second =
    rw (lines_both xs ys) (Appends-trans held between after (lines_of xs) (lines_of ys) first second)

last_both : (said : Announcement) (xs ys : List Heard) (held between after : Held) → Appends held between (lines_of xs) →
    IsLast said ys between after → IsLast said (xs ++ ys) held after
last_both said xs ys held between after first (earlier, last, split, is, appended) =
    (xs ++ earlier, last, ap (λ l. xs ++ l) split ∙ sym (append_assoc xs earlier (last ∷ [])), is, appends_both held between after xs earlier first appended)

fails_both : (xs ys : List Heard) (held between after : Held) (fault : FindFault) → Appends held between (lines_of xs) →
    Fails ys between fault after → Fails (xs ++ ys) held fault after
fails_both xs ys held between after Socket first fails = appends_both held between after xs ys first fails
fails_both xs ys held between after Write first (said, mid, last, part) = (said, mid, last_both said xs ys held between mid first last, part)
fails_both xs ys held between after Memory first (said, last) = (said, last_both said xs ys held between after first last)
fails_both xs ys held between after NoAnswer first fails = absurd fails
fails_both xs ys held between after (Refused address) first fails = absurd fails

shown_well : (o : Option Announcement) (shown : Bool) (held between : Held) → Shows o (Ok shown) held between →
    (is_some o ≡ shown) × Appends held between (line_of o)
shown_well None shown held between (e, same) = (let f : shown ≡ false = cc in sym f, rw same (Appends-nil held))
shown_well (Some said) shown held between (e, appended) = (sym e, appended)

shown_badly : (heard : Heard) (held after : Held) (o : Option Announcement) (fault : FindFault) → announced heard ≡ o →
    Shows o (Err fault) held after → Fails (heard ∷ []) held fault after
shown_badly heard held after None fault is (e, same) = absurd (cc)
shown_badly heard held after (Some said) Write is part = (said, held, ([], heard, refl, is, Appends-nil held), part)
shown_badly heard held after (Some said) Memory is kept = (said, ([], heard, refl, is, Appends-kept held held after [] (Appends-nil held) kept))
shown_badly heard held after (Some said) Socket is none = absurd none
shown_badly heard held after (Some said) NoAnswer is none = absurd none
shown_badly heard held after (Some said) (Refused address) is none = absurd none

-- ---- what some turns come to, and others behind them

comes_both : (limit left : ℕ) (xs ys : List (List ℕ)) (us vs : List Turn) (old mid new : Standing) (result : Left) →
    ComesTo limit xs us old (Ok left) mid → ComesTo left ys vs mid result new → ComesTo limit (xs ++ ys) (us ++ vs) old result new
comes_both limit left xs ys us vs old mid new (Ok rest) (asks, count, taken, wrote) (asks', count', taken', wrote') =
    let e = came_both us vs in (
      asked_both us vs ∙ ap (λ l. l ++ asked_in vs) asks ∙ ap (λ l. xs ++ l) asks',
      omega (arith, ap length e, length-append (came_in us) (came_in vs), count, count'),
      taken' ∙ ap (λ b. b || has_device (came_in vs)) taken ∙ or_assoc old.taken (has_device (came_in us)) (has_device (came_in vs))
          ∙ ap (λ b. old.taken || b) (sym (device_both (came_in us) (came_in vs))) ∙ ap (λ l. old.taken || has_device l) (sym e),
      rw e (appends_both old.held mid.held new.held (came_in us) (came_in vs) wrote wrote'),
    )
comes_both limit left xs ys us vs old mid new (Err fault) (asks, count, taken, wrote) ((more, asks'), count', fails) =
    let e = came_both us vs in (
      (more, ap (λ l. xs ++ l) asks' ∙ sym (append_assoc xs (asked_in vs) more) ∙ ap (λ l. (l ++ asked_in vs) ++ more) (sym asks) ∙ ap (λ l. l ++ more) (sym (asked_both us vs))),
      omega (arith, ap length e, length-append (came_in us) (came_in vs), count, count'),
      rw e (fails_both (came_in us) (came_in vs) old.held mid.held new.held fault wrote fails),
    )

module _ {P : Type 0} (rules : PortRules P) (octets : List ℕ) where
  along_both : (us vs : List Turn) (port mid after : P) → Along rules octets us port mid → Along rules octets vs mid after →
      Along rules octets (us ++ vs) port after
  along_both [] vs port mid after first second = rw (sym first) second
  along_both (Sent address sent ∷ us) vs port mid after (next, did, first) second = (next, did, along_both us vs next mid after first second)
  along_both (Received wait heard ∷ us) vs port mid after (next, did, first) second = (next, did, along_both us vs next mid after first second)

  -- then more is done
  tells_both : (xs ys : List (List ℕ)) (limit left : ℕ) (port mid after : P) (old then new : Standing) (result : Left) →
      Tells rules octets xs limit (searching port old) (Ok left) (searching mid then) → Tells rules octets ys left (searching mid then) result (searching after new) →
      Tells rules octets (xs ++ ys) limit (searching port old) result (searching after new)
  tells_both xs ys limit left port mid after old then new result (us, along, comes) (vs, along', comes') =
      (us ++ vs, along_both us vs port mid after along along', comes_both limit left xs ys us vs old then new result comes comes')

  -- a fault is the end
  tells_end : (xs ys : List (List ℕ)) (limit : ℕ) (port after : P) (old new : Standing) (fault : FindFault) →
      Tells rules octets xs limit (searching port old) (Err fault) (searching after new) → Tells rules octets (xs ++ ys) limit (searching port old) (Err fault) (searching after new)
  tells_end xs ys limit port after old new fault (us, along, ((more, asks), count, fails)) =
      (us, along, ((more ++ ys, ap (λ l. l ++ ys) asks ∙ append_assoc (asked_in us) more ys), count, fails))

  tells_nothing : (limit : ℕ) (port : P) (old new : Standing) → new.held ≡ old.held → new.taken ≡ old.taken →
      Tells rules octets [] limit (searching port old) (Ok limit) (searching port new)
  tells_nothing limit port old new held taken =
      ([], refl, (refl, omega arith, taken ∙ sym (or-false old.taken), rw held (Appends-nil old.held)))

  tells_sent : (limit : ℕ) (port mid : P) (address : List ℕ) (sent : Sending) (old : Standing) → rules.sends port octets address sent mid →
      Tells rules octets (address ∷ []) limit (searching port old) (Ok limit) (searching mid (asked address sent old))
  tells_sent limit port mid address sent old did =
      (Sent address sent ∷ [], (mid, did, refl), (refl, omega arith, sym (or-false old.taken), Appends-nil old.held))

  -- ---- a wait

  hears_told : (wait : Option ℕ) (least limit : ℕ) (port after : P) (old new : Standing) (result : Left) →
      Hears (ReceivesBy rules wait) least limit (searching port old) result (searching after new) → Tells rules octets [] limit (searching port old) result (searching after new)
  unfolding Hears
  hears_told wait least zero port after old new result (e, same, kept) =
      rw (e, same, kept) (tells_nothing zero port old old refl refl)
  hears_told wait least (suc limit) port after old new result (inl (few, (e, same, kept))) =
      rw (e, same, kept) (tells_nothing (suc limit) port old old refl refl)
  hears_told wait least (suc limit) port after old new result (inr (many, (Err Timeout, mid, got, (e, same, kept)))) =
      rw (e, same, kept) (Received wait (Err Timeout) ∷ [], (mid, got, refl), (refl, omega arith, sym (or-false old.taken), Appends-nil old.held))
  hears_told wait least (suc limit) port after old new result (inr (many, (Err Failed, mid, got, (e, same, kept)))) =
      rw (e, same, kept) (Received wait (Err Failed) ∷ [], (mid, got, refl), (([], refl), omega arith, Appends-nil old.held))
  hears_told wait least (suc limit) port after old new result (inr (many, (Ok heard, mid, got, (Err fault, then, (shows, pend, taken, ref), (e, same, kept))))) =
      rw (e, same, kept) (Received wait (Ok heard) ∷ [], (mid, got, refl), (([], refl), omega arith, shown_badly heard old.held then.held (announced heard) fault refl shows))
  hears_told wait least (suc limit) port after old new result (inr (many, (Ok heard, mid, got, (Ok shown, then, (shows, pend, taken, ref), more)))) =
      let (some, wrote) = shown_well (announced heard) shown old.held then.held shows in
      tells_both [] [] (suc limit) limit port mid after old then new result
      (Received wait (Ok heard) ∷ [], (mid, got, refl), (refl, omega arith, taken ∙ ap (λ b. old.taken || b) (sym some ∙ sym (or-false (is_some (announced heard)))), rw (append-nil (line_of (announced heard))) wrote))
      (hears_told wait least limit mid after then new result more)

  -- ---- a turn, and all of them

  settles_told : (limit : ℕ) (port after : P) (old new : Standing) (result : Left) → Settles rules limit (searching port old) result (searching after new) →
      Tells rules octets [] limit (searching port old) result (searching after new)
  settles_told limit port after old new result (Err fault, mid, then, hears, (e, same, kept)) =
      rw (e, same, kept) (hears_told (Some 0) 0 limit port mid old then (Err fault) hears)
  settles_told limit port after old new result (Ok left, mid, then, hears, (Err fault, late, last, waits, (e, same, kept))) =
      rw (e, same, kept) (tells_both [] [] limit left port mid late old then last (Err fault) (hears_told (Some 0) 0 limit port mid old then (Ok left) hears) (hears_told (Some 100) 100 left mid late then last (Err fault) waits))
  settles_told limit port after old new result (Ok left, mid, then, hears, (Ok rest, late, last, waits, (e, same, kept))) =
      rw (e, same, kept) (tells_both [] [] limit left port mid late old then (record last { pending = given_up last.pending }) (Ok rest)
      (hears_told (Some 0) 0 limit port mid old then (Ok left) hears)
      (tells_both [] [] left rest mid late late then last (record last { pending = given_up last.pending }) (Ok rest) (hears_told (Some 100) 100 left mid late then last (Ok rest) waits)
      (tells_nothing rest late last (record last { pending = given_up last.pending }) refl refl)))

  turns_told : (addresses : List (List ℕ)) (limit : ℕ) (port after : P) (old new : Standing) (result : Left) →
      Turns rules octets addresses limit (searching port old) result (searching after new) → Tells rules octets addresses limit (searching port old) result (searching after new)
  unfolding Turns
  turns_told [] limit port after old new result (e, same, kept) = rw (e, same, kept) (tells_nothing limit port old old refl refl)
  turns_told (address ∷ addresses) limit port after old new result (sent, mid, did, (Err fault, next, then, settles, (e, same, kept))) =
      rw (e, same, kept) (tells_both (address ∷ []) addresses limit limit port mid next old (asked address sent old) then (Err fault)
      (tells_sent limit port mid address sent old did)
      (tells_end [] addresses limit mid next (asked address sent old) then fault (settles_told limit mid next (asked address sent old) then (Err fault) settles)))
  turns_told (address ∷ addresses) limit port after old new result (sent, mid, did, (Ok left, next, then, settles, more)) =
      tells_both (address ∷ []) addresses limit limit port mid after old (asked address sent old) new result
      (tells_sent limit port mid address sent old did)
      (tells_both [] addresses limit left mid next after (asked address sent old) then new result
      (settles_told limit mid next (asked address sent old) then (Ok left) settles)
      (turns_told addresses left next after then new result more))

  pub seeks_told : (addresses : List (List ℕ)) (limit : ℕ) (port after : P) (old new : Standing) (result : Left) →
      Seeks rules octets addresses limit (searching port old) result (searching after new) → Tells rules octets addresses limit (searching port old) result (searching after new)
  seeks_told addresses limit port after old new result (Err fault, mid, then, turns, (e, same, kept)) =
      rw (e, same, kept) (turns_told addresses limit port mid old then (Err fault) turns)
  seeks_told addresses limit port after old new result (Ok left, mid, then, turns, hears) =
      rw (sym (append-nil addresses)) (tells_both addresses [] limit left port mid after old then new result (turns_told addresses limit port mid old then (Ok left) turns)
      (hears_told None 0 left mid after then new result hears))
