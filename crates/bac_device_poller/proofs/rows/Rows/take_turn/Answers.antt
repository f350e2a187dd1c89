use Rattle.std.proofs.Common.{◌≡◌, ◌∙◌, List, ℕ, Option, ap, map, option_map}
use Rattle.bac_poll.specs.State.{ToldAs, told_as}
use Rattle.bac_poll.specs.Turns.{turned}
use Rattle.bac_device_poller.specs.Entries.{RowsAs}
use Rattle.bac_device_poller.specs.Puts.{place_as, put_as}
use Rattle.bac_device_poller.specs.Rows.{LogAs}
use Rattle.bac_device_poller.specs.Turns.{keeping, next_behind, retelling, telling_turn, turning}
use Rattle.bac_device_poller.proofs.rows.Rows.take_turn.Goals as goal

pub returns : goal.returns
returns c =
    let q = c.args.polled.now in
    let p = q.poll in
    let t = turned p c.args.turn.now in
    let x = option_map place_as c.in_ok-behind.behind in
    let ps = map put_as c.in_ok-behind.puts.items in
    let l = c.args.held in
    let n : ℕ = next_behind x l.next p.next in
    let next : c.next_behind-next.result ≡ n = c.next_behind-next.ensures ∙ ap (λ (m : ℕ). next_behind x l.next m) c.next.ensures in
    let kept = c.in_ok-keep.ensures p in
    let told = c.in_ok-tell_turn.ensures p ∙ ap (λ (called : List ℕ). telling_turn c.keep.new.self called x q.left c.next_behind-next.result t) c.called.ensures
    ∙ ap (λ (m : ℕ). telling_turn c.keep.new.self l.called x q.left m t) next
    ∙ ap (λ (r : RowsAs). telling_turn r l.called x q.left n t) kept in
    let stood = c.stand.ensures ∙ ap (λ (m : ℕ). let y : LogAs = record l { place = x; next = m } in y) next in (
      x,
      ps,
      c.in_ok-behind.ensures p,
      c.in_ok-retell.ensures
          ∙ ap (λ (r : RowsAs). retelling r c.stand.new.self (told_as c.word.result.now)) told
          ∙ ap (λ (m : LogAs). retelling (telling_turn (keeping c.args.self.now x ps t) l.called x q.left n t) m (told_as c.word.result.now)) stood
          ∙ ap (λ (w : ToldAs). retelling (telling_turn (keeping c.args.self.now x ps t) l.called x q.left n t) (record l { place = x; next = n }) w) c.word.ensures,
    )
