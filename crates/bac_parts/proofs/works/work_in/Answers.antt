use Rattle.bac_parts.proofs.FileLemmas.{ok_is_no_err, shut_so}
use Rattle.bac_parts.proofs.works.work_in.Goals as goal

pub returns : goal.returns
returns g c =
    let done = c.work_over-came in
    let close = c.close-closed.ensures in
    record {
      opened = c.in-Ok.conn;
      last = done.new.conn;
      is = c.in-Ok.ensures.opened;
      did = done.ensures;
      named = close.named c.args.path.now _ (c.in-Ok.ensures.named (λ same. ok_is_no_err _ _ same));
      shut = shut_so done.new.conn c.args.files.now c.«open».new.self c.close-closed.new.self c.close-closed.result (c.«open».ensures.kept.0, c.«open».ensures.kept.1) close.closed close.unclosed close.failed close.unfailed;
    }
