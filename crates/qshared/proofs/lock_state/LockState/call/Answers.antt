use Rattle.qshared.proofs.Common.{ap, sym, ◌∙◌, place, threads_of}
use Rattle.qshared.proofs.lock_state.LockState.call.Goals as goal

pub call-made-requires : goal.call-made-requires
call-made-requires g c =
    let named = c.args.self.now.named.0 in
    let port = c.requires.port in
    record {
      cells = (
        c.requires.cells.0 ∙ sym named.1,
        c.requires.cells.1.0 ∙ sym named.0,
        c.requires.cells.1.1 ∙ sym named.2,
      );
      port = record {
        cells = port.cells ∙ sym named.1;
        at = ap (λ r. place (threads_of r) c.args.port.now.thread) named.0 ∙ port.at;
        asked = rw (c.args.self.now.named.1) port.asked;
        seen = port.seen ∙ sym named.2;
      };
      copies = c.requires.copies;
    }
