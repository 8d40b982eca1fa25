use Rattle.qshared.proofs.Common.{◌≡◌, sym, ◌∙◌, Some, threads_of, members_of, place}
use Rattle.qshared.proofs.Copying.{one_copied}
use Rattle.qshared.proofs.recorded_history.copy_one.Goals as goal

pub returns-clause-copied : goal.returns-clause-copied
returns-clause-copied c =
    let at : place (threads_of (members_of c.args.kernel.now.threads)) c.args.completion.now.thread
    ≡ Some c.in-Some.place = sym c.place_of.ensures ∙ c.in-Some.is in
    one_copied (threads_of (members_of c.args.kernel.now.threads)) c.args.completion.now c.in-Some.place
    c.args.rooms.now.items c.replace-room.new.dest at
