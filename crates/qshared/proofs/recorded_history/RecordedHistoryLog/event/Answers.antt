use Rattle.qshared.proofs.Common.{◌≡◌, ◌≤◌, length, arith, false, refl, sym, ap, subst, Some, AreApart, threads_of}
use Rattle.qshared.proofs.Common.{place, IsKept}
use Rattle.qshared.proofs.Places.{seated}
use Rattle.qshared.proofs.KeptLog.{finds, all_may_copy, apart, kept_after, next_log, past_is}
use Rattle.qshared.proofs.recorded_history.RecordedHistoryLog.event.Goals as goal

pub copy_all-requires-clause-apart : goal.copy_all-requires-clause-apart
copy_all-requires-clause-apart g c =
    let f =
    finds _ _ _ _ _ _ _ _ c.args.seat.now.thread c.args.completions.now.items _ c.self.invariant.1 c.self.view_is
    c.requires.ready c.requires.up c.requires.lawful c.requires.thread c.requires.answers in
    subst AreApart (sym c.as_slice.ensures.value) (apart _ _ _ _ _ _ _ _ _ f)

pub copy_all-requires-clause-may : goal.copy_all-requires-clause-may
copy_all-requires-clause-may g c =
    let f =
    finds _ _ _ _ _ _ _ _ c.args.seat.now.thread c.args.completions.now.items _ c.self.invariant.1 c.self.view_is
    c.requires.ready c.requires.up c.requires.lawful c.requires.thread c.requires.answers in
    let found : place (threads_of g.K.Tie.names.roster) c.args.seat.now.thread ≡ Some c.index-place.result =
    rw c.requires.roster at
    (seated _ c.args.seat.now.thread c.index-place.result c.args.seat.now c.requires.seat refl c.index-place.ensures) in
    rw (c.requires.roster, c.as_slice.ensures.value, c.replace.ensures.value)
    (all_may_copy _ _ _ _ _ _ _ _ _ f c.index-place.result found)

pub invariant_of-self : goal.invariant_of-self
invariant_of-self g c =
    let f =
    finds _ _ _ _ _ _ _ _ c.args.seat.now.thread c.args.completions.now.items _ c.self.invariant.1 c.self.view_is
    c.requires.ready c.requires.up c.requires.lawful c.requires.thread c.requires.answers in
    let found : place (threads_of g.K.Tie.names.roster) c.args.seat.now.thread ≡ Some c.index-place.result =
    rw c.requires.roster at
    (seated _ c.args.seat.now.thread c.index-place.result c.args.seat.now c.requires.seat refl c.index-place.ensures) in
    let copied =
    rw (c.requires.roster, c.as_slice.ensures.value, c.replace.ensures.value) at c.copy_all.ensures.copied in
    let few : length c.args.completions.now.items ≤ 64 =
    omega (arith, c.as_slice.ensures.fits, ap length c.as_slice.ensures.value) in
    let next = next_log _ _ _ _ _ _ _ f.kept.settled (rw (c.as_slice.ensures.value) at c.copy_all.ensures.logged)
    (rw (c.replace-call.ensures.value) at (rw c.thread.ensures at c.note.ensures)) c.event.ensures in (
      c.self.invariant.0,
      subst (λ l. IsKept g.K.Tie.names.roster c.self.inside.limit
          (threads_of g.K.Tie.names.roster) c.copy_all.new.rooms.items l c.replace-call.new.dest c.replace.new.dest
          false) (sym next)
          (kept_after _ _ _ _ _ _ _ _ _ f c.index-place.result found few c.copy_all.new.rooms.items copied
          c.replace-call.new.dest c.replace.new.dest),
    )

pub returns-clause-event : goal.returns-clause-event
returns-clause-event g c =
    let f =
    finds _ _ _ _ _ _ _ _ c.args.seat.now.thread c.args.completions.now.items _ c.self.invariant.1 c.self.view_is
    c.requires.ready c.requires.up c.requires.lawful c.requires.thread c.requires.answers in
    let next = next_log _ _ _ _ _ _ _ f.kept.settled (rw (c.as_slice.ensures.value) at c.copy_all.ensures.logged)
    (rw (c.replace-call.ensures.value) at (rw c.thread.ensures at c.note.ensures)) c.event.ensures in
    rw (← c.self.view_is, next) (past_is _ _ _ _ _ _ _ _ _ f)
