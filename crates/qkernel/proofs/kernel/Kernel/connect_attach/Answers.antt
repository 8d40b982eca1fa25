use Rattle.qkernel.proofs.Common.{◌≡◌, refl, sym, true, length, arith, lt-ltb, is_some, nat_lt, channel_in}
use Rattle.qkernel.proofs.Steps.Common.{sound_counted_alone, up_to_below}
use Rattle.qkernel.proofs.Steps.ConnectAttach.{step_attach_refused, step_attached, sound_attached}
use Rattle.qkernel.proofs.Callers.{caller_of}
use Rattle.qkernel.proofs.kernel.Kernel.connect_attach.Goals as goal

pub create-requires : goal.create-requires
create-requires c =
    let may = rw (← c.self.view_is) at c.requires in
    rw (c.number.ensures)
    (up_to_below (λ e. e.0) c.args.caller.now.made c.self.inside.objects.connections may.sound.connection_ids)

pub invariant_of-self : goal.invariant_of-self
invariant_of-self c =
    let may = rw (← c.self.view_is) at c.requires in
    rw (may.counted, c.in-Err.ensures.err) (sound_counted_alone _ may.sound)

pub returns-in-Err : goal.returns-in-Err
returns-in-Err c =
    let may = rw (← c.self.view_is) at c.requires in
    let opens : is_some (channel_in c.self.inside.objects.channels c.args.chid) ≡ true =
    sym c.if-not-is_open.ensures in (
      c.requires.none,
      rw (← c.self.view_is, may.counted, c.in-Err.ensures.err)
          (step_attach_refused _ c.args.caller.now.seat.thread c.args.chid c.in-Err.errno _ may.up may.free opens
          c.in-Err.ensures.error refl),
    )

pub invariant_of-self-2 : goal.invariant_of-self-2
invariant_of-self-2 c =
    let may = rw (← c.self.view_is) at c.requires in
    rw (may.counted, c.in_default.ensures.ok, c.number.ensures)
    (sound_attached _ c.args.caller.now.seat.thread c.args.chid (caller_of c.args.caller.now may.among.began) may.sound)

pub returns : goal.returns
returns c =
    let may = rw (← c.self.view_is) at c.requires in
    let opens : is_some (channel_in c.self.inside.objects.channels c.args.chid) ≡ true = sym c.if-not-is_open.ensures in
    let room : nat_lt (length c.self.inside.objects.connections) 1024 ≡ true =
    lt-ltb (length c.self.inside.objects.connections) 1024 (omega (arith, c.in_default.ensures.room)) in
    rw (← c.self.view_is, may.counted, c.in_default.ensures.ok, c.number.ensures)
    (step_attached _ c.args.caller.now.seat.thread c.args.chid _ may.sound _ may.among.known may.up may.free opens room
    (rw (c.completion.ensures, c.number.ensures, may.none) at c.put.ensures))
