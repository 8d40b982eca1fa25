use Rattle.qkernel.proofs.Common.{◌≡◌, refl, sym, ap, true, length, arith, nat_lt, lt-ltb}
use Rattle.qkernel.proofs.Steps.Common.{sound_counted_alone, ids_below}
use Rattle.qkernel.proofs.Steps.ChannelCreate.{step_created, sound_created, step_create_refused}
use Rattle.qkernel.proofs.Callers.{caller_of}
use Rattle.qkernel.proofs.kernel.Kernel.channel_create.Goals as goal

pub create-requires : goal.create-requires
create-requires c =
    let may = rw (← c.self.view_is) at c.requires in
    rw (c.number.ensures) (ids_below c.args.caller.now.made c.self.inside.objects.channels may.sound.channel_ids)

pub invariant_of-self : goal.invariant_of-self
invariant_of-self c =
    let may = rw (← c.self.view_is) at c.requires in
    rw (may.counted, c.in-Err.ensures.err) (sound_counted_alone _ may.sound)

pub returns-in-Err : goal.returns-in-Err
returns-in-Err c =
    let may = rw (← c.self.view_is) at c.requires in
    let flags = sym c.if-not-is_known.ensures in (
      c.requires.none,
      rw (← c.self.view_is, may.counted, c.in-Err.ensures.err)
          (step_create_refused _ c.args.caller.now.seat.thread c.args.flags c.in-Err.errno _ may.up may.free flags
          c.in-Err.ensures.error refl),
    )

pub invariant_of-self-2 : goal.invariant_of-self-2
invariant_of-self-2 c =
    let may = rw (← c.self.view_is) at c.requires in
    rw (may.counted, c.in_default.ensures.ok, c.number.ensures)
    (sound_created _ c.args.caller.now.seat.thread c.args.flags
    (caller_of c.args.caller.now may.among.began) c.new.result may.sound (ap (λ q. q.items) c.new.ensures))

pub returns : goal.returns
returns c =
    let may = rw (← c.self.view_is) at c.requires in
    let flags = sym c.if-not-is_known.ensures in
    let room : nat_lt (length c.self.inside.objects.channels) 64 ≡ true =
    lt-ltb (length c.self.inside.objects.channels) 64 (omega (arith, c.in_default.ensures.room)) in
    rw (← c.self.view_is, may.counted, c.in_default.ensures.ok, c.number.ensures)
    (step_created _ c.args.caller.now.seat.thread c.args.flags _ c.new.result may.sound
    (ap (λ q. q.items) c.new.ensures) _ may.among.known may.up may.free flags room
    (rw (c.completion.ensures, c.number.ensures, may.none) at c.put.ensures))
