use Rattle.qqueue.proofs.Common.{◌≡◌, ◌+◌, ◌<◌, true, false, sym, ◌∙◌, subst, arith, slab_len, first_in, Joined}
use Rattle.qqueue.proofs.Common.{first_at}
use Rattle.std.specs.Prelude.{Some}
use Rattle.qqueue.proofs.LaneLaws.{pulse_others, message_others}
use Rattle.qqueue.proofs.PutLaws.{Awaits, awaits, next_there, prior_there, IsPut, put_places, put_rises, put_rings}
use Rattle.qqueue.proofs.level_rings.LevelRings.put.Goals as goal

-- ---- a pulse

pulse_awaits : (c : goal.After-join-arg-then-is_pulse-1)
    → Awaits (first_at c.args.self.now.messages c.args.self.now.pulses) c.args.self.now.nodes c.args.item true
    c.args.next
pulse_awaits c =
    let l = c.args.self.now in
    awaits (first_at l.messages l.pulses) l.nodes c.args.item true c.args.next
    (sym c.is_pulse.ensures ∙ c.if-is_pulse.true) c.requires.kept.rises c.requires.kept.rings c.requires.next

pub join-requires-clause-next_there : goal.join-requires-clause-next_there
join-requires-clause-next_there c first begins =
    let l = c.args.self.now in
    next_there (first_at l.messages l.pulses) l.nodes c.args.item true c.args.next
    (pulse_awaits c) c.add-key.new.nodes c.add-key.result c.add-key.ensures.free c.add-key.ensures.items first
    (subst (λ level. first_in l.pulses level ≡ Some first) c.get-level.ensures.value begins)

pub join-requires-clause-prior_there : goal.join-requires-clause-prior_there
join-requires-clause-prior_there c first prior begins before =
    let l = c.args.self.now in
    prior_there (first_at l.messages l.pulses) l.nodes c.args.item true c.args.next
    (pulse_awaits c) c.add-key.new.nodes c.add-key.result c.add-key.ensures.free c.add-key.ensures.items
    c.add-key.ensures.before first prior
    (subst (λ level. first_in l.pulses level ≡ Some first) c.get-level.ensures.value begins) before

pulse_put : (c : goal.After-join)
    → IsPut (first_at c.args.self.now.messages c.args.self.now.pulses)
    (first_at c.args.self.now.messages c.join.new.lane) c.args.self.now.nodes c.add-key.new.nodes c.join.new.nodes
    c.args.item c.add-key.result true c.args.next
pulse_put c =
    let l = c.args.self.now in
    let key = c.add-key.result in
    let joined =
    subst (λ level. Joined (first_at l.messages l.pulses true)
    (first_at l.messages c.join.new.lane true) c.add-key.new.nodes c.join.new.nodes level key c.args.next)
    c.get-level.ensures.value c.join.ensures.joined in
    record {
      awaits =
          awaits (first_at l.messages l.pulses) l.nodes c.args.item true c.args.next
          (sym c.is_pulse.ensures ∙ c.if-is_pulse.true) c.requires.kept.rises c.requires.kept.rings c.requires.next;
      apart = c.requires.apart;
      free = c.add-key.ensures.free;
      there = c.add-key.ensures.item;
      alone = c.add-key.ensures.alone;
      items = c.add-key.ensures.items;
      after = c.add-key.ensures.after;
      before = c.add-key.ensures.before;
      joined = joined;
      others = pulse_others l.messages l.pulses c.join.new.lane c.args.item.priority joined.others;
    }

pub returns-then-is_pulse-clause-kept : goal.returns-then-is_pulse-clause-kept
returns-then-is_pulse-clause-kept c =
    let l = c.args.self.now in
    let new = first_at l.messages c.join.new.lane in
    let done = pulse_put c in
    let made =
    c.requires.kept.made (let room : 0 < l.room + slab_len l.nodes = omega (arith, c.requires.room) in room) in
    record {
      rises =
          put_rises (first_at l.messages l.pulses) new l.nodes c.add-key.new.nodes c.join.new.nodes c.args.item
          c.add-key.result true c.args.next done;
      rings =
          put_rings (first_at l.messages l.pulses) new l.nodes c.add-key.new.nodes c.join.new.nodes c.args.item
          c.add-key.result true c.args.next done;
      short = (c.requires.kept.short.0, omega (arith, c.requires.kept.short.1, c.join.ensures.firsts));
      within =
          omega (
            arith,
            c.requires.kept.within,
            c.requires.room,
            c.add-key.ensures.len,
            c.add-key.ensures.capacity,
            c.join.ensures.len,
            c.join.ensures.capacity,
          );
      made = λ _. (made.0, c.join.ensures.firsts ∙ made.1);
    }

pub returns-then-is_pulse-clause-places : goal.returns-then-is_pulse-clause-places
returns-then-is_pulse-clause-places c =
    let l = c.args.self.now in
    put_places (first_at l.messages l.pulses) (first_at l.messages c.join.new.lane) l.nodes c.add-key.new.nodes
    c.join.new.nodes c.args.item c.add-key.result true c.args.next (pulse_put c)

-- ---- a message

message_awaits : (c : goal.After-join-arg-else-is_pulse-2-1)
    → Awaits (first_at c.args.self.now.messages c.args.self.now.pulses) c.args.self.now.nodes c.args.item false
    c.args.next
message_awaits c =
    let l = c.args.self.now in
    awaits (first_at l.messages l.pulses) l.nodes c.args.item false c.args.next
    (sym c.is_pulse.ensures ∙ c.if-is_pulse.false) c.requires.kept.rises c.requires.kept.rings c.requires.next

pub join-requires-else-is_pulse-clause-next_there : goal.join-requires-else-is_pulse-clause-next_there
join-requires-else-is_pulse-clause-next_there c first begins =
    let l = c.args.self.now in
    next_there (first_at l.messages l.pulses) l.nodes c.args.item false c.args.next
    (message_awaits c) c.add-key.new.nodes c.add-key.result c.add-key.ensures.free c.add-key.ensures.items first
    (subst (λ level. first_in l.messages level ≡ Some first) c.get-level.ensures.value begins)

pub join-requires-else-is_pulse-clause-prior_there : goal.join-requires-else-is_pulse-clause-prior_there
join-requires-else-is_pulse-clause-prior_there c first prior begins before =
    let l = c.args.self.now in
    prior_there (first_at l.messages l.pulses) l.nodes c.args.item false c.args.next
    (message_awaits c) c.add-key.new.nodes c.add-key.result c.add-key.ensures.free c.add-key.ensures.items
    c.add-key.ensures.before first prior
    (subst (λ level. first_in l.messages level ≡ Some first) c.get-level.ensures.value begins) before

message_put : (c : goal.After-join-else-is_pulse)
    → IsPut (first_at c.args.self.now.messages c.args.self.now.pulses)
    (first_at c.join-else-is_pulse.new.lane c.args.self.now.pulses) c.args.self.now.nodes c.add-key.new.nodes
    c.join-else-is_pulse.new.nodes c.args.item c.add-key.result false c.args.next
message_put c =
    let l = c.args.self.now in
    let key = c.add-key.result in
    let joined =
    subst (λ level. Joined (first_at l.messages l.pulses false)
    (first_at c.join-else-is_pulse.new.lane l.pulses false) c.add-key.new.nodes c.join-else-is_pulse.new.nodes level
    key c.args.next) c.get-level.ensures.value c.join-else-is_pulse.ensures.joined in
    record {
      awaits =
          awaits (first_at l.messages l.pulses) l.nodes c.args.item false c.args.next
          (sym c.is_pulse.ensures ∙ c.if-is_pulse.false) c.requires.kept.rises c.requires.kept.rings c.requires.next;
      apart = c.requires.apart;
      free = c.add-key.ensures.free;
      there = c.add-key.ensures.item;
      alone = c.add-key.ensures.alone;
      items = c.add-key.ensures.items;
      after = c.add-key.ensures.after;
      before = c.add-key.ensures.before;
      joined = joined;
      others = message_others l.messages l.pulses c.join-else-is_pulse.new.lane c.args.item.priority joined.others;
    }

pub returns-else-is_pulse-clause-kept : goal.returns-else-is_pulse-clause-kept
returns-else-is_pulse-clause-kept c =
    let l = c.args.self.now in
    let new = first_at c.join-else-is_pulse.new.lane l.pulses in
    let done = message_put c in
    let made =
    c.requires.kept.made (let room : 0 < l.room + slab_len l.nodes = omega (arith, c.requires.room) in room) in
    record {
      rises =
          put_rises (first_at l.messages l.pulses) new l.nodes c.add-key.new.nodes c.join-else-is_pulse.new.nodes
          c.args.item c.add-key.result false c.args.next done;
      rings =
          put_rings (first_at l.messages l.pulses) new l.nodes c.add-key.new.nodes c.join-else-is_pulse.new.nodes
          c.args.item c.add-key.result false c.args.next done;
      short = (omega (arith, c.requires.kept.short.0, c.join-else-is_pulse.ensures.firsts), c.requires.kept.short.1);
      within =
          omega (
            arith,
            c.requires.kept.within,
            c.requires.room,
            c.add-key.ensures.len,
            c.add-key.ensures.capacity,
            c.join-else-is_pulse.ensures.len,
            c.join-else-is_pulse.ensures.capacity,
          );
      made = λ _. (c.join-else-is_pulse.ensures.firsts ∙ made.0, made.1);
    }

pub returns-else-is_pulse-clause-places : goal.returns-else-is_pulse-clause-places
returns-else-is_pulse-clause-places c =
    let l = c.args.self.now in
    put_places (first_at l.messages l.pulses) (first_at c.join-else-is_pulse.new.lane l.pulses) l.nodes
    c.add-key.new.nodes c.join-else-is_pulse.new.nodes c.args.item c.add-key.result false c.args.next (message_put c)
