use Rattle.qqueue.proofs.Common.{◌≡◌, ℕ, ◌+◌, ◌<◌, true, false, cond, sym, ◌∙◌, subst, arith, slab_len, Item, is_pulse}
use Rattle.qqueue.proofs.Common.{without_item, first_at, IsKept, put_place, places_of, items_at, pulses_of}
use Rattle.qqueue.specs.declared.level_rings.LevelRings.{LevelRings}
use Rattle.qqueue.proofs.LaneLaws.{pulse_others, message_others}
use Rattle.qqueue.proofs.TakenLaws.{IsRemoved, neighbours_there, IsClosed, taken_rises, taken_places, taken_items}
use Rattle.qqueue.proofs.TakenLaws.{taken_pulses, taken_rings}
use Rattle.qqueue.proofs.level_rings.LevelRings.take_out.Goals as goal
use Rattle.qqueue.proofs.level_rings.LevelRings.take_out.Goals.{then-is_pulse, else-is_pulse}

removed_pulse : (c : goal.After-close_up-arg-then-is_pulse-1)
    → IsRemoved (first_at c.args.self.now.messages c.args.self.now.pulses) c.args.self.now.nodes c.remove-node.new.self
    c.args.key c.remove-node.result true
removed_pulse c = record {
  kind = sym c.is_pulse.ensures ∙ c.if-is_pulse.true;
  up = c.requires.kept.rises;
  rings = c.requires.kept.rings;
  there = c.remove-node.ensures.value;
  gone = c.remove-node.ensures.updates;
}

pub close_up-requires-clause-before_there : goal.close_up-requires-clause-before_there
close_up-requires-clause-before_there c among =
    (neighbours_there (first_at c.args.self.now.messages c.args.self.now.pulses) c.args.self.now.nodes
    c.remove-node.new.self c.args.key c.remove-node.result true (removed_pulse c) among).0

pub close_up-requires-clause-after_there : goal.close_up-requires-clause-after_there
close_up-requires-clause-after_there c among =
    (neighbours_there (first_at c.args.self.now.messages c.args.self.now.pulses) c.args.self.now.nodes
    c.remove-node.new.self c.args.key c.remove-node.result true (removed_pulse c) among).1

removed_message : (c : goal.After-close_up-arg-else-is_pulse-2-1)
    → IsRemoved (first_at c.args.self.now.messages c.args.self.now.pulses) c.args.self.now.nodes c.remove-node.new.self
    c.args.key c.remove-node.result false
removed_message c = record {
  kind = sym c.is_pulse.ensures ∙ c.if-is_pulse.false;
  up = c.requires.kept.rises;
  rings = c.requires.kept.rings;
  there = c.remove-node.ensures.value;
  gone = c.remove-node.ensures.updates;
}

pub close_up-requires-else-is_pulse-clause-before_there : goal.close_up-requires-else-is_pulse-clause-before_there
close_up-requires-else-is_pulse-clause-before_there c among =
    (neighbours_there (first_at c.args.self.now.messages c.args.self.now.pulses) c.args.self.now.nodes
    c.remove-node.new.self c.args.key c.remove-node.result false (removed_message c) among).0

pub close_up-requires-else-is_pulse-clause-after_there : goal.close_up-requires-else-is_pulse-clause-after_there
close_up-requires-else-is_pulse-clause-after_there c among =
    (neighbours_there (first_at c.args.self.now.messages c.args.self.now.pulses) c.args.self.now.nodes
    c.remove-node.new.self c.args.key c.remove-node.result false (removed_message c) among).1

-- the lists after the removal keep the invariant, and have all items except this one
record Left (old : LevelRings) (key : ℕ) (item : Item) (new : LevelRings) : Type 0 where
  kept : IsKept new
  places : places_of old.nodes ≡ put_place (item, key) (places_of new.nodes)
  rest : items_at (places_of new.nodes) ≡ without_item item.number (items_at (places_of old.nodes))
  counts : pulses_of (items_at (places_of old.nodes)) ≡ pulses_of (items_at (places_of new.nodes)) + cond
      (is_pulse item.what) 1 0

left : (c : goal.After-result-1) → Left c.args.self.now c.args.key c.remove-node.result.item c.if-is_pulse.self
left c =
    let l = c.args.self.now in
    let key = c.args.key in
    let node = c.remove-node.result in
    let removed = c.remove-node.new.self in
    let first = first_at l.messages l.pulses in
    let made =
    c.requires.kept.made (let some : 0 < l.room + slab_len l.nodes = omega (arith, c.remove-node.ensures.len) in
    some) in
    elim c.if-is_pulse.branch [
      | then-is_pulse w ↦
          let lane = w.close_up.new.lane in
          let t = w.close_up.new.nodes in
          let h : IsRemoved first l.nodes removed key node true = record {
            kind = sym c.is_pulse.ensures ∙ w.if-is_pulse.true;
            up = c.requires.kept.rises;
            rings = c.requires.kept.rings;
            there = c.remove-node.ensures.value;
            gone = c.remove-node.ensures.updates;
          } in
          let closed = w.close_up.ensures.closed in
          let done : IsClosed first (first_at l.messages lane) l.nodes removed t key node true h = record {
            closed = closed;
            others = pulse_others l.messages l.pulses lane node.item.priority closed.others;
          } in
          subst (Left l key node.item) (sym w.self-is) (record {
            kept = record {
              rises = taken_rises first (first_at l.messages lane) l.nodes removed t key node true h done;
              rings = taken_rings first (first_at l.messages lane) l.nodes removed t key node true h done;
              short = (c.requires.kept.short.0, omega (arith, c.requires.kept.short.1, w.close_up.ensures.firsts));
              within = omega (arith, c.room_of-self.ensures, w.close_up.ensures.len, w.close_up.ensures.capacity);
              made = λ _. (made.0, w.close_up.ensures.firsts ∙ made.1);
            };
            places = taken_places first (first_at l.messages lane) l.nodes removed t key node true h done;
            rest = taken_items first (first_at l.messages lane) l.nodes removed t key node true h done;
            counts = taken_pulses first (first_at l.messages lane) l.nodes removed t key node true h done;
          })
      | else-is_pulse w ↦
          let lane = w.close_up-else-is_pulse.new.lane in
          let t = w.close_up-else-is_pulse.new.nodes in
          let h : IsRemoved first l.nodes removed key node false = record {
            kind = sym c.is_pulse.ensures ∙ w.if-is_pulse.false;
            up = c.requires.kept.rises;
            rings = c.requires.kept.rings;
            there = c.remove-node.ensures.value;
            gone = c.remove-node.ensures.updates;
          } in
          let closed = w.close_up-else-is_pulse.ensures.closed in
          let done : IsClosed first (first_at lane l.pulses) l.nodes removed t key node false h = record {
            closed = closed;
            others = message_others l.messages l.pulses lane node.item.priority closed.others;
          } in
          subst (Left l key node.item) (sym w.self-is) (record {
            kept = record {
              rises = taken_rises first (first_at lane l.pulses) l.nodes removed t key node false h done;
              rings = taken_rings first (first_at lane l.pulses) l.nodes removed t key node false h done;
              short = (
                omega (
                  arith,
                  c.requires.kept.short.0,
                  w.close_up-else-is_pulse.ensures.firsts,
                ),
                c.requires.kept.short.1,
              );
              within =
                  omega (
                    arith,
                    c.room_of-self.ensures,
                    w.close_up-else-is_pulse.ensures.len,
                    w.close_up-else-is_pulse.ensures.capacity,
                  );
              made = λ _. (w.close_up-else-is_pulse.ensures.firsts ∙ made.0, made.1);
            };
            places = taken_places first (first_at lane l.pulses) l.nodes removed t key node false h done;
            rest = taken_items first (first_at lane l.pulses) l.nodes removed t key node false h done;
            counts = taken_pulses first (first_at lane l.pulses) l.nodes removed t key node false h done;
          })
    ]

pub returns-clause-rest : goal.returns-clause-rest
returns-clause-rest c = (left c).rest

pub returns-clause-places : goal.returns-clause-places
returns-clause-places c = (left c).places

pub returns-clause-kept : goal.returns-clause-kept
returns-clause-kept c = (left c).kept

pub returns-clause-counts : goal.returns-clause-counts
returns-clause-counts c = (left c).counts
