use Rattle.qqueue.proofs.Common.{◌+◌, ◌-◌, ◌<◌, ap, arith, option_map}
use Rattle.qqueue.proofs.NextLaws.{IsAt, IsLast, number_at, number_held, node_number, at_first, at_last, there_at}
use Rattle.qqueue.proofs.NextLaws.{there_last, last_none, found_greater, step}
use Rattle.qqueue.proofs.level_rings.next_from.Goals as goal

pub loop-key-init : goal.loop-key-init
loop-key-init c = at_first c.args.nodes.now c.args.item.now c.args.first c.requires.first

pub index-requires : goal.index-requires
index-requires c =
    there_at c.args.nodes.now c.args.item.now c.args.first
    (at_first c.args.nodes.now c.args.item.now c.args.first c.requires.first)

-- the node before the first node is the last
last_is : (c : goal.After-index) → IsLast c.args.nodes.now c.args.item.now c.index.result.now.before
last_is c =
    at_last c.args.nodes.now c.args.item.now c.args.first c.index.result.now.before c.requires.first c.requires.ring
    (ap (option_map (λ n. n.before)) c.index.ensures)

pub index-requires-2 : goal.index-requires-2
index-requires-2 c = there_last c.args.nodes.now c.args.item.now c.index.result.now.before (last_is c)

pub returns-then-index-item : goal.returns-then-index-item
returns-then-index-item c =
    last_none c.args.nodes.now c.args.item.now c.index.result.now.before c.index-2.result.now c.requires.rises
    (last_is c.before.before) c.index-2.ensures c.if-index-item.true

pub index-requires-in-loop-key : goal.index-requires-in-loop-key
index-requires-in-loop-key c = there_at c.args.nodes.now c.args.item.now c.loop-key.key c.loop-key.invariant

-- the walk goes to a greater number
ahead : (c : goal.After-index-in-loop-key-2) → let s = c.args.nodes.now in
    let item = c.args.item.now in
    (b : IsAt s item c.index-in-loop-key-2.result.now.after) × (c.loop-key.invariant.here.number < b.here.number)
ahead c =
    let s = c.args.nodes.now in
    let item = c.args.item.now in
    let last = c.index.result.now.before in
    let is_last =
    at_last s item c.args.first last c.requires.first c.requires.ring
    (ap (option_map (λ n. n.before)) c.index.ensures) in
    step s item c.requires.rises c.requires.ring last c.loop-key.key c.index-in-loop-key-2.result.now.after
    c.index-2.result.now c.index-in-loop-key.result.now c.loop-key.invariant is_last c.index-2.ensures
    c.if-index-item.false c.index-in-loop-key.ensures c.loop-key-test.true
    (ap (option_map (λ n. n.after)) c.index-in-loop-key-2.ensures)

pub loop-key-preserved : goal.loop-key-preserved
loop-key-preserved c = (ahead c).0

pub loop-key-smaller : goal.loop-key-smaller
loop-key-smaller c =
    let s = c.args.nodes.now in
    let item = c.args.item.now in
    let key = c.loop-key.key in
    let next = c.index-in-loop-key-2.result.now.after in
    let more = ahead c in
    let here = node_number s item key c.index-in-loop-key.result.now c.loop-key.invariant c.index-in-loop-key.ensures in
    let smaller : item.number + 1 - number_at s next < item.number + 1 - number_at s key =
    omega (
      arith,
      more.1,
      here,
      c.loop-key-test.true,
      number_held s item key c.loop-key.invariant,
      number_held s item next more.0,
    ) in
    smaller

pub returns : goal.returns
returns c =
    found_greater c.args.nodes.now c.args.item.now c.loop-key.key c.index-in-loop-key.result.now c.loop-key.invariant
    c.index-in-loop-key.ensures c.loop-key-test.false
