use Rattle.qqueue.proofs.Common.{ap, sym, subst, arith, count_by, is_some, places_from, Rises}
use Rattle.qqueue.proofs.LaneLaws.{rings_same}
use Rattle.qqueue.proofs.level_rings.LevelRings.reserve.Goals as goal

pub returns-clause-kept : goal.returns-clause-kept
returns-clause-kept c =
    let l = c.args.self.now in
    let same = ap (λ s. s.slots) c.reserve.ensures.rest_kept in
    record {
      rises = subst (λ slots. Rises (places_from 0 slots)) (sym same) c.requires.rises;
      rings =
          rings_same l.messages l.pulses c.make.new.self c.make-2.new.self l.nodes c.reserve.new.self
          c.make.ensures.kept c.make-2.ensures.kept same c.requires.rings;
      short = (omega (arith, c.in_ok-make.ensures.made), omega (arith, c.in_ok-make-2.ensures.made));
      within = omega (arith, c.room_of-self.ensures);
      made = λ _. (c.in_ok-make.ensures.made, c.in_ok-make-2.ensures.made);
    }

pub returns-in_err-reserve-clause-kept : goal.returns-in_err-reserve-clause-kept
returns-in_err-reserve-clause-kept c =
    let l = c.args.self.now in
    let same = ap (λ s. s.slots) c.reserve.ensures.rest_kept in
    record {
      rises = subst (λ slots. Rises (places_from 0 slots)) (sym same) c.requires.rises;
      rings =
          rings_same l.messages l.pulses c.make.new.self c.make-2.new.self l.nodes c.reserve.new.self
          c.make.ensures.kept c.make-2.ensures.kept same c.requires.rings;
      short = (omega (arith, c.in_ok-make.ensures.made), omega (arith, c.in_ok-make-2.ensures.made));
      within = omega (arith, c.requires.within, ap (λ slots. count_by is_some slots) same, c.reserve.ensures.capacity);
      made = λ _. (c.in_ok-make.ensures.made, c.in_ok-make-2.ensures.made);
    }
