use Rattle.balsaeuchre_c.proofs.Common.{Fills, Informs, IsRoster, IsTold, OfEachRow, Restores, Row, Some, Tells, ap}
use Rattle.balsaeuchre_c.proofs.Common.{arith, drop, drop-append_seam, is_some, laid_count, length, member_at}
use Rattle.balsaeuchre_c.proofs.Common.{same_Some, slice_get_within, start_of, subst, sym, take, take-append-le}
use Rattle.balsaeuchre_c.proofs.Common.{told_bytes, true, with_event, ℕ, ◌∙◌, ◌≡◌}
use Rattle.balsaeuchre_c.proofs.Holding.{received_told}
use Rattle.balsaeuchre_c.proofs.Restoring.{all_at, restored}
use Rattle.balsaeuchre_c.proofs.Tellings.{told_in_room}
use Rattle.qkernel.proofs.Traces.{properties_of, matches_roster}
use Rattle.balsaeuchre_c.proofs.calling.make_call.Goals as goal

pub returns-clause-event : goal.returns-clause-event
returns-clause-event c =
    let made = c.in_ok-make.ensures.made in
    let s = c.make.new.self in
    let X = s.completions.items in
    let ob = c.args.bytes.now in
    let t = c.args.request.now.thread in
    let told : IsTold s.kernel X c.args.rows.now c.tell.new.rows ob c.tell.new.bytes c.tell.result =
    rw (← c.as_slice.ensures.value) c.tell.ensures in
    -- the rows have the data that `Info` would return for the messages that the event received, and restore
    -- all buffers
    let written : OfEachRow (λ roster past e row. Informs roster past e row × Restores c.tell.new.bytes past e row)
    c.args.session.now.kernel t made.call X c.tell.new.rows = λ roster past lawful matches place e row so at.
    let a = made.answers roster past lawful matches in
    let same = matches_roster roster c.args.session.now.kernel past matches in
    let rises : IsRoster roster = subst IsRoster same made.sound.roster in
    let member : is_some (member_at roster t) ≡ true = subst (λ r. is_some (member_at r t) ≡ true) same made.known in
    let count : ℕ = laid_count ob (start_of X ob place) (told_bytes e) in
    let r = told.told place (slice_get_within X place e so) e so in
    let tells =
    subst (λ (x : Row). Tells x s.kernel e (start_of X ob place) count) (same_Some r.0 row (sym r.1 ∙ at)) r.2 in
    let w =
    restored roster past t made.call X place e
    (properties_of roster (with_event t made.call X past) (lawful, (member, a.0)) rises) a.0 so in (
      λ rcvid copied m.
          let held =
          all_at _ X place e (received_told roster past t made.call X rises lawful member a.0) so rcvid copied m in
          let k = tells.message rcvid copied m in
          held.is ∙ ap Some (ap (λ (n : ℕ). record held.info { msglen = n }) (held.count ∙ sym k.count)
          ∙ subst (Fills row) (k.said roster (with_event t made.call X past) a.1 ∙ held.is) k.filled),
      record {
        size = rw (tells.of.call) w.size;
        front =
            rw (tells.of.written, tells.of.start)
            (ap (take count) w.parts ∙ take-append-le count (told_bytes e) _ (omega arith)
            ∙ sym (told_in_room X ob place e so c.tell.new.bytes told.bytes));
        rest =
            rw (tells.of.length, tells.of.call)
            (ap (drop (length (told_bytes e))) w.parts ∙ drop-append_seam (told_bytes e) _);
      },
    ) in
    record {
      call = made.call;
      meant = made.meant;
      answers = made.answers;
      told = told;
      informs = λ roster past l s i e row so at. (written roster past l s i e row so at).0;
      restores = λ roster past l s i e row so at. (written roster past l s i e row so at).1;
    }
