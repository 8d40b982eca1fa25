use Rattle.qqueue.proofs.Common.{◌≡◌, ℕ, Option, None, Some, true, eqb, sym, ap, ◌∙◌, rules, option_map, option_eq}
use Rattle.qqueue.proofs.Common.{eqb-true, true≢false, before_of}
use Rattle.qqueue.proofs.level_rings.join.Goals as goal

pub link-requires-clause-first_there : goal.link-requires-clause-first_there
link-requires-clause-first_there c =
    let prior = ap (before_of c.args.nodes.now) (sym c.unwrap_or-after.ensures)
    ∙ ap (option_map (λ n. n.before)) c.index.ensures in
    (c.requires.prior_there c.in-Some.first c.index.result.now.before (sym c.in-Some.ensures) prior).0

same_key : (o : Option ℕ) (key : ℕ) → option_eq eqb o (Some key) ≡ true → o ≡ Some key
same_key None key same = absurd (true≢false (sym same))
same_key (Some x) key same = ap (λ k. Some k) (eqb-true x key same)

pub returns-then-eq-clause-joined : goal.returns-then-eq-clause-joined
returns-then-eq-clause-joined c = record {
  items = search rules;
  others = search rules;
  alone = search rules;
  among = search rules;
  in_front = search rules;
  behind =
      λ head begins differs. absurd
      (differs (same_key c.args.next c.in-Some.first (sym c.eq.ensures ∙ c.if-eq.true) ∙ c.in-Some.ensures ∙ begins));
}
