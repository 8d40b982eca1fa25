use Rattle.qscript_chart.proofs.Common.{ap, option_map, option_map_or, rules, sym, ◌==◌, ◌∙◌}
use Rattle.std.proofs.lemmas.Iterator.{YieldsList-from_slice}
use Rattle.std.proofs.lemmas.Iterator.Search.{find_from_yields_List}
use borrow.Author.Tests.{tests}
use Rattle.qscript_chart.proofs.changes.priority_in.Goals as goal

pub returns-in-Some : goal.returns-in-Some
returns-in-Some c =
    let found = find_from_yields_List (λ l. l.thread == c.args.thread) _ _ c.find.result c.find.ensures.ran
    (YieldsList-from_slice c.args.levels.now cc) (λ x b q k. search (rules, tests)) in
    c.get.ensures.value ∙ ap (λ o. option_map_or (λ l. l.priority) o 0)
    (sym (ap (option_map (λ y. y.now)) c.in-Some.is) ∙ found)

pub returns-in-None : goal.returns-in-None
returns-in-None c =
    let found = find_from_yields_List (λ l. l.thread == c.args.thread) _ _ c.find.result c.find.ensures.ran
    (YieldsList-from_slice c.args.levels.now cc) (λ x b q k. search (rules, tests)) in
    ap (λ o. option_map_or (λ l. l.priority) o 0) (sym (ap (option_map (λ y. y.now)) c.in-None.is) ∙ found)
