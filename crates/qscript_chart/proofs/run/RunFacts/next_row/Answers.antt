use Rattle.qscript_chart.proofs.Common.{IsRoster, ap, change_since, filter_map, level_of, map, members_of, subst, sym}
use Rattle.qscript_chart.proofs.Common.{◌∙◌, ◌≡◌}
use Rattle.qscript_chart.proofs.Changing.{told_changes}
use Rattle.qscript_chart.proofs.run.RunFacts.next_row.Goals as goal

pub returns-clause-changes : goal.returns-clause-changes
returns-clause-changes c roster past now matched matches =
    let old = c.args.run.now.kernel in
    let new = c.make.new.self.kernel in
    let began : IsRoster (members_of old.threads) =
    subst (λ s. IsRoster (members_of s.threads)) c.kernel.ensures c.made.ensures.sound.roster in
    let rises : IsRoster (members_of new.threads) = subst IsRoster (sym c.make.ensures.roster) began in
    let before : c.in_ok-before.before.levels.items ≡ map level_of old.threads =
    c.in_ok-before.ensures.levels ∙ ap (λ s. map level_of s.threads) c.kernel-2.ensures in
    let after : c.in_ok-after.after.levels.items ≡ map level_of new.threads =
    c.in_ok-after.ensures.levels ∙ ap (λ s. map level_of s.threads) c.kernel-3.ensures in
    c.in_ok-row.ensures.changes
    ∙ ap (λ levels. filter_map (change_since levels) c.in_ok-after.after.levels.items) before
    ∙ ap (filter_map (change_since (map level_of old.threads))) after
    ∙ told_changes old new rises roster past now matched matches
