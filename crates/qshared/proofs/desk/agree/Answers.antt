use Rattle.qshared.proofs.Common.{[], ap, set, sym, ◌∙◌, get_or-map, set-get_or}
use Rattle.qshared.proofs.desk.agree.Goals as goal

pub agree-requires : goal.agree-requires
agree-requires c =
    let h = c.index_mut.result.now in
    sym c.requires.name ∙ get_or-map (λ x. x.name) c.args.heard.now.items c.args.cell h 0 c.requires.cell
    ∙ ap (λ x. x.name) (sym c.index_mut.ensures.value)

pub returns-clause-heard : goal.returns-clause-heard
returns-clause-heard c =
    let h = c.index_mut.result.now in
    ap (set c.args.heard.now.items c.args.cell) (c.agree.ensures.heard ∙ c.index_mut.ensures.value)
    ∙ set-get_or c.args.heard.now.items c.args.cell h

pub returns-clause-agreed : goal.returns-clause-agreed
returns-clause-agreed c =
    let h = c.index_mut.result.now in
    c.agree.ensures.agreed ∙ ap (λ x. x.calls) c.index_mut.ensures.value
    ∙ sym (get_or-map (λ x. x.calls) c.args.heard.now.items c.args.cell h [] c.requires.cell)
