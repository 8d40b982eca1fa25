use Rattle.balsaeuchre_c.proofs.row.Row.write.Goals as goal

pub returns : goal.returns
returns c = record {
  of = c.set_mark.ensures.same c.args.completion.now c.args.start c.args.written c.begin.ensures;
  mark = c.set_mark.ensures.mark;
  message = c.set_mark.ensures.message;
}
