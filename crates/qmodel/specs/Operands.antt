-- The numbers among the operands of a call.
use Rattle.std.specs.Prelude.{ℕ, pos}
use Rattle.qmodel.specs.declared.operands.OperandKind.{OperandKind}
use Rattle.qmodel.specs.declared.operands.OperandKind.TheVariants as sort
use Rattle.qmodel.specs.declared.operands.Operands.{Operands}

-- the numbers of a call that has none: 0, and the lowest priority
abbrev pub no_operands : Operands
no_operands = record {
  id = 0;
  thread = 0;
  process = 0;
  priority = 1;
  flags = 0;
  offset = 0;
  status = pos 0;
  code = pos 0;
  pulse_code = pos 0;
  value = pos 0;
}

-- the numbers of a call that has only an id
abbrev pub of_id : ℕ → Operands
of_id n = record no_operands { id = n }

-- the numbers of a call that has only a thread
abbrev pub of_thread : ℕ → Operands
of_thread n = record no_operands { thread = n }

-- the number of an operand of this sort: the flags, the thread, or the id for any other sort
abbrev pub number_at : Operands → OperandKind → ℕ
number_at o sort.Flags = o.flags
number_at o sort.Thread = o.thread
number_at o other = o.id
