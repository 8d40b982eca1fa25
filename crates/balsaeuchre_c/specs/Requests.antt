-- The call that a request encodes.
use Rattle.std.specs.Prelude.{◌≡◌, ℕ, Bool, false, true, is_some, List, Option, None, Some, option_map}
use Rattle.std.specs.Prelude.{option_and_then, ◌⊎◌, if◌then◌else◌}
use Rattle.std.specs.List.{list_any}
use Rattle.qbase.specs.Priority.{priority_of}
use Rattle.qbase.specs.declared.errno.Errno.{Errno}
use Rattle.qbase.specs.declared.errno.Errno.TheVariants.{Inval, NoMemory}
use Rattle.qmodel.specs.declared.call.Call.{Call}
use Rattle.qmodel.specs.declared.kind.CallKind.{CallKind}
use Rattle.qmodel.specs.declared.kind.CallKind.TheVariants.{Reply, Write}
use Rattle.qmodel.specs.declared.kind.TheConstants.{KINDS}
use Rattle.qmodel.specs.declared.operands.OperandKind.{OperandKind}
use Rattle.qmodel.specs.declared.operands.OperandKind.TheVariants as sort
use Rattle.qmodel.specs.declared.operands.Operands.{Operands}
use Rattle.qmodel.specs.Kinds.{call_with, sorts_of}
use Rattle.balsaeuchre_c.specs.declared.request.CallRequest.{CallRequest}
use Rattle.balsaeuchre_c.specs.Numbers.{numbered}

-- true if an operand is a priority
abbrev pub is_priority : OperandKind → Bool
is_priority sort.Priority = true
is_priority other = false

-- the priority of a call of this kind: 1 if the kind has no priority; none if it has one and the request's is
-- 0
abbrev pub priority_as : CallKind → CallRequest → Option ℕ
priority_as kind r = if list_any is_priority (sorts_of kind) then priority_of r.priority else Some 1

-- the operands in a request, with this priority
abbrev pub operands_at : CallRequest → ℕ → Operands
operands_at r p = record {
  id = r.id;
  thread = r.target;
  process = 0;
  priority = p;
  flags = r.flags;
  offset = r.offset;
  status = r.status;
  code = r.code;
  pulse_code = r.pulse_code;
  value = r.value;
}

-- the operands of a call of this kind; none if it has a priority and the request's is 0
abbrev pub operands_as : CallKind → CallRequest → Option Operands
operands_as kind r = option_map (operands_at r) (priority_as kind r)

-- the call of this kind, with these bytes and this buffer; none if it has a priority and the request's is 0
abbrev pub call_as : CallKind → CallRequest → List ℕ → List ℕ → Option Call
call_as kind r sent room = option_map (λ o. call_with kind o sent room) (operands_as kind r)

-- true if a call of this kind borrows its bytes, since it never blocks
abbrev pub borrows : CallKind → Bool
borrows Reply = true
borrows Write = true
borrows other = false

-- the call that a request encodes; none if no kind has its number, or if the kind has a priority and the
-- request's is 0
abbrev pub call_of : CallRequest → List ℕ → List ℕ → Option Call
call_of r sent room = option_and_then (λ kind. call_as kind r sent room) (numbered KINDS r.kind)

-- the error if there is no call: the request encodes none, or it encodes one and there is no memory
abbrev pub IsRefusedAs : Option Call → Errno → Type 0
IsRefusedAs meant errno = ((meant ≡ None) × (errno ≡ Inval)) ⊎ ((is_some meant ≡ true) × (errno ≡ NoMemory))
