-- The caller, and the changes of the kernel by the own method of its call.
use Rattle.std.specs.Prelude.{◌≡◌, ℕ, ◌+◌, false, List, [], ◌∷◌, None, Some, Result, Ok, Err}
use Rattle.qbase.specs.declared.errno.Errno.{Errno}
use Rattle.qtables.specs.Members.{member_at}
use Rattle.qmodel.specs.declared.call.Call.{Call}
use Rattle.qmodel.specs.declared.call.Completion.{Completion}
use Rattle.qmodel.specs.declared.call.Mark.TheVariants as mark
use Rattle.qkernel_state.specs.Thread.{open_in}
use Rattle.qkernel_state.specs.Threads.{IsSeatIn}
use Rattle.qkernel_state.specs.Contents.{members_of}
use Rattle.qkernel_state.specs.declared.thread.Thread.{Thread}
use Rattle.qkernel.specs.Kernel.{State, IsSound}
use Rattle.qkernel.specs.Private.Steps.{Steps}
use Rattle.qkernel.specs.declared.kernel.call_context.CallContext.{CallContext}

-- the kernel's content before the call of this caller was counted
abbrev pub state_before : CallContext → State → State
state_before caller s = record {
  made = caller.made;
  down = s.down;
  threads = s.threads;
  channels = s.channels;
  connections = s.connections;
}

-- the caller's thread is in the roster, at this index and with this process
pub record IsCallerIn (threads : List Thread) (caller : CallContext) : Type 0 where
  pub seat : IsSeatIn threads caller.seat
  pub began : ℕ
  pub known : member_at (members_of threads) caller.seat.thread
      ≡ Some (record { thread = caller.seat.thread; process = caller.process; priority = began })

-- the call of this caller may be made. It is counted, and nothing else is done yet: there are no completions.
-- The kernel isn't shut down, and the caller isn't blocked.
pub record MayCall (s : State) (caller : CallContext) (completions : List Completion) : Type 0 where
  pub counted : s.made ≡ caller.made + 1
  pub sound : IsSound (state_before caller s)
  pub among : IsCallerIn s.threads caller
  pub up : s.down ≡ false
  pub free : open_in s.threads caller.seat.thread ≡ None
  pub none : completions ≡ []

-- the call of this caller is made, beginning with the kernel's content before it was counted
abbrev pub Makes : State → CallContext → Call → List Completion → State → Type 0
Makes old caller c completions new = Steps (state_before caller old) caller.seat.thread c completions new

-- the completion of this caller's call if it fails and returns no buffer
abbrev pub refusal_of_caller : CallContext → Errno → Completion
refusal_of_caller caller e =
    record { call = caller.made + 1; thread = caller.seat.thread; mark = mark.Failed e; buffer = [] }

-- for Ok, the call is made with these completions; for Err, it fails with this error, and its completion
-- isn't in the list yet
abbrev pub MakesOrRefuses : {T : Type 0} → State → CallContext → Call → Result T Errno → List Completion
    → State
    → Type 0
MakesOrRefuses old caller c (Ok done) completions new = Makes old caller c completions new
MakesOrRefuses old caller c (Err e) completions new =
    (completions ≡ []) × Makes old caller c (refusal_of_caller caller e ∷ []) new
