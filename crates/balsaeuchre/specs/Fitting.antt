-- The results that each kind of call may complete with, and the values that are read from them.
use Rattle.std.specs.Prelude.{◌∷◌, ◌≡◌, ◌≢◌, ⊤, Err}
use Rattle.qrules.specs.Words.{false, option_map, true, Bool, Call, Info, List, Mark, Some, ℕ}
use Rattle.qrules.specs.Words.calls
use Rattle.qrules.specs.Words.mark
use Rattle.qrules.specs.Trace.{call_at, Bytes}
use Rattle.qrules_laws.specs.Completions.{OfEachCompletion}
use Rattle.balsaeuchre_calls.specs.Results.{reply_in, bytes_in, channel_in, connection_in, count_in, done_in}
use Rattle.balsaeuchre_calls.specs.Results.{info_in}
use Rattle.balsaeuchre_calls.specs.Results.{pulse_in, received_in, state_in, Reading}
use Rattle.balsaeuchre_calls.specs.declared.error.CallError.TheVariants.{Unexpected}
use Rattle.balsaeuchre_calls.specs.declared.results.Reply.{Reply}
use Rattle.balsaeuchre_calls.specs.declared.results.Pulse.{Pulse}
use Rattle.balsaeuchre_calls.specs.declared.results.Received.{Received}
use Rattle.balsaeuchre_calls.specs.declared.results.ThreadStatus.{ThreadStatus}

-- the call may complete with this result: a failure, or a result of its kind
abbrev pub fits : Call → Mark → Bool
fits call (mark.Failed errno) = true
fits (calls.ChannelCreate flags) (mark.Channel chid) = true
fits (calls.ConnectAttach chid) (mark.Connection coid) = true
fits (calls.Send coid message reply_buffer) (mark.Replied status copied) = true
fits (calls.Send coid message reply_buffer) (mark.Errored code) = true
fits (calls.Receive chid buffer) (mark.Message rcvid copied) = true
fits (calls.Receive chid buffer) (mark.Pulse item priority what) = true
fits (calls.ReceivePulse chid) (mark.Pulse item priority what) = true
fits (calls.Read rcvid offset buffer) (mark.Count copied) = true
fits (calls.Write rcvid offset bytes) (mark.Count copied) = true
fits (calls.Info rcvid) (mark.Info info) = true
fits (calls.State thread) (mark.State state priority) = true
fits (calls.ChannelDestroy chid) mark.Ok = true
fits (calls.ConnectDetach coid) mark.Ok = true
fits (calls.Reply rcvid status bytes) mark.Ok = true
fits (calls.Error rcvid code) mark.Ok = true
fits (calls.Pulse coid priority code value) mark.Ok = true
fits (calls.PrioritySet thread priority) mark.Ok = true
fits (calls.Unblock thread) mark.Ok = true
fits calls.Shutdown mark.Ok = true
fits call other = false

-- each completion of each event has a result that fits the call that it completes: the event's own call, or
-- an earlier one
abbrev pub CompletionsFit : Type 0
CompletionsFit = OfEachCompletion (λ roster past e x.
    option_map (λ call. fits call x.mark) (call_at (e ∷ past) x.call) ≡ Some true)

-- the type of the value that a call returns under its QNX name, and how the value is read from the completion
abbrev pub reading_of : Call → (A : Type 0) × Reading A
reading_of (calls.ChannelCreate flags) = (ℕ, channel_in)
reading_of (calls.ConnectAttach chid) = (ℕ, connection_in)
reading_of (calls.Send coid message reply_buffer) = (Reply, reply_in)
reading_of (calls.Receive chid buffer) = (Received, received_in)
reading_of (calls.ReceivePulse chid) = (Pulse, pulse_in)
reading_of (calls.Read rcvid offset buffer) = (List ℕ, bytes_in)
reading_of (calls.Write rcvid offset bytes) = (ℕ, count_in)
reading_of (calls.Info rcvid) = (Info, info_in)
reading_of (calls.State thread) = (ThreadStatus, state_in)
reading_of other = (⊤, done_in)

-- the value of a call with this completion is never read as `Unexpected`, whether the call waited or not
abbrev pub IsExpected : Call → Mark → Bytes → Type 0
IsExpected call m buffer = (waited : Bool) → (reading_of call).1 waited m buffer ≢ Err Unexpected

-- a result that fits a call is never read as `Unexpected`
abbrev pub FittingIsExpected : Type 0
FittingIsExpected = (call : Call) (m : Mark) (buffer : Bytes) → fits call m ≡ true → IsExpected call m buffer

-- so no completion of any event is read as `Unexpected`
abbrev pub NeverUnexpected : Type 0
NeverUnexpected = OfEachCompletion (λ roster past e x. (call : Call) → call_at (e ∷ past) x.call ≡ Some call
    → IsExpected call x.mark x.buffer)
