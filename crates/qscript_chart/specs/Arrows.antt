-- The arrows of a chart.
use Rattle.std.specs.Prelude.{ℕ, ◌-◌, ◌==◌, List, Option, Some, None, slice_get, if◌then◌else◌}
use Rattle.std.specs.Option.{option_map}
use Rattle.qmodel.specs.declared.call.Completion.{Completion}
use Rattle.qmodel.specs.declared.call.Mark.{Mark}
use Rattle.qmodel.specs.declared.call.Mark.TheVariants as mark
use Rattle.qscript_chart.specs.declared.arrow.Arrow.{Arrow}
use Rattle.qscript_chart.specs.declared.arrow.ArrowKind.{ArrowKind}
use Rattle.qscript_chart.specs.declared.arrow.ArrowKind.TheVariants as arrows

-- the thread that made the call with this number, if these threads made the calls, starting with call 1
abbrev pub caller_of : List ℕ → ℕ → Option ℕ
caller_of callers number = if number == 0 then None else slice_get callers (number - 1)

-- an arrow from a thread, if it is known, to the thread `to`
abbrev pub sent_by : Option ℕ → ℕ → ℕ → ArrowKind → Option Arrow
sent_by from number to what =
    option_map (λ t. record { number = number; from = t; to = to; what = what }) from

-- the arrow of the completion of the call with this number and thread, in an event whose call `caller` made.
-- A received message or pulse comes from the thread that sent it, and a reply from the caller
unfoldable pub arrow_by : List ℕ → ℕ → ℕ → ℕ → Mark → Option Arrow
arrow_by callers caller call thread (mark.Message rcvid copied) =
    sent_by (caller_of callers rcvid) rcvid thread arrows.Message
arrow_by callers caller call thread (mark.Pulse item priority what) =
    sent_by (caller_of callers item) item thread arrows.Pulse
arrow_by callers caller call thread (mark.Replied status copied) =
    sent_by (Some caller) call thread (arrows.Reply status)
arrow_by callers caller call thread (mark.Errored code) =
    sent_by (Some caller) call thread (arrows.Error code)
arrow_by callers caller call thread mark.Ok = None
arrow_by callers caller call thread (mark.Failed errno) = None
arrow_by callers caller call thread (mark.Channel chid) = None
arrow_by callers caller call thread (mark.Connection coid) = None
arrow_by callers caller call thread (mark.Count copied) = None
arrow_by callers caller call thread (mark.Info info) = None
arrow_by callers caller call thread (mark.State state priority) = None

-- the arrow of a completion
abbrev pub arrow_of : List ℕ → ℕ → Completion → Option Arrow
arrow_of callers caller e = arrow_by callers caller e.call e.thread e.mark
