-- The effect of a call from C.
use Rattle.std.specs.Prelude.{◌≡◌, ℕ, ◌<◌, true, is_some, List, [], ◌∷◌, length, take, drop, slice_get, Some}
use Rattle.std.specs.Prelude.{◌⊎◌}
use Rattle.std.specs.Option.{option_map_or}
use Rattle.qbase.specs.declared.errno.Errno.{Errno}
use Rattle.qbase.specs.declared.errno.Errno.TheVariants.{Inval}
use Rattle.qkernel.specs.Kernel.{IsSound, State}
use Rattle.qkernel.specs.Matching.{AnswersAtTraces, DispatchError, MatchesAt}
use Rattle.qrules.specs.Lawful.{IsLawful, facts_of}
use Rattle.qrules.specs.Rule.{buffer_of}
use Rattle.qrules.specs.Facts.{sender}
use Rattle.qrules.specs.Rules.Held.{info_of}
use Rattle.qrules.specs.Trace.{call_at, Trace}
use Rattle.qmodel.specs.declared.call.Call.{Call}
use Rattle.qmodel.specs.declared.call.Completion.{Completion}
use Rattle.qmodel.specs.declared.call.Mark.TheVariants as mark
use Rattle.qkernel_state.specs.Contents.{members_of}
use Rattle.qtables.specs.Members.{member_at}
use Rattle.qtables.specs.declared.member.Member.{Member}
use Rattle.balsaeuchre_c.specs.declared.request.CallRequest.{CallRequest}
use Rattle.balsaeuchre_c.specs.declared.row.Row.{Row}
use Rattle.balsaeuchre_c.specs.declared.session.Session.{Session}
use Rattle.balsaeuchre_c.specs.declared.write_rows.EventCounts.{EventCounts}
use Rattle.balsaeuchre_c.specs.Requests.{call_of, IsRefusedAs}
use Rattle.balsaeuchre_c.specs.Rows.{info_in}
use Rattle.balsaeuchre_c.specs.WriteRows.{IsTold}

-- P holds of each completion of an event and its row: for every valid history that the kernel may have made,
-- extended by the event
abbrev pub OfEachRow : (List Member → Trace → Completion → Row → Type 0)
    → State → ℕ → Call → List Completion → List Row → Type 0
OfEachRow P old t call completions rows =
    (roster : List Member) (past : Trace) → IsLawful roster past → MatchesAt roster old past
    → (place : ℕ) (e : Completion) (row : Row)
    → slice_get completions place ≡ Some e → slice_get rows place ≡ Some row
    → P roster (record { thread = t; call = call; completions = completions } ∷ past) e row

-- if the completion is the receipt of a message, the row has the data that an `Info` of the message would
-- return
abbrev pub Informs : List Member → Trace → Completion → Row → Type 0
Informs roster past e row = (rcvid copied : ℕ) → e.mark ≡ mark.Message rcvid copied
    → info_of (facts_of roster past) (sender (facts_of roster past) rcvid) ≡ Some (info_in row)

-- the buffer that call i passed in
abbrev pub brought_at : Trace → ℕ → List ℕ
brought_at past i = option_map_or (λ c. buffer_of c) (call_at past i) []

-- the completion's buffer is as long as the buffer that its call passed in. Its first `written` bytes are in
-- the byte array, starting at `start`. After its first `length` bytes it is as its call passed it in
pub record Restores (bytes : List ℕ) (past : Trace) (e : Completion) (row : Row) : Type 0 where
  pub size : length e.buffer ≡ length (brought_at past row.call)
  pub front : take row.written e.buffer ≡ take row.written (drop row.start bytes)
  pub rest : drop row.length e.buffer ≡ drop row.length (brought_at past row.call)

-- the kernel made exactly the call that the request encodes, by a thread of its roster. The completions
-- follow the rules after every valid history that the kernel may have made
pub record IsMade (old : Session) (r : CallRequest) (sent room : List ℕ) (new : Session) : Type 0 where
  pub call : Call
  pub meant : call_of r sent room ≡ Some call
  pub known : is_some (member_at (members_of old.kernel.threads) r.thread) ≡ true
  pub sound : IsSound old.kernel
  pub answers : AnswersAtTraces old.kernel r.thread call new.completions.items new.kernel

-- the kernel made exactly the call that the request encodes. The completions follow the rules after every
-- valid history that the kernel may have made, and they are written to the rows. The row of a received
-- message has the data that `Info` would return. The bytes of the buffers that may have changed since their
-- calls passed them in are written too
pub record IsEvent (old : Session) (r : CallRequest) (sent room : List ℕ) (new : Session)
    (old_rows rows : List Row) (old_bytes bytes : List ℕ) (done : EventCounts) : Type 0 where
  pub call : Call
  pub meant : call_of r sent room ≡ Some call
  pub answers : AnswersAtTraces old.kernel r.thread call new.completions.items new.kernel
  pub told : IsTold new.kernel new.completions.items old_rows rows old_bytes bytes done
  pub informs : OfEachRow Informs old.kernel r.thread call new.completions.items rows
  pub restores : OfEachRow (λ roster. Restores bytes) old.kernel r.thread call new.completions.items rows

-- the error of a call that isn't an event. It has one of four reasons: fewer than 64 rows, a request that
-- encodes no call, no memory, or the kernel's own refusal
abbrev pub CallError : Session → CallRequest → List ℕ → List ℕ → ℕ → Errno → Type 0
CallError session r sent room row_count errno =
    ((row_count < 64) × (errno ≡ Inval))
    ⊎ (IsRefusedAs (call_of r sent room) errno ⊎ DispatchError session.kernel r.thread errno)
