-- The words of a result, and the parts that they are made of.
use Rattle.std.specs.Prelude.{ℕ, List, [], ◌∷◌, ◌++◌, codes, decimal}
use Rattle.std.specs.Fmt.{signed_decimal}
use Rattle.qbase.specs.Errno.{word_of}
use Rattle.qbase.specs.declared.state.ThreadState.{ThreadState}
use Rattle.qbase.specs.declared.state.ThreadState.TheVariants.{Ready, SendBlocked, ReceiveBlocked}
use Rattle.qbase.specs.declared.state.ThreadState.TheVariants.{ReplyBlocked}
use Rattle.qqueue.specs.declared.item.What.{What}
use Rattle.qqueue.specs.declared.item.What.TheVariants.{Message, User, Unblock, Disconnect}
use Rattle.qmodel.specs.declared.call.Mark.{Mark}
use Rattle.qmodel.specs.declared.call.Mark.TheVariants as marks
use Rattle.qscript_text.specs.declared.result_parts.ResultPart.{ResultPart}
use Rattle.qscript_text.specs.declared.result_parts.ResultPart.TheVariants as parts

-- the word for a part of a result
abbrev pub part_word : ResultPart → List ℕ
part_word (parts.Word word) = word.now
part_word (parts.Signed z) = signed_decimal z
part_word (parts.Number n) = decimal n
part_word (parts.Id n) = decimal n
part_word (parts.Thread n) = decimal n
part_word (parts.Process n) = decimal n
part_word (parts.Copied n) = decimal n
part_word (parts.Counted n) = decimal n

-- the word of the state, and its channel
abbrev pub state_words : ThreadState → List (List ℕ)
state_words Ready = codes "ready" ∷ []
state_words (SendBlocked chid) = codes "send" ∷ decimal chid ∷ []
state_words (ReceiveBlocked chid) = codes "receive" ∷ decimal chid ∷ []
state_words (ReplyBlocked chid) = codes "reply" ∷ decimal chid ∷ []

-- the content of a pulse: a code and a value, the message whose sender is to be unblocked, or the process
-- that detached
abbrev pub brought_words : What → List (List ℕ)
brought_words Message = []
brought_words (User code value) = codes "user" ∷ signed_decimal code ∷ signed_decimal value ∷ []
brought_words (Unblock message) = codes "unblock" ∷ decimal message ∷ []
brought_words (Disconnect process) = codes "disconnect" ∷ decimal process ∷ []

-- the words of a result. For Info they are the sender's process and thread, the connection, the three lengths
-- and the priority; for a pulse the number of the call that made it, its priority and its content; for State
-- the thread's state and priority.
unfoldable pub mark_words : Mark → List (List ℕ)
mark_words marks.Ok = codes "ok" ∷ []
mark_words (marks.Failed errno) = codes "fail" ∷ word_of errno ∷ []
mark_words (marks.Channel chid) = codes "channel" ∷ decimal chid ∷ []
mark_words (marks.Connection coid) = codes "connection" ∷ decimal coid ∷ []
mark_words (marks.Replied status copied) = codes "reply" ∷ signed_decimal status ∷ decimal copied ∷ []
mark_words (marks.Message rcvid copied) = codes "message" ∷ decimal rcvid ∷ decimal copied ∷ []
mark_words (marks.Errored code) = codes "error" ∷ signed_decimal code ∷ []
mark_words (marks.Count copied) = codes "count" ∷ decimal copied ∷ []
mark_words (marks.Info info) = codes "info" ∷ decimal info.process ∷ decimal info.thread
    ∷ decimal info.connection ∷ decimal info.msglen ∷ decimal info.srcmsglen ∷ decimal info.dstmsglen
    ∷ decimal info.priority ∷ []
mark_words (marks.Pulse item priority what) =
    codes "pulse" ∷ decimal item ∷ decimal priority ∷ brought_words what
mark_words (marks.State state priority) = codes "state" ∷ state_words state ++ decimal priority ∷ []
