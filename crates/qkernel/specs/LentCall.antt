-- Calls with borrowed bytes, as calls that own their bytes.
use Rattle.qmodel.specs.declared.call.Call.{Call}
use Rattle.qmodel.specs.declared.call.Call.TheVariants as call
use Rattle.qkernel.specs.declared.lent_call.LentCall.{LentCall}
use Rattle.qkernel.specs.declared.lent_call.LentCall.TheVariants.{Reply, Write}

-- the call that owns these bytes
abbrev pub call_lent : LentCall → Call
call_lent (Reply rcvid status bytes) = call.Reply rcvid status bytes.now
call_lent (Write rcvid offset bytes) = call.Write rcvid offset bytes.now
