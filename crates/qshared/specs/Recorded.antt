-- A history that is kept, and its limit.
use Rattle.std.specs.Prelude.{◌≡◌, ℕ, ◌+◌, ◌<◌, ◌⊎◌, Bool, length}
use Rattle.qbase.specs.declared.errno.Errno.{Errno}
use Rattle.qbase.specs.declared.errno.Errno.TheVariants.{TraceFull, NoMemory}
use Rattle.qmodel.specs.declared.call.Call.{Call}
use Rattle.qmodel.specs.declared.call.Call.TheVariants.{Shutdown}
use Rattle.qrules.specs.Trace.{Trace}

-- a kept history as contracts see it: the history, the call that was noted last, and whether this call isn't
-- an event yet
pub record KeptPast : Type 0 where
  pub past : Trace
  pub noted : Call
  pub ready : Bool

-- the errors with which a call isn't noted: one event of the limit is left, or there was no memory. A
-- Shutdown is never refused.
abbrev pub refuses_recorded : ℕ → Trace → Call → Errno → Type 0
refuses_recorded limit past c TraceFull = (length past + 1 ≡ limit) × ¬ (c ≡ Shutdown)
refuses_recorded limit past c NoMemory = (length past + 1 < limit) × ¬ (c ≡ Shutdown)
refuses_recorded limit past c e = ⊥

-- the condition under which a call is noted: two events of the limit are left, or it is a Shutdown
abbrev pub admits_recorded : ℕ → Trace → Call → Type 0
admits_recorded limit past c = (length past + 1 < limit) ⊎ (c ≡ Shutdown)
