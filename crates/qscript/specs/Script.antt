-- The run of a script, from a reader to a writer.
use Rattle.std.specs.Prelude.{◌≡◌, ℕ, ◌≤◌, ◌^◌, Bool, List, [], length, map, Option}
use Rattle.std.specs.Io.KnownBytes.{Appends}
use Rattle.qtables.specs.Members.{IsRoster}
use Rattle.qtables.specs.declared.member.Member.{Member}
use Rattle.qmodel.specs.declared.call.Call.{Call}
use Rattle.qmodel.specs.declared.open_call.Blocked.{Blocked}
use Rattle.qkernel.specs.Blocked.{blocked_threads}
use Rattle.qmodel.specs.Trace.{Run}
use Rattle.qkernel.specs.Run.{AllKnown}
use Rattle.qrules.specs.Properties.{HasProperties}
use Rattle.qrules.specs.Lawful.{event_call, facts_of, HadMemory, IsLawful}
use Rattle.qrules.specs.Trace.{followed_by}
use Rattle.qscript_text.specs.declared.fault.LineFault.{LineFault}
use Rattle.qscript.specs.Enrolled.{roster_with, AllJoin}
use Rattle.qscript_text.specs.Reading.Meaning.{meaning, Says, Faulty}
use Rattle.qscript.specs.Printing.Printed.{printed}
use Rattle.qscript.specs.Transfer.{IsReading, StopsWithin}

-- the threads may join one roster, each call is made by one of them, and a kernel can number the calls
pub record CanRun (roster : List Member) (calls : List (ℕ × Call)) : Type 0 where
  pub members : AllJoin [] roster
  pub callers : AllKnown (roster_with [] roster) calls
  pub few : length calls ≤ 2 ^ 40

-- a run of exactly these calls, valid from its first call on, and the threads that are blocked after it. The
-- roster's threads are in rising order, which the laws about valid histories require
pub record IsRunOf (roster : List Member) (calls : List (ℕ × Call)) (run : Run)
    (blocked : List Blocked) : Type 0 where
  pub rising : IsRoster (roster_with [] roster)
  pub first : run.first ≡ 1
  pub made : map event_call run.events ≡ calls
  pub lawful : IsLawful (roster_with [] roster) (followed_by [] run.events)
  pub properties : HasProperties (roster_with [] roster) (followed_by [] run.events)
  pub left : blocked ≡ blocked_threads (facts_of (roster_with [] roster) (followed_by [] run.events))

-- the text of such a run; if no call is refused for lack of memory, all such runs have this text
pub record IsTextOfRun (roster : List Member) (calls : List (ℕ × Call)) (text : List ℕ) : Type 0 where
  pub run : Run
  pub blocked : List Blocked
  pub ran : IsRunOf roster calls run blocked
  pub printed_so : text ≡ printed run blocked
  pub only : HadMemory run.events → (other : Run) (left : List Blocked) → IsRunOf roster calls other left
      → HadMemory other.events → printed other left ≡ text

-- the text of a run of the script with this input
pub record Runs (input : List ℕ) (text : List ℕ) : Type 0 where
  pub roster : List Member
  pub calls : List (ℕ × Call)
  pub meant : meaning input ≡ Says roster calls
  pub ran : IsTextOfRun roster calls text

-- all of the input was read, and all of the run's text was written
pub record IsRun (reader reader_after writer writer_after : Option (List ℕ)) : Type 0 where
  pub input : List ℕ
  pub text : List ℕ
  pub read : IsReading reader reader_after input
  pub runs : Runs input text
  pub written : Appends writer writer_after text

-- all of the input was read, and this is the fault of the script
pub record IsFaulty (reader reader_after : Option (List ℕ)) (n : ℕ) (f : LineFault) : Type 0 where
  pub input : List ℕ
  pub read : IsReading reader reader_after input
  pub meant : meaning input ≡ Faulty n f

-- all of the input was read, and bytes from the front of the run's text were written before the writer failed
pub record IsCut (reader reader_after writer writer_after : Option (List ℕ)) (faulted : Bool) : Type 0 where
  pub input : List ℕ
  pub text : List ℕ
  pub read : IsReading reader reader_after input
  pub runs : Runs input text
  pub written : StopsWithin writer writer_after faulted text
