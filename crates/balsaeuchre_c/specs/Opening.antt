-- How a kernel is made from the threads that C passes.
use Rattle.std.specs.Prelude.{◌≡◌, is_some, List, [], ◌∷◌, Option, None, Some, Result, Ok, Err, if◌then◌else◌}
use Rattle.std.specs.Prelude.{◌⊎◌}
use Rattle.qbase.specs.Priority.{priority_of}
use Rattle.qbase.specs.declared.errno.Errno.{Errno}
use Rattle.qbase.specs.declared.errno.Errno.TheVariants.{Inval, NoMemory}
use Rattle.qtables.specs.Members.{join_refusal, with_member}
use Rattle.qtables.specs.declared.member.Member.{Member}
use Rattle.qkernel.specs.Matching.{MatchesAt}
use Rattle.balsaeuchre_c.specs.declared.roster.RosterThread.{RosterThread}
use Rattle.balsaeuchre_c.specs.declared.session.Session.{Session}

-- a thread as a member of a roster
abbrev pub member_of : RosterThread → Member
member_of t = record { thread = t.thread; process = t.process; priority = t.priority }

-- the error of adding a thread to these members. The first that applies: its priority is 0; its number is
-- taken; there are 64 threads
abbrev pub thread_refusal : List Member → RosterThread → Option Errno
thread_refusal members t = if is_some (priority_of t.priority) then join_refusal members t.thread
    else Some Inval

-- the error if there is one, otherwise the other result
abbrev pub unless : Option Errno → Result (List Member) Errno → Result (List Member) Errno
unless None members = members
unless (Some errno) members = Err errno

-- the members followed by these threads, or the error of the first thread that can't be added
abbrev pub roster_from : List Member → List RosterThread → Result (List Member) Errno
roster_from members [] = Ok members
roster_from members (t ∷ threads) =
    unless (thread_refusal members t) (roster_from (with_member (member_of t) members) threads)

-- a kernel of these threads that has made no call
pub record IsNewOf (threads : List RosterThread) (session : Session) : Type 0 where
  pub roster : List Member
  pub roster_is : roster_from [] threads ≡ Ok roster
  pub matches : MatchesAt roster session.kernel []

-- the error of making a kernel: the threads make no roster, or there is no memory
abbrev pub NewError : List RosterThread → Errno → Type 0
NewError threads errno = (roster_from [] threads ≡ Err errno) ⊎ (errno ≡ NoMemory)
