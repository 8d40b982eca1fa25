-- A roster as the list of its members, in rising thread number.
use Rattle.std.specs.Prelude.{ℕ, ◌==◌, ◌<◌, nat_lt, List, [], ◌∷◌, length, Option, None, Some, is_some}
use Rattle.std.specs.Prelude.{if◌then◌else◌}
use Rattle.std.specs.List.{AllByRecursion}
use Rattle.qbase.specs.declared.errno.Errno.{Errno}
use Rattle.qbase.specs.declared.errno.Errno.TheVariants.{Inval, Again}
use Rattle.qtables.specs.declared.member.Member.{Member}

-- the member of this thread; None if the thread isn't in the roster
abbrev pub member_at : List Member → ℕ → Option Member
member_at [] thread = None
member_at (m ∷ members) thread = if m.thread == thread then Some m else member_at members thread

-- the members with one more, at its place by number
abbrev pub with_member : Member → List Member → List Member
with_member m [] = m ∷ []
with_member m (x ∷ members) = if nat_lt m.thread x.thread then m ∷ x ∷ members else x ∷ with_member m members

-- each thread occurs once, and the numbers rise
abbrev pub IsRoster : List Member → Type 0
IsRoster [] = Unit {0}
IsRoster (m ∷ members) = AllByRecursion (λ x. m.thread < x.thread) members × IsRoster members

-- the error of adding a thread: Inval if it is in the roster already, and otherwise Again if there are 64
-- threads
abbrev pub join_refusal : List Member → ℕ → Option Errno
join_refusal members thread =
    if is_some (member_at members thread) then Some Inval
    else (if nat_lt (length members) 64 then None else Some Again)
