-- The value that a `&mut` to the session of a `Handle` writes back.
use Rattle.std.specs.Borrow.{Lends, MutBor, Fml}
use Rattle.balsaeuchre_c.specs.declared.session.Session.{Session}
use Rattle.balsaeuchre_c.specs.contracts.session.Session as session
use Rattle.balsaeuchre_c.specs.declared.handle.Handle.{Handle}
use Rattle.balsaeuchre_c.specs.contracts.handle.Handle as handle

-- the handle with another session
abbrev pub with_session : Handle → Session → Handle
with_session h s = record { ptr = h.ptr; alloc = h.alloc; session = s }

-- once the borrow r ends, the handle that h borrows has the last session that was written through r
abbrev pub LendsSession : MutBor Handle → MutBor Session → Fml
LendsSession h r = Lends handle.the_row session.the_row h r (with_session h.now)
