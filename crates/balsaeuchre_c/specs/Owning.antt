-- The memory that a `Handle` owns: the memory of a `Box<Session>`.
use base.Fml.{Fml}
use base.Stored.{Coded}
use denote.RawPtr.{Ptr}
use Rattle.std.specs.Box.Ownership.{box_owns}
use Rattle.std.specs.Global.{Global}
use Rattle.std.specs.contracts.impls.GlobalAllocator.TheImpl.{ghosts}
use Rattle.balsaeuchre_c.specs.declared.session.Session.{Session}
use Rattle.balsaeuchre_c.specs.contracts.session.Session.{the_row}

-- the memory of a handle whose pointer points to this session
abbrev pub handle_owns : Global → Ptr → Session → Fml
handle_owns alloc = box_owns (ghosts.dealloc_token alloc) the_row

-- the representation of a session in memory
abbrev pub session_coded : Coded Session
session_coded = the_row.coded
