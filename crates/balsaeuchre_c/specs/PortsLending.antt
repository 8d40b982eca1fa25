-- The values that a `&mut` to the desk of a `DeskHandle`, or to the port of a `PortHandle`, writes back.
use Rattle.std.specs.Borrow.{Lends, MutBor, Fml}
use Rattle.balsaeuchre_c.specs.declared.ports.library_desk.LibraryDesk.{LibraryDesk}
use Rattle.balsaeuchre_c.specs.declared.ports.library_port.LibraryPort.{LibraryPort}
use Rattle.balsaeuchre_c.specs.contracts.ports.library_desk.LibraryDesk as desk
use Rattle.balsaeuchre_c.specs.contracts.ports.library_port.LibraryPort as port
use Rattle.balsaeuchre_c.specs.declared.ports.desk_handle.DeskHandle.{DeskHandle}
use Rattle.balsaeuchre_c.specs.contracts.ports.desk_handle.DeskHandle as desk_handle
use Rattle.balsaeuchre_c.specs.declared.ports.port_handle.PortHandle.{PortHandle}
use Rattle.balsaeuchre_c.specs.contracts.ports.port_handle.PortHandle as port_handle

-- the handle with another desk
abbrev pub with_desk : DeskHandle → LibraryDesk → DeskHandle
with_desk h d = record { ptr = h.ptr; alloc = h.alloc; desk = d }

-- once the borrow r ends, the handle that h borrows has the last desk that was written through r
abbrev pub LendsDesk : MutBor DeskHandle → MutBor LibraryDesk → Fml
LendsDesk h r = Lends desk_handle.the_row desk.the_row h r (with_desk h.now)

-- the handle with another port
abbrev pub with_port : PortHandle → LibraryPort → PortHandle
with_port h p = record { ptr = h.ptr; alloc = h.alloc; port = p }

-- once the borrow r ends, the handle that h borrows has the last port that was written through r
abbrev pub LendsPort : MutBor PortHandle → MutBor LibraryPort → Fml
LendsPort h r = Lends port_handle.the_row port.the_row h r (with_port h.now)
