-- The memory that the handles of a desk and of a port own: the memory of a box with the desk or the port.
use base.Fml.{Fml}
use base.Stored.{Coded}
use denote.RawPtr.{Ptr}
use Rattle.std.specs.Box.Ownership.{box_owns}
use Rattle.std.specs.Global.{Global}
use Rattle.std.specs.contracts.impls.GlobalAllocator.TheImpl.{ghosts}
use Rattle.balsaeuchre_c.specs.declared.ports.library_desk.LibraryDesk.{LibraryDesk}
use Rattle.balsaeuchre_c.specs.declared.ports.library_port.LibraryPort.{LibraryPort}
use Rattle.balsaeuchre_c.specs.contracts.ports.library_desk.LibraryDesk as desk
use Rattle.balsaeuchre_c.specs.contracts.ports.library_port.LibraryPort as port

-- the memory of a handle whose pointer points to this desk
abbrev pub desk_owns : Global → Ptr → LibraryDesk → Fml
desk_owns alloc = box_owns (ghosts.dealloc_token alloc) desk.the_row

-- the representation of a desk in memory
abbrev pub desk_coded : Coded LibraryDesk
desk_coded = desk.the_row.coded

-- the memory of a handle whose pointer points to this port
abbrev pub port_owns : Global → Ptr → LibraryPort → Fml
port_owns alloc = box_owns (ghosts.dealloc_token alloc) port.the_row

-- the representation of a port in memory
abbrev pub port_coded : Coded LibraryPort
port_coded = port.the_row.coded
