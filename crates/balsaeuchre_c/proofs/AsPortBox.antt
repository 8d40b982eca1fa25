-- The handle owns the same memory as a box with the same types.
use Rattle.balsaeuchre_c.proofs.Common.{Bx, RattleType, [], bare, dnil, impl, no, refl, tcons, tnil, ◌∷◌}
use Rattle.std_heap.specs.contracts.GlobalAllocator.TheImpl.{dict, ghosts}
use denote.Param.{arg, layout}
use denote.Param.Laws.{arg_laws}
use Rattle.std_heap.specs.contracts.Global as Heap
use Rattle.std_heap.proofs.Global.TheLaws as heap
use Rattle.balsaeuchre_c.specs.contracts.ports.library_port.LibraryPort as Home
use Rattle.balsaeuchre_c.proofs.ports.library_port.LibraryPort.TheLaws as home

-- the type as a call passes it
abbrev passed : RattleType → RattleType
passed R = arg (bare (layout R)) no R

abbrev pub E : Bx
E = record {
  row = passed Home.the_row;
  laws = arg_laws (bare (layout Home.the_row)) no Home.the_row home.the_row_laws refl;
  al = record {
    row = passed Heap.the_row;
    laws = arg_laws (bare (layout Heap.the_row)) no Heap.the_row heap.the_row_laws refl;
    g = ghosts;
    d = dict;
    drops = impl ("balsaeuchre_c::Destruct++none::drop" ∷ []) (tcons (bare (layout Heap.the_row)) tnil) dnil;
  };
}
