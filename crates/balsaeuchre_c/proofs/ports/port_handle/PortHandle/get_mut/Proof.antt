-- `get_mut` lends the session, and the handle gets the session that was written last.
use Rattle.balsaeuchre_c.proofs.Common.{ !, B, Calls, D, Env, Fml, Fun, GName, Goes-spent_ref, Lft, List, Logic, Loops}
use Rattle.balsaeuchre_c.proofs.Common.{Memory, R, Routine, SProp, Share, Stays, Tables, Ura, Val, WpFn, WpFn-mono, []}
use Rattle.balsaeuchre_c.proofs.Common.{addr, alloc_all, at_ret, await, bare, block_ptr, blocks, box_in, box_out, by}
use Rattle.balsaeuchre_c.proofs.Common.{done, emp, ends_at, ent, enter, entered, env, exec, first, fjoin, fld, flft}
use Rattle.balsaeuchre_c.proofs.Common.{fpack, frame, free_all, fsep, fsplit, fsplit3, fst∗, ftrue, full_share, get}
use Rattle.balsaeuchre_c.proofs.Common.{group, handle, id⊢, join, keep, later, load, look_at, look_in, move, mut_ref_to}
use Rattle.balsaeuchre_c.proofs.Common.{named, no, nothing, of_opd, opens, owns, pass_all, pick, plain, qed, raw, refl}
use Rattle.balsaeuchre_c.proofs.Common.{returns, rewrite, says, sem, sep, sets, sets_last, some, split, stay_dropped}
use Rattle.balsaeuchre_c.proofs.Common.{stop, sub, suffices, sym, tables, tables_of, through, token, triple_of, use1}
use Rattle.balsaeuchre_c.proofs.Common.{via, vptr, walk_Meets, walk_of, walked, whole, word, τ, ‵, ℕ, ◌$◌, ◌∵◌, ◌∷◌}
use Rattle.balsaeuchre_c.proofs.Common.{◌≡◌, ◌⊛◌}
use Rattle.balsaeuchre_c.proofs.AsPortBox.{E}
use Rattle.balsaeuchre_c.specs.PortsLending.{with_port}
use Rattle.balsaeuchre_c.specs.contracts.ports.port_handle.PortHandle.{the_row as Hd}
use Rattle.balsaeuchre_c.specs.contracts.ports.port_handle.PortHandle.get_mut.Key.{name as #self}
use Rattle.balsaeuchre_c.specs.contracts.ports.library_port.LibraryPort.{the_row as K}
use Rattle.balsaeuchre_c.specs.declared.ports.library_port.LibraryPort.{LibraryPort}
use Rattle.std_alloc.proofs.VecSteps.Shapes.{after}
use denote.Follow.{Part, follows, lends_Part}
use denote.Memory.{cell_at, mem, part_at, part_of, raw_all}
use denote.Ref.{MutRef, mut_Tells, mut_vals}
use denote.Triple.Entry.{on_entry}
use types.Kit.{drop}
use Rattle.balsaeuchre_c.proofs.ports.library_port.LibraryPort.TheLaws as held
use Rattle.balsaeuchre_c.specs.contracts.ports.port_handle.PortHandle.get_mut as F
use Rattle.balsaeuchre_c.proofs.ports.port_handle.PortHandle.get_mut.Statement as stated
use Rattle.balsaeuchre_c.proofs.ports.port_handle.PortHandle.get_mut.Code as code

abbrev stayed : Stays (F.ended).signature.params (F.ended).kept
stayed = (stay_dropped (mut_ref_to (0 ∷ []) tt (plain (λ _. Hd))) no, tt)

as_param : (x : K.Denot) (b o : ℕ) → part_at K full_share x b o ≡ part_at (R E) full_share x b o
as_param x b o j = part_of (raw_all (held.the_row_laws.one j)) K.own_val full_share x b o

module _ {M : Type 1} {𝓤 : Ura M} (𝓛 : Logic 𝓤) (at_mem : Memory → SProp 𝓤) (run : Routine → Fun 𝓤) (κ : Lft)
    (q : Share) (rb ro : ℕ) (γ : GName) (h : Hd.Denot) where
  open 𝓛 use {H, A}

  abbrev v : LibraryPort → D E
  v k = record { ptr = h.ptr; alloc = h.alloc; value = k }

  abbrev bound : (walk_of 𝓛 F.ended stayed (F.clauses 𝓛 at_mem run)).Ghost
  bound =
      (((κ, tt), (q, tt), tt, (record { ref_ptr = (rb, ro); ghost_name = γ; now = h }, tt), (vptr rb ro ∷ [], tt)), tt)

  abbrev Post : Val → SProp 𝓤
  Post = (walk_of 𝓛 F.ended stayed (F.clauses 𝓛 at_mem run)).post bound

  module _ (b o : ℕ) (hv : Val) where
    -- the handle's memory without its session
    abbrev Rest : Fml
    Rest = fsep (fsep (token E.al h.alloc (bare (τ E)) (block_ptr b o)) (handle E h.alloc hv))
        (cell_at full_share Hd.mir (word E hv b o ∷ []) rb ro)

    back : h.ptr ≡ block_ptr b o → (w : LibraryPort)
        → ent 𝓤 (sep 𝓤 (sem 𝓛 ((mem K).own_at w b o)) (sem 𝓛 Rest)) (sem 𝓛 ((mem Hd).own_at (with_port h w) rb ro))
    unfolding part_of
    back at_b w =
        qed 𝓛 (‵ (part_at K full_share w b o) ∷ ‵ Rest ∷ []) ∵ rewrite ! 0 (λ (P : Fml). ‵ P)
        (as_param w b o) refl $ move ! (1 ∷ []) $ fsplit ! $ fsplit ! $ move ! (3 ∷ []) $
        box_in E ! (v w) b o w at_b refl $ use1 𝓛 (‵ (Hd.own_val (with_port h w) (word E hv b o ∷ [])))
        (id⊢ 𝓤 _) $ move ! (1 ∷ 0 ∷ []) $ fjoin ! $
        fpack ! (List Val) (λ us. fsep (cell_at full_share Hd.mir us rb ro) (Hd.own_val (with_port h w) us))
        (word E hv b o ∷ []) $ done !

    exits : (γ' : GName)
        → ent 𝓤
        (sep 𝓤
        (sem 𝓛 ((MutRef (named 0) κ K).own_val (record { ref_ptr = (b, o); ghost_name = γ'; now = h.port })
        (vptr b o ∷ []))) (sep 𝓤 (A.lft κ q) (sem 𝓛 (follows Hd K γ γ' (with_port h))))) (Post (vptr b o))
    exits γ' =
        qed 𝓛 (‵ ((MutRef (named 0) κ K).own_val (record { ref_ptr = (b, o); ghost_name = γ'; now = h.port })
        (vptr b o ∷ [])) ∷ ‵ (flft κ q) ∷ ‵ (follows Hd K γ γ' (with_port h)) ∷ []) ∵
        suffices ! _ (ends_at 𝓛 F.ended stayed (F.clauses 𝓛 at_mem run) bound (vptr b o)
        (record { ref_ptr = (b, o); ghost_name = γ'; now = h.port }) (tt, tt) (tt, tt)) $
        nothing ! $ nothing ! $ fjoin ! $ join ! $ nothing ! $ move !
        (2 ∷ 0 ∷ []) $ join ! $ join ! $ frame ! $ says ! refl $ done !

  walk : (C : Calls 𝓤 H) (Λ : Loops 𝓤 H)
      → ent 𝓤 (on_entry 𝓛 F.signature (κ, tt) (q, tt) (record { ref_ptr = (rb, ro); ghost_name = γ; now = h }, tt) (
        vptr rb ro ∷ [],
        tt,
      )) (WpFn 𝓤 H C Λ code.function (vptr rb ro ∷ []) Post)
  walk C Λ =
      qed 𝓛 ((‵ (flft κ q) ⊛ ‵ ftrue) ∷ ‵
      (owns (MutRef (named 0) κ Hd ∷ []) (record { ref_ptr = (rb, ro); ghost_name = γ; now = h }, tt) (
        vptr rb ro ∷ [],
        tt,
      )) ∷ []) ∵
      enter ! C Λ code.function (vptr rb ro ∷ []) _ $
      alloc_all ! (λ l. pass_all ! refl ((tt, tt), tt) $
      let En : Env 𝓤 H = env code.function.locals l in
      move ! (1 ∷ []) $ fsplit ! $ fsplit3 ! $ drop ! $ move ! (3 ∷ []) $ split ! $ move ! (2 ∷ 3 ∷ 0 ∷ []) $
      opens ! tt Hd {h = h} rb ro
      (λ vs. move ! (1 ∷ []) $ use1 𝓛 (‵ ((B E).own_val (v h.port) vs)) (id⊢ 𝓤 _) $ box_out E ! (v h.port) vs
      (λ b o hv at_b ws fa.
      move ! (1 ∷ 2 ∷ []) $ fjoin ! $ move ! (1 ∷ []) $ rewrite ! 2
      (λ (us : List Val). ‵ (cell_at full_share Hd.mir us rb ro)) ws refl $
      rewrite ! 0 (λ (P : Fml). ‵ P) (sym (as_param h.port b o)) refl $
      first ! $ blocks ! $ sets !
      (of_opd ! (load ! (through ! refl (fld ! refl (stop !))) (look_in ! 2 (sub ! 0 refl (whole !))))) refl (tt, tt) $
      sets ! (of_opd ! (get ! refl)) refl (tt, tt) $ sets_last ! (addr ! (through ! refl (stop !))) refl (tt, tt) $
      exec ! C Λ En (after 1 code.function.body) (at_ret En Post) $
      sets ! (of_opd ! (get ! refl)) refl (tt, tt) $
      move ! (1 ∷ 2 ∷ []) $ fjoin ! $ move ! (2 ∷ 3 ∷ 4 ∷ 1 ∷ 0 ∷ []) $ group ! 5 $
      use1 𝓛
      (later
      (some (λ (γ' : GName). raw
      (Part 𝓛 Hd K (with_port h) (named 0) κ q rb ro b o γ (sem 𝓛 (Rest b o hv)) (back b o hv at_b) h.port γ'))))
      (lends_Part 𝓛 Hd K (with_port h) (named 0) κ q rb ro b o γ (sem 𝓛 (Rest b o hv)) (back b o hv at_b)
      (Hd.coded.code h) (Hd.coded.code h) h.port) $ await ! tt $ pick ! (λ γ'.
      returns ! (look_at ! 0 refl) $ free_all ! refl $
      keep ! (0 ∷ []) $ by ! (exits b o hv γ')))))

pub get_mut_spec : {M : Type 1} → stated.statement M
unfolding tables_of
get_mut_spec 𝓤 𝓛 𝓜 𝓡 wired =
    let 𝓣 : Tables 𝓤 𝓛.H = tables_of 𝓤 𝓛.H 𝓜 (tables 𝓤 𝓛.H 𝓜 𝓡 𝓡.env) in
    entered 𝓤 𝓛.H (triple_of 𝓛 F.signature (F.spec 𝓛 𝓜.mem 𝓡.returns)) 𝓣.C 𝓣.Λ #self code.function
    (code.unfolded 𝓤 𝓛.H 𝓜 𝓡 wired)
    (walk_Meets 𝓛 F.ended stayed (Goes-spent_ref 𝓛 1 (0 ∷ []) tt (plain (λ _. Hd)), tt) (F.clauses 𝓛 𝓜.mem 𝓡.returns)
    (WpFn 𝓤 𝓛.H 𝓣.C 𝓣.Λ code.function) (WpFn-mono 𝓤 𝓛.H 𝓛.laws 𝓣 code.function)
    (walked 𝓛 F.ended stayed (F.clauses 𝓛 𝓜.mem 𝓡.returns) (WpFn 𝓤 𝓛.H 𝓣.C 𝓣.Λ code.function) (λ κs. (mut_vals, tt))
    (λ κs. (mut_Tells (named 0) κs.0 Hd, tt))
    (λ κs qs bounds a g are. via 𝓤 _ (fst∗ 𝓤 _ (emp 𝓤))
    (walk 𝓛 𝓜.mem 𝓡.returns κs.0 qs.0 a.0.ref_ptr.0 a.0.ref_ptr.1 a.0.ghost_name a.0.now 𝓣.C 𝓣.Λ))))
