-- `into_box` passes the memory that the handle owns to `from_raw`.
use Rattle.balsaeuchre_c.proofs.Common.{ !, B, Contract, D, Fun, Goes-dropped, List, Logic, Memory, P, R, Routine}
use Rattle.balsaeuchre_c.proofs.Common.{SProp, Stays, T, Tables, Triple, Ura, Val, WT, WpFn, WpFn-mono, [], alloc_all}
use Rattle.balsaeuchre_c.proofs.Common.{and_then, ap, args, assign, at_ret, await, block_ptr, blocks, box_in, box_out}
use Rattle.balsaeuchre_c.proofs.Common.{box_owns, box_ty, box_typed, by, calls_at_last, copy, done, emp, ends_at, ent}
use Rattle.balsaeuchre_c.proofs.Common.{enter, entered, env, exec, fact, fact_i, feq_i, first, fjoin, fld, flft, fm_of}
use Rattle.balsaeuchre_c.proofs.Common.{free_all, fsep, fsplit, ftrue, full_share, get, get_in, has_ty, heard, id⊢}
use Rattle.balsaeuchre_c.proofs.Common.{join, keep, lands_last, later, look_at, move, no_more, nothing, of_opd, only}
use Rattle.balsaeuchre_c.proofs.Common.{pass_all, pick, place, plain, qed, raw, refl, return, returns, rewrite, rv_opd}
use Rattle.balsaeuchre_c.proofs.Common.{says, seq, sets, some, split, split3, stay_dropped, stop, sub, subst, suffices}
use Rattle.balsaeuchre_c.proofs.Common.{sym, tables, tables_of, token, triple_of, use1, vptr, walk_Meets, walk_of}
use Rattle.balsaeuchre_c.proofs.Common.{whole, word, yes, ‵, ⊑_static, ◌$◌, ◌++◌, ◌∵◌, ◌∷◌, ◌≡◌, ◌⊑◌, ◌⊛◌}
use Rattle.balsaeuchre_c.proofs.AsPortBox.{E}
use Rattle.balsaeuchre_c.proofs.Destruct++none.drop.Code.{code as no_drop}
use Rattle.balsaeuchre_c.specs.contracts.ports.port_handle.PortHandle.into_box.Key.{name as #self}
use Rattle.std_heap.proofs.GlobalAllocator.TheImpl.Met.{passed}
use denote.Param.NoDrop.{glues}
use types.Kit.{Item, drop, use0}
use types.Tokens.{lft_new}
use Rattle.std_alloc.specs.contracts.boxed.Box.from_raw as Fr
use Rattle.std_alloc.proofs.boxed.Box.from_raw.Symbol as raw_sym
use Rattle.std_alloc.proofs.boxed.Box.from_raw.Met as raw_met
use Rattle.balsaeuchre_c.specs.contracts.ports.port_handle.PortHandle as Handle
use Rattle.balsaeuchre_c.specs.contracts.ports.port_handle.PortHandle.into_box as F
use Rattle.balsaeuchre_c.proofs.ports.port_handle.PortHandle.into_box.Statement as stated
use Rattle.balsaeuchre_c.proofs.ports.port_handle.PortHandle.into_box.Code as code

abbrev stayed : Stays (F.ended).signature.params (F.ended).kept
stayed = (stay_dropped (plain (λ _. Handle.the_row)) yes, tt)

module _ {M : Type 1} {𝓤 : Ura M} (𝓛 : Logic 𝓤) (at_mem : Memory → SProp 𝓤) (run : Routine → Fun 𝓤)
    (𝓣 : Tables 𝓤 𝓛.H) where
  open 𝓛 use {H}

  abbrev Shuts : Contract 𝓤
  Shuts =
      triple_of 𝓛 (Fr.signature E.row E.al.row E.al.g E.al.d E.al.drops)
      (Fr.spec E.row E.al.row E.al.g E.al.d E.al.drops 𝓛 at_mem run)

  walk : Triple 𝓤 (𝓣.C (raw_sym.name (args E))) Shuts → (z : (walk_of 𝓛 F.ended stayed (F.clauses 𝓛 at_mem run)).Ghost)
      → ent 𝓤 ((walk_of 𝓛 F.ended stayed (F.clauses 𝓛 at_mem run)).pre z)
      (WpFn 𝓤 H 𝓣.C 𝓣.Λ code.function (z.0.4.0 ++ []) ((walk_of 𝓛 F.ended stayed (F.clauses 𝓛 at_mem run)).post z))
  walk kn z =
      let a = z.0.3.0.alloc in
      let x = z.0.3.0.port in
      let Post = (walk_of 𝓛 F.ended stayed (F.clauses 𝓛 at_mem run)).post z in
      let v : D E = record { ptr = z.0.3.0.ptr; alloc = a; value = x } in
      qed 𝓛 ((‵ ftrue ⊛ ‵ (fsep ((B E).own_val v z.0.4.0) ftrue)) ∷ raw (emp 𝓤) ∷ []) ∵ split ! $ drop ! $ fsplit ! $
      box_out E ! v z.0.4.0 (λ b o hv e ws fa. fjoin ! $
      let w = word E hv b o in
      let Γ : List (Item 𝓤) =
      ‵ (box_owns (token E.al a) (R E) (block_ptr b o) x) ∷ ‵ ((P E).own_val a (hv ∷ [])) ∷ ‵ ftrue ∷ raw (emp 𝓤)
      ∷ [] in
      by ! (subst (λ (us : List Val). ent 𝓤 (types.Kit.⋆ 𝓛 Γ) (WpFn 𝓤 H 𝓣.C 𝓣.Λ code.function (us ++ []) Post)) (sym ws)
      (qed 𝓛 Γ ∵ enter ! 𝓣.C 𝓣.Λ code.function (w ∷ []) _ $ alloc_all !
      (λ ls. pass_all ! refl (box_typed E hv b o fa, tt) $
      sets ! (of_opd ! (get_in ! (fld ! refl (stop !)) (sub ! 0 refl (whole !)))) refl (tt, tt) $ sets !
      (of_opd ! (get_in ! (fld ! refl (stop !)) (sub ! 1 refl (whole !)))) refl fa $
      first ! $ blocks ! $ sets ! (of_opd ! (get ! refl)) refl (tt, tt) $
      lft_new ! tt (λ α. lft_new ! tt (λ β.
      let ts : Item 𝓤 = ‵ (flft (β ∷ []) full_share) ⊛ ‵ (flft (α ∷ []) full_share) ⊛ ‵ ftrue in
      let y : Shuts.Ghost = (
        (
          ((β ∷ []), ((α ∷ []), tt)),
          (full_share, (full_share, tt)),
          tt,
          (a, (block_ptr b o, tt)),
          (hv ∷ [], (vptr b o ∷ [], tt)),
        ),
        x,
      ) in
      nothing ! $ move ! (2 ∷ 0 ∷ []) $ join ! $ move ! (1 ∷ 0 ∷ []) $ join ! $
      use0 𝓛 (raw (fact 𝓤 ((α ∷ []) ⊑ E.al.row.lives)))
      (fact_i 𝓤 ((α ∷ []) ⊑ E.al.row.lives) (emp 𝓤) (⊑_static (α ∷ []))) $ move ! (0 ∷ 2 ∷ []) $ join ! $
      use0 𝓛 (raw (fact 𝓤 ((β ∷ []) ⊑ E.row.lives)))
      (fact_i 𝓤 ((β ∷ []) ⊑ E.row.lives) (emp 𝓤) (⊑_static (β ∷ []))) $ join ! $
      -- [the precondition; the tokens; the handle; true]
      move ! (3 ∷ []) $ feq_i ! (List Val) (vptr b o ∷ []) (vptr b o ∷ []) refl $ fjoin ! $ move !
      (3 ∷ 0 ∷ []) $ fjoin ! $ move ! (2 ∷ 0 ∷ []) $ join ! $ join ! $ use1 𝓛 (raw (Shuts.pre y)) (id⊢ 𝓤 _) $
      calls_at_last ! (fm_of 𝓤 H 𝓛.laws 𝓣) Shuts kn y (and_then ! (get ! refl) (and_then ! (get ! refl) (no_more !)))
      (λ u.
      use1 𝓛
      (later
      (some (λ (r : D E). (ts ⊛ ‵ ((B E).own_val r (u ∷ []))) ⊛ some
      (λ (_ : Unit {0} × (Unit {0} × Unit {0})). ‵ (fsep ftrue (fsep ftrue ftrue)) ⊛
      (raw (fact 𝓤 (r.value ≡ x)) ⊛ raw (fact 𝓤 (r.alloc ≡ a))))))) (id⊢ 𝓤 _) $
      await ! tt $ pick !
      (λ r. split ! $ move ! (1 ∷ []) $ pick !
      (λ _. split3 ! $ drop ! $ heard ! (r.value ≡ x) (λ same. drop ! $ split ! $ drop ! $
      box_out E ! r (u ∷ []) (λ b' o' hw e' wu fw. box_in E ! r b' o' r.value e' refl $ rewrite ! 0
      (λ (us : List Val). ‵ ((B E).own_val r us)) (sym wu) refl $
      let typed : T (has_ty (box_ty E) u) × WT u =
      subst (λ (s : Val). T (has_ty (box_ty E) s) × WT s) (sym (ap only wu)) (box_typed E hw b' o' fw) in
      lands_last ! refl typed $ exec ! 𝓣.C 𝓣.Λ (env code.function.locals ls)
      (seq (assign (place 0 []) (rv_opd (copy (place 4 [])))) return) (at_ret (env code.function.locals ls) Post) $
      sets ! (of_opd ! (get ! refl)) refl typed $ returns ! (look_at ! 0 refl) $ free_all ! refl $ keep ! (0 ∷ []) $
      suffices ! _ (ends_at 𝓛 F.ended stayed (F.clauses 𝓛 at_mem run) z u r (tt, tt) (tt, tt)) $ says ! same $
      nothing ! $ nothing ! $ fjoin ! $ join ! $ nothing ! $ join ! $ done !)))))))))))

pub into_box_spec : {M : Type 1} → stated.statement M
unfolding tables_of no_drop
into_box_spec {M} 𝓤 𝓛 𝓜 𝓡 wired =
    let 𝓣 : Tables 𝓤 𝓛.H = tables_of 𝓤 𝓛.H 𝓜 (tables 𝓤 𝓛.H 𝓜 𝓡 𝓡.env) in
    let allocator =
    passed 𝓡.env (code.calls-std_heap::GlobalAllocator::allocate 𝓡.env wired)
    (code.calls-std_heap::GlobalAllocator::deallocate 𝓡.env wired)
    (code.calls-std_heap::GlobalAllocator::grow 𝓡.env wired) (code.calls-std_heap::GlobalAllocator::shrink 𝓡.env wired)
    M 𝓤 𝓛 𝓜 𝓡 in
    let dropped =
    glues "balsaeuchre_c::Destruct++none::drop" 𝓡.env (code.calls-balsaeuchre_c::Destruct++none::drop 𝓡.env wired)
    E.al.row E.al.laws M 𝓤 𝓛 𝓜 𝓡 in
    entered 𝓤 𝓛.H (triple_of 𝓛 F.signature (F.spec 𝓛 𝓜.mem 𝓡.returns)) 𝓣.C 𝓣.Λ #self code.function
    (code.unfolded 𝓤 𝓛.H 𝓜 𝓡 wired)
    (walk_Meets 𝓛 F.ended stayed (Goes-dropped 𝓛 0 (plain (λ _. Handle.the_row)) yes (λ κs x f. refl), tt)
    (F.clauses 𝓛 𝓜.mem 𝓡.returns) (WpFn 𝓤 𝓛.H 𝓣.C 𝓣.Λ code.function) (WpFn-mono 𝓤 𝓛.H 𝓛.laws 𝓣 code.function)
    (walk 𝓛 𝓜.mem 𝓡.returns 𝓣
    (raw_met.met 𝓤 𝓛 𝓜 𝓡 (code.calls-std_alloc::boxed::Box::from_raw 𝓡.env wired) E.row E.al.row E.laws E.al.laws
    E.al.g E.al.d E.al.drops allocator dropped)))
