-- `new` lays the value down.
use Rattle.std.proofs.Common.{◌≡◌, ◌&&◌, T, true, List, [], ◌∷◌, ◌++◌, sym, refl, subst}
use mir.Syntax.{a_type, dcons, dnil}
use mir.Val.{Val, vptr, vstruct, vcons, vnil, has_ty, WT}
use mir.MapTy.{inst_fn}
use base.Logic.{emp, SProp, ent, id⊢}
use base.Fml.{ftrue}
use prog.Wp.{WpFn}
use types.Kit.{‵, raw, ◌⊛◌, ◌$◌, ◌∵◌, !, qed, by, move, keep, drop, split, fsplit, fjoin, fpack, use0}
use types.Kit.{rewrite, feq_i, suffices}
use types.Run.{of_opd, no_more, and_then, returns, enter}
use types.ByLocal.{alloc_all, pass_all, free_all, look_at, get, sets}
use types.Part.{agg}
use contract.Running.{tables}
use contract.Monad.{fact, fact_i}
use denote.Exit.{yes, no}
use denote.RattleType.{RattleType, Valss, owns}
use denote.Signature.{types_at, plain}
use denote.Steps.{nothing}
use denote.Laws.{Typed}
use denote.Param.{param, layout, bounded}
use denote.Builtin.{RefOf}
use denote.Struct.Struct.{within}
use denote.Triple.Entry.{alive}
use denote.Triple.Walked.{Stays, stay_dropped, walk_of, Goes-dropped}
use Rattle.core.proofs.mem.Param.{El, lawful, Good, one}
use Rattle.std.proofs.ResultValues.{and_tt}
use Rattle.atomic_table.proofs.Walks.{proved_at, leaves}
use Rattle.core_parts.specs.PermitIds.{PermitId}
use Rattle.core_parts.specs.contracts.place.Place.TheInside as inside
use Rattle.core_parts.specs.contracts.place.Place.new.{ended, clauses}
use Rattle.core_parts.specs.contracts.place.Place.new.Key.{name as #self}
use Rattle.core_parts.proofs.place.Place.new.Statement.{statement}
use Rattle.core_parts.proofs.place.Place.new.Code as code

pub new_spec : {M : Type 1} → statement M
new_spec 𝓤 𝓛 𝓜 𝓡 wired X Y L _ g d _ =
    let H = 𝓛.H in let 𝓣 = tables 𝓤 H 𝓜 𝓡 𝓡.env in let R : RattleType = param 0 X in let G : RattleType =
    param 1 Y in let En = ended X Y g d in let c = clauses X Y g d 𝓛 𝓜.mem 𝓡.returns in let E : El =
    record { row = X; laws = L } in
    let inst = bounded (a_type ∷ a_type ∷ []) (X, (Y, tt)) (dcons d dnil) in let fn =
    inst_fn inst code.function in let closed = code.unfolded 𝓤 H 𝓜 𝓡 wired (X, (Y, tt)) d in
    let item = plain (λ _. R) in let about = RefOf (0 ∷ []) tt (plain (λ _. G)) (λ _. tt)
    in let hs : Stays En.signature.params En.kept = (stay_dropped item no, (stay_dropped about yes, tt))
    in
    let F : RattleType = inside.the_row R in let D = denote.Struct.Declared.shape (inside.the_type R) in
    proved_at 𝓛 En hs c 𝓜 𝓡 (
      Goes-dropped 𝓛 3 item no (λ κs x f. refl),
      (Goes-dropped 𝓛 3 about yes (λ κs x f. refl), tt),
    ) (#self inst) fn closed (λ z are.
    let x : X.Denot = z.0.3.0 in let id : PermitId = g.permit z.0.3.1.0.now in let at : Val =
    vptr z.0.3.1.0.ref_ptr.0 z.0.3.1.0.ref_ptr.1 in let got =
    one E z.0.4.0 ((lawful E 𝓛).typed x z.0.4.0 are.0) in let vy : Val = got.0 in let fy : Good E vy =
    got.2 in let v : Val = vstruct (vcons vy vnil) in
    let Post : Val → SProp 𝓤 = (walk_of 𝓛 En hs c).post z in let Run : List Val
    → SProp 𝓤 = λ ws. WpFn 𝓤 H 𝓣.C 𝓣.Λ fn ws Post in
    let typed : T (has_ty (layout X) vy && true) × WT v = (and_tt (has_ty (layout X) vy) fy.0, (fy.1, tt)) in
    qed 𝓛 ((raw (alive 𝓛 En.signature z.0.0 z.0.1) ⊛ ‵ (owns (types_at En.signature.params z.0.0) z.0.3
    z.0.4)) ∷ raw ((c z.0.0 z.0.3).requires z.1) ∷ []) ∵
    keep ! (0 ∷ []) $ split ! $ move ! (1 ∷ []) $ fsplit ! $ move ! (1 ∷ []) $ drop ! $
    rewrite ! 0 (λ (ws : List Val). ‵ (R.own_val x ws)) got.1 refl $ nothing ! $ move ! (1 ∷ 0 ∷ []) $ fjoin !
    $
    feq_i ! (List Val) (v ∷ []) (v ∷ []) refl $ fjoin ! $ fpack ! (Valss (R ∷ [])) (within D (x, tt) (v ∷ []))
    (vy ∷ [], tt) $
    fpack ! X.Denot (λ s. F.own_val (record { value = s }) (v ∷ [])) x $ nothing ! $ fpack !
    (Typed F.mir (v ∷ [])) (λ _. ftrue) (typed, tt) $ fjoin ! $
    suffices ! (Run (vy ∷ at ∷ [])) (subst (λ (ws : List Val). ent 𝓤 (Run (vy ∷ at ∷ [])) (Run ws))
    (sym (λ i. got.1 i ++ (are.1.0.0 i ++ []))) (id⊢ 𝓤 (Run (vy ∷ at ∷ [])))) $
    enter ! 𝓣.C 𝓣.Λ fn (vy ∷ at ∷ []) Post $ alloc_all ! (λ l. pass_all ! refl (fy, ((tt, tt), tt))
    $ sets ! (of_opd ! (get ! refl)) refl fy $
    sets ! (agg ! (and_then ! (get ! refl) (no_more !))) refl typed $
    use0 𝓛 (raw (fact 𝓤 (id ≡ id))) (fact_i 𝓤 (id ≡ id) (emp 𝓤) refl) $ nothing ! $ nothing ! $ fjoin !
    $ nothing ! $ fjoin ! $
    returns ! (look_at ! 0 refl) $ free_all ! refl $ keep ! (3 ∷ 0 ∷ 2 ∷ 1 ∷ [])
    $ by ! (leaves 𝓛 En hs c z v id (tt, (tt, tt)) (tt, (tt, tt)))))
