-- `into_inner` takes the value.
use Rattle.std.proofs.Common.{◌≡◌, List, [], ◌∷◌, ◌++◌, sym, refl, ◌∙◌, subst}
use mir.Syntax.{a_type}
use mir.Val.{Val, vstruct, vcons, vnil, of_list, has_ty}
use mir.MapTy.{inst_fn}
use base.Logic.{SProp, ent, id⊢}
use base.Fml.{ftrue, fsep}
use prog.Wp.{WpFn}
use types.Kit.{‵, raw, ◌⊛◌, ◌$◌, ◌∵◌, !, qed, by, move, keep, drop, split, fsplit, fjoin, fpick, rewrite}
use types.Kit.{feq_l, suffices}
use types.Run.{stop, fld, of_opd, returns, enter}
use types.ByLocal.{alloc_all, pass_all, free_all, look_at, get, get_in, sets}
use types.Part.{sub, whole}
use contract.Running.{tables}
use denote.Exit.{no}
use denote.RattleType.{RattleType}
use denote.Signature.{plain}
use denote.Steps.{nothing, peeks}
use denote.Laws.{Is, shows}
use denote.Param.{param, layout, layouts}
use denote.Triple.Entry.{alive}
use denote.Triple.Walked.{Stays, stay_dropped, walk_of, Goes-dropped}
use Rattle.core.proofs.mem.Param.{El, lawful, Good, one}
use Rattle.std.proofs.ResultValues.{and_tt}
use Rattle.atomic_table.proofs.Walks.{proved_at, leaves}
use Rattle.lock_values.specs.contracts.place.Place as place
use Rattle.lock_values.specs.contracts.place.Place.into_inner.{ended, clauses}
use Rattle.lock_values.specs.contracts.place.Place.into_inner.Key.{name as #self}
use Rattle.lock_values.proofs.place.Place.into_inner.Statement.{statement}
use Rattle.lock_values.proofs.place.Place.into_inner.Code as code

pub into_inner_spec : {M : Type 1} → statement M
into_inner_spec 𝓤 𝓛 𝓜 𝓡 wired X L =
    let H = 𝓛.H in let 𝓣 = tables 𝓤 H 𝓜 𝓡 𝓡.env in let R : RattleType = param 0 X in let En = ended X
    in let c = clauses X 𝓛 𝓜.mem 𝓡.returns in let E : El = record { row = X; laws = L } in
    let inst = layouts (a_type ∷ []) (X, tt) in let fn = inst_fn inst code.function in let closed =
    code.unfolded 𝓤 H 𝓜 𝓡 wired (X, tt) in let Row : RattleType = place.the_row R in
    let self = plain (λ _. Row) in let hs : Stays En.signature.params En.kept = (stay_dropped self no, tt) in
    proved_at 𝓛 En hs c 𝓜 𝓡 (Goes-dropped 𝓛 1 self no (λ κs x f. refl), tt) (#self inst) fn closed (λ z are.
    let Post : Val → SProp 𝓤 = (walk_of 𝓛 En hs c).post z in let Run : List Val
    → SProp 𝓤 = λ ws. WpFn 𝓤 H 𝓣.C 𝓣.Λ fn ws Post in
    qed 𝓛 ((raw (alive 𝓛 En.signature z.0.0 z.0.1) ⊛ ‵ (fsep (Row.own_val z.0.3.0 z.0.4.0) ftrue))
    ∷ raw ((c z.0.0 z.0.3).requires z.1) ∷ []) ∵ keep ! (0 ∷ []) $ split ! $ move ! (1 ∷ []) $ fsplit !
    $ fsplit ! $ drop ! $
    fpick ! (λ x. fpick ! (λ vss. fsplit ! $ feq_l ! (λ ev. fsplit ! $ peeks ! R (Is R) (shows 𝓛 R) x vss.0
    (λ is_so.
    let got = one E vss.0 ((lawful E 𝓛).typed x vss.0 is_so) in let vy : Val = got.0 in let fy : Good E vy =
    got.2 in let v : Val = vstruct (vcons vy vnil) in
    let whole_is : z.0.4.0 ≡ v ∷ [] = ev ∙ (λ i. vstruct (of_list (got.1 i ++ [])) ∷ []) in
    rewrite ! 0 (λ (ws : List Val). ‵ (R.own_val x ws)) got.1 refl $ keep ! (0 ∷ 3 ∷ []) $
    suffices ! (Run (v ∷ [])) (subst (λ (ws : List Val). ent 𝓤 (Run (v ∷ [])) (Run ws))
    (sym (λ i. whole_is i ++ [])) (id⊢ 𝓤 (Run (v ∷ [])))) $
    enter ! 𝓣.C 𝓣.Λ fn (v ∷ []) Post $ alloc_all !
    (λ l. pass_all ! refl ((and_tt (has_ty (layout X) vy) fy.0, (fy.1, tt)), tt) $
    sets ! (of_opd ! (get_in ! (fld ! refl (stop !)) (sub ! 0 refl (whole !)))) refl fy $ sets !
    (of_opd ! (get ! refl)) refl fy $
    nothing ! $ nothing ! $ nothing ! $ fjoin ! $
    returns ! (look_at ! 0 refl) $ free_all ! refl $ keep ! (3 ∷ 0 ∷ 2 ∷ 1 ∷ [])
    $ by ! (leaves 𝓛 En hs c z vy x (tt, tt) (tt, tt))))))))
