-- The count is known to proofs alone.
use Rattle.atomic_table.proofs.Names.{◌≡◌, [], ◌∷◌, refl, named, Val, vptr, SProp, emp}
use Rattle.atomic_table.proofs.Names.{‵, raw, ◌⊛◌, ◌$◌, ◌∵◌, !, qed, by, keep, split}
use Rattle.atomic_table.proofs.Names.{fjoin, use0, no_more, agg}
use Rattle.atomic_table.proofs.Names.{returns, enter, alloc_all, pass_all, free_all, look_at, sets}
use Rattle.atomic_table.proofs.Names.{tables, yes, RattleType, owns, types_at, plain, nothing, alive, Stays}
use Rattle.atomic_table.proofs.Names.{stay_dropped, walk_of, Goes-dropped, fact, fact_i}
use Rattle.atomic_table.proofs.Names.{RefOf, shr_vals, shr_Tells}
use Rattle.atomic_table.proofs.Walks.{proved, leaves}
use Rattle.parking_lot_core.proofs.Blanks.{blank_val, BlankCount, blank_count_made}
use Rattle.parking_lot_core.specs.Tokens.{count_of}
use Rattle.parking_lot_core.specs.contracts.tokens.Token as token
use Rattle.parking_lot_core.specs.contracts.step_counts.StepCount as counts
use Rattle.parking_lot_core.specs.contracts.tokens.Token.step_count.{ended, clauses}
use Rattle.parking_lot_core.specs.contracts.tokens.Token.step_count.Key.{name as #self}
use Rattle.parking_lot_core.proofs.tokens.Token.step_count.Statement.{statement}
use Rattle.parking_lot_core.proofs.tokens.Token.step_count.Code as code

pub step_count_spec : {M : Type 1} → statement M
step_count_spec 𝓤 𝓛 𝓜 𝓡 wired =
    let H = 𝓛.H in let 𝓣 = tables 𝓤 H 𝓜 𝓡 𝓡.env in let En = ended in let c = clauses 𝓛 𝓜.mem 𝓡.returns
    in let fn = code.function in
    let Row : RattleType = token.the_row in let self = RefOf (0 ∷ []) tt (plain (λ _. Row)) (λ _. tt) in
    let hs : Stays En.signature.params En.kept = (stay_dropped self yes, tt) in
    proved 𝓛 En hs c 𝓜 𝓡 (Goes-dropped 𝓛 1 self yes (λ κs x f. refl), tt) #self fn
    (code.unfolded 𝓤 H 𝓜 𝓡 wired)
    (λ κs. (shr_vals, tt)) (λ κs. (shr_Tells (named 0) κs.0 Row, tt)) (λ κs qs bounds a gh are.
    let y : (walk_of 𝓛 En hs c).Ghost =
    ((κs, qs, bounds, a, (vptr a.0.ref_ptr.0 a.0.ref_ptr.1 ∷ [], tt)), gh)
    in let Post : Val → SProp 𝓤 = (walk_of 𝓛 En hs c).post y in
    let r : counts.the_row.Denot = count_of a.0.now in let Told : Type 0 = r ≡ count_of a.0.now in
    qed 𝓛 ((raw (alive 𝓛 En.signature κs qs) ⊛ ‵
    (owns (types_at En.signature.params κs) a y.0.4)) ∷ raw ((c κs a).requires gh) ∷ []) ∵
    split ! $ keep ! (0 ∷ []) $ nothing ! $ use0 𝓛 (‵ (BlankCount.own_val tt (blank_val ∷ [])))
    (blank_count_made 𝓛) $ fjoin ! $ enter ! 𝓣.C 𝓣.Λ fn (vptr a.0.ref_ptr.0 a.0.ref_ptr.1 ∷ []) Post $
    alloc_all ! (λ l. pass_all ! refl ((tt, tt), tt) $
    sets ! (agg ! (no_more !)) refl (tt, tt) $ use0 𝓛 (raw (fact 𝓤 Told)) (fact_i 𝓤 Told (emp 𝓤) refl)
    $ nothing ! $ nothing ! $ fjoin ! $
    returns ! (look_at ! 0 refl) $ free_all ! refl $ keep ! (3 ∷ 0 ∷ 2 ∷ 1 ∷ [])
    $ by ! (leaves 𝓛 En hs c y blank_val r (tt, tt) (tt, tt))))
