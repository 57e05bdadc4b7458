-- A `&` to a place is made of a borrow of it. Assumes `Logic`.
use Rattle.std.proofs.Common.{◌≡◌, ℕ, zero, ◌+◌, Bool, true, List, [], ◌∷◌, sym, subst}
use seplogic.Ra.Ura.{Ura}
use mir.Syntax.{Ty}
use mir.Val.{Val}
use base.Fraction.{full_share}
use base.Stored.{gnum}
use base.Logic.{SProp, ent, sep, wand, ex, all_e, upd_i, apply∗, id⊢}
use base.Fml.{Lft, Share, Incl, Fml, ftrue, fsep, fseps, fwand, fupd, fdead, fbor, flft, finv, Incl-refl}
use base.Before.{before}
use ghost.Rules.{Toks, span}
use types.Logic.{Logic, sem, lfts}
use types.Kit.{‵, raw, ◌⊛◌, some, later, ◌$◌, ◌∵◌, !, qed, by, move, keep, drop, use0, use1, use2, split}
use types.Kit.{fsplit, fsplit3, fjoin, fpick, fpack, pick, show, assume, suffices, await, updating, now, done}
use types.Tokens.{bor_open, obor_alter, name_new}
use types.Na.{before-Incl}
use denote.RattleType.{RattleType, Denots}
use denote.Laws.{Lawful}
use denote.Memory.{part_of, part_at, cell_at}
use denote.RawPtr.{block_ptr}
use denote.Param.{layout}
use denote.Param.Laws.{Laws}
use denote.Struct.Struct.{Struct}
use denote.Struct.Members.{Member, row_of, rows_of, parts_at}
use denote.Struct.Parts.{PartsBack, Struct-parts, shape_of}
use denote.Struct.Lending.{Law}
use Rattle.core.proofs.cell.Borrows.{by_one}
use Rattle.core_parts.specs.PermitIds.{PermitId}
use Rattle.core_parts.specs.Ownership.{offset, content, Id, state, Inv, kept, place_shares}
use Rattle.core_parts.proofs.Opening.{place_laws}
use Rattle.core_parts.specs.contracts.place.Place as C
use Rattle.core_parts.proofs.place.Place.TheLaw.Statement.{statement}

module _ {M : Type 1} {𝓤 : Ura M} (𝓛 : Logic 𝓤) (m : Member) (d : PermitId) (L : Lawful 𝓛 (row_of m))
    (b o : ℕ) (κ : Lft) where
  open 𝓛 use {H, A}

  abbrev Pr : Type 2
  Pr = SProp 𝓤

  abbrev ◌⊢◌ : Pr → Pr → Type 1
  P ⊢ Q = ent 𝓤 P Q

  abbrev ◌∗◌ : Pr → Pr → Pr
  P ∗ Q = sep 𝓤 P Q

  abbrev ◌-∗◌ : Pr → Pr → Pr
  P -∗ Q = wand 𝓤 P Q

  abbrev ⟦◌⟧ : Fml → Pr
  ⟦ P ⟧ = sem 𝓛 P

  infix 26 ◌⊢◌
  infixr 35 ◌∗◌
  infixr 30 ◌-∗◌
  abbrev R : RattleType
  R = row_of m

  abbrev ks : List Member
  ks = m ∷ []

  abbrev Data : RattleType
  Data = Struct (shape_of [] ks)

  abbrev P : Fml
  P = part_at (C.the_written R) full_share d b o

  abbrev Fields : R.Denot → Fml
  Fields x = part_at Data full_share (x, tt) b o

  abbrev At : R.Denot → Fml
  At x = part_at R full_share x b (o + offset R)

  abbrev Value : Fml
  Value = content R b (o + offset R)

  apart : ⟦ P ⟧ ⊢ ex 𝓤 (λ (x : R.Denot). ⟦ Fields x ⟧)
  unfolding part_of
  apart = qed 𝓛 (‵ P ∷ []) ∵ fpick ! (λ vs. fsplit ! $ move ! (1 ∷ []) $ fpick ! (λ x. move ! (1 ∷ 0 ∷ [])
      $ fjoin ! $
      fpack ! (List Val) (λ us. fsep (cell_at full_share Data.mir us b o) (Data.own_val (x, tt) us)) vs
      $ show ! (λ (z : R.Denot). ⟦ Fields z ⟧) x $ done !))

  whole : (x : R.Denot) → ⟦ Fields x ⟧ ⊢ ⟦ P ⟧
  unfolding part_of
  whole x = qed 𝓛 (‵ (Fields x) ∷ []) ∵ fpick ! (λ vs. fsplit ! $ move ! (1 ∷ []) $ fpack ! R.Denot
      (λ z. Data.own_val (z, tt) vs) x $ move ! (1 ∷ 0 ∷ []) $ fjoin ! $
      fpack ! (List Val) (λ us. fsep (cell_at full_share Data.mir us b o) ((C.the_written R).own_val d us)) vs
      $ done !)

  way_back : PartsBack 𝓛 full_share [] ks b o ⊢ ⟦ fwand (fsep (fdead κ) (fseps (Value ∷ []))) (fupd P) ⟧
  unfolding fseps
  way_back = qed 𝓛 (raw (PartsBack 𝓛 full_share [] ks b o) ∷ []) ∵ assume !
      (‵ (fsep (fdead κ) (fsep Value ftrue))) $ suffices ! ⟦ P ⟧ (upd_i 𝓤 ⟦ P ⟧) $
      fsplit3 ! $ drop ! $ fpick ! (λ x. fjoin ! $ move ! (1 ∷ []) $
      use1 𝓛 (raw (⟦ parts_at full_share ks zero (x, tt) b o ⟧ -∗ ⟦ Fields x ⟧))
      (all_e 𝓤 (λ (a : Denots (rows_of ks)). ⟦ parts_at full_share ks zero a b o ⟧
      -∗ ⟦ part_at Data full_share a b o ⟧) (x, tt)) $
      move ! (1 ∷ 0 ∷ []) $ use2 𝓛 (‵ (Fields x)) (apply∗ 𝓤 ⟦ parts_at full_share ks zero (x, tt) b o ⟧
      ⟦ Fields x ⟧) $ by ! (whole x))

  split_views : (q : Share) → A.bor κ P ∗ A.lft κ q ⊢ H.⇛ (A.bor κ Value ∗ A.lft κ q)
  unfolding fseps
  split_views q = qed 𝓛 (‵ (fbor κ P) ∷ ‵ (flft κ q) ∷ []) ∵ updating ! $ bor_open ! tt $ move ! (1 ∷ [])
      $ use1 𝓛 (some (λ (x : R.Denot). ‵ (Fields x))) apart $ pick ! (λ x.
      use1 𝓛 ((‵ (At x) ⊛ ‵ ftrue) ⊛ raw (PartsBack 𝓛 full_share [] ks b o))
      (Struct-parts 𝓛 full_share [] ks (L, tt) (x, tt) b o) $ split ! $ split ! $
      fpack ! R.Denot At x $ move ! (0 ∷ 1 ∷ []) $ fjoin ! $ move ! (1 ∷ []) $
      use1 𝓛 (‵ (fwand (fsep (fdead κ) (fseps (Value ∷ []))) (fupd P))) way_back $ move ! (2 ∷ 1 ∷ 0 ∷ [])
      $ obor_alter ! tt (Value ∷ []) $
      use1 𝓛 (‵ (fbor κ Value) ⊛ ‵ ftrue) (id⊢ 𝓤 _) $ split ! $ now ! $ keep ! (0 ∷ 2 ∷ []) $ done !)

  made : (ts : Toks) → Incl (span ts) κ → A.bor κ P ∗ lfts 𝓛 ts ⊢ H.⇛ (⟦ place_shares R d (block_ptr b o) κ ⟧
      ∗ lfts 𝓛 ts)
  made ts sp =
      qed 𝓛 (‵ (fbor κ P) ∷ raw (lfts 𝓛 ts) ∷ []) ∵ updating !
      $ use2 𝓛 (later (‵ (fbor κ Value) ⊛ raw (lfts 𝓛 ts))) (by_one 𝓛 κ ts sp (A.bor κ P) (A.bor κ Value)
      split_views) $
      await ! tt $ split ! $ name_new ! tt (gnum 0) (λ δ. let t : Id = (κ, δ) in fjoin ! $ move ! (1 ∷ 0 ∷ [])
      $ fjoin ! $ fpack ! Bool (state R d b o t) true $
      use1 𝓛 (later (‵ (finv (Inv R d b o t)))) (𝓛.invs.inv_new (Inv R d b o t)) $ await ! tt $
      use0 𝓛 (‵ (before κ κ)) (before-Incl 𝓛 κ κ (Incl-refl κ)) $ fjoin ! $ fpack ! Id (λ s. kept R d b o s κ)
      t $ now ! $ done !)

pub shares : (T : RattleType) (L : Laws T) → statement T L
shares T L = let m : Member = record { row = T; ty = layout T } in
    let same : T ≡ row_of m = λ i. record {
      Denot = T.Denot;
      mir = L.one i;
      written = T.written;
      reaches = T.reaches;
      lives = T.lives;
      own_val = T.own_val;
      exit = T.exit;
      coded = T.coded;
      shr_at = T.shr_at;
    } in
    subst (λ (τ : List Ty). Law (C.the_written (record T { mir = τ }))) (sym L.one) (record {
      shr_laws = place_laws (row_of m);
      shares = λ M 𝓤 𝓛 d κ ts b o inc sp. made 𝓛 m d (subst (Lawful 𝓛) same (L.lawful 𝓛)) b o κ ts sp;
    })
