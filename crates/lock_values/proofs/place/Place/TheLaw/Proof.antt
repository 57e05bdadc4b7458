-- A `&` to a place is made of a borrow of it. Assumes `Logic`.
use Rattle.std.proofs.Common.{◌≡◌, ℕ, zero, ◌+◌, false, List, [], ◌∷◌, ◌++◌, sym, subst}
use seplogic.Ra.Ura.{Ura}
use mir.Syntax.{Ty}
use mir.Val.{Val}
use base.Fraction.{full_share}
use base.Logic.{SProp, ent, sep, wand, ex, all_e, upd_i, apply∗, id⊢}
use base.Fml.{Lft, Share, Incl, Fml, ftrue, fsep, fseps, fwand, fupd, fdead, fbor, flft, finv, Incl-refl}
use base.Before.{before}
use ghost.Rules.{Toks, span}
use types.Logic.{Logic, sem, lfts}
use types.Kit.{‵, raw, ◌⊛◌, some, later, ◌$◌, ◌∵◌, !, qed, by, move, keep, drop, use0, use1, use2, use3}
use types.Kit.{split, fsplit, fsplit3, fjoin, fpick, fpack, pick, show, assume, suffices, await, updating}
use types.Kit.{now, done}
use types.Tokens.{bor_open, obor_alter, name_new}
use types.Na.{before-Incl}
use denote.RattleType.{RattleType, Denots}
use denote.Laws.{Lawful}
use denote.Memory.{part_of, part_at, cell_at}
use denote.RawPtr.{block_ptr}
use denote.Param.{layout}
use denote.Param.Laws.{Laws}
use denote.Struct.Struct.{Struct}
use denote.Struct.Members.{Member, row_of, rows_of, parts_at}
use denote.Struct.Parts.{PartsBack, Struct-parts, shape_of}
use denote.Struct.Lending.{Law}
use Rattle.core.proofs.cell.Borrows.{by_one}
use base.Share
use types.Owned.{basic}
use types.Keyed.{entries_new}
use denote.Shares.{Shares}
use types.Tokens.{one_token}
use base.Fml.{GName, Incl-trans, fauth, fobs}
use contract.BorrowLft.{meet_⊑_left}
use base.Logic.{via}
use Rattle.atomic_table.specs.Seated.{halved, unused}
use Rattle.core_words.specs.Views.{blank}
use Rattle.core_words.specs.declared.views.View.{View}
use Rattle.core_words.specs.contracts.views.View as view
use Rattle.lock_values.specs.Owning.{alone, among}
use Rattle.lock_values.specs.Ownership.{PlaceId, Rec, PlacePhase, rec_coded, seat_coded, offset, content, Id}
use Rattle.lock_values.specs.Ownership.{state, Inv, kept, place_shares}
use Rattle.lock_values.specs.Ownership.PlacePhase.{read}
use Rattle.lock_values.proofs.Fresh.{Fresh, fresh}
use Rattle.lock_values.proofs.Opening.{place_laws}
use Rattle.lock_values.specs.contracts.place.Place as C
use Rattle.lock_values.proofs.place.Place.TheLaw.Statement.{statement}

module _ {M : Type 1} {𝓤 : Ura M} (𝓛 : Logic 𝓤) (m : Member) (d : PlaceId) (L : Lawful 𝓛 (row_of m)) (b o : ℕ)
    (κ : Lft) where
  open 𝓛 use {H, A}

  abbrev Pr : Type 2
  Pr = SProp 𝓤

  abbrev ◌⊢◌ : Pr → Pr → Type 1
  P ⊢ Q = ent 𝓤 P Q

  abbrev ◌∗◌ : Pr → Pr → Pr
  P ∗ Q = sep 𝓤 P Q

  abbrev ◌-∗◌ : Pr → Pr → Pr
  P -∗ Q = wand 𝓤 P Q

  abbrev ⟦◌⟧ : Fml → Pr
  ⟦ P ⟧ = sem 𝓛 P

  infix 26 ◌⊢◌
  infixr 35 ◌∗◌
  infixr 30 ◌-∗◌
  abbrev R : RattleType
  R = row_of m

  abbrev ks : List Member
  ks = m ∷ []

  abbrev Data : RattleType
  Data = Struct (shape_of [] ks)

  abbrev P : Fml
  P = part_at (C.the_written R) full_share d b o

  abbrev Fields : R.Denot → Fml
  Fields x = part_at Data full_share (x, tt) b o

  abbrev At : R.Denot → Fml
  At x = part_at R full_share x b (o + offset R)

  abbrev Value : Fml
  Value = content R b (o + offset R)

  apart : ⟦ P ⟧ ⊢ ex 𝓤 (λ (x : R.Denot). ⟦ Fields x ⟧)
  unfolding part_of
  apart = qed 𝓛 (‵ P ∷ []) ∵ fpick ! (λ vs. fsplit ! $ move ! (1 ∷ []) $ fpick ! (λ x. move ! (1 ∷ 0 ∷ [])
      $ fjoin ! $
      fpack ! (List Val) (λ us. fsep (cell_at full_share Data.mir us b o) (Data.own_val (x, tt) us)) vs
      $ show ! (λ (z : R.Denot). ⟦ Fields z ⟧) x $ done !))

  whole : (x : R.Denot) → ⟦ Fields x ⟧ ⊢ ⟦ P ⟧
  unfolding part_of
  whole x = qed 𝓛 (‵ (Fields x) ∷ []) ∵ fpick ! (λ vs. fsplit ! $ move ! (1 ∷ []) $ fpack ! R.Denot
      (λ z. Data.own_val (z, tt) vs) x $ move ! (1 ∷ 0 ∷ []) $ fjoin ! $
      fpack ! (List Val) (λ us. fsep (cell_at full_share Data.mir us b o) ((C.the_written R).own_val d us)) vs
      $ done !)

  way_back : PartsBack 𝓛 full_share [] ks b o ⊢ ⟦ fwand (fsep (fdead κ) (fseps (Value ∷ []))) (fupd P) ⟧
  unfolding fseps
  way_back = qed 𝓛 (raw (PartsBack 𝓛 full_share [] ks b o) ∷ []) ∵ assume !
      (‵ (fsep (fdead κ) (fsep Value ftrue))) $ suffices ! ⟦ P ⟧ (upd_i 𝓤 ⟦ P ⟧) $
      fsplit3 ! $ drop ! $ fpick ! (λ x. fjoin ! $ move ! (1 ∷ []) $
      use1 𝓛 (raw (⟦ parts_at full_share ks zero (x, tt) b o ⟧ -∗ ⟦ Fields x ⟧))
      (all_e 𝓤 (λ (a : Denots (rows_of ks)). ⟦ parts_at full_share ks zero a b o ⟧
      -∗ ⟦ part_at Data full_share a b o ⟧) (x, tt)) $
      move ! (1 ∷ 0 ∷ []) $ use2 𝓛 (‵ (Fields x)) (apply∗ 𝓤 ⟦ parts_at full_share ks zero (x, tt) b o ⟧
      ⟦ Fields x ⟧) $ by ! (whole x))

  cut : (q : Share) → A.bor κ P ∗ A.lft κ q ⊢ H.⇛ (A.bor κ Value ∗ A.lft κ q)
  unfolding fseps
  cut q = qed 𝓛 (‵ (fbor κ P) ∷ ‵ (flft κ q) ∷ []) ∵ updating ! $ bor_open ! tt $ move ! (1 ∷ [])
      $ use1 𝓛 (some (λ (x : R.Denot). ‵ (Fields x))) apart $ pick ! (λ x.
      use1 𝓛 ((‵ (At x) ⊛ ‵ ftrue) ⊛ raw (PartsBack 𝓛 full_share [] ks b o))
      (Struct-parts 𝓛 full_share [] ks (L, tt) (x, tt) b o) $ split ! $ split ! $
      fpack ! R.Denot At x $ move ! (0 ∷ 1 ∷ []) $ fjoin ! $ move ! (1 ∷ []) $
      use1 𝓛 (‵ (fwand (fsep (fdead κ) (fseps (Value ∷ []))) (fupd P))) way_back $ move ! (2 ∷ 1 ∷ 0 ∷ [])
      $ obor_alter ! tt (Value ∷ []) $
      use1 𝓛 (‵ (fbor κ Value) ⊛ ‵ ftrue) (id⊢ 𝓤 _) $ split ! $ now ! $ keep ! (0 ∷ 2 ∷ []) $ done !)

  abbrev V₀ : View
  V₀ = blank

  abbrev D₀ : Rec View
  D₀ = (false, (0, (0, V₀)))

  abbrev e : ℕ
  e = o + offset R

  abbrev cv : base.Stored.Coded View
  cv = view.the_row.coded

  abbrev In : Id → Fml
  In t = Inv cv (alone d.at) (among d.at) d.table R b e t

  abbrev Shared : Fml
  Shared = place_shares R cv (alone d.at) (among d.at) d.table (block_ptr b o) κ

  abbrev Rows : GName → Fml
  Rows ε = unused (rec_coded cv).code ε 0 D₀

  made : (l : Lft) → Shares 𝓛 R l → (ts : Toks) → Incl (span ts) l → Incl (span ts) κ → A.bor κ P
      ∗ lfts 𝓛 ts ⊢ H.⇛ (⟦ Shared ⟧ ∗ lfts 𝓛 ts)
  made l shares ts inc sp = let μ : Lft = span ts in
      qed 𝓛 (‵ (fbor κ P) ∷ raw (lfts 𝓛 ts) ∷ []) ∵ updating !
      $ use2 𝓛 (later (‵ (fbor κ Value) ⊛ raw (lfts 𝓛 ts))) (by_one 𝓛 κ ts sp (A.bor κ P) (A.bor κ Value)
      cut) $ await ! tt $ split ! $ move ! (1 ∷ []) $
      use1 𝓛 (some (λ (q : Share). ‵ (flft μ q) ⊛ raw (A.lft μ q -∗ lfts 𝓛 ts))) (one_token 𝓛 ts)
      $ pick ! (λ q. split ! $ use1 𝓛 (‵ (flft μ (Share.left q)) ⊛ ‵ (flft μ (Share.right q)))
      (𝓛.lfts.lft_split μ q) $ split ! $
      move ! (3 ∷ 0 ∷ 1 ∷ []) $ use3 𝓛
      (later (‵ (Fresh 𝓛 R b e κ) ⊛ ‵ (flft μ (Share.left q)) ⊛ ‵ (flft μ (Share.right q))))
      (fresh 𝓛 R b e l shares κ μ (Share.left q) μ (Share.right q) sp inc) $ await ! tt $ split !
      $ move ! (1 ∷ []) $
      use1 𝓛 (‵ (flft μ q)) (𝓛.lfts.lft_join μ q) $ move ! (0 ∷ 2 ∷ []) $ use2 𝓛 (raw (lfts 𝓛 ts))
      (apply∗ 𝓤 (A.lft μ q) (lfts 𝓛 ts)) $ move ! (1 ∷ []) $ fpick ! (λ a. fsplit ! $
      use0 𝓛 (later (some (λ (ε : GName). ‵ (Rows ε))))
      (via 𝓤 _ (entries_new halved 𝓛 0 (λ _. (full_share, (rec_coded cv).code D₀)))
      (basic 𝓛 (ex 𝓤 (λ (ε : GName). ⟦ Rows ε ⟧)))) $ await ! tt $ pick !
      (λ ε. fpack ! (Rec View) (unused (rec_coded cv).code ε 0) D₀ $
      name_new ! tt ((seat_coded cv).code (0, V₀)) (λ δ. let t : Id = (κ, (ε, δ)) in fjoin !
      $ fpack ! (ℕ × View) (λ g. fsep (fobs δ ((seat_coded cv).code g))
      (fauth δ ((seat_coded cv).code g))) (0, V₀) $
      move ! (0 ∷ 3 ∷ []) $ fjoin ! $ move ! (1 ∷ 2 ∷ []) $ fjoin ! $ fjoin ! $ fpack ! (PlacePhase View)
      (state cv (alone d.at) (among d.at) d.table R b e t) (read a []) $
      use1 𝓛 (later (‵ (finv (In t)))) (𝓛.invs.inv_new (In t)) $ await ! tt $
      use0 𝓛 (‵ (before κ κ)) (before-Incl 𝓛 κ κ (Incl-refl κ)) $ fjoin ! $ fpack ! Id
      (λ s. kept R cv (alone d.at) (among d.at) d.table b o s κ) t $ now ! $ done !))))

pub shares : (T : RattleType) (L : Laws T) → statement T L
shares T L = let m : Member = record { row = T; ty = layout T } in
    let same : T ≡ row_of m = λ i. record {
      Denot = T.Denot;
      mir = L.one i;
      written = T.written;
      reaches = T.reaches;
      lives = T.lives;
      own_val = T.own_val;
      exit = T.exit;
      coded = T.coded;
      shr_at = T.shr_at;
    } in
    subst (λ (τ : List Ty). Law (C.the_written (record T { mir = τ }))) (sym L.one) (record {
      shr_laws = λ d b o. place_laws (row_of m) view.the_row.coded (alone d.at) (among d.at) d.table b o;
      shares = λ M 𝓤 𝓛 d κ ts b o inc sp. made 𝓛 m d (subst (Lawful 𝓛) same (L.lawful 𝓛)) b o κ T.lives
          (subst (λ (R : RattleType). Shares 𝓛 R T.lives) same (L.shares 𝓛)) ts
          (Incl-trans inc (Incl-trans (meet_⊑_left (T.lives ++ []) _) (meet_⊑_left T.lives []))) sp;
    })
