-- A thread that has the permit takes the borrow of the value, and lays it back for the permit.
-- Assumes `Logic`.
use mathlib.Core.Bool.{Bool, true, false}
use mathlib.Core.List.{[], ◌∷◌}
use mathlib.Core.Logic.{◌≢◌, dite}
use mathlib.Core.Path.{ap, subst}
use native.Mathlib.Decide.{ℕ_discrete}
use contract.Monad.{fact, fact_i}
use Prim.Native.Nat.{ℕ, ◌+◌}
use seplogic.Ra.Ura.{Ura}
use base.Logic.{SProp, ent, sep, wand, ex, ex_i, all, all_e, never, upd, upd_i, never_e, via}
use base.Fml.{Lft, Share, Incl, Fml, fbor, finv, flft}
use base.Before.{before}
use types.Logic.{Logic, sem}
use types.Kit.{‵, raw, ◌⊛◌, some, later, ◌$◌, ◌∵◌, !, qed, by, move, keep, use1, use2, use3, split, split3}
use types.Kit.{fsplit, fjoin, fpick, fpack, pick, show, frame, each, assume, suffices, await, updating, now}
use types.Kit.{done}
use types.Keyed.{ticket, ticket_once}
use types.Na.{out_once, before_dup}
use denote.RattleType.{RattleType, RowLaws}
use denote.RawPtr.{block_ptr}
use denote.Shares.{Shares}
use denote.Sharing.{ShrLaws, ends, always}
use denote.SharingLaws.{within_shr_laws, some_shr_laws, beside_shr_laws, ends_shr_laws, always_shr_laws}
use denote.Memory.{shared_of}
use denote.Struct.Lending.{Lends}
use Rattle.core_parts.specs.PermitIds.{PermitId, permit_owns}
use Rattle.core_parts.specs.Ownership.{offset, content, lent, Id, away, state, Inv, kept, open_at}
use Rattle.core_parts.specs.Ownership.{place_shares, open_owns, open_shares}
use Rattle.core_parts.proofs.Tracked.{tracks, untracks, Gives, Lends-tracked}

-- a `&` to the place can be had twice, and for less long
pub place_laws : (R : RattleType) (id : PermitId) (b o : ℕ) → ShrLaws (place_shares R id (block_ptr b o))
place_laws R id b o = some_shr_laws Id (kept R id b o) (λ t. beside_shr_laws (ends t.0)
    (always (Inv R id b o t)) (ends_shr_laws t.0) (always_shr_laws (Inv R id b o t)))

pub seen_laws : (β : Lft) (R : RattleType) → RowLaws R → (p : ℕ × ℕ) (x : R.Denot)
    → ShrLaws (open_shares β R p x)
seen_laws β R L p x = within_shr_laws β (shared_of R x p.0 (p.1 + offset R)) (L x p.0 (p.1 + offset R))

module _ {M : Type 1} {𝓤 : Ura M} (𝓛 : Logic 𝓤) where
  open 𝓛 use {H, A}

  abbrev Pr : Type 2
  Pr = SProp 𝓤

  abbrev ◌⊢◌ : Pr → Pr → Type 1
  P ⊢ Q = ent 𝓤 P Q

  abbrev ◌∗◌ : Pr → Pr → Pr
  P ∗ Q = sep 𝓤 P Q

  abbrev ◌-∗◌ : Pr → Pr → Pr
  P -∗ Q = wand 𝓤 P Q

  abbrev ⟦◌⟧ : Fml → Pr
  ⟦ P ⟧ = sem 𝓛 P

  infix 26 ◌⊢◌
  infixr 35 ◌∗◌
  infixr 30 ◌-∗◌
  module _ (R : RattleType) (id : PermitId) (b o : ℕ) (t : Id) where
    abbrev I : Fml
    I = Inv R id b o t

    abbrev Away : Fml
    Away = away R id b o t

    takes : (y : Bool) → ⟦ state R id b o t y ⟧ ∗ ⟦ permit_owns id ⟧ ⊢ upd 𝓤 (⟦ I ⟧ ∗ ⟦ Away ⟧)
    takes true = qed 𝓛 (‵ Away ∷ ‵ (permit_owns id) ∷ []) ∵ suffices ! _ (upd_i 𝓤 (⟦ I ⟧ ∗ ⟦ Away ⟧))
        $ move ! (1 ∷ []) $ fpack ! Bool (state R id b o t) false $ done !
    takes false = via 𝓤 (never 𝓤) (ticket_once 𝓛 id.family id.number) (never_e 𝓤 _)

    lays : (y : Bool) → ⟦ state R id b o t y ⟧ ∗ ⟦ Away ⟧ ⊢ upd 𝓤 (⟦ I ⟧ ∗ ⟦ permit_owns id ⟧)
    lays true = qed 𝓛 (‵ Away ∷ ‵ Away ∷ []) ∵ fsplit ! $ move ! (2 ∷ []) $ fsplit ! $ keep ! (1 ∷ 3 ∷ [])
        $ by ! (out_once 𝓛 t.1 (⟦ I ⟧ ∗ ⟦ permit_owns id ⟧))
    lays false = qed 𝓛 (‵ (permit_owns id) ∷ ‵ Away ∷ []) ∵ suffices ! _
        (upd_i 𝓤 (⟦ I ⟧ ∗ ⟦ permit_owns id ⟧)) $ move ! (1 ∷ []) $ fpack ! Bool (state R id b o t) true
        $ done !

    pub opens : A.inv I ∗ ⟦ permit_owns id ⟧ ⊢ H.⇛ ⟦ Away ⟧
    opens = qed 𝓛 (‵ (finv I) ∷ ‵ (permit_owns id) ∷ []) ∵ suffices ! _ (𝓛.invs.inv_acc I ⟦ Away ⟧) $ frame !
        $ assume ! (‵ I) $ fpick ! (λ y. by ! (takes y))

    pub shuts : A.inv I ∗ ⟦ Away ⟧ ⊢ H.⇛ ⟦ permit_owns id ⟧
    shuts = qed 𝓛 (‵ (finv I) ∷ ‵ Away ∷ []) ∵ suffices ! _ (𝓛.invs.inv_acc I ⟦ permit_owns id ⟧) $ frame !
        $ assume ! (‵ I) $ fpick ! (λ y. by ! (lays y))

  -- two permits have two ids
  pub ids_differ : (one other : PermitId) → ⟦ permit_owns one ⟧ ∗ ⟦ permit_owns other ⟧ ⊢ fact 𝓤 (one ≢ other)
  ids_differ one other = let both : Pr = ⟦ permit_owns one ⟧ ∗ ⟦ permit_owns other ⟧ in
      dite (ℕ_discrete one.family other.family)
      (λ f. dite (ℕ_discrete one.number other.number)
      (λ n. subst (λ (k : ℕ). ⟦ permit_owns one ⟧ ∗ ⟦ ticket other.family k ⟧ ⊢ fact 𝓤 (one ≢ other)) n
      (subst (λ (k : ℕ). ⟦ permit_owns one ⟧ ∗ ⟦ ticket k one.number ⟧ ⊢ fact 𝓤 (one ≢ other)) f
      (via 𝓤 (never 𝓤) (ticket_once 𝓛 one.family one.number) (never_e 𝓤 _))))
      (λ ne. fact_i 𝓤 (one ≢ other) both (λ e. ne (ap (λ (z : PermitId). z.number) e))))
      (λ ne. fact_i 𝓤 (one ≢ other) both (λ e. ne (ap (λ (z : PermitId). z.family) e)))

  -- tells what a `&` to the place and its permit make, and back
  pub opened : (β : Lft) (R : RattleType) (id : PermitId) (b o : ℕ) (q : Share)
      → ⟦ place_shares R id (block_ptr b o) β ⟧ ∗ ⟦ permit_owns id ⟧ ∗ A.lft β q
      ⊢ H.⇛ (ex 𝓤 (λ (x : R.Denot). ⟦ open_owns β R id (b, o) x ⟧) ∗ A.lft β q)
  opened β R id b o q = qed 𝓛 (‵ (place_shares R id (block_ptr b o) β) ∷ ‵ (permit_owns id) ∷ ‵ (flft β q)
      ∷ []) ∵ updating ! $ fpick ! (λ t. fsplit ! $
      use1 𝓛 (‵ (before β t.0) ⊛ ‵ (before β t.0)) (before_dup 𝓛 β t.0) $ split ! $ move ! (2 ∷ [])
      $ use1 𝓛 (‵ (finv (Inv R id b o t)) ⊛ ‵ (finv (Inv R id b o t))) (𝓛.invs.inv_dup (Inv R id b o t))
      $ split ! $
      move ! (0 ∷ 4 ∷ []) $ use2 𝓛 (later (‵ (away R id b o t))) (opens R id b o t) $ await ! tt $ fsplit !
      $ move ! (3 ∷ 0 ∷ 5 ∷ []) $
      use3 𝓛 (later (some (λ (x : R.Denot). ‵ (lent R b (o + offset R) t.0 x)) ⊛ ‵ (flft β q)))
      (tracks 𝓛 R b (o + offset R) β t.0 q) $ await ! tt $ split ! $ pick ! (λ x.
      move ! (2 ∷ 0 ∷ []) $ fjoin ! $ move ! (3 ∷ 2 ∷ []) $ fjoin ! $ move ! (0 ∷ 1 ∷ []) $ fjoin !
      $ fpack ! Id (open_at R id b o β x) t $
      use1 𝓛 (raw (ex 𝓤 (λ (y : R.Denot). ⟦ open_owns β R id (b, o) y ⟧)))
      (ex_i 𝓤 (λ (y : R.Denot). ⟦ open_owns β R id (b, o) y ⟧) x) $ now ! $ done !))

  pub closed : (β : Lft) (R : RattleType) (id : PermitId) (p : ℕ × ℕ) (x : R.Denot) (q : Share)
      → ⟦ open_owns β R id p x ⟧ ∗ A.lft β q ⊢ H.⇛ (⟦ permit_owns id ⟧ ∗ A.lft β q)
  closed β R id p x q = let b : ℕ = p.0 in let o : ℕ = p.1
      in qed 𝓛 (‵ (open_owns β R id p x) ∷ ‵ (flft β q) ∷ []) ∵ updating !
      $ fpick ! (λ t. fsplit ! $ fsplit ! $ move ! (2 ∷ []) $ fsplit ! $
      move ! (2 ∷ 1 ∷ 4 ∷ []) $ use3 𝓛 (later (‵ (fbor t.0 (content R b (o + offset R))) ⊛ ‵ (flft β q)))
      (untracks 𝓛 R b (o + offset R) β t.0 q x) $ await ! tt $ split ! $
      move ! (0 ∷ 2 ∷ []) $ fjoin ! $ move ! (2 ∷ 0 ∷ []) $ use2 𝓛 (later (‵ (permit_owns id)))
      (shuts R id b o t) $ await ! tt $ now ! $ done !)

  module _ (β : Lft) (R : RattleType) (id : PermitId) (b o : ℕ) (x : R.Denot) where
    abbrev Again : Lft → R.Denot → Pr
    Again α w = ⟦ lent R b (o + offset R) α w ⟧ -∗ ⟦ open_owns β R id (b, o) w ⟧

    abbrev pub Ajar : Lft → Pr
    Ajar α = ⟦ before β α ⟧ ∗ ⟦ lent R b (o + offset R) α x ⟧ ∗ all 𝓤 (Again α)

    pub held_out : ⟦ open_owns β R id (b, o) x ⟧ ⊢ ex 𝓤 Ajar
    held_out = qed 𝓛 (‵ (open_owns β R id (b, o) x) ∷ []) ∵ fpick ! (λ t. fsplit ! $ fsplit !
        $ use1 𝓛 (‵ (before β t.0) ⊛ ‵ (before β t.0)) (before_dup 𝓛 β t.0) $ split ! $ move ! (3 ∷ [])
        $ fsplit ! $
        show ! Ajar t.0 $ move ! (2 ∷ 1 ∷ []) $ frame ! $ frame ! $
        each ! (Again t.0) (λ w. assume ! (‵ (lent R b (o + offset R) t.0 w)) $ move ! (1 ∷ 0 ∷ []) $ fjoin !
        $ move ! (1 ∷ 2 ∷ []) $ fjoin ! $ fjoin ! $ fpack ! Id (open_at R id b o β w) t $ done !))

    held_Gives : ⟦ open_owns β R id (b, o) x ⟧ ⊢ ex 𝓤 (Gives 𝓛 R b (o + offset R) β x
        (open_owns β R id (b, o) x))
    held_Gives = qed 𝓛 (‵ (open_owns β R id (b, o) x) ∷ []) ∵ use1 𝓛
        (some (λ (α : Lft). ‵ (before β α) ⊛ ‵ (lent R b (o + offset R) α x) ⊛ raw (all 𝓤 (Again α))))
        held_out $ pick ! (λ α. split3 ! $ move ! (2 ∷ []) $
        use1 𝓛 (raw (Again α x)) (all_e 𝓤 (Again α) x) $ show ! (Gives 𝓛 R b (o + offset R) β x
        (open_owns β R id (b, o) x)) α $ move ! (1 ∷ 2 ∷ 0 ∷ []) $ done !)

  pub Lends-held : (β : Lft) (R : RattleType) (l : Lft) → Incl l β → Shares 𝓛 R l
      → (id : PermitId) (p : ℕ × ℕ) (x : R.Denot) → Lends 𝓛 (open_owns β R id p x) (open_shares β R p x) l
  Lends-held β R l le s id p x = Lends-tracked 𝓛 R p.0 (p.1 + offset R) β x (open_owns β R id p x) l le s
      (held_Gives β R id p.0 p.1 x)
