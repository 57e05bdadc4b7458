-- The deeds of a step are one case of the abstract lock at most: they need what it needs, and lead where it
-- leads.
use Rattle.std.proofs.Common.{ℕ, Bool, true, false, Option, Some, None, if◌then◌else◌, ◌==◌, ◌≡◌, ◌≢◌, List}
use Rattle.std.proofs.Common.{[], ◌∷◌, refl, ◌∙◌}
use Rattle.std.proofs.lemmas.Bool.{eqb-true}
use Rattle.spec_locks.specs.Locks.{LockState, Taken, Rules, HasTakenNobody, keep_from, let_go}
use Rattle.spec_locks.specs.Sites.{Site, Main, Second, Deed, Begin, End, In, Out, Mark, Clear, FindNobody}
use Rattle.spec_locks.specs.Sites.{MarkOwned, Bring, MarkBrought, Send, LeaveLine, Case, after_deed}
use Rattle.spec_locks.specs.Runs.{Nothing}
use Rattle.spec_locks.specs.Deeds.{after_all, AllNeeded, KeepLock, AreOneCase, event_of, EventNeeds}
use Rattle.spec_locks.specs.Deeds.{after_event}

-- a thread that has nobody in hand lets nobody go
pub lets_nobody_go : (s : LockState) (t : ℕ) → HasTakenNobody s t → record s { taken = let_go t s.taken } ≡ s
lets_nobody_go s t none = λ i. record s { taken = λ u. kept (s.taken u) (none u) i }
  where
    kept : (o : Option Taken) → ((x : _) → o ≡ Some (record { by = t; want = x }) → ⊥) → keep_from t o ≡ o
    kept None other = refl
    kept (Some h) other = either (h.by == t) refl
      where
        either : (b : Bool) → (h.by == t) ≡ b → (if b then None else Some h) ≡ Some h
        either false e = refl
        either true e = absurd (other h.want (let f : h.by ≡ t = eqb-true h.by t e
            in λ i. Some (record { by = f i; want = h.want })))

module _ (r : Rules) (t : ℕ) where
  pub kept : (ds : List Deed) (s : Site) → KeepLock ds → (after_all r ds s t).lock ≡ s.lock
  kept [] s k = refl
  kept (Begin claims ∷ ds) s k = kept ds (after_deed r (Begin claims) s t) k
  kept (End ∷ ds) s k = kept ds (after_deed r End s t) k
  kept (In m ∷ ds) s k = kept ds (after_deed r (In m) s t) k
  kept (Mark Main ∷ ds) s k = kept ds (after_deed r (Mark Main) s t) k
  kept (Mark Second ∷ ds) s k = kept ds (after_deed r (Mark Second) s t) k
  kept (Clear Main ∷ ds) s k = kept ds (after_deed r (Clear Main) s t) k
  kept (Clear Second ∷ ds) s k = kept ds (after_deed r (Clear Second) s t) k
  kept (FindNobody m ∷ ds) s k = kept ds (after_deed r (FindNobody m) s t) k
  kept (MarkOwned ∷ ds) s k = kept ds (after_deed r MarkOwned s t) k
  kept (MarkBrought ∷ ds) s k = kept ds (after_deed r MarkBrought s t) k
  kept (Out ∷ ds) s k = absurd k
  kept (Case case ∷ ds) s k = absurd k
  kept (Bring taken moved ∷ ds) s k = absurd k
  kept (Send all ∷ ds) s k = absurd k
  kept (LeaveLine ∷ ds) s k = absurd k

  module _ (l : ℕ) (hand : Option Bool) where
    -- a thread that wakes nobody has nobody in hand
    abbrev pub WakesHand : LockState → Type 0
    WakesHand s = hand ≢ Some false → HasTakenNobody s t

    -- after one that keeps the lock there is none
    no_event : (hand : Option Bool) (ds : List Deed) → KeepLock ds → event_of l hand ds ≡ Nothing
    no_event hand [] k = refl
    no_event hand (Begin claims ∷ ds) k = no_event hand ds k
    no_event hand (End ∷ ds) k = no_event hand ds k
    no_event hand (In m ∷ ds) k = no_event hand ds k
    no_event hand (Mark m ∷ ds) k = no_event hand ds k
    no_event hand (Clear m ∷ ds) k = no_event hand ds k
    no_event hand (FindNobody m ∷ ds) k = no_event hand ds k
    no_event hand (MarkOwned ∷ ds) k = no_event hand ds k
    no_event hand (MarkBrought ∷ ds) k = no_event hand ds k
    no_event hand (Out ∷ ds) k = absurd k
    no_event hand (Case case ∷ ds) k = absurd k
    no_event hand (Bring taken moved ∷ ds) k = absurd k
    no_event hand (Send all ∷ ds) k = absurd k
    no_event hand (LeaveLine ∷ ds) k = absurd k

    lets_go : (hand : Option Bool) (ds : List Deed) (s : Site) → (hand ≢ Some false → HasTakenNobody s.lock t)
        → KeepLock ds → (after_all r (Out ∷ ds) s t).lock ≡ after_event r (event_of l hand (Out ∷ ds)) s.lock
        t
    lets_go (Some false) ds s free k = kept ds (after_deed r Out s t) k
    lets_go (Some true) ds s free k = rw (no_event (Some true) ds k) (kept ds (after_deed r Out s t) k
        ∙ lets_nobody_go s.lock t (free (λ e. cc)))
    lets_go None ds s free k = rw (no_event None ds k) (kept ds (after_deed r Out s t) k
        ∙ lets_nobody_go s.lock t (free (λ e. cc)))

    -- the lock that they leave
    pub deeds_lead : (ds : List Deed) (s : Site) → WakesHand s.lock → AreOneCase ds
        → (after_all r ds s t).lock ≡ after_event r (event_of l hand ds) s.lock t
    deeds_lead [] s free one = refl
    deeds_lead (Case case ∷ ds) s free one = kept ds (after_deed r (Case case) s t) one
    deeds_lead (Out ∷ ds) s free one = lets_go hand ds s free one
    deeds_lead (Begin claims ∷ ds) s free one = deeds_lead ds (after_deed r (Begin claims) s t) free one
    deeds_lead (End ∷ ds) s free one = deeds_lead ds (after_deed r End s t) free one
    deeds_lead (In m ∷ ds) s free one = deeds_lead ds (after_deed r (In m) s t) free one
    deeds_lead (Mark Main ∷ ds) s free one = deeds_lead ds (after_deed r (Mark Main) s t) free one
    deeds_lead (Mark Second ∷ ds) s free one = deeds_lead ds (after_deed r (Mark Second) s t) free one
    deeds_lead (Clear Main ∷ ds) s free one = deeds_lead ds (after_deed r (Clear Main) s t) free one
    deeds_lead (Clear Second ∷ ds) s free one = deeds_lead ds (after_deed r (Clear Second) s t) free one
    deeds_lead (FindNobody m ∷ ds) s free one = deeds_lead ds (after_deed r (FindNobody m) s t) free one
    deeds_lead (MarkOwned ∷ ds) s free one = deeds_lead ds (after_deed r MarkOwned s t) free one
    deeds_lead (MarkBrought ∷ ds) s free one = deeds_lead ds (after_deed r MarkBrought s t) free one
    deeds_lead (Bring taken moved ∷ ds) s free one = absurd one
    deeds_lead (Send all ∷ ds) s free one = absurd one
    deeds_lead (LeaveLine ∷ ds) s free one = kept ds (after_deed r LeaveLine s t) one

    -- tells what they need
    pub deeds_need : (ds : List Deed) (s : Site) → AllNeeded r ds s t → AreOneCase ds
        → EventNeeds r (event_of l hand ds) s.lock t
    deeds_need [] s needed one = tt
    deeds_need (Case case ∷ ds) s needed one = needed.0.0
    deeds_need (Out ∷ ds) s needed one = wakes hand
      where
        wakes : (hand : Option Bool) → EventNeeds r (event_of l hand (Out ∷ ds)) s.lock t
        wakes (Some false) = tt
        wakes (Some true) = rw (no_event (Some true) ds one) tt
        wakes None = rw (no_event None ds one) tt
    deeds_need (Begin claims ∷ ds) s needed one = deeds_need ds (after_deed r (Begin claims) s t) needed.1 one
    deeds_need (End ∷ ds) s needed one = deeds_need ds (after_deed r End s t) needed.1 one
    deeds_need (In m ∷ ds) s needed one = deeds_need ds (after_deed r (In m) s t) needed.1 one
    deeds_need (Mark Main ∷ ds) s needed one = deeds_need ds (after_deed r (Mark Main) s t) needed.1 one
    deeds_need (Mark Second ∷ ds) s needed one = deeds_need ds (after_deed r (Mark Second) s t) needed.1 one
    deeds_need (Clear Main ∷ ds) s needed one = deeds_need ds (after_deed r (Clear Main) s t) needed.1 one
    deeds_need (Clear Second ∷ ds) s needed one = deeds_need ds (after_deed r (Clear Second) s t) needed.1 one
    deeds_need (FindNobody m ∷ ds) s needed one = deeds_need ds (after_deed r (FindNobody m) s t) needed.1 one
    deeds_need (MarkOwned ∷ ds) s needed one = deeds_need ds (after_deed r MarkOwned s t) needed.1 one
    deeds_need (MarkBrought ∷ ds) s needed one = deeds_need ds (after_deed r MarkBrought s t) needed.1 one
    deeds_need (Bring taken moved ∷ ds) s needed one = absurd one
    deeds_need (Send all ∷ ds) s needed one = absurd one
    deeds_need (LeaveLine ∷ ds) s needed one = needed.0.1
