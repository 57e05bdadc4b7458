-- The names that proofs of this crate take from its specs and from the crates below, each under one
-- spelling. A
-- file that means another thing by such a name imports it from its own module.

-- The standard library.
pub use Rattle.std.proofs.Common.{All, Bool, List, None, Option, Some, [], ap, append-nil, append_assoc}
pub use Rattle.std.proofs.Common.{arith, cond, drop, false, get_or, get_or-set_other, get_or-set_same}
pub use Rattle.std.proofs.Common.{if◌then◌else◌, inl, inr, is_none, is_some, length, length-set, map, nat_lt}
pub use Rattle.std.proofs.Common.{not, refl, replicate, rules, set, slice_index_or, subst, suc, sym, take}
pub use Rattle.std.proofs.Common.{true, zero, ℕ, ◌%◌, ◌&&◌, ◌*◌, ◌++◌, ◌+◌, ◌-◌, ◌/◌, ◌<◌, ◌==◌, ◌^◌, ◌||◌}
pub use Rattle.std.proofs.Common.{◌↔◌, ◌∙◌, ◌∷◌, ◌≡◌, ◌≢◌, ◌≤◌, ◌⊎◌}
pub use Rattle.std.proofs.Math.Bool.{and-false, and-true, or-false, or-true}
pub use Rattle.std.proofs.Math.ListN.{get_or-map}
pub use Rattle.std.proofs.lemmas.Bool.{cases_eq, cases_lt, eqb-true, leb-true, lt-ltb, ltb-true}
pub use Rattle.std.proofs.lemmas.Bool.Decides.{nat_tests}
pub use Rattle.std.proofs.lemmas.List.{get_or_past, length-map, length-replicate, set_past}
pub use Rattle.std.proofs.lemmas.List.Elements.{All-cons, All-nil}
pub use Rattle.std.specs.List.{filter}
pub use Rattle.std.specs.Prelude.{nat_le, slice_index, slice_set, sum}
-- Words, queues, notes.
pub use Rattle.core_base.proofs.Counts.{times_append, times_gone, times_without}
pub use Rattle.core_base.specs.Lines.{first_of, line, threads_of, times, waiter, without}
pub use Rattle.core_base.specs.Picks.{lock_answer, lock_picked, lock_picker, next_picker, without_lock_picked}
pub use Rattle.core_base.specs.Picks.{without_picked}
pub use Rattle.core_base.specs.Requeues.{moved_by, taken_by}
pub use Rattle.core_base.specs.Words.{apply}
pub use Rattle.core_base.specs.declared.keys.Keys.{Keys}
pub use Rattle.core_base.specs.declared.keys.Keys.TheVariants.{One, Two}
pub use Rattle.core_base.specs.declared.lock_picker.LockPicker.{LockPicker}
pub use Rattle.core_base.specs.declared.notes.Note.{Note}
pub use Rattle.core_base.specs.declared.notes.Note.TheVariants.{Normal}
pub use Rattle.core_base.specs.declared.ops.Op.{Op}
pub use Rattle.core_base.specs.declared.picks.Pick.{Pick}
pub use Rattle.core_base.specs.declared.picks.Pick.TheVariants.{Skip, Stop, Unpark}
pub use Rattle.core_base.specs.declared.requeues.Requeue.{Requeue}
pub use Rattle.core_base.specs.declared.wants.Waiter.{Waiter}
pub use Rattle.core_base.specs.declared.wants.Want.{Want}
pub use Rattle.core_base.specs.declared.wants.Want.TheVariants.{CallOnce, Exclusive, Shared, Upgradable}
-- Locks, calls, runs.
pub use Rattle.spec_locks.proofs.Bypass.{nobody_overtakes}
pub use Rattle.spec_locks.proofs.CallTable.{loses}
pub use Rattle.spec_locks.proofs.CodeLaws.{rw_is, words_tell_true}
pub use Rattle.spec_locks.proofs.CondvarKeeps.{condvar_deed_keeps, moved_fewer}
pub use Rattle.spec_locks.proofs.Deeds.{deeds_lead, deeds_need, kept}
pub use Rattle.spec_locks.proofs.FairEvents.{FairlyGoes, fairly_goes}
pub use Rattle.spec_locks.proofs.FairQueues.{fair_stays}
pub use Rattle.spec_locks.proofs.Guarantees.{safe_holds, step_holds}
pub use Rattle.spec_locks.proofs.HandLimits.{handed_limit, sum_cons, unshared_successor}
pub use Rattle.spec_locks.proofs.Hands.{has_exclusive_handed, has_upgradable_handed, is_handed, kept_by}
pub use Rattle.spec_locks.proofs.Hands.{pends_handed, shares_handed_on, taking_by, taking_others}
pub use Rattle.spec_locks.proofs.Hands.{times_picked}
pub use Rattle.spec_locks.proofs.HandsTaken.{one_more_picked}
pub use Rattle.spec_locks.proofs.Limits.{limit_kept}
pub use Rattle.spec_locks.proofs.LockKeeps.{opening_is_state, sharing_same}
pub use Rattle.spec_locks.proofs.OnceLaws.{phase_by}
pub use Rattle.spec_locks.proofs.Picks.{pickers_pick}
pub use Rattle.spec_locks.proofs.QueueOrder.{queues_keep_order}
pub use Rattle.spec_locks.proofs.Rights.{others_keep}
pub use Rattle.spec_locks.proofs.Runs.{needs_of}
pub use Rattle.spec_locks.proofs.Seen.{packed_writer}
pub use Rattle.spec_locks.proofs.SiteFacts.{fewer_share}
pub use Rattle.spec_locks.proofs.SiteKeeps.{deed_keeps}
pub use Rattle.spec_locks.specs.Bypass.{IsHandedOn, LetsGoWhileSomeWait, ReleasesFairly, ahead, in_hands}
pub use Rattle.spec_locks.specs.Bypass.{passed, turns}
pub use Rattle.spec_locks.specs.Trade.{Trades}
pub use Rattle.spec_locks.specs.Calls.{lock_in, mutex_named}
pub use Rattle.spec_locks.specs.Codes.{HasLimit, IsHandOff, TellsTrue, aside_in, bars, bit, code, code_of}
pub use Rattle.spec_locks.specs.Codes.{count_in, fills, has_aside, has_parked, has_writer, is_blocked}
pub use Rattle.spec_locks.specs.Codes.{is_done, is_marked, is_poisoned, is_running, leaves_readers, packed}
pub use Rattle.spec_locks.specs.Codes.{parked_in, rw_code, shown_code, word_by, writers}
pub use Rattle.spec_locks.specs.Condvars.{AllOf, BeginsWait, Clears, CondvarDeed, CondvarNeeded, CondvarSite}
pub use Rattle.spec_locks.specs.Condvars.{CondvarPhase, EndsWait, GoIn, GoOut, HideAndTakeAll, Inside}
pub use Rattle.spec_locks.specs.Condvars.{IsAsInside, IsCondvar, IsInsideNot, IsSettledAt, LeaveList}
pub use Rattle.spec_locks.specs.Condvars.{MayGoOut, MissIt, Misses, MoveAll, MoveFirst, MoveFits, NothingToDo}
pub use Rattle.spec_locks.specs.Condvars.{SeeAgain, SeeOther, Sees, SeesOther, Show, ShowNone, StageHolds}
pub use Rattle.spec_locks.specs.Condvars.{StandLast, Takes, ToStandLast, WaitsAside, condvar_leads, line_of}
pub use Rattle.spec_locks.specs.Condvars.{moved_of, moving, opening_condvar, taken_of, wanting_mutex}
pub use Rattle.spec_locks.specs.Deeds.{AllNeeded, AreOneCase, EventNeeds, KeepLock, after_all, after_event}
pub use Rattle.spec_locks.specs.Deeds.{case_of, event_by, event_of}
pub use Rattle.spec_locks.specs.EachState.{StateHolds}
pub use Rattle.spec_locks.specs.EachStep.{IsPartOf, KeepsOrderOf, StepHolds}
pub use Rattle.spec_locks.specs.Guarantees.{AllHold, IsGuaranteed}
pub use Rattle.spec_locks.specs.Headline.{Behaves, IsSafe, MayTell, Opens, full_by}
pub use Rattle.spec_locks.specs.Kinds.{fits, has_call, is_condvar, is_fair, is_plain_mutex}
pub use Rattle.spec_locks.specs.Locks.{Aside, CondvarCase, Convert, HandOff, HasTakenNobody, Hide, IsBlocked}
pub use Rattle.spec_locks.specs.Locks.{IsFree, IsFreeAt, IsLockState, IsSomePending, IsSuccessor, IsTaken}
pub use Rattle.spec_locks.specs.Locks.{Knows, KnowsAll, Leave, LockCase, LockState, MayEnter, Needs, NoWriter}
pub use Rattle.spec_locks.specs.Locks.{OfCondvar, OfOnce, Owns, Park, Pend, Pending, Queued, Recursive}
pub use Rattle.spec_locks.specs.Locks.{Rights, Rollback, Rules, SeeOwner, Settle, Sort, TakeAside, TakeFirst}
pub use Rattle.spec_locks.specs.Locks.{TakePicked, Taken, Wake, after_case, count, first_thread, handed}
pub use Rattle.spec_locks.specs.Locks.{has_caller, is_recursive, keep_from, left_after, let_go, once_after}
pub use Rattle.spec_locks.specs.Locks.{one_if_pending, one_if_some, one_if_thread, opening_lock, pending_for}
pub use Rattle.spec_locks.specs.Locks.{picked, putting, readers, rights_of, shares_handed, sharing_from}
pub use Rattle.spec_locks.specs.Locks.{sharing_handed, standing, succeeding, taking, unpicked, wants_shared}
pub use Rattle.spec_locks.specs.Locks.{with_owner, with_right, with_successor, without_owner, without_right}
pub use Rattle.spec_locks.specs.Onces.{Fail, Finish, InProgress, IsRunning, MayStart, New, OnceCase, Phase}
pub use Rattle.spec_locks.specs.Onces.{Poisoned, Rest, Start, TakeAll}
pub use Rattle.spec_locks.specs.Permits.{HasPermits, debt, debts, sum_to, wakes_main}
pub use Rattle.spec_locks.specs.Picks.{queued_of}
pub use Rattle.spec_locks.specs.Purposes.{Awaits, Blank, Bumps, CallsOnce, Converts, Enters, HasMoved}
pub use Rattle.spec_locks.specs.Purposes.{IsMadeOf, IsReleasing, MayWait, Notifies, NotifiesAtMutex, Purpose}
pub use Rattle.spec_locks.specs.Purposes.{CondvarMemory, Releases, Saw, SawOwner, Waits, WasMoved}
pub use Rattle.spec_locks.specs.Purposes.{WasNotified}
pub use Rattle.spec_locks.specs.Purposes.{condvar_purpose, lock_for, mutex_purpose, once_purpose, purpose_of}
pub use Rattle.spec_locks.specs.Purposes.{rules_of, rwlock_purpose, semaphore_purpose}
pub use Rattle.spec_locks.specs.Runs.{Agrees, AnswerHolds, AreFree, AreLockStates, AtLock, Begins, CallState}
pub use Rattle.spec_locks.specs.Runs.{Closes, Does, Event, GoesOn, HasRight, IsFull, IsNotified, IsOfMutex}
pub use Rattle.spec_locks.specs.Runs.{IsOpening, IsRun, IsStep, IsTimed, IsTimely, KeepsOrder, LeavesOthers}
pub use Rattle.spec_locks.specs.Runs.{LetsGo, LocksState, Looks, MayBeLate, MayBegin, MayDo, MayHappen}
pub use Rattle.spec_locks.specs.Runs.{MayMove, MayTurn, MayWake, Moves, Nothing, SectionChanges, ShowsWaiters}
pub use Rattle.spec_locks.specs.Runs.{StandsFreely, Status, Stays, Turned, after_wake, calls_after, gives_up}
pub use Rattle.spec_locks.specs.Runs.{going_on, if_moved, is_among, is_closure, is_taken_by, joined_by}
pub use Rattle.spec_locks.specs.Runs.{locks_after, new_call, no_call, one_less_at, one_more_at, purpose_at}
pub use Rattle.spec_locks.specs.Runs.{rights_in, rules_at, state_told, unless_ended, woken}
pub use Rattle.spec_locks.specs.Sites.{Begin, Bring, Case, Claim, Clear, Deed, End, FindNobody, Has, HasClaim}
pub use Rattle.spec_locks.specs.Sites.{Holds, In, IsDebtorRole, IsOpen, IsSite, LeaveLine, Line, LooksAfter}
pub use Rattle.spec_locks.specs.Sites.{Main, Mark, MarkBrought, MarkOwned, Needed, Out, Pends, Role, Runs}
pub use Rattle.spec_locks.specs.Sites.{Second, Send, Site, StandsIn, after_deed, bringing, counts_some}
pub use Rattle.spec_locks.specs.Sites.{has_readers, idle, is_empty, is_full, leaves, wakened}
pub use Rattle.spec_locks.specs.UserLaws.{OfEachStep}
pub use Rattle.spec_locks.specs.declared.calls.Access.{Access}
pub use Rattle.spec_locks.specs.declared.calls.Call.{Call}
pub use Rattle.spec_locks.specs.declared.calls.CondvarCall.{CondvarCall}
pub use Rattle.spec_locks.specs.declared.calls.Downgrade.{Downgrade}
pub use Rattle.spec_locks.specs.declared.calls.MutexCall.{MutexCall}
pub use Rattle.spec_locks.specs.declared.calls.OnceCall.{OnceCall}
pub use Rattle.spec_locks.specs.declared.calls.OnceCall.TheVariants.{WaitTimed}
pub use Rattle.spec_locks.specs.declared.calls.Patience.{Patience}
pub use Rattle.spec_locks.specs.declared.calls.Patience.TheVariants.{Patient, Timed, Try}
pub use Rattle.spec_locks.specs.declared.calls.RwLockCall.{RwLockCall}
pub use Rattle.spec_locks.specs.declared.calls.SemaphoreCall.{SemaphoreCall}
pub use Rattle.spec_locks.specs.declared.calls.Step.{Step}
pub use Rattle.spec_locks.specs.declared.calls.Turn.{Turn}
pub use Rattle.spec_locks.specs.declared.kinds.Kind.{Kind}
pub use Rattle.spec_locks.specs.declared.kinds.TheConstants.{MOST_READERS}
pub use Rattle.spec_locks.specs.declared.outcomes.Answer.{Answer}
pub use Rattle.spec_locks.specs.declared.outcomes.Answer.TheVariants.{No, Ok}
pub use Rattle.spec_locks.specs.declared.outcomes.OnceState.{OnceState}
pub use Rattle.spec_locks.specs.declared.outcomes.Outcome.{Outcome}
-- The steps of each sort of lock.
pub use Rattle.steps_base.proofs.RowCheck.{is_line, is_try, no_line}
pub use Rattle.steps_base.specs.Acts.{any_picked, holds, outcome_of, takes_effect, wakes_taken}
pub use Rattle.steps_base.specs.Calls.{CallFollows, ComesTo, IsNotLate, MayCome, call_by, rights_where}
pub use Rattle.steps_base.specs.Locations.{Location, location_by, want_in_line}
pub use Rattle.steps_base.specs.Moves.{Accepts, AreLeaving, AreOfWord, GoesIn, GoesOut, HandsOver, Hears}
pub use Rattle.steps_base.specs.Moves.{IsHeld, IsSectionFree, LeavesLine, StepView, MovesByAct, Parks, Picks}
pub use Rattle.steps_base.specs.Moves.{RowWaits, Sleeps, StaysPut, TakesAside, TellsHanded, WasGiven}
pub use Rattle.steps_base.specs.Moves.{bit_left, claim_handed, heir_of, inside_of, location_of, location_then}
pub use Rattle.steps_base.specs.Moves.{parks_in, row_of, takes_aside}
pub use Rattle.steps_base.specs.Owners.{is_thread, shares_then, with_exclusive}
pub use Rattle.steps_base.specs.Profiles.{Hand, Of, Profile, blank_row, hand, hand_owner, in_hand, in_line}
pub use Rattle.steps_base.specs.Profiles.{taken_from}
pub use Rattle.steps_base.specs.Rows.{IsDowngrade, IsWaiting, KnowsRights, LetsIn, RowPromises, WakesAside}
pub use Rattle.steps_base.specs.Rows.{is_acting}
pub use Rattle.steps_base.specs.declared.acts.Act.{Act}
pub use Rattle.steps_base.specs.declared.acts.Act.TheVariants.{Closure, Enter, Sleep, Take, Word}
pub use Rattle.steps_base.specs.declared.acts.Check.{Check}
pub use Rattle.steps_base.specs.declared.acts.Check.TheVariants.{WordIs}
pub use Rattle.steps_base.specs.declared.acts.Next.{Next}
pub use Rattle.steps_base.specs.declared.acts.Next.TheVariants.{At}
pub use Rattle.steps_base.specs.declared.acts.Reply.{Reply}
pub use Rattle.steps_base.specs.declared.acts.Reply.TheVariants.{Closed, Done, HandedBy, Late, MovedTo}
pub use Rattle.steps_base.specs.declared.acts.Reply.TheVariants.{Parked, Picked, Removed, Requeued, TakenBy}
pub use Rattle.steps_base.specs.declared.acts.Reply.TheVariants.{Took, Value, Woken}
pub use Rattle.steps_base.specs.declared.acts.Wakes.{Wakes}
pub use Rattle.steps_base.specs.declared.acts.Wakes.TheVariants.{Nobody}
pub use Rattle.steps_base.specs.declared.acts.TakeWhich.{TakeWhich}
pub use Rattle.steps_base.specs.declared.owners.Owners.{Owners}
pub use Rattle.steps_condvar.proofs.CondvarActs.{notifies_move}
pub use Rattle.steps_condvar.proofs.CondvarFit.{condvar_moves_fit, condvar_owners_follow, condvar_steps_code}
pub use Rattle.steps_condvar.proofs.CondvarFit.{condvar_steps_follow}
pub use Rattle.steps_condvar.proofs.NotifierFit.{notifiers_code, notifiers_follow}
pub use Rattle.steps_condvar.proofs.NotifyTells.{condvar_places_reached, looks_tell, notifies_tell}
pub use Rattle.steps_condvar.proofs.WaitTells.{waiters_are_told, waits_tell}
pub use Rattle.steps_condvar.proofs.WaiterFit.{waiters_code, waiters_follow}
pub use Rattle.steps_condvar.specs.CondvarCalls.{BecomesOfTwo, CallOfTwoFollows, IsLockOf, IsReached}
pub use Rattle.steps_condvar.specs.CondvarCalls.{IsReachedNext, IsRelock, IsUnlockPlace, MayComeOfTwo}
pub use Rattle.steps_condvar.specs.CondvarCalls.{case_at_condvar, condvar_call_by, heard, look_event, marked_event}
pub use Rattle.steps_condvar.specs.CondvarCalls.{notify_event, wait_event}
pub use Rattle.steps_condvar.specs.CondvarDeeds.{AllCondvarNeeded, Follows, IsAt, IsAtNext, IsAtStage}
pub use Rattle.steps_condvar.specs.CondvarDeeds.{IsListed, MayReply, MayHearNotifying, MayHearWaiting}
pub use Rattle.steps_condvar.specs.CondvarDeeds.{after_condvar_deeds, condvar_deeds, notify_deeds}
pub use Rattle.steps_condvar.specs.CondvarDeeds.{relocked_deeds, wait_deeds, word_showing}
pub use Rattle.steps_condvar.specs.CondvarMoves.{MovesWaiters, row_at_mutex, row_at_condvar, there, there_then}
pub use Rattle.steps_condvar.specs.CondvarMutex.{FollowsAtMutex, MayGetReplyAtMutex, beside_deeds, will_bring}
pub use Rattle.steps_condvar.specs.CondvarMutex.{role_next}
pub use Rattle.steps_condvar.specs.CondvarProfiles.{carries_at_mutex, condvar_place_purpose, condvar_profile}
pub use Rattle.steps_condvar.specs.CondvarProfiles.{condvar_recalls, condvar_released, condvar_row, hand_of}
pub use Rattle.steps_condvar.specs.CondvarProfiles.{has_moved, has_mutex, has_released, is_listed}
pub use Rattle.steps_condvar.specs.CondvarProfiles.{is_main_line, is_moved, mutex_side, notify_carries}
pub use Rattle.steps_condvar.specs.CondvarProfiles.{notify_recalls, notify_row, section_in, taker_of}
pub use Rattle.steps_condvar.specs.CondvarProfiles.{wait_carries, wait_row, wants_at_mutex}
pub use Rattle.steps_condvar.specs.CondvarSteps.{comes_from_another, condvar_act, condvar_first}
pub use Rattle.steps_condvar.specs.CondvarSteps.{condvar_respin, condvar_next, condvar_owners, first_lock}
pub use Rattle.steps_condvar.specs.CondvarSteps.{in_lock, in_notify, in_wait, is_shown, look_next, marks}
pub use Rattle.steps_condvar.specs.CondvarSteps.{move_act, moved_one, mutex_beside, mutex_shown, next_notify}
pub use Rattle.steps_condvar.specs.CondvarSteps.{next_wait, notified, notify_act, past_release, release_next}
pub use Rattle.steps_condvar.specs.CondvarSteps.{released, relocked, shown_as, stands_after, wait_act}
pub use Rattle.steps_condvar.specs.CondvarWaits.{LeavesMutex, MayHearLocking, MayHearReleasing, MayHearWaiter}
pub use Rattle.steps_condvar.specs.CondvarWaits.{TakesFirst, WaiterFollows, itself_woken, unended}
pub use Rattle.steps_condvar.specs.CondvarWaits.{waiter_deeds, waiter_next}
pub use Rattle.steps_condvar.specs.declared.notify.NotifyAt.{NotifyAt}
pub use Rattle.steps_condvar.specs.declared.places.CondvarPlace.{CondvarPlace}
pub use Rattle.steps_condvar.specs.declared.places.CondvarPlace.TheVariants.{Look, Notify, Wait}
pub use Rattle.steps_condvar.specs.declared.wait.WaiterFate.{WaiterFate}
pub use Rattle.steps_condvar.specs.declared.wait.WaitAt.{WaitAt}
pub use Rattle.steps_mutex.proofs.HandOffRights.{got, neither}
pub use Rattle.steps_mutex.proofs.MutexCalls.{decides}
pub use Rattle.steps_mutex.proofs.MutexCode.{mutex_hand_overs_code, mutex_steps_code}
pub use Rattle.steps_mutex.proofs.MutexFit.{mutex_steps_follow}
pub use Rattle.steps_mutex.proofs.MutexRowCheck.{mutex_promises}
pub use Rattle.steps_mutex.proofs.MutexTells.{mutex_steps_tell}
pub use Rattle.steps_mutex.specs.MutexDeeds.{enter_deeds, lock_deeds, mutex_deeds, take_deeds}
pub use Rattle.steps_mutex.specs.MutexLaws.{HandsOverToHeir, heir, mutex_row, next_row}
pub use Rattle.steps_mutex.specs.MutexProfiles.{entry_purpose, inside, lock_row, mutex_late_line}
pub use Rattle.steps_mutex.specs.MutexProfiles.{mutex_profile}
pub use Rattle.steps_mutex.specs.MutexSteps.{hand_off_act, hand_off_word, in_hand_off, in_unlock, is_locked}
pub use Rattle.steps_mutex.specs.MutexSteps.{is_parked, lock_act, mutex_act, mutex_first, mutex_respin}
pub use Rattle.steps_mutex.specs.MutexSteps.{mutex_next, mutex_owners, mutex_right, next_hand_off, next_lock}
pub use Rattle.steps_mutex.specs.MutexSteps.{next_unlock, still_retries, unlock_act}
pub use Rattle.steps_mutex.specs.declared.hand_off.HandOffAt.{HandOffAt}
pub use Rattle.steps_mutex.specs.declared.lock.Entry.{Entry}
pub use Rattle.steps_mutex.specs.declared.lock.LockAt.{LockAt}
pub use Rattle.steps_mutex.specs.declared.lock.LockAt.TheVariants.{Accept, Asleep, Decide, First, Load}
pub use Rattle.steps_mutex.specs.declared.lock.LockAt.TheVariants.{Remove}
pub use Rattle.steps_mutex.specs.declared.places.MutexPlace.{MutexPlace}
pub use Rattle.steps_mutex.specs.declared.places.MutexPlace.TheVariants.{Lock, TryLock, Unlock, UnlockFair}
pub use Rattle.steps_mutex.specs.declared.places.TheConstants.{NOT_PARKED}
pub use Rattle.steps_mutex.specs.declared.unlock.UnlockAt.{UnlockAt}
pub use Rattle.steps_once.proofs.OnceActs.{once_acts_move, once_late_move, once_sleepers_move}
pub use Rattle.steps_once.proofs.OnceFit.{once_owners_follow, once_steps_code, once_steps_follow}
pub use Rattle.steps_once.proofs.OnceRowCheck.{once_promises}
pub use Rattle.steps_once.proofs.OnceTells.{once_sections_tell, once_steps_tell}
pub use Rattle.steps_once.proofs.OnceWords.{MayGo, coded, marked_is, may_go, started_is, unmarked_is, word}
pub use Rattle.steps_once.specs.OnceDeeds.{OnceSectionsFollow, closes, exchanged_deeds, looked_deeds}
pub use Rattle.steps_once.specs.OnceDeeds.{once_deeds, run_ending}
pub use Rattle.steps_once.specs.OnceMoves.{ClosureAnswers, OnceMoves, RestsAfter, TakesAll, once_hears}
pub use Rattle.steps_once.specs.OnceMoves.{once_move}
pub use Rattle.steps_once.specs.OnceProfiles.{look_row, once_profile, retried_want, run_row}
pub use Rattle.steps_once.specs.OnceSteps.{begins_run, check_of, closure_begun, course_act, course_of, ended}
pub use Rattle.steps_once.specs.OnceSteps.{give_up_act, in_give_up, in_look, in_run, is_forced}
pub use Rattle.steps_once.specs.OnceSteps.{is_late_asleep, is_run, is_timed, marked, next_give_up, next_look}
pub use Rattle.steps_once.specs.OnceSteps.{next_run, once_act, once_first, once_respin, once_next, run_act}
pub use Rattle.steps_once.specs.OnceSteps.{started, state_before, when_done, word_after}
pub use Rattle.steps_once.specs.declared.give_up.GiveUpAt.{GiveUpAt}
pub use Rattle.steps_once.specs.declared.look.Course.{Course}
pub use Rattle.steps_once.specs.declared.look.Course.TheVariants.{Ends, Marks}
pub use Rattle.steps_once.specs.declared.look.LookAt.{LookAt}
pub use Rattle.steps_once.specs.declared.places.OncePlace.{OncePlace}
pub use Rattle.steps_once.specs.declared.places.OncePlace.TheVariants.{GiveUp, Run}
pub use Rattle.steps_once.specs.declared.run.RunAt.{RunAt}
pub use Rattle.steps_rwlock.proofs.RwLockCallPlaces.{taken_goes, woken_goes}
pub use Rattle.steps_rwlock.proofs.RwLockMoves.{rwlock_acts_move}
pub use Rattle.steps_rwlock.proofs.RwLockStands.{aside_set, decides_to_park, rwlock_calls_stand}
pub use Rattle.steps_rwlock.specs.RwLockBegins.{admission_of_kind, has_access, rwlock_first}
pub use Rattle.steps_rwlock.specs.RwLockCalls.{DowngradesAt, HasDeadline, IsDecided, IsNoRefusal, MayBeTold}
pub use Rattle.steps_rwlock.specs.RwLockCalls.{MayStand, MayStandNext, ParksBy, StandsAt, WaitsIfBlocked}
pub use Rattle.steps_rwlock.specs.RwLockDeeds.{Admits, claimed, falls_back, parking_role, pends, role_at}
pub use Rattle.steps_rwlock.specs.RwLockDeeds.{rwlock_role, waking_role}
pub use Rattle.steps_rwlock.specs.RwLockMoves.{rwlock_hears, rwlock_move}
pub use Rattle.steps_rwlock.specs.RwLockProfiles.{before, carries_at, enters_late, gone_to, has_given_up}
pub use Rattle.steps_rwlock.specs.RwLockProfiles.{is_inside, is_mark, late_at, late_line_at, looking_at}
pub use Rattle.steps_rwlock.specs.RwLockProfiles.{owes_at, parked_hand, purpose_by, rwlock_late_line}
pub use Rattle.steps_rwlock.specs.RwLockProfiles.{rwlock_respin, rwlock_profile, stands_at, wants_for}
pub use Rattle.steps_rwlock.specs.RwLockSteps.{access_of, act_at, after_count, came_in, came_in_for, clears}
pub use Rattle.steps_rwlock.specs.RwLockSteps.{count_act, count_next, decided, decided_act, decided_for}
pub use Rattle.steps_rwlock.specs.RwLockSteps.{decision, decision_blocked, ends_with, entered, exchange}
pub use Rattle.steps_rwlock.specs.RwLockSteps.{exchanged_next, from_of, gave_way, gave_way_by, give_op}
pub use Rattle.steps_rwlock.specs.RwLockSteps.{is_counted, looked_by, looks_again, missed, next_at, park_act}
pub use Rattle.steps_rwlock.specs.RwLockSteps.{park_check, park_next, park_or_mark, parks_at, patience_at}
pub use Rattle.steps_rwlock.specs.RwLockSteps.{patience_of, plus, rollback_op, rolled_back, rwlock_act}
pub use Rattle.steps_rwlock.specs.RwLockSteps.{rwlock_next, start_of, to_of, unparked, wake_act, wake_next}
pub use Rattle.steps_rwlock.specs.RwLockSteps.{wakes_or_ends, want_at, wanted, whom, word_taken}
pub use Rattle.steps_rwlock.specs.declared.enter.Decision.{Decision}
pub use Rattle.steps_rwlock.specs.declared.park.ParkAt.{ParkAt}
pub use Rattle.steps_rwlock.specs.declared.places.Admission.{Admission}
pub use Rattle.steps_rwlock.specs.declared.places.RwLockAt.{RwLockAt}
pub use Rattle.steps_rwlock.specs.declared.places.RwLockPlace.{RwLockPlace}
pub use Rattle.steps_rwlock.specs.declared.purposes.RwLockPurpose.{RwLockPurpose}
pub use Rattle.steps_rwlock.specs.declared.release.WakeAt.{WakeAt}
pub use Rattle.steps_rwlock_fair.proofs.FairActs.{fair_acts_move, fair_late_moves, fair_sleepers_move}
pub use Rattle.steps_rwlock_fair.proofs.FairCallTells.{fair_sections_tell, fair_steps_tell}
pub use Rattle.steps_rwlock_fair.proofs.FairCodes.{fair_steps_code}
pub use Rattle.steps_rwlock_fair.proofs.FairFit.{fair_steps_follow}
pub use Rattle.steps_rwlock_fair.proofs.FairGives.{bump_keeps, fair_releases_give, handed_keeps, plain_keeps}
pub use Rattle.steps_rwlock_fair.proofs.FairMoves.{hand_overs_move, handed_move}
pub use Rattle.steps_rwlock_fair.proofs.FairOpenings.{calls_open}
pub use Rattle.steps_rwlock_fair.proofs.FairOwners.{fair_owners_follow, givers_keep}
pub use Rattle.steps_rwlock_fair.proofs.FairSections.{fair_sections_follow}
pub use Rattle.steps_rwlock_fair.proofs.FairSleepers.{fair_looks_stand, fair_sleepers_hear, never_given}
pub use Rattle.steps_rwlock_fair.proofs.FairStands.{StaysFor, fair_calls_stand, stays_for}
pub use Rattle.steps_rwlock_fair.proofs.FairTells.{hand_overs_tell}
pub use Rattle.steps_rwlock_fair.proofs.HandOverCodes.{hand_overs_code}
pub use Rattle.steps_rwlock_fair.proofs.HandOverFit.{hand_overs_follow}
pub use Rattle.steps_rwlock_fair.specs.FairBegins.{call_first, call_right, release_first}
pub use Rattle.steps_rwlock_fair.specs.FairCalls.{CallMayBeTold, CallMayHear, CallStands, CallStandsNext}
pub use Rattle.steps_rwlock_fair.specs.FairCalls.{HandsOverAt, HasInHand, IsInCall, IsNamed, IsOfBump}
pub use Rattle.steps_rwlock_fair.specs.FairCalls.{WaitsWithPatience, in_hand_of}
pub use Rattle.steps_rwlock_fair.specs.FairDeeds.{call_deeds, call_role, call_role_next, claim_at}
pub use Rattle.steps_rwlock_fair.specs.FairDeeds.{handing_deeds}
pub use Rattle.steps_rwlock_fair.specs.FairGives.{IsToGive}
pub use Rattle.steps_rwlock_fair.specs.FairLaws.{CallOpens, CallTells, StandsToHandOver, next_rows}
pub use Rattle.steps_rwlock_fair.specs.FairLaws.{with_claim}
pub use Rattle.steps_rwlock_fair.specs.FairMoves.{CallMoves, CallWaits, call_hears, call_move}
pub use Rattle.steps_rwlock_fair.specs.FairProfiles.{bump_former, bump_released, bumping, call_late_line}
pub use Rattle.steps_rwlock_fair.specs.FairProfiles.{call_respin, call_profile, carries_taken, has_given}
pub use Rattle.steps_rwlock_fair.specs.FairProfiles.{in_call, release_purpose}
pub use Rattle.steps_rwlock_fair.specs.FairSteps.{accept_act, any_taken, bump_ended, bump_next, call_act}
pub use Rattle.steps_rwlock_fair.specs.FairSteps.{call_next, call_owners, call_shares, entering, enters_again}
pub use Rattle.steps_rwlock_fair.specs.FairSteps.{exchange_act, freed_next, given, gives_up_at, gives_way}
pub use Rattle.steps_rwlock_fair.specs.FairSteps.{glance_next, glances, hand_over_act, hand_over_next}
pub use Rattle.steps_rwlock_fair.specs.FairSteps.{handed_act, handed_by, handed_next, handed_woken, has_room}
pub use Rattle.steps_rwlock_fair.specs.FairSteps.{looked, note_by, parked_as, plain_next, tokens, took}
pub use Rattle.steps_rwlock_fair.specs.FairSteps.{unless_given, with_taken, woken_with, word_without}
pub use Rattle.steps_rwlock_fair.specs.declared.hand_over.HandOverAt.{HandOverAt}
pub use Rattle.steps_rwlock_fair.specs.declared.handed.HandedAt.{HandedAt}
pub use Rattle.steps_rwlock_fair.specs.declared.places.RwLockCallPlace.{RwLockCallPlace}
pub use Rattle.steps_rwlock_fair.specs.declared.places.RwLockCallPlace.TheVariants.{Bump, PeekQueue, HandOver}
pub use Rattle.steps_rwlock_fair.specs.declared.places.RwLockCallPlace.TheVariants.{Handed, Plain}
pub use Rattle.steps_semaphore.proofs.SemaphoreCode.{semaphore_steps_code}
pub use Rattle.steps_semaphore.proofs.SemaphoreFit.{semaphore_steps_follow}
pub use Rattle.steps_semaphore.proofs.SemaphoreRowCheck.{semaphore_promises}
pub use Rattle.steps_semaphore.proofs.SemaphoreTells.{semaphore_steps_tell}
pub use Rattle.steps_semaphore.proofs.TendedKept.{nobody_forgotten, one_keeps, same_sharers}
pub use Rattle.steps_semaphore.specs.SemaphoreDeeds.{semaphore_deeds}
pub use Rattle.steps_semaphore.specs.SemaphoreLaws.{LeavesWord, semaphore_role}
pub use Rattle.steps_semaphore.specs.SemaphoreProfiles.{patience, semaphore_late_line, semaphore_profile}
pub use Rattle.steps_semaphore.specs.SemaphoreSteps.{acquire_act, acquired, in_acquire, in_release, in_try}
pub use Rattle.steps_semaphore.specs.SemaphoreSteps.{is_free, next_acquire, next_release, next_try}
pub use Rattle.steps_semaphore.specs.SemaphoreSteps.{release_act, semaphore_act, semaphore_first}
pub use Rattle.steps_semaphore.specs.SemaphoreSteps.{semaphore_respin, semaphore_next, semaphore_right}
pub use Rattle.steps_semaphore.specs.SemaphoreSteps.{try_act}
pub use Rattle.steps_semaphore.specs.PermitInvariant.{IsTended, semaphore}
pub use Rattle.steps_semaphore.specs.declared.acquire.AcquireAt.{AcquireAt}
pub use Rattle.steps_semaphore.specs.declared.places.SemaphorePlace.{SemaphorePlace}
pub use Rattle.steps_semaphore.specs.declared.places.SemaphorePlace.TheVariants.{Acquire, Release}
pub use Rattle.steps_semaphore.specs.declared.release.ReleaseAt.{ReleaseAt}
pub use Rattle.steps_semaphore.specs.declared.tries.TryAt.{TryAt}
-- Places of calls.
pub use Rattle.lot_steps.specs.Steps.{act_of, beside_of, called_lock, calls, condvar_does, condvar_goes}
pub use Rattle.lot_steps.specs.Steps.{first_place, has_right, in_condvar, in_mutex, in_once, in_rwlock}
pub use Rattle.lot_steps.specs.Steps.{in_semaphore, is_idle, is_lock, key_in, late_key, line_owed}
pub use Rattle.lot_steps.specs.Steps.{respins_from}
pub use Rattle.lot_steps.specs.Steps.{mutex_does, mutex_goes, next_act, next_place, once_does, once_goes}
pub use Rattle.lot_steps.specs.Steps.{or_else, owners_after, profile, profile_at, profile_at_mutex, retries_on}
pub use Rattle.lot_steps.specs.Steps.{rwlock_does, rwlock_goes, semaphore_does, semaphore_goes, shares_after}
pub use Rattle.lot_steps.specs.Steps.{taker, wants}
pub use Rattle.lot_steps.specs.declared.places.Place.{Place}
pub use Rattle.lot_steps.specs.declared.places.Place.TheVariants.{Condvar, Idle, Mutex, Once, RwLock}
pub use Rattle.lot_steps.specs.declared.places.Place.TheVariants.{Semaphore}
-- The machine.
pub use Rattle.lot_machine.proofs.Acted.{Befalls, acted_keeps, tells}
pub use Rattle.lot_machine.proofs.Closures.{IsOwn, call_own, call_runs_none, course_own, mutex_own}
pub use Rattle.lot_machine.proofs.Closures.{mutex_runs_none, runs_one, semaphore_own, semaphore_runs_none}
pub use Rattle.lot_machine.proofs.KindsStay.{set_all}
pub use Rattle.lot_machine.proofs.Looks.{IsLook, look, mutex_looks}
pub use Rattle.lot_machine.proofs.NewLocks.{few_permits, new_words}
pub use Rattle.lot_machine.proofs.Opening.{empty_at, idle_at, no_readers, nobody_owns, none_at}
pub use Rattle.lot_machine.proofs.Opening.{opening_shares}
pub use Rattle.lot_machine.proofs.QueueLemmas.{told_count}
pub use Rattle.lot_machine.proofs.Shape.{after_size, after_well_formed, both, closed_fits}
pub use Rattle.lot_machine.proofs.Shape.{looking_well_formed, main_key_there, main_line_there}
pub use Rattle.lot_machine.proofs.Shape.{opening_well_formed, performed_counts, put_well_formed}
pub use Rattle.lot_machine.proofs.ShareLemmas.{given_count}
pub use Rattle.lot_machine.proofs.Suits.{Suits, call_suits}
pub use Rattle.lot_machine.specs.Fits.{GivesUpTimed, IsOfItsKind, IsThere, IsWellFormed, PlaceFits, SameSize}
pub use Rattle.lot_machine.specs.Fits.{ShowsPlainMutex}
pub use Rattle.lot_machine.specs.Machine.{SoloEnd, State, after, after_steps, alone_after, are_free}
pub use Rattle.lot_machine.specs.Machine.{can_begin, can_close, can_do, can_go, can_turn, close_outcome}
pub use Rattle.lot_machine.specs.Machine.{closed_place, filled_at, first_word, go_of, go_outcome, go_reply}
pub use Rattle.lot_machine.specs.Machine.{going_outcome, hand_over_told, held, held_by, holds_right}
pub use Rattle.lot_machine.specs.Machine.{is_free_under, is_open_to, is_possible, is_there, kind_at}
pub use Rattle.lot_machine.specs.Machine.{left_in_line, listed, look_outcome, moved_threads, moved_under}
pub use Rattle.lot_machine.specs.Machine.{names_mutex_there, opening, owners_at, owners_handed_over}
pub use Rattle.lot_machine.specs.Machine.{owners_of_successor, owners_with_pending, place_after_telling}
pub use Rattle.lot_machine.specs.Machine.{place_at, places_told, put, queue_at, queues_with_last}
pub use Rattle.lot_machine.specs.Machine.{queues_without, queues_without_first, reply_to, reply_to_take}
pub use Rattle.lot_machine.specs.Machine.{runs_closure, section_at, section_is_free, share_at}
pub use Rattle.lot_machine.specs.Machine.{sharers_in_hand, shares_at, shares_given, shares_handed_over}
pub use Rattle.lot_machine.specs.Machine.{shares_in_hand, shares_with, state_after_act, state_after_begin}
pub use Rattle.lot_machine.specs.Machine.{state_after_close, state_after_go, state_after_going}
pub use Rattle.lot_machine.specs.Machine.{state_after_hand_over, state_after_hand_over_by}
pub use Rattle.lot_machine.specs.Machine.{state_after_late_on, state_after_late_under, state_after_leave}
pub use Rattle.lot_machine.specs.Machine.{state_after_look, state_after_operation, state_after_park}
pub use Rattle.lot_machine.specs.Machine.{state_after_reply, state_after_requeue, state_after_take}
pub use Rattle.lot_machine.specs.Machine.{state_after_take_first, state_after_taking, state_after_telling}
pub use Rattle.lot_machine.specs.Machine.{state_after_turn, state_after_wake, state_with_sections}
pub use Rattle.lot_machine.specs.Machine.{step_outcome, step_outcomes, successor_from, successor_or}
pub use Rattle.lot_machine.specs.Machine.{turn_outcome, unlocked, unshared_then, want_of_successor}
pub use Rattle.lot_machine.specs.Machine.{wants_more_in_hand, with_share, word_at}
unfoldable pub use Rattle.lot_machine.specs.Machine.{solo}
pub use Rattle.lot_machine.specs.NewLocks.{new_site}
pub use Rattle.lot_machine.specs.declared.hands.Successor.{Successor}
-- What contracts of this crate cite.
pub use Rattle.lot_laws.specs.Fair.{FairReleaseComesTo, GivesUpFairly, HandsMutexOver, IsFair, IsFairRelease}
pub use Rattle.lot_laws.specs.Fair.{IsToGiveAt, LetsMutexGo, OwnerReleasesFairly, OwnsOn}
pub use Rattle.lot_laws.specs.Laws.{FairUnlockHandsOver, NoWaiterIsForgotten, NobodyIsPassedOver, forgotten}
pub use Rattle.lot_laws.specs.Laws.{row, row_told, three}
pub use Rattle.lot_laws.specs.Locations.{location, location_at, nowhere, role_on}
pub use Rattle.lot_laws.specs.MutexPromises.{GoesToRelease, HasDebtor, HasReleasedIt, IsMutexKept}
pub use Rattle.lot_laws.specs.MutexPromises.{IsMutexWord, IsShownToOwe, MutexesAreKept, MutexesOwe}
pub use Rattle.lot_laws.specs.MutexPromises.{OwesMutexSince, SeesParkedBit, WakesOne}
pub use Rattle.lot_laws.specs.Overtaking.{FairlyThroughout, IsGivenUpFairly, NobodyIsOvertaken}
pub use Rattle.lot_laws.specs.Overtaking.{StandsThroughout, new_owners, newly_owned}
pub use Rattle.lot_laws.specs.Owing.{GivesWayWhileSomeWait, IsInside, IsWait, LetsMoreIn, LetsOthersIn}
pub use Rattle.lot_laws.specs.Owing.{LooksFirst, OnlyLooks, Owes, OwesSince, ReleasesLock, SeesWaiters}
pub use Rattle.lot_laws.specs.Owing.{TakesNext, line_let_in, sort_at, tells_by, tells_of}
pub use Rattle.lot_laws.specs.Promises.{AreLookedAfterIn, GoesToWake, HasOrPends, IsAboutToMark, IsDebtorOf}
pub use Rattle.lot_laws.specs.Promises.{IsHandedOverIn, IsKept, IsLookedAfterIn, IsOpenNow, IsOwedWake}
pub use Rattle.lot_laws.specs.Promises.{IsToMark, IsTry, IsWaitingCall, LeadsToSleep, SetsBit}
pub use Rattle.lot_laws.specs.Promises.{ShowsItsWaiters, WaitHasReleased, WaitsFor, WakesWaiters}
pub use Rattle.lot_laws.specs.Promises.{WasNeverFull, holder, mutex_seen, want_of}
pub use Rattle.lot_laws.specs.Refinement.{ChangesOneThing, RunsClosure, before_entry, call_at, call_on}
pub use Rattle.lot_laws.specs.Refinement.{call_on_both, call_state, is_bump, keys_entered, lock_seen}
pub use Rattle.lot_laws.specs.Refinement.{lock_state, locks_of, mutex_call_state, owner_at, sleeps, stance_by}
pub use Rattle.lot_laws.specs.Refinement.{stance_of, taken_at}
pub use Rattle.lot_laws.specs.SitesOf.{ActsNeeded, AllAreWaiting, AllBy, AreCondvars, AreCounted}
pub use Rattle.lot_laws.specs.SitesOf.{AreFairMutexes, AreUnmarked, AreWaiting, FitsCondvar, FitsItsLock}
pub use Rattle.lot_laws.specs.SitesOf.{FollowAll, Goes, GoesAll, Hands, HandsBy, IsCountOfHand, IsFairMutex}
pub use Rattle.lot_laws.specs.SitesOf.{IsInductive, IsSettled, IsWorld, LateIsTimed, LimitHasRoom, Lines}
pub use Rattle.lot_laws.specs.SitesOf.{RunsInClosures, SameNumbers, Sections, SiteFollows, TakesOne}
pub use Rattle.lot_laws.specs.SitesOf.{after_acts, carried_at, condvar_of, hand_at, inside_as, is_mutex}
pub use Rattle.lot_laws.specs.SitesOf.{key_of, locations_of, rules_in, site_of, stage_or, stood_in}
pub use Rattle.lot_laws.specs.Solo.{BumpGivesWay, BumpsAlone, BumpsShared, ComesBack, CondvarWaitsAlone}
pub use Rattle.lot_laws.specs.Solo.{ConvertsAlone, EndsAlone, EntersAlone, EntersSection, GoesOnUntil}
pub use Rattle.lot_laws.specs.Solo.{HasLine, HasMainLine, HasWhatItReads, IsBarred, IsOnly, IsSoloRun}
pub use Rattle.lot_laws.specs.Solo.{IsUnderWay, IsUnobstructed, MayEnterAtOnce, MayEnterOf, NeedsNoWay}
pub use Rattle.lot_laws.specs.Solo.{NotifiesAlone, OnlyTries, ReleasesAlone, EndsOrSleeps, SleepsLast, WaitsAlone}
pub use Rattle.lot_laws.specs.Solo.{WaitsForReaders, entered_answer, last_told, locks_afterwards}
pub use Rattle.lot_laws.specs.Solo.{mutex_to_come, successor}
pub use Rattle.lot_laws.specs.ThreadDeeds.{acts, begin_deed, claims_of, mutex_location, mutex_role, queued}
pub use Rattle.lot_laws.specs.WorldRuns.{IsWorldRun, IsWorldStep, KeepsWordsAndQueues, LooksNoMore}
pub use Rattle.lot_laws.specs.WorldRuns.{SleepersStay, Tells, TouchesOnlyByGoing, TriesAtOnce, states_of}
pub use Rattle.lot_laws.specs.WorldRuns.{tried}
