-- Before the first turn, `show` or `drain` all lines declare threads and locks.
use Rattle.std.proofs.Common.{inl, inr, ◌≡◌, ℕ, ◌≤◌, Bool, true, false, cond, List, [], ◌∷◌, ◌++◌, Option}
use Rattle.std.proofs.Common.{None, Some, length, refl, ap, sym, subst, arith, length-append}
use Rattle.std.proofs.lemmas.List.Elements.{All-nil, All-push}
use Rattle.std.specs.Prelude.{All, ◌&&◌, nat_le, option_map, option_and_then}
use Rattle.spec_locks.specs.declared.kinds.Kind.{Kind}
use Rattle.lot_machine.specs.Machine.{State, after_steps, opening}
use Rattle.lot_text.specs.Lines.{line_len}
use Rattle.lot_text.specs.Grammar.{meaning}
use Rattle.lot_text.specs.declared.grammar.Command.{Command}
use Rattle.lot_text.specs.declared.grammar.Command.TheVariants as command
use Rattle.lot_replay.specs.declared.actions.Action.{Action}
use Rattle.lot_world.specs.Drainable.{is_drainable}
use Rattle.lot_world.specs.Schedules.{schedule_of}
use Rattle.lot_replay.specs.Drains.{drain_lines}
use Rattle.lot_text.specs.Steps.{drain_refused_line}
use Rattle.lot_replay.specs.Stages.{ReplayStage, nothing, declaring, running, done_by, action_of, acted}
use Rattle.lot_replay.specs.Stages.{played, may_declare, obeyed, after_line}
use Rattle.lot_replay.specs.Answers.{MayTakeMemory}
use Rattle.lot_replay.specs.Replay.{Declares, MayLackMemory, is_declaration}

-- tells what the lines so far are at a stage
abbrev pub StillDeclares : ReplayStage → List (List ℕ) → Type 0
StillDeclares nothing done = done ≡ []
StillDeclares (declaring threads names kinds) done = All Declares done × (1 ≤ length done)
StillDeclares (running names w) done = 1 ≤ length done

none_some : (s : ReplayStage) (t : List ℕ) → ◌≡◌ {A = Option (ReplayStage × List ℕ)} None (Some (s, t)) → ⊥
none_some s t e = cc

same_stage : (s u : ReplayStage) (t v : List ℕ) → ◌≡◌ {A = Option (ReplayStage × List ℕ)} (Some (s, t))
    (Some (u, v)) → s ≡ u
same_stage s u t v e = let p : ◌≡◌ {A = ReplayStage × List ℕ} (s, t) (u, v) = cc
    in ap (λ (x : ReplayStage × List ℕ). x.0) p

-- one choice of two
chosen : (b : Bool) (s next : ReplayStage) (u t : List ℕ) → ◌≡◌ {A = Option (ReplayStage × List ℕ)}
    (cond b (Some (s, u)) None) (Some (next, t)) → s ≡ next
chosen true s next u t e = same_stage s next u t e
chosen false s next u t e = absurd (none_some next t e)

runs_on : (names : List (List ℕ)) (w : State) (next : ReplayStage) (done : List (List ℕ)) → 1 ≤ length done
    → running names w ≡ next → StillDeclares next done
runs_on names w next done some e = subst (λ s. StillDeclares s done) e some

acts_on : (names : List (List ℕ)) (w : State) (u : ℕ) (o : Option Action) (next : ReplayStage) (t : List ℕ)
    (done : List (List ℕ)) → 1 ≤ length done → option_map (acted names w u) o ≡ Some (next, t)
    → StillDeclares next done
acts_on names w u None next t done some e = absurd (none_some next t e)
acts_on names w u (Some a) next t done some e = runs_on names (done_by w u a).0 next done some
    (same_stage (acted names w u a).0 next (acted names w u a).1 t e)

drains_on : (b : Bool) (names : List (List ℕ)) (w : State) (next : ReplayStage) (t : List ℕ)
    (done : List (List ℕ)) → 1 ≤ length done
    → ◌≡◌ {A = Option (ReplayStage × List ℕ)}
    (Some (cond b (running names (after_steps w (schedule_of w)), drain_lines names (schedule_of w))
    (running names w, drain_refused_line))) (Some (next, t)) → StillDeclares next done
drains_on true names w next t done some e = runs_on names (after_steps w (schedule_of w)) next done some
    (same_stage (running names (after_steps w (schedule_of w))) next (drain_lines names (schedule_of w)) t e)
drains_on false names w next t done some e = runs_on names w next done some
    (same_stage (running names w) next drain_refused_line t e)

plays_on : (names : List (List ℕ)) (w : State) (c : Command) (next : ReplayStage) (t : List ℕ)
    (done : List (List ℕ)) → 1 ≤ length done → played names w c ≡ Some (next, t) → StillDeclares next done
plays_on names w (command.Turn u turn) next t done some e =
    acts_on names w u (action_of names w turn) next t done some e
plays_on names w command.Show next t done some e = runs_on names w next done some
    (same_stage (running names w) next _ t e)
plays_on names w command.Drain next t done some e = drains_on (is_drainable w) names w next t done
    some e
plays_on names w (command.Threads n) next t done some e = absurd (none_some next t e)
plays_on names w (command.Lock name kind) next t done some e = absurd (none_some next t e)

one_more : (done : List (List ℕ)) (line : List ℕ) → 1 ≤ length (done ++ line ∷ [])
one_more done line = omega (arith, length-append done (line ∷ []))

declares_on : (threads : ℕ) (names : List (List ℕ)) (kinds : List Kind) (next : ReplayStage) (line : List ℕ)
    (done : List (List ℕ)) → declaring threads names kinds ≡ next → All Declares done → Declares line
    → StillDeclares next (done ++ line ∷ [])
declares_on threads names kinds next line done e h d = subst (λ s. StillDeclares s (done ++ line ∷ [])) e
    (All-push Declares done line h d, one_more done line)

obeys_on : (s : ReplayStage) (c : Command) (next : ReplayStage) (t line : List ℕ) (done : List (List ℕ))
    → meaning line ≡ Some c → obeyed s c ≡ Some (next, t) → StillDeclares s done
    → StillDeclares next (done ++ line ∷ [])
obeys_on nothing (command.Threads n) next t line done m e h = declares_on n [] [] next line done
    (chosen (nat_le 1 n && nat_le n 1024) (declaring n [] []) next [] t e)
    (subst (All Declares) (sym h) (All-nil Declares)) (ap is_declaration m)
obeys_on nothing (command.Lock name kind) next t line done m e h = absurd (none_some next t e)
obeys_on nothing (command.Turn u turn) next t line done m e h = absurd (none_some next t e)
obeys_on nothing command.Show next t line done m e h = absurd (none_some next t e)
obeys_on nothing command.Drain next t line done m e h = absurd (none_some next t e)
obeys_on (declaring threads names kinds) (command.Lock name kind) next t line done m e h =
    declares_on threads (names ++ name ∷ []) (kinds ++ kind ∷ []) next line done
    (chosen (may_declare threads names kind name) (declaring threads (names ++ name ∷ []) (kinds ++ kind
    ∷ [])) next [] t e) h.0 (ap is_declaration m)
obeys_on (declaring threads names kinds) (command.Threads n) next t line done m e h =
    absurd (none_some next t e)
obeys_on (declaring threads names kinds) (command.Turn u turn) next t line done m e h =
    plays_on names (opening kinds threads) (command.Turn u turn) next t (done ++ line ∷ [])
    (one_more done line) e
obeys_on (declaring threads names kinds) command.Show next t line done m e h =
    plays_on names (opening kinds threads) command.Show next t (done ++ line ∷ [])
    (one_more done line) e
obeys_on (declaring threads names kinds) command.Drain next t line done m e h =
    plays_on names (opening kinds threads) command.Drain next t (done ++ line ∷ [])
    (one_more done line) e
obeys_on (running names w) c next t line done m e h = plays_on names w c next t (done ++ line ∷ [])
    (one_more done line) e

means_on : (b : Bool) (o : Option Command) (s next : ReplayStage) (t line : List ℕ) (done : List (List ℕ))
    → meaning line ≡ o → ◌≡◌ {A = Option (ReplayStage × List ℕ)} (cond b (option_and_then (obeyed s) o) None)
    (Some (next, t)) → StillDeclares s done → StillDeclares next (done ++ line ∷ [])
means_on true (Some c) s next t line done m e h = obeys_on s c next t line done m e h
means_on true None s next t line done m e h = absurd (none_some next t e)
means_on false o s next t line done m e h = absurd (none_some next t e)

-- a line more
pub still_declares : (s next : ReplayStage) (t line : List ℕ) (done : List (List ℕ)) → after_line s line
    ≡ Some (next, t) → StillDeclares s done → StillDeclares next (done ++ line ∷ [])
still_declares s next t line done = means_on (nat_le (length line) line_len) (meaning line) s next t line done
    refl

-- memory is taken at a `drain`, or where all lines before declare; and there is a line before
pub lacked_before : (s : ReplayStage) (line : List ℕ) (done : List (List ℕ)) → MayTakeMemory (meaning line) s
    → StillDeclares s done → MayLackMemory done line × (1 ≤ length done)
lacked_before nothing line done m h = absurd m
lacked_before (declaring threads names kinds) line done m h = (inl h.0, h.1)
lacked_before (running names w) line done m h = (inr m, h)
