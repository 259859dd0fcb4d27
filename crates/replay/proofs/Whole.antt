-- No step is lost for want of room: where list and page have room for every network that the store can hold, every command that changes something and every move of a D is
-- shown by its whole step (`command-whole`, `move-whole`); and whatever room there is, a step lies within the page. Order: a step within the page; a whole
-- step; the words that are shown are a network, and as many as before; the theorems. Assumes nothing.
use Rattle.std.specs.Prelude.{◌≡◌, refl, Bool, true, false, ◌||◌, ◌⊎◌, List, [], ◌∷◌, ℕ, ◌≤◌, ltb, length, replicate}
use Rattle.std.proofs.Common.{ap, sym, ◌∙◌, true≢false, inl, inr, arith, eq-eqb, ne_eqb, eqb-true, le-ltb, ltb-false}
use Rattle.std.proofs.Math.Decide.{ℕ_discrete}
use Rattle.std.proofs.lemmas.List.{length-replicate}
use Rattle.network.specs.Sizes.{shape_of, sized}
use Rattle.network.specs.Layout.{shape}
use Rattle.network.specs.Refusals.{network_refusal, move_refusal, move_rules}
use Rattle.network.proofs.RefusalLaws.{neither, not-refused, else_by-zero}
use Rattle.network.specs.Calls.{move_of, unless_refused, drain_words}
use Rattle.network.specs.Run.{move, drain, outcome, run, Demand3}
use Rattle.run.specs.Theorem.{demand3}
use Rattle.run.specs.Reached.{make-passes, make-length, offer-passes, offer-length}
use Rattle.sheet.specs.declared.Command.{Command}
use Rattle.session.specs.Session.{perform}
use Rattle.waveform.specs.Dump.{variables_of}
use Rattle.waveform.proofs.DumpLaws.{variables-words}
use Rattle.waveform.proofs.Lengths.{step_room}
use Rattle.waveform.specs.Calls.{written_step, write_rules, write_refusal, write_answer, write_list, write_page, written_length}
use Rattle.waveform.proofs.StepAnswers.{write-tells}
use Rattle.replay.specs.Replay.{shown, step_shown, shown_if, carried_out, changed, begins_dump, command_shown, one_word, moved_on, makes_move, move_shown}
use Rattle.replay.specs.ReplayLaws.{NoMoveMade, NextMoveMade}
use Rattle.replay.proofs.ReplayLaws.{move-told}
use Rattle.replay.specs.Whole.{Roomy, whole_step}

-- a step that is not refused has its place on the page
neither-test : (a b : Bool) → (a || b) ≡ false → b ≡ false
neither-test true b e = absurd (true≢false e)
neither-test false b e = e

step_fits : (first : Bool) (w list page : List ℕ) → write_refusal first w list page ≡ 0 → length (written_step first w list) ≤ length page
unfolding write_refusal write_rules
step_fits first w list page z =
    ltb-false (length page) (length (written_step first w list))
    (neither-test (ltb (length list) (variables_of (shape w))) (ltb (length page) (length (written_step first w list)))
    (not-refused _ _ 0 (neither (network_refusal w) (write_rules first w list page) z).1).0)

pub step-within : (first : Bool) (w list page : List ℕ) → (step_shown first w list page).bytes ≤ length page
unfolding step_shown
step-within first w list page = rw (write-tells first w list page).bytes (go (ℕ_discrete (write_refusal first w list page) 0))
  where
    go : Dec (write_refusal first w list page ≡ 0) → unless_refused (write_refusal first w list page) (length (written_step first w list)) 0 ≤ length page
    go (yes z) = rw (eq-eqb (write_refusal first w list page) 0 z) (step_fits first w list page z)
    go (no ne) = rw (ne_eqb (write_refusal first w list page) 0 ne) (omega arith)

pub shown-within : (changed first : Bool) (w list page : List ℕ) → (shown_if changed first w list page).bytes ≤ length page
unfolding shown_if
shown-within true first w list page = step-within first w list page
shown-within false first w list page = omega arith

-- a step is shown where something has changed, and only there
pub shown-some : (changed first : Bool) (w list page : List ℕ) → changed ≡ true → step_shown first w list page ≡ shown_if changed first w list page
unfolding shown_if
shown-some changed first w list page t = rw t refl

pub shown-none : (changed first : Bool) (w list page : List ℕ) → changed ≡ false → shown 0 list page ≡ shown_if changed first w list page
unfolding shown_if
shown-none changed first w list page f = rw f refl

never-short : (words : ℕ) (first : Bool) (w list page : List ℕ) → Roomy words list page → length w ≤ words → network_refusal w ≡ 0 → write_refusal first w list page ≡ 0
unfolding write_refusal write_rules
never-short words first w list page r h z =
    let most = variables-words w z in
    let room = step_room first w list z in
    let a = r.fills in
    let b = r.bytes in
    let l : ltb (length list) (variables_of (shape w)) ≡ false = le-ltb (length list) (variables_of (shape w)) (omega arith) in
    let p : ltb (length page) (length (written_step first w list)) ≡ false = le-ltb (length page) (length (written_step first w list)) (omega arith) in
    else_by-zero (network_refusal w) (write_rules first w list page) z ∙ rw (l, p) refl

step-whole : (words : ℕ) (first : Bool) (w list page : List ℕ) → Roomy words list page → length w ≤ words → network_refusal w ≡ 0 → step_shown first w list page ≡ whole_step first w list page
unfolding step_shown whole_step write_answer write_list write_page written_length
step-whole words first w list page r h z = rw (eq-eqb (write_refusal first w list page) 0 (never-short words first w list page r h z)) refl

-- what a command leaves that changed something, or a move of a D, is a network
pub moved-network : (w : List ℕ) (n q o : ℕ) → move_refusal w n q o ≡ 0 → network_refusal w ≡ 0
unfolding move_refusal
moved-network w n q o z = (neither (network_refusal w) (move_rules (shape w) w n q o) z).0

move-passes : (w : List ℕ) (n q o : ℕ) → move_refusal w n q o ≡ 0 → network_refusal (perform (Command.Move n q o) w).store ≡ 0
unfolding perform run outcome Demand3
move-passes w n q o z = (demand3 w (move (move_of n q o) ∷ []) (moved-network w n q o z)).still-a-network

changed-passes : (c : Command) (w : List ℕ) → changed c w ≡ true → network_refusal (carried_out c w) ≡ 0
unfolding changed carried_out perform shape_of
changed-passes (Command.Make x y z e a j) w t = make-passes (shape_of (sized x y z e a j)) w refl (eqb-true _ 0 t)
changed-passes (Command.Offer node destination tag chunks) w t = offer-passes w node destination tag chunks (eqb-true _ 0 t)
changed-passes (Command.Move node queue output) w t = move-passes w node queue output (eqb-true _ 0 t)
changed-passes (Command.Drain budget) w t = absurd (true≢false (sym t))
changed-passes Command.Bad w t = absurd (true≢false (sym t))

moved_passes : (w : List ℕ) (room : ℕ) → makes_move w room ≡ true → network_refusal (moved_on w room) ≡ 0
moved_passes w room t = by (move-told w room)
  where
    by : NoMoveMade w room ⊎ NextMoveMade w room → network_refusal (moved_on w room) ≡ 0
    by (inl s) = absurd (true≢false (sym t ∙ s.none))
    by (inr g) = g.passes

-- the store stays as long as it was
changed-length : (c : Command) (w : List ℕ) → changed c w ≡ true → length (carried_out c w) ≡ length w
unfolding changed carried_out perform shape_of run outcome Demand3
changed-length (Command.Make x y z e a j) w t = make-length (shape_of (sized x y z e a j)) w refl (eqb-true _ 0 t)
changed-length (Command.Offer node destination tag chunks) w t = offer-length w node destination tag chunks (eqb-true _ 0 t)
changed-length (Command.Move node queue output) w t = (demand3 w (move (move_of node queue output) ∷ []) (moved-network w node queue output (eqb-true _ 0 t))).same_length
changed-length (Command.Drain budget) w t = refl
changed-length Command.Bad w t = refl

moved_length : (w : List ℕ) (room : ℕ) → length (moved_on w room) ≡ length w
unfolding moved_on drain_words run outcome Demand3
moved_length w room = go (ℕ_discrete (network_refusal w) 0)
  where
    go : Dec (network_refusal w ≡ 0) → length (moved_on w room) ≡ length w
    go (yes z) =
        ap (λ (k : ℕ). length (drain_words w 1 k)) (sym (length-replicate (one_word room) 0))
        ∙ (demand3 w (drain 1 (replicate (one_word room) 0) ∷ []) z).same_length
    go (no ne) = rw (ne_eqb (network_refusal w) 0 ne) refl

-- the theorems, for a store of so many words
pub command-whole : (words : ℕ) (c : Command) (w list page : List ℕ) → Roomy words list page → length w ≤ words → changed c w ≡ true
    → command_shown c w list page ≡ whole_step (begins_dump c) (carried_out c w) list page
unfolding command_shown shown_if
command-whole words c w list page r h t =
    rw t (step-whole words (begins_dump c) (carried_out c w) list page r (let l = changed-length c w t in omega arith) (changed-passes c w t))

pub move-whole : (words : ℕ) (w : List ℕ) (room : ℕ) (list page : List ℕ) → Roomy words list page → length w ≤ words → makes_move w room ≡ true
    → move_shown w room list page ≡ whole_step false (moved_on w room) list page
unfolding move_shown shown_if
move-whole words w room list page r h t =
    rw t (step-whole words false (moved_on w room) list page r (let l = moved_length w room in omega arith) (moved_passes w room t))
