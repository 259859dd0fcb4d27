-- `replay::carry_out` meets its contract: what changed is shown, of the words that it left. Assumes nothing.
use Rattle.std.proofs.Common.{◌≡◌, refl, ◌∙◌, Bool, List, ℕ, ◌≤◌, length}
use Rattle.sheet.specs.declared.Command.{Command}
use Rattle.replay.specs.Replay.{Shown, shown, shown_if, carried_out, changed, begins_dump, command_shown}
use Rattle.replay.proofs.Whole.{shown-some, shown-none, shown-within}
use Rattle.replay.proofs.carry_out.Goals as goal

both : (c : Command) (w w' list page : List ℕ) (changed' first : Bool) (s : Shown) → w' ≡ carried_out c w → changed' ≡ changed c w → first ≡ begins_dump c
    → s ≡ shown_if changed' first w' list page → (s ≡ command_shown c w list page) × (s.bytes ≤ length page)
unfolding command_shown
both c w w' list page changed' first s e t b h =
    (h ∙ (λ i. shown_if (t i) (b i) (e i) list page), rw h (shown-within changed' first w' list page))

pub returns-then-not-changed : goal.returns-then-not-changed
returns-then-not-changed c =
    let does = c.apply-changed.ensures in
    let parts = both _ _ _ _ _ _ _ (shown _ _ _) does.store does.changed refl (shown-none _ _ _ _ _ c.if-not-changed.true) in
    record { store = does.store; shown = parts.0; within = parts.1 }

pub returns : goal.returns
returns c =
    let does = c.apply-changed.ensures in
    let parts = both _ _ _ _ _ _ _ (shown _ _ _) does.store does.changed c.begins_dump-first.ensures (c.show.ensures ∙ shown-some _ _ _ _ _ c.if-not-changed.false) in
    record { store = does.store; shown = parts.0; within = parts.1 }
