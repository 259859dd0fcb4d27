-- `replay::show` meets its contract, by which step it is. Assumes nothing.
use Rattle.std.proofs.Common.{◌≡◌, ap, sym, ◌∙◌, Bool, true, false, List, ℕ}
use Rattle.network.specs.Calls.{Answer}
use Rattle.waveform.specs.Calls.{write_answer, write_list, write_page, written_length}
use Rattle.replay.specs.Replay.{shown, step_shown}
use Rattle.replay.proofs.show.Goals as goal

-- what the call of the writer leaves, where it writes the step that is asked for
told : (first kind : Bool) (w list page : List ℕ) → first ≡ kind → (answer : Answer ℕ) (bytes : ℕ) (list' page' : List ℕ)
    → bytes ≡ written_length answer → answer ≡ write_answer kind w list page → list' ≡ write_list kind w list page → page' ≡ write_page kind w list page
    → shown bytes list' page' ≡ step_shown first w list page
unfolding step_shown
told first kind w list page k answer bytes list' page' b a l p =
    (λ i. shown ((b ∙ ap written_length a) i) (l i) (p i)) ∙ ap (λ t. step_shown t w list page) (sym k)

pub returns-then-first : goal.returns-then-first
returns-then-first c =
    let wrote = c.write_header.ensures in
    told _ true _ _ _ c.if-first.true _ _ _ _ c.bytes_of.ensures wrote.answer wrote.fills wrote.page

pub returns : goal.returns
returns c =
    let wrote = c.write_changes.ensures in
    told _ false _ _ _ c.if-first.false _ _ _ _ c.bytes_of-2.ensures wrote.answer wrote.fills wrote.page
