-- `dump_writer::step_length` meets its contract. Assumes nothing.
use Rattle.std.proofs.Common.{ap, ap₂, sym, ◌∙◌, ◌+◌, ◌*◌, ◌≤◌, arith, length}
use Rattle.waveform.specs.Dump.{most_variables, value_lines, changes, step_bytes}
use Rattle.waveform.specs.Lengths.{variable_room, value_room}
use Rattle.waveform.proofs.Lengths.{stamp-length, decimal-digits, variables-room, values-room, header-length, later-length}
use Rattle.dump_writer.proofs.step_length.Goals as goal
use Rattle.dump_writer.proofs.step_length.Goals.{After-values_length, After-variables_length}

few : (c : After-values_length) → c.stamp_length.result + c.values_length.result ≤ 22 + value_room * most_variables
unfolding changes
few c =
    let a = c.args in
    let t = stamp-length a.time in
    let d = decimal-digits a.time c.ranges.time.fits in
    let l = c.stamp_length.ensures in
    let m = c.values_length.ensures in
    let most = c.requires.0 in
    let v = values-room a.first a.counts.now a.fills.now (length a.counts.now) most
    (λ j h. let f = (c.type_inv.counts j).fits in omega arith) in
    omega arith

-- and so are the variables
few-variables : (c : After-variables_length) → c.variables_length.result ≤ variable_room * most_variables
few-variables c =
    let most = c.requires.0 in
    let r = variables-room 0 (length c.args.counts.now) (omega arith) in
    let l = c.variables_length.ensures in
    omega arith

pub overflow_add-changes : goal.overflow_add-changes
overflow_add-changes c = let f = few (goal.at.overflow_add-changes c).After-values_length in omega arith

pub overflow_add-result : goal.overflow_add-result
overflow_add-result c = let f = few-variables (goal.at.overflow_add-result c).After-variables_length in omega arith

pub overflow_add-result-then-first : goal.overflow_add-result-then-first
overflow_add-result-then-first c =
    let f = few (goal.at.overflow_add-result-then-first c).After-values_length in
    let v = few-variables (goal.at.overflow_add-result-then-first c).After-variables_length in
    omega arith

pub returns-then-first : goal.returns-then-first
returns-then-first c =
    let a = c.args in
    let h = header-length a.time a.counts.now a.fills.now in
    let v = c.variables_length.ensures in
    let t = c.stamp_length.ensures in
    let first = c.if-first.true in
    let l = c.values_length.ensures ∙ ap (λ b. length (value_lines (changes b a.counts.now a.fills.now))) first in
    ap₂ (λ x y. 98 + x + y) v (ap₂ ◌+◌ t l) ∙ sym h ∙ ap (λ b. length (step_bytes b a.time a.counts.now a.fills.now)) (sym first)

pub returns : goal.returns
returns c =
    let a = c.args in
    let h = later-length a.time a.counts.now a.fills.now in
    let t = c.stamp_length.ensures in
    let first = c.if-first.false in
    let l = c.values_length.ensures ∙ ap (λ b. length (value_lines (changes b a.counts.now a.fills.now))) first in
    ap₂ ◌+◌ t l ∙ sym h ∙ ap (λ b. length (step_bytes b a.time a.counts.now a.fills.now)) (sym first)
