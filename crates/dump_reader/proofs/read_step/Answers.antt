-- `dump_reader::read_step` meets its contract, by the laws of the call's answer in proofs/Steps.antt. Assumes nothing.
use Rattle.std.proofs.Common.{◌≤◌, length}
use Rattle.dump_reader.proofs.Steps.{answer-bad, answer-short, values-room, answer-header, answer-later}
use Rattle.dump_reader.proofs.read_step.Goals as goal
use Rattle.dump_reader.proofs.read_step.Goals.{In-Some}

pub returns-in_default : goal.returns-in_default
returns-in_default c =
    let a = c.args in
    let all = answer-bad a.bytes.now a.fills.now c.parse.ensures c.in_default.is in
    record { answer = all.0; fills = all.1.0; told = all.1.1 }

pub returns-then-fills-step : goal.returns-then-fills-step
returns-then-fills-step c =
    let a = c.args in
    let all = answer-short a.bytes.now a.fills.now c.parse.ensures _ c.in-Some.is c.if-fills-step.true in
    record { answer = all.0; fills = all.1.0; told = all.1.1 }

-- the values begin among the bytes
within : (c : In-Some) → c.in-Some.step.values ≤ length c.args.bytes.now
within c = (c.parse.ensures.step _ c.in-Some.is).within

pub slice_bounds-apply_run-count : goal.slice_bounds-apply_run-count
slice_bounds-apply_run-count c = within (goal.at.slice_bounds-apply_run-count c).In-Some

pub slice_bounds-apply_run-start : goal.slice_bounds-apply_run-start
slice_bounds-apply_run-start c = within (goal.at.slice_bounds-apply_run-start c).In-Some

pub apply_run-requires : goal.apply_run-requires
apply_run-requires c = values-room c.args.bytes.now c.args.fills.now c.parse.ensures _ c.in-Some.is c.if-fills-step.false

pub returns-then-step : goal.returns-then-step
returns-then-step c =
    let a = c.args in
    let all = answer-header a.bytes.now a.fills.now c.parse.ensures _ c.in-Some.is c.if-fills-step.false c.apply_run.ensures c.if-step.true in
    record { answer = all.0; fills = all.1.0; told = all.1.1 }

pub returns : goal.returns
returns c =
    let a = c.args in
    let all = answer-later a.bytes.now a.fills.now c.parse.ensures _ c.in-Some.is c.if-fills-step.false c.apply_run.ensures c.if-step.false in
    record { answer = all.0; fills = all.1.0; told = all.1.1 }
