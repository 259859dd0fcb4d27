-- `session::answer_read` meets its contract: the goals that the check does not find by itself. Assumes nothing.
use Rattle.std.proofs.Common.{◌≡◌, refl, ◌∙◌, ◌+◌, ◌-◌, ◌≤◌, arith, length, rules}
use Rattle.base.proofs.Parts.{length-span, length-splice}
use Rattle.session.specs.Session.{command_room}
use Rattle.session.specs.Reads.{sheet}
use Rattle.session.specs.Coming.{coming, command_before}
use Rattle.session.proofs.ComingLaws.{next-given, next-none, fewer-coming}
use Rattle.session.proofs.RunningLaws.{put-within, answering-none, answering-room, answering-more, answering-all}
use Rattle.session.proofs.answer_read.Goals as goal
use Rattle.session.proofs.answer_read.Goals.{After-run_command-at, In-Some}

first : (c : In-Some)
    → coming c.args.piece.now c.loop-command.line c.loop-command.cursor
    ≡ command_before c.in-Some.command (coming c.args.piece.now c.next_command.new.line c.next_command.new.cursor)
first c = next-given _ _ _ c.next_command.ensures c.in-Some.is

room : (c : In-Some) → c.loop-command.at + command_room ≤ length c.loop-command.out
room c = let inv = c.loop-command.invariant in answering-room inv.1 inv.0 (first c)

pub loop-command-init : goal.loop-command-init
loop-command-init c = (refl, answering-none (sheet c.args.store.now c.args.line.now c.args.pending) _ _ c.requires)

pub loop-command-smaller : goal.loop-command-smaller
loop-command-smaller c = fewer-coming (first (goal.at.loop-command-smaller c).In-Some)

-- the part of the buffer that was lent to the command
size : (c : After-run_command-at)
    → length c.run_command-at.new.out ≡ c.loop-command.at + command_room - c.loop-command.at
size c =
    let inv = c.loop-command.invariant in
    c.run_command-at.auto.out ∙ length-span c.loop-command.out c.loop-command.at (c.loop-command.at + command_room) (omega arith)
    (answering-room inv.1 inv.0 (next-given _ _ _ c.next_command.ensures c.in-Some.is))

pub overflow_add-end : goal.overflow_add-end
overflow_add-end c = let r = room (goal.at.overflow_add-end c).In-Some in search rules

pub slice_bounds-run_command-end-in-Some : goal.slice_bounds-run_command-end-in-Some
slice_bounds-run_command-end-in-Some c = room (goal.at.slice_bounds-run_command-end-in-Some c).In-Some

pub overflow_add-at : goal.overflow_add-at
overflow_add-at c =
    let s = size (goal.at.overflow_add-at c).After-run_command-at in
    let w = put-within c.run_command-at.ensures.printed (omega arith) c.run_command-at.auto.out in
    let r = room (goal.at.overflow_add-at c).In-Some in
    omega arith

pub loop-command-preserved : goal.loop-command-preserved
loop-command-preserved c =
    let part = c.run_command-at.new.out in (
      length-splice c.loop-command.out c.loop-command.at (c.loop-command.at + command_room) part (size (goal.at.loop-command-preserved c).After-run_command-at) (omega arith) (room (goal.at.loop-command-preserved c).In-Some) ∙ c.loop-command.invariant.0,
      answering-more c.loop-command.invariant.1 c.loop-command.invariant.0 _ part c.run_command-at.result (first (goal.at.loop-command-preserved c).In-Some) (size (goal.at.loop-command-preserved c).After-run_command-at) c.run_command-at.ensures.store c.run_command-at.ensures.printed,
    )

pub returns : goal.returns
returns c =
    let inv = c.loop-command.invariant in
    let all = answering-all inv.1 inv.0 (next-none _ _ _ c.next_command.ensures c.in_default.is) in
    record { sheet = all.0; printed = all.1.0; rest = all.1.1.0; within = all.1.1.1 }
