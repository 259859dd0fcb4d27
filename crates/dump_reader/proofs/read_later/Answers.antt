-- `dump_reader::read_later` meets its contract, by the laws of a later step in proofs/Steps.antt. Assumes nothing.
use Rattle.std.proofs.Common.{◌≤◌, length}
use Rattle.dump_reader.proofs.Steps.{later-place, later-found}
use Rattle.dump_reader.proofs.read_later.Goals as goal
use Rattle.dump_reader.proofs.read_later.Goals.{In_ok-stamp}

-- the time stamp ends among the bytes
place : (c : In_ok-stamp) → c.in_ok-stamp.stamp.length ≤ length c.args.bytes.now
place c = later-place c.args.bytes.now c.read_stamp.ensures _ c.in_ok-stamp.was

pub returns : goal.returns
returns c = later-found c.args.bytes.now c.read_stamp.ensures _ c.in_ok-stamp.was c.read_run-run.ensures c.if-run-bytes.false

pub slice_bounds-read_run-count : goal.slice_bounds-read_run-count
slice_bounds-read_run-count c = place (goal.at.slice_bounds-read_run-count c).In_ok-stamp

pub slice_bounds-read_run-start : goal.slice_bounds-read_run-start
slice_bounds-read_run-start c = place (goal.at.slice_bounds-read_run-start c).In_ok-stamp

pub overflow_sub-bytes : goal.overflow_sub-bytes
overflow_sub-bytes c = place (goal.at.overflow_sub-bytes c).In_ok-stamp
