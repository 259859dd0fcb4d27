-- `dump_reader::read_header` meets its contract, by the laws of a header in proofs/Steps.antt. Assumes nothing.
use Rattle.std.proofs.Common.{sym, ◌∙◌, ◌+◌, ◌≤◌, length, arith}
use Rattle.dump_reader.proofs.Steps.{names-place, stamp-place, values-place, header-values, header-found}
use Rattle.dump_reader.proofs.read_header.Goals as goal
use Rattle.dump_reader.proofs.read_header.Goals.{In_ok-names, In_ok-stamp, Else-not-starts_with}

-- the names end among the bytes, and so do the time stamp and the bytes before the values
named : (c : In_ok-names) → c.in_ok-names.names.length ≤ length c.args.bytes.now
named c = names-place c.args.bytes.now c.read_names.ensures _ c.in_ok-names.was

stamped : (c : In_ok-stamp) → c.in_ok-names.names.length + c.in_ok-stamp.stamp.length ≤ length c.args.bytes.now
stamped c = stamp-place c.args.bytes.now c.read_names.ensures _ c.in_ok-names.was c.read_stamp.ensures _ c.in_ok-stamp.was

begun : (c : Else-not-starts_with) → c.in_ok-names.names.length + c.in_ok-stamp.stamp.length + 10 ≤ length c.args.bytes.now
begun c =
    values-place c.args.bytes.now c.read_names.ensures _ c.in_ok-names.was c.read_stamp.ensures _ c.in_ok-stamp.was
    (sym c.starts_with.ensures ∙ c.if-not-starts_with.false)

pub returns-then-not-tells_all : goal.returns-then-not-tells_all
returns-then-not-tells_all c =
    header-values c.args.bytes.now c.read_names.ensures _ c.in_ok-names.was c.read_stamp.ensures _ c.in_ok-stamp.was
    (sym c.starts_with.ensures ∙ c.if-not-starts_with.false)
    c.tells_all.ensures
    c.if-not-tells_all.true

pub returns : goal.returns
returns c =
    header-found c.args.bytes.now c.read_names.ensures _ c.in_ok-names.was c.read_stamp.ensures _ c.in_ok-stamp.was
    (sym c.starts_with.ensures ∙ c.if-not-starts_with.false)
    c.tells_all.ensures
    c.if-not-tells_all.false

pub slice_bounds-read_stamp-count : goal.slice_bounds-read_stamp-count
slice_bounds-read_stamp-count c = named (goal.at.slice_bounds-read_stamp-count c).In_ok-names

pub slice_bounds-read_stamp-start : goal.slice_bounds-read_stamp-start
slice_bounds-read_stamp-start c = named (goal.at.slice_bounds-read_stamp-start c).In_ok-names

pub overflow_add-dumpvars : goal.overflow_add-dumpvars
overflow_add-dumpvars c = omega (arith, stamped (goal.at.overflow_add-dumpvars c).In_ok-stamp)

pub starts_with-requires : goal.starts_with-requires
starts_with-requires c = stamped (goal.at.starts_with-requires c).In_ok-stamp

pub overflow_add-values : goal.overflow_add-values
overflow_add-values c = omega (arith, begun (goal.at.overflow_add-values c).Else-not-starts_with)

pub slice_bounds-tells_all-count : goal.slice_bounds-tells_all-count
slice_bounds-tells_all-count c = begun (goal.at.slice_bounds-tells_all-count c).Else-not-starts_with

pub slice_bounds-tells_all-start : goal.slice_bounds-tells_all-start
slice_bounds-tells_all-start c = begun (goal.at.slice_bounds-tells_all-start c).Else-not-starts_with
