-- `dump_text::stamp_length` meets its contract. Assumes nothing.
use Rattle.std.proofs.Common.{arith}
use Rattle.waveform.proofs.Lengths.{stamp-length, decimal-digits}
use Rattle.dump_text.proofs.stamp_length.Goals as goal

pub overflow_add-result : goal.overflow_add-result
overflow_add-result c =
    let d = decimal-digits c.args.time c.ranges.time.fits in
    let l = c.number_length.ensures in
    omega arith

pub returns : goal.returns
returns c =
    let s = stamp-length c.args.time in
    let l = c.number_length.ensures in
    omega arith
