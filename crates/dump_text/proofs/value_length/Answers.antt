-- `dump_text::value_length` meets its contract. Assumes nothing.
use Rattle.std.proofs.Common.{arith}
use Rattle.waveform.proofs.Lengths.{value-length, decimal-digits, binary-digits}
use Rattle.dump_text.proofs.value_length.Goals as goal

pub overflow_add-result : goal.overflow_add-result
overflow_add-result c =
    let d = binary-digits c.args.fill (let f = c.ranges.fill.fits in omega arith) in
    let l = c.number_length.ensures in
    omega arith

pub overflow_add-result-2 : goal.overflow_add-result-2
overflow_add-result-2 c =
    let d = binary-digits c.args.fill (let f = c.ranges.fill.fits in omega arith) in
    let l = c.number_length.ensures in
    let e = decimal-digits c.args.variable c.ranges.variable.fits in
    let m = c.number_length-2.ensures in
    omega arith

pub returns : goal.returns
returns c =
    let v = value-length (record { variable = c.args.variable; fill = c.args.fill }) in
    let l = c.number_length.ensures in
    let m = c.number_length-2.ensures in
    omega arith
