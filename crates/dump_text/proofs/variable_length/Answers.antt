-- `dump_text::variable_length` meets its contract. Assumes nothing.
use Rattle.std.proofs.Common.{ℕ, ◌≡◌, ◌<◌, ◌^◌, length, ◌+◌, ◌/◌, ◌%◌, ◌≤◌, arith}
use Rattle.network.specs.Sizes.{queues}
use Rattle.sheet.specs.Output.{decimal}
use Rattle.waveform.proofs.Lengths.{variable-length, decimal-digits}
use Rattle.dump_text.proofs.variable_length.Goals as goal

-- the digits of the three numbers are few
few : (i a b d : ℕ) → i < 2 ^ 64 → a ≡ length (decimal i) → b ≡ length (decimal (i / queues)) → d ≡ length (decimal (i % queues)) → a + b + d ≤ 60
few i a b d fits l m n =
    let p = decimal-digits i fits in
    let q = decimal-digits (i / queues) (omega arith) in
    let r = decimal-digits (i % queues) (omega arith) in
    omega arith

pub overflow_add-result : goal.overflow_add-result
overflow_add-result c = let f = few _ _ _ _ c.ranges.i.fits c.number_length.ensures c.number_length-node.ensures c.number_length-queue.ensures in omega arith

pub overflow_add-result-2 : goal.overflow_add-result-2
overflow_add-result-2 c = let f = few _ _ _ _ c.ranges.i.fits c.number_length.ensures c.number_length-node.ensures c.number_length-queue.ensures in omega arith

pub overflow_add-result-3 : goal.overflow_add-result-3
overflow_add-result-3 c = let f = few _ _ _ _ c.ranges.i.fits c.number_length.ensures c.number_length-node.ensures c.number_length-queue.ensures in omega arith

pub returns : goal.returns
returns c =
    let v = variable-length c.args.i in
    let l = c.number_length-node.ensures in
    let m = c.number_length-queue.ensures in
    let n = c.number_length.ensures in
    omega arith
