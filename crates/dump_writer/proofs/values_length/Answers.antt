-- `dump_writer::values_length` meets its contract: the goals that the check does not find by itself. Assumes nothing.
use Rattle.std.proofs.Common.{arith}
use Rattle.dump_writer.proofs.Loops.{told_is, values-none, values-told, values-untold, values-few, values-all}
use Rattle.dump_writer.proofs.values_length.Goals as goal
use Rattle.dump_writer.proofs.values_length.Goals.{then-tells, else-tells}

pub loop-i-init : goal.loop-i-init
loop-i-init c = values-none c.args.every c.args.counts.now c.args.fills.now

pub overflow_add-length : goal.overflow_add-length
overflow_add-length c =
    let a = c.args in
    let few = values-few a.every a.counts.now a.fills.now c.loop-i.invariant c.loop-i-test.true c.value_length-length.result (told_is a.every a.counts.now a.fills.now c.loop-i.i c.tells.ensures c.if-tells.true) c.value_length-length.ensures c.requires.0
    (λ j. let f = (c.type_inv.counts j).fits in omega arith) in
    omega arith

pub loop-i-preserved : goal.loop-i-preserved
loop-i-preserved c =
    let a = c.args in
    let h = c.loop-i-test.true in
    elim c.if-tells.branch [
      | then-tells w ↦
          rw w.length-is
          (values-told a.every a.counts.now a.fills.now c.loop-i.invariant h w.value_length-length.result
          (told_is a.every a.counts.now a.fills.now c.loop-i.i c.tells.ensures w.if-tells.true) w.value_length-length.ensures)
      | else-tells w ↦
          rw w.length-is
          (values-untold a.every a.counts.now a.fills.now c.loop-i.invariant h (told_is a.every a.counts.now a.fills.now c.loop-i.i c.tells.ensures w.if-tells.false))
    ]

pub returns : goal.returns
returns c =
    let a = c.args in
    let t = c.loop-i-test.false in
    values-all a.every a.counts.now a.fills.now c.loop-i.invariant (omega arith)
