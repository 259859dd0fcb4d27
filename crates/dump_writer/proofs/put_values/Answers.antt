-- `dump_writer::put_values` meets its contract: the goals that the check does not find by itself. Assumes nothing.
use Rattle.std.proofs.Common.{arith}
use Rattle.dump_writer.proofs.Loops.{told_is, put-values-none, value_line_room, put-values-told, put-values-untold, put-values-all}
use Rattle.dump_writer.proofs.put_values.Goals as goal
use Rattle.dump_writer.proofs.put_values.Goals.{then-tells, else-tells}

pub loop-i-init : goal.loop-i-init
loop-i-init c = put-values-none c.args.every c.args.counts.now c.args.fills.now c.args.page.now c.requires.room

pub put_value-requires : goal.put_value-requires
put_value-requires c =
    let a = c.args in
    value_line_room a.every a.counts.now a.fills.now a.page.now c.requires.room c.loop-i.invariant c.loop-i-test.true (told_is a.every a.counts.now a.fills.now c.loop-i.i c.tells.ensures c.if-tells.true)

pub loop-i-preserved : goal.loop-i-preserved
loop-i-preserved c =
    let a = c.args in
    let h = c.loop-i-test.true in
    elim c.if-tells.branch [
      | then-tells w ↦
          rw w.page-is
          (put-values-told a.every a.counts.now a.fills.now a.page.now c.requires.room c.loop-i.invariant h (told_is a.every a.counts.now a.fills.now c.loop-i.i c.tells.ensures w.if-tells.true)
          w.put_value.ensures)
      | else-tells w ↦
          rw w.page-is
          (put-values-untold a.every a.counts.now a.fills.now a.page.now c.requires.room c.loop-i.invariant h (told_is a.every a.counts.now a.fills.now c.loop-i.i c.tells.ensures w.if-tells.false))
    ]

pub returns : goal.returns
returns c =
    let a = c.args in
    let t = c.loop-i-test.false in
    put-values-all a.every a.counts.now a.fills.now a.page.now c.requires.room c.loop-i.invariant (omega arith)
