-- `routes::is_route` meets its contract: the goals that the check does not find by itself. Assumes nothing.
use Rattle.std.proofs.Common.{sym, ◌∙◌, ◌<◌, arith, length}
use Rattle.routes.proofs.Laws.{elem-here, elem-passed, elem-other, elem_end}
use Rattle.routes.proofs.is_route.Goals as goal
use Rattle.routes.proofs.is_route.Goals.{then-output-o+else-applies, else-output-o}

pub returns-then-applies : goal.returns-then-applies
returns-then-applies c =
    sym (elem-here c.args.o c.routes-outputs.result c.loop-k.k (omega arith) c.if-output-o.true (sym c.applies.ensures ∙ c.if-applies.true))
    ∙ c.loop-k.invariant

pub loop-k-preserved : goal.loop-k-preserved
loop-k-preserved c =
    let h : c.loop-k.k < length c.routes-outputs.result = omega arith in
    (elim c.if-output-o.branch [
      | then-output-o+else-applies w ↦ elem-passed c.args.o c.routes-outputs.result c.loop-k.k h (sym w.applies.ensures ∙ w.if-applies.false)
      | else-output-o w ↦ elem-other c.args.o c.routes-outputs.result c.loop-k.k h w.if-output-o.false
    ])
    ∙ c.loop-k.invariant

pub returns : goal.returns
returns c = sym (elem_end c.args.o c.routes-outputs.result c.loop-k.k (omega arith)) ∙ c.loop-k.invariant
