-- `routes::applies` meets its contract. Assumes nothing.
use Rattle.std.proofs.Common.{eq-eqb, ne_eqb}
use Rattle.routes.specs.Lines.{last_selection_line, applies}
use Rattle.routes.proofs.applies.Goals as goal

pub returns-then-k-eq-LAST_LINE : goal.returns-then-k-eq-LAST_LINE
unfolding applies
returns-then-k-eq-LAST_LINE c = rw (eq-eqb c.args.k last_selection_line c.if-k-eq-LAST_LINE.true)

pub returns-else-k-eq-LAST_LINE : goal.returns-else-k-eq-LAST_LINE
unfolding applies
returns-else-k-eq-LAST_LINE c = rw (ne_eqb c.args.k last_selection_line c.if-k-eq-LAST_LINE.false)
