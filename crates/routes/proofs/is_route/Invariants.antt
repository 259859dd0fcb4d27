-- `routes::is_route` meets its contract. The loop's invariant: the output is a route exactly when one of the lines that are left gives it. Assumes
-- nothing.
use Rattle.std.proofs.Common.{◌≡◌, drop}
use Rattle.base.specs.Tests.{elem}
use Rattle.network.specs.Routes.{routes}
use Rattle.routes.specs.Lines.{outputs_from}
use Rattle.routes.proofs.is_route.Given as goal

abbrev pub invariant-loop-k : goal.invariant-loop-k
invariant-loop-k l = elem l.o (outputs_from l.k (drop l.k l.output-items)) ≡ elem l.o (routes l.q l.p)
