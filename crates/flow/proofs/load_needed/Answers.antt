-- `flow::load_needed` meets its contract: a law for each of its three answers. Assumes nothing.
use Rattle.std.proofs.Common.{◌≡◌, ap, sym, ◌∙◌, Bool, true, false, cond, ℕ, ◌-◌, ◌<◌, arith, eq-eqb, ne_eqb, eqb}
use Rattle.network.specs.Sizes.{directions, escape_queue}
use Rattle.network.specs.Routes.{load_needed}
use Rattle.network.proofs.RoutesLaws.{needed-escape, needed-adaptive}
use Rattle.flow.proofs.load_needed.Goals as goal

pub returns-then-o-le-DIRECTIONS : goal.returns-then-o-le-DIRECTIONS
returns-then-o-le-DIRECTIONS c =
    let a = c.args in
    c.load.ensures ∙ sym (needed-adaptive a.q a.o a.p c.if-o-le-DIRECTIONS.true)

-- into an escape queue, by what the second test said
into-escape : (q o p : ℕ) (own : Bool) → directions < o → eqb q o ≡ own → cond own 1 2 ≡ load_needed q o p
into-escape q o p own h e = sym (escaped o (o - escape_queue 0) (omega arith) ∙ ap (λ (b : Bool). cond b 1 2) e)
  where
    escaped : (o d : ℕ) → o ≡ escape_queue d → load_needed q o p ≡ cond (eqb q o) 1 2
    escaped o d e = rw e (needed-escape q d p)

pub returns-then-q-o : goal.returns-then-q-o
returns-then-q-o c =
    let a = c.args in
    into-escape a.q a.o a.p true c.if-o-le-DIRECTIONS.false (eq-eqb a.q a.o c.if-q-o.true)

pub returns : goal.returns
returns c =
    let a = c.args in
    into-escape a.q a.o a.p false c.if-o-le-DIRECTIONS.false (ne_eqb a.q a.o c.if-q-o.false)
