-- `drains::drain_network` meets its contract. Assumes nothing.
use Rattle.std.proofs.Common.{arith}
use Rattle.network.specs.Sizes.{shape_of}
use Rattle.network.specs.declared.Stop.{Stop}
use Rattle.network.specs.Layout.{accepted, delivered}
use Rattle.turns.specs.Turns.{turn-emptied, none-held}
use Rattle.network.proofs.LayoutLaws.{header-long}
use Rattle.network.proofs.TorusLaws.{sizes-torus, sizes-nodes}
use Rattle.drains.specs.SoFar.{so-far-start, so-far-end}
use Rattle.drains.proofs.drain_network.Goals as goal

pub bounds-words-6 : goal.bounds-words-6
bounds-words-6 c =
    let h = header-long (shape_of c.args.s) c.args.words.now c.requires.long in
    omega arith

pub bounds-words-7 : goal.bounds-words-7
bounds-words-7 c =
    let h = header-long (shape_of c.args.s) c.args.words.now c.requires.long in
    omega arith

pub returns-then-accepted-delivered : goal.returns-then-accepted-delivered
unfolding accepted delivered
returns-then-accepted-delivered c =
    let S = shape_of c.args.s in
    let w = c.args.words.now in
    let l = c.args.ledger.now in
    so-far-end S (sizes-torus c.args.s c.requires.in-range) w c.args.budget l w l 0 0 Stop.Emptied (so-far-start S w c.args.budget l c.requires)
    (turn-emptied S w _ _ (none-held S w c.requires c.if-accepted-delivered.true))

pub drain_sized-requires-clause-entries : goal.drain_sized-requires-clause-entries
drain_sized-requires-clause-entries c =
    let e = c.nodes.ensures in
    let h = c.if-nodes-le-FEW_NODES.true in
    (omega arith, omega arith)

pub drain_sized-requires-2-clause-entries : goal.drain_sized-requires-2-clause-entries
drain_sized-requires-2-clause-entries c =
    let m = sizes-nodes c.args.s c.requires.in-range in
    (omega arith, omega arith)
