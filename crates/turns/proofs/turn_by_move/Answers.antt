-- `turns::turn_by_move` meets its contract. Assumes nothing.
use Rattle.std.proofs.Common.{◌≡◌, arith}
use Rattle.network.specs.Sizes.{shape_of}
use Rattle.network.proofs.TorusLaws.{sizes-torus, sizes-nodes}
use Rattle.network.specs.Routes.{target}
use Rattle.network.proofs.RoutesLaws.{target_is}
use Rattle.near.specs.Table.{entry-within}
use Rattle.turns.specs.Turned.{turned-passed, turned-delivered, turned-full}
use Rattle.turns.proofs.turn_by_move.Goals as goal
use Rattle.turns.proofs.turn_by_move.Goals.{After-look_up-there}

pub look_up-there-requires : goal.look_up-there-requires
look_up-there-requires c =
    let h = c.requires.permitted.node in
    let few = sizes-nodes c.args.s c.requires.network.in-range in
    (omega arith, omega arith, entry-within c.args.n _ c.requires.near h (omega arith))

is-target : (t : After-look_up-there) → t.look_up-there.result ≡ target (shape_of t.args.s) t.args.n t.args.o
is-target t =
    let S = shape_of t.args.s in
    target_is S t.args.n t.args.o _ _ t.direction_of.ensures (t.look_up-there.ensures S t.requires.near t.requires.permitted.node)

pub follow-requires : goal.follow-requires
follow-requires c = record { network = c.requires.network; permitted = c.requires.permitted; there_value = λ away. is-target (goal.at.follow-requires c).After-look_up-there; loads = c.requires.kept_2.loaded }

pub move_to-requires : goal.move_to-requires
move_to-requires c = record { network = c.requires.network; permitted = c.requires.permitted; there_value = λ away. is-target (goal.at.move_to-requires c).After-look_up-there }

pub mark-requires : goal.mark-requires
mark-requires c = record { set = c.requires.kept_2.covered.set-of; t = (c.requires.network.in-range, c.requires.permitted.node, c.requires.permitted.queue, c.requires.permitted.output); near = c.requires.near }

pub returns-then-o-ne-DELIVER : goal.returns-then-o-ne-DELIVER
returns-then-o-ne-DELIVER c =
    let all =
    turned-passed (shape_of c.args.s) (sizes-torus c.args.s c.requires.network.in-range) c.args.words.now c.args.ready.now c.args.loads.now
    c.requires.network c.requires.kept_2 c.args.room c.args.n c.args.q c.args.o c.move_to.new.words c.mark.new.ready c.follow.new.loads
    c.requires.permitted c.mark.ensures c.follow.ensures c.move_to.ensures.words c.if-o-ne-DELIVER.true in
    record { answer = all.0; words = all.1.0; kept = all.1.1 }

pub returns-then-room-eq0 : goal.returns-then-room-eq0
returns-then-room-eq0 c =
    let all =
    turned-full (shape_of c.args.s) (sizes-torus c.args.s c.requires.network.in-range) c.args.words.now c.args.ready.now c.args.loads.now
    c.requires.network c.requires.kept_2 c.args.room c.args.n c.args.q c.args.o c.if-o-ne-DELIVER.false c.if-room-eq0.true in
    record { answer = all.0; words = all.1.0; kept = all.1.1 }

pub follow-requires-2 : goal.follow-requires-2
follow-requires-2 c = record { network = c.requires.network; permitted = c.requires.permitted; there_value = λ away. absurd (away c.if-o-ne-DELIVER.false); loads = c.requires.kept_2.loaded }

pub mark-requires-2 : goal.mark-requires-2
mark-requires-2 c = record { set = c.requires.kept_2.covered.set-of; t = (c.requires.network.in-range, c.requires.permitted.node, c.requires.permitted.queue, c.requires.permitted.output); near = c.requires.near }

pub returns : goal.returns
returns c =
    let all =
    turned-delivered (shape_of c.args.s) (sizes-torus c.args.s c.requires.network.in-range) c.args.words.now c.args.ready.now c.args.loads.now
    c.requires.network c.requires.kept_2 c.args.room c.args.n c.args.q c.args.o c.make_move-p.result c.make_move-p.new.words c.mark-2.new.ready
    c.follow-2.new.loads c.requires.permitted c.mark-2.ensures c.follow-2.ensures c.make_move-p.ensures.words c.if-o-ne-DELIVER.false c.if-room-eq0.false
    c.make_move-p.ensures.head in
    record { answer = all.0; words = all.1.0; kept = all.1.1 }
