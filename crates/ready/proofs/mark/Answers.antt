-- `ready::mark` meets its contract. Assumes nothing.
use Rattle.ready.specs.ReadyHeads.{marked}
use Rattle.network.specs.Sizes.{shape_of}
use Rattle.ready.proofs.mark.Goals as goal

pub returns : goal.returns
returns c =
    marked (shape_of c.args.s) c.args.n c.args.q c.args.o c.args.ready.now _ _ c.mark_feeder.new.ready c.mark_head.ensures c.mark_arrival.ensures
    c.mark_feeder.ensures
