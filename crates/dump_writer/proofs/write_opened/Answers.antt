-- `dump_writer::write_opened` meets its contract: each list is long enough for the networks that it is made for. Assumes nothing.
use Rattle.std.proofs.Common.{arith}
use Rattle.network.proofs.TorusLaws.{sizes-nodes}
use Rattle.dump_writer.proofs.write_opened.Goals as goal

pub write_sized-requires-2-clause-length : goal.write_sized-requires-2-clause-length
write_sized-requires-2-clause-length c =
    let most = sizes-nodes c.args.s c.requires.in-range in
    (omega arith, omega arith)
