-- `packet::offered` meets its contract: the goals that the check does not find by itself. Assumes nothing.
use Rattle.std.proofs.Common.{arith}
use Rattle.network.specs.Packet.{packet_word}
use Rattle.network.proofs.TorusLaws.{sizes-nodes}
use Rattle.network.specs.Calls.{offered}
use Rattle.packet.proofs.Numbers.{back, range_back}
use Rattle.packet.proofs.FieldWords.{sizes-way, word-start, word_more, word_end}
use Rattle.packet.proofs.offered.Goals as goal

pub overflow_mul-p-3 : goal.overflow_mul-p-3
overflow_mul-p-3 c = let m = sizes-nodes c.args.s c.requires.0 in omega (arith, c.requires.2)

pub overflow_add-p-2 : goal.overflow_add-p-2
overflow_add-p-2 c = let m = sizes-nodes c.args.s c.requires.0 in omega (arith, c.requires.2, c.requires.3, c.requires.4)

pub loop-i-init : goal.loop-i-init
loop-i-init c =
    let m = sizes-nodes c.args.s c.requires.0 in
    let h = c.requires.2 in
    word-start c.args.tag c.args.chunks c.args.destination _ c.requires.3 c.requires.4 (omega arith)

pub with_offset-p-requires : goal.with_offset-p-requires
with_offset-p-requires c =
    let i = c.loop-i.i in
    let h = c.loop-i-test.true in
    (h, range_back c.way.ensures (sizes-way c.args.s c.args.n c.args.destination i c.requires.0 h))

pub loop-i-preserved : goal.loop-i-preserved
loop-i-preserved c =
    let i = c.loop-i.i in
    word_more i _ _ _ _ _ c.with_offset-p.ensures
    (back c.way.ensures (sizes-way c.args.s c.args.n c.args.destination i c.requires.0 c.loop-i-test.true)) c.loop-i.invariant

pub returns : goal.returns
unfolding offered packet_word
returns c = word_end c.loop-i.i _ _ _ c.loop-i.invariant (omega arith)
