-- `packet_check::fill_tables` meets its contract: the goals that the check does not find by itself. Assumes nothing.
use Rattle.std.proofs.Common.{◌∙◌, ◌+◌, ◌*◌, arith, rules}
use Rattle.base.proofs.Numbers.{weight-most}
use Rattle.network.specs.Sizes.{shape_of, nodes, queues}
use Rattle.network.specs.Packet.{offset_values}
use Rattle.network.proofs.TorusLaws.{sizes-torus, sizes-nodes, in_range-size, size-pos}
use Rattle.packet_check.specs.Tables.{ring_words, dimension_words, first_distance, passing, distance_at, PartWritten}
use Rattle.packet_check.proofs.TableLaws.{dimension-more, dimension-kept}
use Rattle.packet_check.proofs.fill_tables.Goals as goal

pub fill_ring-requires : goal.fill_ring-requires
unfolding nodes
fill_ring-requires c =
    let s = c.args.s in
    let t = c.requires.0 in
    let i = c.loop-i.i-counter in
    let h = c.loop-i-test.true in
    let torus = sizes-torus s t in
    let e = c.size.ensures in
    let f = c.weight.ensures in
    let p = size-pos (shape_of s) i torus h in
    let m = in_range-size (shape_of s) i t in
    let w = weight-most (shape_of s).sizes i torus.positive in
    let n = sizes-nodes s t in
    (c.loop-i.invariant.1, h, omega arith, omega arith, omega arith)

pub loop-i-preserved : goal.loop-i-preserved
loop-i-preserved c =
    let h = c.loop-i-test.true in
    let filled : PartWritten c.fill_ring.new.tables c.fill.new.tables (c.loop-i.i-counter * dimension_words + ring_words) queues (λ q. passing (shape_of c.args.s) q c.loop-i.i-counter) =
    record { words = c.fill.ensures.words; part = λ j l. let e = c.fill.ensures.part j l in search rules; kept = c.fill.ensures.kept } in (
      dimension-more c.args.s c.loop-i.i-counter _ _ _ _ _ c.requires.0 c.loop-i.invariant.0 c.size.ensures c.weight.ensures c.fill_ring.ensures filled,
      filled.words ∙ c.fill_ring.ensures.words ∙ c.loop-i.invariant.1,
    )

pub returns : goal.returns
returns c =
    let l = c.loop-i-test.false in
    let filled : PartWritten c.loop-i.tables c.fill-2.new.tables first_distance offset_values distance_at =
    record { words = c.fill-2.ensures.words; part = λ j l. let e = c.fill-2.ensures.part j l in search rules; kept = c.fill-2.ensures.kept } in
    record {
      words = filled.words ∙ c.loop-i.invariant.1;
      dimension = λ i h. dimension-kept c.args.s i _ _ _ _ _ c.requires.0 (c.loop-i.invariant.0 i (omega arith)) filled (omega arith);
      distances = filled.part;
    }
