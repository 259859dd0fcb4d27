-- `dump_writer::write_fills` meets its contract. Assumes nothing.
use Rattle.std.proofs.Common.{◌≡◌, subst, List, ℕ, ◌*◌, ◌<◌, ◌≤◌, arith, length}
use Rattle.network.specs.Refusals.{numbered}
use Rattle.network.specs.Sizes.{Shape, shape_of, nodes}
use Rattle.network.proofs.TorusLaws.{sizes-nodes}
use Rattle.network.specs.Layout.{need, node_words, moves_at, moves_made}
use Rattle.network.specs.CheckLaws.{Network}
use Rattle.waveform.specs.Dump.{most_variables, fills}
use Rattle.waveform.proofs.DumpLaws.{fills-length}
use Rattle.dump_writer.specs.Writing.{counts_answer, counts_list, counts_page}
use Rattle.dump_writer.proofs.write_fills.Goals as goal

-- the header is there
header : {S : Shape} {w : List ℕ} → Network S w → moves_at < length w
unfolding need
header {S} k =
    let l = k.long in
    let z : 0 ≤ nodes S * node_words S = omega arith in
    omega arith

pub bounds-words-8 : goal.bounds-words-8
bounds-words-8 c = header c.requires.0

pub write_counts-requires : goal.write_counts-requires
write_counts-requires c =
    let m = sizes-nodes c.args.s c.requires.0.in-range in
    let l = fills-length (shape_of c.args.s) c.args.words.now in
    let most : length (fills (shape_of c.args.s) c.args.words.now) ≤ most_variables = omega arith in
    rw c.read_fills.ensures most

pub returns : goal.returns
unfolding moves_made
returns c =
    let w = c.write_counts.ensures in
    let list = c.args.fills.now in
    let page = c.args.page.now in
    let time = moves_made c.args.words.now in
    record {
      answer = subst (λ (counts : List ℕ). numbered c.write_counts.result ≡ counts_answer c.args.first time counts list page) c.read_fills.ensures w.answer;
      fills = subst (λ (counts : List ℕ). c.write_counts.new.fills ≡ counts_list c.args.first time counts list page) c.read_fills.ensures w.fills;
      page = subst (λ (counts : List ℕ). c.write_counts.new.page ≡ counts_page c.args.first time counts list page) c.read_fills.ensures w.page;
    }
