-- `writer::put_packets` meets its contract: the goals that the check does not find by itself. Assumes nothing.
use Rattle.std.proofs.Common.{◌≡◌, ap, ◌∙◌, List, [], ◌++◌, ℕ, suc, ◌+◌, ◌<◌, ◌≤◌, arith, length, get_or, drop, drop-cons}
use Rattle.std.proofs.lemmas.List.{drop_all}
use Rattle.sheet.specs.Output.{packet_line, packet_lines}
use Rattle.fields.proofs.Pages.{all-left, left-as, left-room, left-behind, left-none}
use Rattle.writer.proofs.put_packets.Goals as goal

next : (ps : List ℕ) (i : ℕ) → i < length ps → packet_lines (drop i ps) ≡ packet_line (get_or ps i 0) ++ packet_lines (drop (i + 1) ps)
unfolding packet_lines
next ps i h = let n : suc i ≡ i + 1 = omega arith in ap packet_lines (drop-cons ps i 0 h) ∙ ap (λ k. packet_line (get_or ps i 0) ++ packet_lines (drop k ps)) n

none : (ps : List ℕ) (i : ℕ) → length ps ≤ i → packet_lines (drop i ps) ≡ []
unfolding packet_lines
none ps i h = ap packet_lines (drop_all i ps h)

pub loop-p-init : goal.loop-p-init
loop-p-init c = all-left c.args.page.now (packet_lines c.args.packets.now) c.requires

pub put_packet-requires : goal.put_packet-requires
put_packet-requires c = left-room (packet_line (get_or c.args.packets.now c.loop-p.p-index 0)) _ (left-as (next c.args.packets.now c.loop-p.p-index c.loop-p-test.true) c.loop-p.invariant)

pub loop-p-preserved : goal.loop-p-preserved
loop-p-preserved c =
    left-behind (packet_line (get_or c.args.packets.now c.loop-p.p-index 0)) _ (left-as (next c.args.packets.now c.loop-p.p-index c.loop-p-test.true) c.loop-p.invariant)
    c.put_packet.ensures

pub returns : goal.returns
returns c = left-none (left-as (none c.args.packets.now c.loop-p.p-index c.loop-p-test.false) c.loop-p.invariant)
