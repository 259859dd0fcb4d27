-- `writer::put_delivery` meets its contract: the packet's line, then the Move's. Assumes nothing.
use Rattle.std.proofs.Common.{◌++◌, Ok, Some}
use Rattle.sheet.specs.Output.{answer_line, packet_line, moved_lines, moved_room}
use Rattle.sheet.proofs.Lengths.{delivery-length}
use Rattle.sheet.proofs.Puts.{enough}
use Rattle.fields.proofs.Pages.{Left, all-left, left-room, left-behind}
use Rattle.writer.proofs.put_delivery.Goals as goal
use Rattle.writer.proofs.put_delivery.Goals.{Start}

all : (s : Start) → Left s.args.page.now (moved_lines (Ok (Some s.args.p))) s.args.page.now (packet_line s.args.p ++ answer_line 77 0)
unfolding moved_lines
all s =
    all-left s.args.page.now (moved_lines (Ok (Some s.args.p)))
    (enough s.args.page.now.out.now s.args.page.now.at (packet_line s.args.p ++ answer_line 77 0) moved_room
    (delivery-length 77 s.args.p s.ranges.p.fits)
    s.requires)

pub put_packet-requires : goal.put_packet-requires
put_packet-requires c = left-room (packet_line c.args.p) _ (all (goal.at.put_packet-requires c).Start)

pub put_line-requires : goal.put_line-requires
put_line-requires c = (left-behind (packet_line c.args.p) _ (all (goal.at.put_line-requires c).Start) c.put_packet.ensures).room

pub returns : goal.returns
returns c = (left-behind (packet_line c.args.p) _ (all (goal.at.returns c).Start) c.put_packet.ensures).done _ c.put_line.ensures
