-- `writer::put_packet` meets its contract: the letter and the tag, the destination, the end. Assumes nothing.
use Rattle.std.proofs.Common.{◌≡◌, refl, List, [], ◌∷◌, ◌++◌, ℕ, ◌/◌, ◌%◌, ◌^◌}
use Rattle.network.proofs.PacketLaws.{tag_is, destination-is}
use Rattle.sheet.specs.Text.{comma, cr, lf}
use Rattle.sheet.specs.Output.{decimal, fields_and_end, line, packet_line}
use Rattle.fields.proofs.Pages.{Left, all-left, left-as, left-room, left-behind}
use Rattle.writer.proofs.put_packet.Goals as goal
use Rattle.writer.proofs.put_packet.Goals.{Start}

abbrev xs : ℕ → List ℕ
xs p = 80 ∷ comma ∷ decimal (p / 2 ^ 32)

abbrev ys : ℕ → List ℕ
ys p = comma ∷ decimal (p / 2 ^ 16 % 2 ^ 12)

abbrev zs : List ℕ
zs = cr ∷ lf ∷ []

line-is : (p : ℕ) → packet_line p ≡ xs p ++ (ys p ++ zs)
unfolding packet_line line fields_and_end
line-is p = rw (tag_is p, destination-is p) refl

all : (s : Start) → Left s.args.page.now (packet_line s.args.p) s.args.page.now (xs s.args.p ++ (ys s.args.p ++ zs))
all s = left-as (line-is s.args.p) (all-left s.args.page.now (packet_line s.args.p) s.requires)

pub put_head-requires : goal.put_head-requires
put_head-requires c = left-room (xs c.args.p) _ (all (goal.at.put_head-requires c).Start)

pub put_field-requires : goal.put_field-requires
put_field-requires c = left-room (ys c.args.p) _ (left-behind (xs c.args.p) _ (all (goal.at.put_field-requires c).Start) c.put_head.ensures)

pub put_end-requires : goal.put_end-requires
put_end-requires c = (left-behind (ys c.args.p) _ (left-behind (xs c.args.p) _ (all (goal.at.put_end-requires c).Start) c.put_head.ensures) c.put_field.ensures).room

pub returns : goal.returns
returns c = (left-behind (ys c.args.p) _ (left-behind (xs c.args.p) _ (all (goal.at.returns c).Start) c.put_head.ensures) c.put_field.ensures).done _ c.put_end.ensures
