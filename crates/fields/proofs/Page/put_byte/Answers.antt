-- `fields::Page::put_byte` meets its contract. Assumes nothing.
use Rattle.std.proofs.Common.{refl, arith}
use Rattle.sheet.proofs.Puts.{put_one}
use Rattle.fields.proofs.Page.put_byte.Goals as goal

pub returns : goal.returns
returns c =
    let p = c.args.self.now in
    record { put = put_one p.out.now p.at c.args.b (omega arith); same_reference = refl }
