-- `fields::Page::put_bytes` meets its contract. Assumes nothing.
use Rattle.std.proofs.Common.{refl, ap₂, ◌+◌, ◌++◌, arith, length, take}
use borrow.Rule.Slice.PartMut.{Post-is}
use Rattle.sheet.specs.Output.{written}
use Rattle.fields.proofs.Page.put_bytes.Goals as goal

pub returns : goal.returns
unfolding written
returns c =
    let p = c.args.self.now in
    let behind = Post-is p.at (p.at + length c.args.bytes.now) p.out.now (omega arith) in
    record {
      put = record { leaves = ap₂ (λ bytes back. take p.at p.out.now ++ (bytes ++ back)) c.copy_from_slice.ensures.after behind; answers = refl };
      same_reference = refl;
    }
