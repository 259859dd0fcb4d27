-- `packet::chunks` meets its contract. Assumes nothing.
use Rattle.std.proofs.Common.{sym, ap, ◌∙◌, ℕ, ◌+◌}
use Rattle.network.proofs.PacketLaws.{chunks-is}
use Rattle.packet.proofs.chunks.Goals as goal

pub returns : goal.returns
returns c = ap (λ (k : ℕ). k + 1) c.field.ensures ∙ sym (chunks-is c.args.p)
