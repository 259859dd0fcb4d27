-- `fields::Page::put_number` meets its contract. The loop's invariant is `Behind`, on the same buffer, with a digit left. Assumes nothing.
use Rattle.std.proofs.Common.{◌≡◌, ◌<◌}
use Rattle.fields.proofs.Digits.{Behind}
use Rattle.fields.proofs.Page.put_number.Given as goal

abbrev pub invariant-loop-i : goal.invariant-loop-i
invariant-loop-i l =
    Behind l.base l.n l.initial.self.out.now l.initial.self.at l.self.out.now l.i l.rest
    × (l.initial.self.at < l.i)
    × (l.self.at ≡ l.initial.self.at)
    × (l.self.out.ghost_name ≡ l.initial.self.out.ghost_name)
