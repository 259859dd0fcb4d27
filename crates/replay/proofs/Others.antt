-- Commands that are no T, and those that are no D. Assumes nothing.
use Rattle.std.proofs.Common.{◌≡◌, refl, false, ℕ}
use Rattle.sheet.specs.declared.Command.{Command}
use Rattle.replay.specs.Replay.{begins_dump, moves_asked}

pub none_begun : (command : Command) → ((x y z e a j : ℕ) → command ≡ Command.Make x y z e a j → ⊥) → false ≡ begins_dump command
unfolding begins_dump
none_begun (Command.Make x y z e a j) none = absurd (none x y z e a j refl)
none_begun (Command.Offer node destination tag chunks) none = refl
none_begun (Command.Move node queue output) none = refl
none_begun (Command.Drain budget) none = refl
none_begun Command.Bad none = refl

pub none_asked : (command : Command) → ((budget : ℕ) → command ≡ Command.Drain budget → ⊥) → 0 ≡ moves_asked command
unfolding moves_asked
none_asked (Command.Make x y z e a j) none = refl
none_asked (Command.Offer node destination tag chunks) none = refl
none_asked (Command.Move node queue output) none = refl
none_asked (Command.Drain budget) none = absurd (none budget refl)
none_asked Command.Bad none = refl
