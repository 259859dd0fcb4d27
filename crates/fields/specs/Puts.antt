-- What a function that puts bytes on a page asks and leaves. Assumes nothing.
use Rattle.std.specs.Prelude.{◌≡◌, List, ℕ, ◌+◌, ◌≤◌, length}
use Rattle.sheet.specs.Output.{Put}
use Rattle.fields.specs.declared.Page.{Page}

-- there is room for so many bytes, or for these
abbrev pub HasRoom : Page → ℕ → Type 0
HasRoom page most = page.at + most ≤ length page.out.now

abbrev pub Fits : Page → List ℕ → Type 0
Fits page bytes = HasRoom page (length bytes)

-- the bytes stand behind what was there, and the buffer is the same one
pub record Puts (before : Page) (bytes : List ℕ) (after : Page) : Type 0 where
  pub put : Put before.out.now before.at bytes after.out.now after.at
  pub same_reference : after.out.ghost_name ≡ before.out.ghost_name
