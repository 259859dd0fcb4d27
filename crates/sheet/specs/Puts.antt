-- Laws of bytes that are put into a buffer one after another, for the functions that print. Order: lengths; bytes behind bytes; the same of what the
-- functions ensure; the elements of a list one after another; three runs of bytes. Assumes nothing.
use Rattle.std.specs.Prelude.{List, ℕ, ◌≤◌, length, take}
use Rattle.sheet.specs.Output.{Room, Put}

-- what is put for the elements of a list, one after another: `one` for an element, `every` for a list. The first i elements of l have been put
pub record Putting (every : List ℕ → List ℕ) (before : List ℕ) (at : ℕ) (l out : List ℕ) (next i : ℕ) : Type 0 where
  pub within : i ≤ length l
  pub put : Put before at (every (take i l)) out next

-- runs of bytes put one after another: `rest` of `bytes` is still to be put, there is room for it, and whatever puts it has put all
pub record ToPut (before : List ℕ) (at : ℕ) (bytes out : List ℕ) (next : ℕ) (rest : List ℕ) : Type 0 where
  pub room : Room out next rest
  pub done : (out' : List ℕ) (last : ℕ) → Put out next rest out' last → Put before at bytes out' last
