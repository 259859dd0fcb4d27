-- Bytes put on a page one after another. Order: bytes behind bytes; runs of bytes. Assumes nothing.
use Rattle.std.proofs.Common.{◌≡◌, refl, subst, ◌∙◌, List, [], ◌++◌, ℕ, arith}
use Rattle.sheet.proofs.Puts.{put-none, put-behind, room-behind, room-first}
use Rattle.fields.specs.declared.Page.{Page}
use Rattle.fields.specs.Puts.{Fits, Puts}

-- behind bytes that have been put there is room for the others, and both together are put
pub fits-behind : {before after : Page} {xs : List ℕ} (ys : List ℕ) → Puts before xs after → Fits before (xs ++ ys) → Fits after ys
fits-behind ys p room = room-behind ys p.put room

pub puts-behind : {before after last : Page} {xs ys : List ℕ} → Puts before xs after → Puts after ys last → Fits before xs → Puts before (xs ++ ys) last
puts-behind p q room = record { put = put-behind p.put q.put room; same_reference = q.same_reference ∙ p.same_reference }

-- runs of bytes one behind the other: `rest` of `bytes` is still to be put, there is room for it, and whatever puts it has put all
pub record Left (before : Page) (bytes : List ℕ) (page : Page) (rest : List ℕ) : Type 0 where
  pub room : Fits page rest
  pub done : (last : Page) → Puts page rest last → Puts before bytes last

pub all-left : (page : Page) (bytes : List ℕ) → Fits page bytes → Left page bytes page bytes
all-left page bytes room = record { room = room; done = λ last p. p }

module _ {before : Page} {bytes : List ℕ} {page : Page} (xs rest : List ℕ) (l : Left before bytes page (xs ++ rest)) where
  pub left-room : Fits page xs
  left-room = room-first page.out.now page.at xs rest l.room

  pub left-behind : {next : Page} → Puts page xs next → Left before bytes next rest
  left-behind p = record { room = fits-behind rest p l.room; done = λ last q. l.done last (puts-behind p q left-room) }

-- the same, where the rest is spelled otherwise, and where none is left
pub left-as : {before : Page} {bytes : List ℕ} {page : Page} {rest rest' : List ℕ} → rest ≡ rest' → Left before bytes page rest → Left before bytes page rest'
left-as {before} {bytes} {page} e l = subst (λ r. Left before bytes page r) e l

pub left-none : {before : Page} {bytes : List ℕ} {page : Page} → Left before bytes page [] → Puts before bytes page
left-none {before} {bytes} {page} l =
    let r = l.room in
    l.done page (record { put = put-none page.out.now page.at (omega arith); same_reference = refl })
