-- Laws of what a read still brings. Order: told by its next command; a read is what comes from its start on; a byte is passed; no byte is left; the end of the input; a command is
-- carried out; how many commands come at most. Assumes nothing.
use Rattle.std.specs.Prelude.{◌≡◌, refl, ◌⊎◌, List, [], ◌∷◌, map, ℕ, ◌+◌, ◌<◌, ◌≤◌, length, get_or, drop, Option, None, Some}
use Rattle.std.proofs.Math.Path.{ap}
use Rattle.std.proofs.Common.{ap₂, inl, inr, sym, ◌∙◌, append-nil, add-one, arith, length-append, length-drop, drop_of_length-le, drop-cons}
use Rattle.std.proofs.lemmas.List.{map-append, length-map}
use Rattle.std.proofs.Math.Decide.{dec_le, ℕ_discrete}
use Rattle.sheet.specs.declared.Pending.{Pending}
use Rattle.sheet.specs.declared.Fed.{Fed}
use Rattle.sheet.specs.declared.Command.{Command}
use Rattle.sheet.specs.Lines.{line_limit}
use Rattle.sheet.specs.Commands.{kept_command}
use Rattle.sheet.specs.Cutting.{fed_answer, finished_answer, handed_on, pending_after, ByteFed, Cutting, feed_byte, feed_bytes, finish_cutting}
use Rattle.sheet.proofs.Cuts.{bytes-behind, finished-none, finished-long, finished-line}
use Rattle.session.specs.declared.Cursor.{Cursor}
use Rattle.session.specs.Session.{perform, perform_all}
use Rattle.session.specs.Reads.{Sheet, sheet, printed_before, answer_read, cutter, carry_out, end_cutting}
use Rattle.session.specs.Coming.{Coming, brought, cutter_at, cursor_at, coming, command_before, none_coming, coming_by, fed_command, carry_coming}
use Rattle.session.specs.ComingLaws.{answered, line_before}

-- told by its next command
module _ (piece buffer' : List ℕ) (c : Cursor) {now : Coming} {next : Option Command} (e : now ≡ coming_by piece buffer' c next) where
  pub next-given : {command : Command} → next ≡ Some command → now ≡ command_before command (coming piece buffer' c)
  unfolding coming_by
  next-given g = e ∙ ap (coming_by piece buffer' c) g

  pub next-none : next ≡ None → now ≡ none_coming buffer' c.pending
  unfolding coming_by
  next-none g = e ∙ ap (coming_by piece buffer' c) g

pub fewer-coming : {now : Coming} {command : Command} {later : Coming} → now ≡ command_before command later → length later.commands < length now.commands
fewer-coming {now} {command} {later} e = let l = ap (λ c. length c.commands) e in omega arith

-- a read from its start on
pub read-coming : (s : Sheet) (piece : List ℕ) → answer_read s piece ≡ carry_coming s.store (coming piece s.buffer (cursor_at 0 s.pending))
unfolding answer_read coming carry_coming carry_out brought cutter
read-coming s [] = refl
read-coming s (b ∷ bs) = refl

line_before-is : (buffer : List ℕ) (fed : Fed) (bs : List ℕ)
    → brought (feed_bytes (answered buffer fed) bs) ≡ line_before buffer fed (brought (feed_bytes (cutter_at buffer (pending_after fed)) bs))
unfolding brought
line_before-is buffer fed bs =
    let later : Cutting = feed_bytes (cutter_at buffer (pending_after fed)) bs in
    ap (λ c. brought (feed_bytes c bs)) (ap (λ ks. record { handed = ks; buffer = buffer; pending = pending_after fed }) (sym (append-nil (handed_on buffer fed))))
    ∙ ap brought (bytes-behind (handed_on buffer fed) (cutter_at buffer (pending_after fed)) bs)
    ∙ ap (λ cs. record { commands = cs; buffer = later.buffer; pending = later.pending }) (map-append kept_command (handed_on buffer fed) later.handed)

-- the byte at the cursor is passed
byte-coming : (piece buffer : List ℕ) (passed pending : ℕ) (buffer' : List ℕ) (fed : Fed) → passed < length piece
    → ByteFed buffer pending (get_or piece passed 0) buffer' fed
    → coming piece buffer (cursor_at passed pending) ≡ line_before buffer' fed (coming piece buffer' (cursor_at (passed + 1) (pending_after fed)))
unfolding coming feed_bytes feed_byte
byte-coming [] buffer passed pending buffer' fed h t = absurd (omega arith)
byte-coming (b ∷ bs) buffer passed pending buffer' fed h t =
    let rest : List ℕ = drop (passed + 1) (b ∷ bs) in
    ap (λ l. brought (feed_bytes (cutter_at buffer pending) l))
    (drop-cons (b ∷ bs) passed 0 h ∙ ap (λ k. get_or (b ∷ bs) passed 0 ∷ drop k (b ∷ bs)) (sym (add-one passed)))
    ∙ ap (λ c. brought (feed_bytes c rest)) (sym (ap₂ answered t.leaves t.answers))
    ∙ line_before-is buffer' fed rest

module _ (piece buffer : List ℕ) (passed pending : ℕ) (buffer' : List ℕ) (fed : Fed) (h : passed < length piece)
    (t : ByteFed buffer pending (get_or piece passed 0) buffer' fed) where
  pub byte_more : (p : Pending) → fed ≡ Fed.More p → coming piece buffer (cursor_at passed pending) ≡ coming piece buffer' (cursor_at (passed + 1) p.count)
  unfolding handed_on pending_after
  byte_more p e =
      byte-coming piece buffer passed pending buffer' fed h t
      ∙ ap (λ f. line_before buffer' f (coming piece buffer' (cursor_at (passed + 1) (pending_after f)))) e

  byte-line : (n : ℕ) → fed ≡ Fed.Line n → coming piece buffer (cursor_at passed pending) ≡ coming_by piece buffer' (cursor_at (passed + 1) 0) (fed_command buffer' fed)
  unfolding handed_on pending_after kept_command coming_by fed_command
  byte-line n e =
      byte-coming piece buffer passed pending buffer' fed h t
      ∙ ap (λ f. line_before buffer' f (coming piece buffer' (cursor_at (passed + 1) (pending_after f)))) e
      ∙ ap (λ f. coming_by piece buffer' (cursor_at (passed + 1) 0) (fed_command buffer' f)) (sym e)

  byte-long : fed ≡ Fed.TooLong → coming piece buffer (cursor_at passed pending) ≡ coming_by piece buffer' (cursor_at (passed + 1) 0) (fed_command buffer' fed)
  unfolding handed_on pending_after kept_command coming_by fed_command
  byte-long e =
      byte-coming piece buffer passed pending buffer' fed h t
      ∙ ap (λ f. line_before buffer' f (coming piece buffer' (cursor_at (passed + 1) (pending_after f)))) e
      ∙ ap (λ f. coming_by piece buffer' (cursor_at (passed + 1) 0) (fed_command buffer' f)) (sym e)

  pub byte-ended : ((n : ℕ) × (fed ≡ Fed.Line n)) ⊎ (fed ≡ Fed.TooLong)
      → coming piece buffer (cursor_at passed pending) ≡ coming_by piece buffer' (cursor_at (passed + 1) 0) (fed_command buffer' fed)
  byte-ended (inl (n, e)) = byte-line n e
  byte-ended (inr e) = byte-long e

-- no byte is left
pub bytes-passed : (piece buffer : List ℕ) (passed pending : ℕ) → (length piece ≡ 0 → ⊥) → length piece ≤ passed
    → coming piece buffer (cursor_at passed pending) ≡ none_coming buffer pending
unfolding coming feed_bytes brought
bytes-passed [] buffer passed pending some h = absurd (some refl)
bytes-passed (b ∷ bs) buffer passed pending some h =
    ap (λ l. brought (feed_bytes (cutter_at buffer pending) l)) (drop_of_length-le (b ∷ bs) h)

-- the end of the input
finished-pending : (count : ℕ) → pending_after (finished_answer count) ≡ 0
unfolding pending_after
finished-pending count = go (ℕ_discrete count 0) (dec_le count line_limit)
  where
    go : Dec (count ≡ 0) → Dec (count ≤ line_limit) → pending_after (finished_answer count) ≡ 0
    go (yes e) h = rw (finished-none count e) refl
    go (no f) (yes h) = rw (finished-line count f h) refl
    go (no f) (no h) = rw (finished-long count (omega arith)) refl

end-told : (buffer : List ℕ) (passed : ℕ) (fed : Fed) → pending_after fed ≡ 0
    → record { commands = map kept_command (handed_on buffer fed); buffer = buffer; pending = 0 } ≡ coming_by [] buffer (cursor_at passed 0) (fed_command buffer fed)
unfolding handed_on pending_after kept_command coming_by fed_command coming brought end_cutting finish_cutting finished_answer
end-told buffer passed (Fed.More p) z = refl
end-told buffer passed (Fed.Line n) z = refl
end-told buffer passed Fed.TooLong z = refl

pub end-coming : (piece buffer : List ℕ) (passed pending : ℕ) (fed : Fed) → length piece ≡ 0 → fed ≡ finished_answer pending
    → coming piece buffer (cursor_at passed pending) ≡ coming_by piece buffer (cursor_at passed 0) (fed_command buffer fed)
unfolding coming brought end_cutting finish_cutting
end-coming [] buffer passed pending fed none e =
    ap (λ f. record { commands = map kept_command (handed_on buffer f); buffer = buffer; pending = 0 }) (sym e)
    ∙ end-told buffer passed fed (ap pending_after e ∙ finished-pending pending)
end-coming (b ∷ bs) buffer passed pending fed none e = absurd (omega arith)

-- the next command is carried out, and then the others
pub carry-command : (store : List ℕ) (command : Command) (later : Coming)
    → carry_coming store (command_before command later) ≡ printed_before (perform command store).output (carry_coming (perform command store).store later)
unfolding carry_coming perform_all
carry-command store command later = refl

pub carry-none : (store buffer : List ℕ) (pending : ℕ) → carry_coming store (none_coming buffer pending) ≡ record { sheet = sheet store buffer pending; output = [] }
unfolding carry_coming perform_all
carry-none store buffer pending = refl

-- a byte ends one line at most, and so does the end of the input
handed-one : (buffer : List ℕ) (fed : Fed) → length (handed_on buffer fed) ≤ 1
unfolding handed_on
handed-one buffer (Fed.More p) = omega arith
handed-one buffer (Fed.Line n) = omega arith
handed-one buffer Fed.TooLong = omega arith

handed-few : (c : Cutting) (bs : List ℕ) → length (feed_bytes c bs).handed ≤ length c.handed + length bs
unfolding feed_bytes feed_byte
handed-few c [] = omega arith
handed-few c (b ∷ bs) =
    let later = handed-few (feed_byte c b) bs in
    let one = handed-one (feed_byte c b).buffer (fed_answer c.buffer c.pending b) in
    let more = length-append c.handed (handed_on (feed_byte c b).buffer (fed_answer c.buffer c.pending b)) in
    omega arith

pub coming-few : (piece buffer : List ℕ) (c : Cursor) → length (coming piece buffer c).commands ≤ length piece + 1
unfolding coming brought end_cutting finish_cutting
coming-few [] buffer c =
    let one = handed-one buffer (finished_answer c.pending) in
    let same = length-map (handed_on buffer (finished_answer c.pending)) kept_command in
    omega arith
coming-few (b ∷ bs) buffer c =
    let few = handed-few (cutter_at buffer c.pending) (drop c.passed (b ∷ bs)) in
    let same = length-map (feed_bytes (cutter_at buffer c.pending) (drop c.passed (b ∷ bs))).handed kept_command in
    let left = length-drop c.passed (b ∷ bs) in
    omega arith
