-- Laws of Running.antt's facts, for the code. Order: bytes put into a buffer's part; an answer under way; the line that a byte or the end of the input
-- hands on. Assumes nothing.
use Rattle.std.specs.Prelude.{◌≡◌, List, [], ◌++◌, ℕ, ◌+◌, ◌*◌, ◌-◌, ◌<◌, ◌≤◌, length, get_or, take}
use Rattle.std.proofs.Common.{sym, ◌∙◌, subst, append-nil, append_assoc, zero-add, arith, length-append, length-drop, take-append-drop, length-take-le, take_at, drop_at, drop-drop}
use Rattle.std.proofs.Math.Path.{ap}
use Rattle.std.proofs.Math.Decide.{dec_le, dec_lt, ℕ_discrete}
use Rattle.std.proofs.Math.ListN.{drop}
use Rattle.std.proofs.lemmas.List.{drop-append-le}
use Rattle.base.specs.Parts.{span, splice}
use Rattle.base.proofs.Parts.{length-span}
use Rattle.sheet.specs.declared.Fed.{Fed}
use Rattle.sheet.specs.declared.Command.{Command}
use Rattle.sheet.specs.Text.{cr, lf}
use Rattle.sheet.specs.Lines.{line_limit}
use Rattle.sheet.specs.Output.{written, Put}
use Rattle.sheet.proofs.Puts.{put-none, put-behind}
use Rattle.sheet.specs.Cutting.{held_bytes, ended_answer, fed_buffer, fed_answer, finished_answer, ByteFed}
use Rattle.sheet.proofs.Cuts.{ended-empty, ended-over, ended-cr, ended-long, ended-line, fed-end, fed-held, fed-over, finished-none, finished-long, finished-line}
use Rattle.session.specs.Session.{perform, command_room}
use Rattle.session.specs.Reads.{Sheet, sheet, Answered, answer_read, printed_before}
use Rattle.session.specs.Coming.{Coming, cursor_at, coming, command_before, none_coming, carry_coming}
use Rattle.session.proofs.ComingLaws.{fewer-coming, read-coming, carry-command, carry-none, coming-few}
use Rattle.session.specs.Running.{LineWithin, Answering}

-- bytes that were put without making the buffer longer lie within it
pub put-within : {out : List ℕ} {at : ℕ} {bytes out' : List ℕ} {next : ℕ} → Put out at bytes out' next → at ≤ length out → length out' ≡ length out → next ≤ length out'
unfolding written
put-within {out} {at} {bytes} {out'} {next} p room same =
    let e : length out' ≡ length (take at out) + (length bytes + length (drop (at + length bytes) out))
    = ap length p.leaves
    ∙ length-append (take at out) (bytes ++ drop (at + length bytes) out)
    ∙ ap (λ (n : ℕ). length (take at out) + n) (length-append bytes (drop (at + length bytes) out)) in
    let t : length (take at out) ≡ at = length-take-le at out room in
    let d : length (drop (at + length bytes) out) ≡ length out - (at + length bytes) = length-drop (at + length bytes) out in
    let a = p.answers in
    omega arith

-- bytes at the start of a part are bytes of the whole at the part's place
put-in-part : (out : List ℕ) (at end : ℕ) (bytes part : List ℕ) (n : ℕ) → at ≤ end → end ≤ length out → length bytes ≤ end - at → Put (span out at end) 0 bytes part n
    → Put out at bytes (splice out at end part) (at + n)
unfolding written
put-in-part out at end bytes part n h k fits p =
    let size : ℕ = end - at in
    let back : List ℕ = drop at out in
    let l : length (take size back) ≡ size = length-take-le size back (rw (length-drop at out) (omega arith)) in
    let z : 0 + length bytes ≡ length bytes = zero-add (length bytes) in
    let behind : drop (length bytes) (take size back) ++ drop size back ≡ drop (at + length bytes) out
    = sym (drop-append-le (length bytes) (take size back) (drop size back) (rw l fits))
    ∙ ap (drop (length bytes)) (take-append-drop size back)
    ∙ drop-drop (length bytes) at out in
    let front : part ≡ bytes ++ drop (length bytes) (take size back) = p.leaves ∙ ap (λ k. bytes ++ drop k (take size back)) z in
    record {
      leaves =
          ap (λ r. take at out ++ (r ++ drop size back)) front
          ∙ ap (λ r. take at out ++ r) (append_assoc bytes (drop (length bytes) (take size back)) (drop size back) ∙ ap (λ r. bytes ++ r) behind);
      answers = ap (λ k. at + k) (p.answers ∙ z);
    }

-- bytes at the start are all that stands before the place behind them, and the rest is as it was
module _ {out bytes out' : List ℕ} {at : ℕ} (p : Put out 0 bytes out' at) where
  joined : out' ≡ bytes ++ drop at out
  unfolding written
  joined = p.leaves ∙ ap (λ k. bytes ++ drop k out) (sym p.answers)

  counted : length bytes ≡ at
  counted = sym (p.answers ∙ zero-add (length bytes))

  pub put-printed : take at out' ≡ bytes
  put-printed = ap (take at) joined ∙ take_at bytes (drop at out) at counted

  pub put_rest : drop at out' ≡ drop at out
  put_rest = ap (drop at) joined ∙ drop_at bytes (drop at out) at counted

-- an answer is begun with nothing printed
pub answering-none : (s : Sheet) (piece out : List ℕ) → (length piece + 1) * command_room ≤ length out
    → Answering (answer_read s piece) out s.store (coming piece s.buffer (cursor_at 0 s.pending)) out 0
answering-none s piece out room =
    let few = coming-few piece s.buffer (cursor_at 0 s.pending) in
    record { printed = []; puts = put-none out 0 (omega arith); whole = read-coming s piece; room = omega arith }

-- what the next command prints goes behind what was printed, into a part that has room for any command
module _ {answer : Answered} {out store : List ℕ} {now : Coming} {out₁ : List ℕ} {at : ℕ} (a : Answering answer out store now out₁ at) (same : length out₁ ≡ length out) where
  pub answering-room : {command : Command} {later : Coming} → now ≡ command_before command later → at + command_room ≤ length out₁
  answering-room {command} {later} e =
      let r = a.room in
      let l = fewer-coming e in
      omega arith

  pub answering-more : {command : Command} {later : Coming} (store' part : List ℕ) (n : ℕ) → now ≡ command_before command later
      → length part ≡ at + command_room - at → store' ≡ (perform command store).store → Put (span out₁ at (at + command_room)) 0 (perform command store).output part n
      → Answering answer out store' later (splice out₁ at (at + command_room) part) (at + n)
  answering-more {command} {later} store' part n e size does prints =
      let bytes : List ℕ = (perform command store).output in
      let room = answering-room e in
      let r = a.room in
      let few = fewer-coming e in
      let l : length (span out₁ at (at + command_room)) ≡ at + command_room - at = length-span out₁ at (at + command_room) (omega arith) room in
      let w : n ≤ length part = put-within prints (omega arith) (size ∙ sym l) in
      let fits : length bytes ≡ n = counted prints in
      let before : length a.printed ≡ at = counted a.puts in
      record {
        printed = a.printed ++ bytes;
        puts = put-behind a.puts (put-in-part out₁ at (at + command_room) bytes part n (omega arith) room (omega arith) prints) (omega arith);
        whole =
            a.whole
            ∙ ap (λ c. printed_before a.printed (carry_coming store c)) e
            ∙ ap (printed_before a.printed) (carry-command store command later)
            ∙ ap (λ o. record { sheet = (carry_coming (perform command store).store later).sheet; output = o })
            (sym (append_assoc a.printed bytes (carry_coming (perform command store).store later).output))
            ∙ ap (λ w. printed_before (a.printed ++ bytes) (carry_coming w later)) (sym does);
        room = omega arith;
      }

  -- and where nothing comes any more the answer is there
  pub answering-all : {buffer : List ℕ} {pending : ℕ} → now ≡ none_coming buffer pending
      → (sheet store buffer pending ≡ answer.sheet) × ((take at out₁ ≡ answer.output) × ((drop at out₁ ≡ drop at out) × (at ≤ length out)))
  answering-all {buffer} {pending} e =
      let f : answer ≡ record { sheet = sheet store buffer pending; output = a.printed }
      = a.whole
      ∙ ap (λ c. printed_before a.printed (carry_coming store c)) e
      ∙ ap (printed_before a.printed) (carry-none store buffer pending)
      ∙ ap (λ o. record { sheet = sheet store buffer pending; output = o }) (append-nil a.printed) in
      let r = a.room in
      (sym (ap (λ b. b.sheet) f), (put-printed a.puts ∙ sym (ap (λ b. b.output) f), (put_rest a.puts, omega arith)))

-- an LF, a byte, the end of the input
ended-within : (buffer : List ℕ) (count : ℕ) → held_bytes ≤ length buffer → LineWithin (ended_answer buffer count) buffer
unfolding LineWithin
ended-within buffer count room = go (ℕ_discrete count 0) (dec_le count held_bytes) (ℕ_discrete (get_or buffer (count - 1) 0) cr) (dec_le count line_limit)
  where
    go : Dec (count ≡ 0) → Dec (count ≤ held_bytes) → Dec (get_or buffer (count - 1) 0 ≡ cr) → Dec (count ≤ line_limit) → LineWithin (ended_answer buffer count) buffer
    go (yes e) h q l = rw (ended-empty buffer count e) (omega arith)
    go (no f) (no h) q l = rw (ended-over buffer count (omega arith)) tt
    go (no f) (yes h) (yes q) l = rw (ended-cr buffer count f h q) (omega arith)
    go (no f) (yes h) (no q) (yes l) = rw (ended-line buffer count f h q l) (omega arith)
    go (no f) (yes h) (no q) (no l) = rw (ended-long buffer count f h q (omega arith)) tt

fed-within : (buffer : List ℕ) (count b : ℕ) → held_bytes ≤ length buffer → LineWithin (fed_answer buffer count b) (fed_buffer buffer count b)
unfolding LineWithin
fed-within buffer count b room = go (ℕ_discrete b lf) (dec_lt count held_bytes)
  where
    go : Dec (b ≡ lf) → Dec (count < held_bytes) → LineWithin (fed_answer buffer count b) (fed_buffer buffer count b)
    go (yes e) h = rw ((fed-end buffer count b e).0, (fed-end buffer count b e).1) (ended-within buffer count room)
    go (no f) (yes h) = rw (fed-held buffer count b f h).0 tt
    go (no f) (no h) = rw (fed-over buffer count b f (omega arith)).0 tt

pub took-within : {buffer : List ℕ} {count b : ℕ} {buffer' : List ℕ} {fed : Fed} → ByteFed buffer count b buffer' fed → held_bytes ≤ length buffer → LineWithin fed buffer'
took-within {buffer} {count} {b} t room = rw (t.leaves, t.answers) (fed-within buffer count b room)

pub finished-within : (buffer : List ℕ) (count : ℕ) → held_bytes ≤ length buffer → LineWithin (finished_answer count) buffer
unfolding LineWithin
finished-within buffer count room = go (ℕ_discrete count 0) (dec_le count line_limit)
  where
    go : Dec (count ≡ 0) → Dec (count ≤ line_limit) → LineWithin (finished_answer count) buffer
    go (yes e) h = rw (finished-none count e) tt
    go (no f) (yes h) = rw (finished-line count f h) (omega arith)
    go (no f) (no h) = rw (finished-long count (omega arith)) tt

-- where a line was handed on
pub line-within : (fed : Fed) (n : ℕ) (buffer : List ℕ) → fed ≡ Fed.Line n → LineWithin fed buffer → n ≤ length buffer
unfolding LineWithin
line-within fed n buffer e h = subst (λ f. LineWithin f buffer) e h
