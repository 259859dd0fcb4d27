-- Laws of a read that is replayed. Order: from its start on; a step on; a move; a command; the end; told by the next step; what is left to
-- do. Assumes nothing.
use Rattle.std.specs.Prelude.{◌≡◌, refl, true, false, cond, List, [], ◌++◌, ℕ, suc, ◌-◌, ◌<◌, ◌≤◌, length, take, Option, None, Some}
use Rattle.std.proofs.Math.Path.{ap, sym}
use Rattle.std.proofs.Common.{◌∙◌, subst, append-nil, append_assoc, arith}
use Rattle.sheet.specs.declared.Command.{Command}
use Rattle.sheet.specs.Commands.{largest_number}
use Rattle.session.specs.declared.Cursor.{Cursor}
use Rattle.session.specs.Session.{perform, ledger_words}
use Rattle.session.specs.Reads.{sheet, answer_read}
use Rattle.session.specs.Coming.{Coming, cursor_at, coming, command_before, none_coming, carry_coming}
use Rattle.session.proofs.ComingLaws.{read-coming, fewer-coming, carry-command, carry-none}
use Rattle.replay.specs.declared.ReplayCursor.{ReplayCursor}
use Rattle.replay.specs.Replay.{carried_out, moves_asked, moved_on, makes_move, room_left, replayed, command_bytes, move_bytes, moves_bytes, dump_all, FillsOf}
use Rattle.replay.proofs.ReplayLaws.{move-stays, command-replayed}
use Rattle.replay.specs.Steps.{read_start, finished, finished_by, unwritten, unwritten_by, Shows, left_to_do, GoesOn}
use Rattle.replay.specs.StepsLaws.{replay_at, Onward}

-- from its start on a read leads where the bench's does
pub start-finished : (piece w buffer : List ℕ) (pending : ℕ) → finished piece w buffer (read_start pending) ≡ (answer_read (sheet w buffer pending) piece).sheet
unfolding finished replayed
start-finished piece w buffer pending = sym (ap (λ a. a.sheet) (read-coming (sheet w buffer pending) piece))

pub start-unwritten : (piece w buffer : List ℕ) (pending : ℕ) → unwritten piece w buffer (read_start pending) ≡ dump_all (coming piece buffer (cursor_at 0 pending)).commands w
unfolding unwritten replayed moves_bytes
start-unwritten piece w buffer pending = refl

-- a move of the D that is under way
move-onward : (piece w buffer : List ℕ) (read : Cursor) (moves room : ℕ) → makes_move w room ≡ true
    → Onward piece w buffer (replay_at read (suc moves) room) (move_bytes w room) (moved_on w room) buffer (replay_at read moves (room_left w room))
unfolding finished unwritten replayed moves_bytes
move-onward piece w buffer read moves room m =
    let v : List ℕ = moved_on w room in
    let left : ℕ = room_left w room in
    record {
      leads = ap (λ t. (carry_coming (cond t (replayed moves left v) w) (coming piece buffer read)).sheet) m;
      writes =
          ap (λ t. (move_bytes w room ++ cond t (moves_bytes moves left v) []) ++ dump_all (coming piece buffer read).commands (cond t (replayed moves left v) w)) m
          ∙ append_assoc (move_bytes w room) (moves_bytes moves left v) (dump_all (coming piece buffer read).commands (replayed moves left v));
    }

-- or none, and the D has ended
move-last : (piece w buffer : List ℕ) (read : Cursor) (moves room : ℕ) → makes_move w room ≡ false
    → Onward piece w buffer (replay_at read (suc moves) room) (move_bytes w room) w buffer (replay_at read 0 0)
unfolding finished unwritten replayed moves_bytes
move-last piece w buffer read moves room m =
    let v : List ℕ = moved_on w room in
    let left : ℕ = room_left w room in
    record {
      leads = ap (λ t. (carry_coming (cond t (replayed moves left v) w) (coming piece buffer read)).sheet) m;
      writes =
          ap (λ t. (move_bytes w room ++ cond t (moves_bytes moves left v) []) ++ dump_all (coming piece buffer read).commands (cond t (replayed moves left v) w)) m
          ∙ ap (λ l. l ++ dump_all (coming piece buffer read).commands w) (append-nil (move_bytes w room));
    }

module _ (piece w buffer : List ℕ) (c : ReplayCursor) (some : 0 < c.moves) (v : List ℕ) (e : v ≡ moved_on w c.room) where
  one_more : suc (c.moves - 1) ≡ c.moves
  one_more = omega arith

  pub move-made : (room' : ℕ) → makes_move w c.room ≡ true → room' ≡ room_left w c.room
      → Onward piece w buffer c (move_bytes w c.room) v buffer (replay_at c.read (c.moves - 1) room')
  move-made room' m r =
      rw (e, r)
      (subst (λ k. Onward piece w buffer (replay_at c.read k c.room) (move_bytes w c.room) (moved_on w c.room) buffer (replay_at c.read (c.moves - 1) (room_left w c.room)))
      one_more (move-onward piece w buffer c.read (c.moves - 1) c.room m))

  pub move-ended : makes_move w c.room ≡ false → Onward piece w buffer c (move_bytes w c.room) v buffer (replay_at c.read 0 0)
  move-ended m =
      rw (e ∙ move-stays w c.room m)
      (subst (λ k. Onward piece w buffer (replay_at c.read k c.room) (move_bytes w c.room) w buffer (replay_at c.read 0 0))
      one_more (move-last piece w buffer c.read (c.moves - 1) c.room m))

-- a command, with its moves to come
module _ (piece w buffer : List ℕ) (c : ReplayCursor) (none : c.moves ≡ 0) where
  idle-finished : finished piece w buffer c ≡ (carry_coming w (coming piece buffer c.read)).sheet
  unfolding finished replayed
  idle-finished = ap (λ k. (carry_coming (replayed k c.room w) (coming piece buffer c.read)).sheet) none

  idle-unwritten : unwritten piece w buffer c ≡ dump_all (coming piece buffer c.read).commands w
  unfolding unwritten replayed moves_bytes
  idle-unwritten = ap (λ k. moves_bytes k c.room w ++ dump_all (coming piece buffer c.read).commands (replayed k c.room w)) none

  pub command-made : (v buffer' : List ℕ) (command : Command) (behind : Cursor) (moves : ℕ) → coming piece buffer c.read ≡ command_before command (coming piece buffer' behind)
      → v ≡ carried_out command w → moves ≡ moves_asked command → Onward piece w buffer c (command_bytes command w) v buffer' (replay_at behind moves ledger_words)
  unfolding finished unwritten dump_all
  command-made v buffer' command behind moves e does asks =
      let later : Coming = coming piece buffer' behind in
      let same : (perform command w).store ≡ replayed moves ledger_words v
      = sym (command-replayed command w) ∙ sym (λ i. replayed (asks i) ledger_words (does i)) in
      record {
        leads =
            idle-finished
            ∙ ap (λ r. (carry_coming w r).sheet) e
            ∙ ap (λ a. a.sheet) (carry-command w command later)
            ∙ ap (λ u. (carry_coming u later).sheet) same;
        writes =
            idle-unwritten
            ∙ ap (λ r. dump_all r.commands w) e
            ∙ ap (λ u. command_bytes command w ++ (moves_bytes (moves_asked command) ledger_words (carried_out command w) ++ dump_all later.commands u)) same
            ∙ sym (λ i. command_bytes command w ++ (moves_bytes (asks i) ledger_words (does i) ++ dump_all later.commands (replayed moves ledger_words v)));
      }

  -- nothing is left
  pub read-ended : (buffer' : List ℕ) (c' : ReplayCursor) → coming piece buffer c.read ≡ none_coming buffer' c'.read.pending
      → (finished piece w buffer c ≡ finished_by piece w buffer' c' None)
      × ((list page : List ℕ) → Shows piece w buffer list c w buffer' page c' None × GoesOn piece buffer c buffer' page c' None)
  unfolding dump_all finished_by unwritten_by Shows GoesOn
  read-ended buffer' c' e = (
    idle-finished ∙ ap (λ r. (carry_coming w r).sheet) e ∙ ap (λ a. a.sheet) (carry-none w buffer' c'.read.pending),
    λ list page. (λ is. idle-unwritten ∙ ap (λ r. dump_all r.commands w) e, tt),
  )

-- what a step on tells, where its bytes are the first of the page
module _ {piece w buffer : List ℕ} {c : ReplayCursor} {bytes v buffer' : List ℕ} {c' : ReplayCursor} (o : Onward piece w buffer c bytes v buffer' c') (n : ℕ) where
  pub onward-leads : finished piece w buffer c ≡ finished_by piece v buffer' c' (Some n)
  unfolding finished_by
  onward-leads = o.leads

  pub onward-shows : (list page : List ℕ) → (FillsOf w list → take n page ≡ bytes) → Shows piece w buffer list c v buffer' page c' (Some n)
  unfolding unwritten_by Shows
  onward-shows list page t is = o.writes ∙ ap (λ l. l ++ unwritten piece v buffer' c') (sym (t is))

-- told by the next step
module _ (piece w buffer : List ℕ) (c : ReplayCursor) (v buffer' : List ℕ) (c' : ReplayCursor) (r : Option ℕ) where
  pub done-leads : (n : ℕ) → finished piece w buffer c ≡ finished_by piece v buffer' c' r → r ≡ Some n → finished piece w buffer c ≡ finished piece v buffer' c'
  unfolding finished_by
  done-leads n e d = e ∙ ap (finished_by piece v buffer' c') d

  pub used-leads : finished piece w buffer c ≡ finished_by piece v buffer' c' r → r ≡ None → finished piece w buffer c ≡ sheet v buffer' c'.read.pending
  unfolding finished_by
  used-leads e d = e ∙ ap (finished_by piece v buffer' c') d

pub done_on : (piece buffer : List ℕ) (c : ReplayCursor) (buffer' page : List ℕ) (c' : ReplayCursor) (r : Option ℕ) (n : ℕ) → GoesOn piece buffer c buffer' page c' r
    → r ≡ Some n → (left_to_do piece buffer' c' < left_to_do piece buffer c) × (n ≤ length page)
unfolding GoesOn
done_on piece buffer c buffer' page c' r n g d = subst (GoesOn piece buffer c buffer' page c') d g

-- what is left to do grows less
pub move-fewer : (piece buffer : List ℕ) (c : ReplayCursor) (moves room bytes : ℕ) (page : List ℕ) → moves < c.moves → bytes ≤ length page
    → GoesOn piece buffer c buffer page (replay_at c.read moves room) (Some bytes)
unfolding GoesOn left_to_do
move-fewer piece buffer c moves room bytes page less within = (omega arith, within)

pub command-fewer : (piece buffer : List ℕ) (c : ReplayCursor) (buffer' : List ℕ) (command : Command) (behind : Cursor) (moves room bytes : ℕ) (page : List ℕ)
    → coming piece buffer c.read ≡ command_before command (coming piece buffer' behind) → moves ≤ largest_number → bytes ≤ length page
    → GoesOn piece buffer c buffer' page (replay_at behind moves room) (Some bytes)
unfolding GoesOn left_to_do
command-fewer piece buffer c buffer' command behind moves room bytes page e few within = let l = fewer-coming e in (omega arith, within)
