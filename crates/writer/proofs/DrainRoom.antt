-- Room for what a Drain prints. Order: the words of a part of the ledger; the packets' lines; the Drain's own line. Assumes nothing.
use mathlib.Core.List.{List}
use Prim.Native.Nat.{ℕ, ◌+◌, ◌*◌, ◌^◌, ◌<◌, ◌≤◌}
use native.Mathlib.Decide.{dec_lt}
use native.Mathlib.Omega.{arith}
use lib.ListN.{length, get_or, take, length-take, get_or-eq_default}
use lib.Seq.{length-take-le, get_or-take}
use Rattle.sheet.specs.Output.{packet_lines, packet_room, drain_room, Room, Put}
use Rattle.sheet.proofs.Lengths.{packets-length}
use Rattle.sheet.proofs.Puts.{put-length}

-- what a Drain prints: the first words of the ledger as packets, then its line
take_words : (d : ℕ) (l : List ℕ) → ((i : ℕ) → get_or l i 0 < 2 ^ 64) → (i : ℕ) → get_or (take d l) i 0 < 2 ^ 64
take_words d l words i = go (dec_lt i d)
  where
    go : Dec (i < d) → get_or (take d l) i 0 < 2 ^ 64
    go (yes h) = rw (get_or-take d l i 0 h) (words i)
    go (no h) = let m = length-take d l in rw (get_or-eq_default (take d l) 0 {n = i} (omega arith)) (omega arith)

module _ (out : List ℕ) (at : ℕ) (ledger : List ℕ) (d : ℕ) (words : (i : ℕ) → get_or ledger i 0 < 2 ^ 64) (within : d ≤ length ledger)
    (room : at + (packet_room * length ledger + drain_room) ≤ length out) where
  packets-most : length (packet_lines (take d ledger)) ≤ packet_room * length ledger
  packets-most =
      let l = length-take-le d ledger within in
      let m = packets-length (take d ledger) (take_words d ledger words) in
      omega arith

  pub packets-room : Room out at (packet_lines (take d ledger))
  packets-room = let m = packets-most in omega arith

  pub drain-room : {out' : List ℕ} {next : ℕ} → Put out at (packet_lines (take d ledger)) out' next → next + drain_room ≤ length out'
  drain-room p =
      let m = packets-most in
      let n = p.answers in
      let l = put-length p packets-room in
      omega arith
